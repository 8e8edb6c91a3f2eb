-- The value of an expression whose places are replaced.
use Rattle.std.specs.Prelude.{ℕ, ℤ, pos, ◌+ℤ◌, ◌-ℤ◌, ◌*ℤ◌, Bool, true, false, not, List, ◌∷◌, length, Option, Some, None, Result, Ok, Err}
use Rattle.std.proofs.Common.{◌≡◌, refl, sym, ap, ◌∙◌, cond}
use Rattle.qbs_base.specs.declared.span.Span.{Span}
use Rattle.qbs_base.specs.declared.scalar.Scalar.{Scalar}
use Rattle.qbs_base.specs.declared.scalar.Scalar.TheVariants as scalars
use Rattle.qbs_base.specs.declared.scalar.Row.{Row}
use Rattle.qbs_base.specs.declared.scalar.Value.{Value}
use Rattle.qbs_base.specs.declared.scalar.Value.TheVariants.{One, Whole, Many}
use Rattle.qbs_base.specs.Named.{at_name}
use Rattle.qbs_base.specs.Values.{fits_long}
use Rattle.sql_ast.specs.Grouped.{firsts}
use Rattle.java_ast.specs.declared.tree.Op.{Op}
use Rattle.java_ast.specs.declared.tree.Op.TheVariants as ops
use Rattle.java_ast.specs.Tree as plain
use Rattle.java_ast.specs.Tree.{Expression, Expressions}
use Rattle.java_ast.specs.Placed.{placed, placed_all}
use Rattle.java_mean.specs.declared.ending.RunFault.{RunFault}
use Rattle.java_mean.specs.declared.ending.RunFault.TheVariants.{Overflow}
use Rattle.java_mean.specs.declared.ending.Ending.{Ending}
use Rattle.java_mean.specs.declared.ending.Ending.TheVariants.{Faulted}
use Rattle.java_mean.specs.Endings.{◌>>=◌, found}
use Rattle.java_mean.specs.Expression.{as_scalar, as_row, as_rows, as_long, as_bool, truth, number, cell, alone, element, same_member, is_among, nth, in_range, settled, or_else, same_of, same_text, applied, answered, value_of, scalars_of}
use Rattle.java_mean.specs.PlacedValues.{result_at}
use Rattle.java_mean.specs.Queries.{Answered}
use Rattle.java_mean.specs.Queries as answers
use Rattle.java_mean.specs.Store.{Store, Variable}
use Rattle.java_mean.specs.World.{World}

-- ---- one step behind another

then_at : {A B : Type 0} (to : Span) (r r' : Result A Ending) (f f' : A → Result B Ending) → r' ≡ result_at to r → ((x : A) → f' x ≡ result_at to (f x)) → (r' >>= f') ≡ result_at to (r >>= f)
then_at to (Ok x) r' f f' e h = ap (λ r. r >>= f') e ∙ h x
then_at to (Err x) r' f f' e h = ap (λ r. r >>= f') e

-- ---- steps that read no place

found_at : {A : Type 0} (to : Span) (o : Option A) → found o ≡ result_at to (found o)
found_at to (Some x) = refl
found_at to None = refl

scalar_at : (to : Span) (v : Value) → as_scalar v ≡ result_at to (as_scalar v)
scalar_at to (One x) = refl
scalar_at to (Whole row) = refl
scalar_at to (Many rows) = refl

row_at : (to : Span) (v : Value) → as_row v ≡ result_at to (as_row v)
row_at to (One x) = refl
row_at to (Whole row) = refl
row_at to (Many rows) = refl

rows_at : (to : Span) (v : Value) → as_rows v ≡ result_at to (as_rows v)
rows_at to (One x) = refl
rows_at to (Whole row) = refl
rows_at to (Many rows) = refl

long_at : (to : Span) (x : Scalar) → as_long x ≡ result_at to (as_long x)
long_at to (scalars.Long n) = refl
long_at to (scalars.Bool b) = refl
long_at to (scalars.Text t) = refl

bool_at : (to : Span) (x : Scalar) → as_bool x ≡ result_at to (as_bool x)
bool_at to (scalars.Long n) = refl
bool_at to (scalars.Bool b) = refl
bool_at to (scalars.Text t) = refl

same_at : (to : Span) (x y : Scalar) → same_of x y ≡ result_at to (same_of x y)
same_at to (scalars.Long x) (scalars.Long y) = refl
same_at to (scalars.Bool x) (scalars.Bool y) = refl
same_at to _ _ = refl

text_at : (to : Span) (x y : Scalar) → same_text x y ≡ result_at to (same_text x y)
text_at to (scalars.Text x) (scalars.Text y) = refl
text_at to _ _ = refl

-- ---- steps that fault at a place

fault_at : (to at : Span) (v : Value) (f : RunFault) (b : Bool) → cond {A = Result Value Ending} b (Ok v) (Err (Faulted f to)) ≡ result_at to (cond {A = Result Value Ending} b (Ok v) (Err (Faulted f at)))
fault_at to at v f true = refl
fault_at to at v f false = refl

number_at : (to at : Span) (n : ℤ) → number to n ≡ result_at to (number at n)
number_at to at n = fault_at to at (One (scalars.Long n)) Overflow (fits_long n)

range_at : (to at : Span) (o : Option Row) → in_range to o ≡ result_at to (in_range at o)
range_at to at (Some row) = refl
range_at to at None = refl

answered_at : (to at : Span) (o : Option Answered) → answered to o ≡ result_at to (answered at o)
answered_at to at (Some (answers.Rows rows)) = refl
answered_at to at (Some (answers.One x)) = refl
answered_at to at (Some answers.TooLarge) = refl
answered_at to at None = refl

applied_at : (to at : Span) (op : Op) (x y : Scalar) → applied op to x y ≡ result_at to (applied op at x y)
applied_at to at ops.Eq x y = then_at to (same_of x y) (same_of x y) (λ b. Ok (truth b)) (λ b. Ok (truth b)) (same_at to x y) (λ b. refl)
applied_at to at ops.Ne x y = then_at to (same_of x y) (same_of x y) (λ b. Ok (truth (not b))) (λ b. Ok (truth (not b))) (same_at to x y) (λ b. refl)
applied_at to at ops.Add (scalars.Long x) (scalars.Long y) = number_at to at (x +ℤ y)
applied_at to at ops.Sub (scalars.Long x) (scalars.Long y) = number_at to at (x -ℤ y)
applied_at to at ops.Mul (scalars.Long x) (scalars.Long y) = number_at to at (x *ℤ y)
applied_at to at _ (scalars.Long x) (scalars.Long y) = refl
applied_at to at _ (scalars.Bool x) (scalars.Bool y) = refl
applied_at to at _ _ _ = refl

or_at : (to : Span) (o : Option Value) (r r' : Result Value Ending) → r' ≡ result_at to r → or_else o r' ≡ result_at to (or_else o r)
or_at to (Some v) r r' e = refl
or_at to None r r' e = e

-- ---- what is done with the values of operands

abbrev to_field : World → List ℕ → Value → Result Value Ending
to_field w name v = as_row v >>= λ row. found (cell w.schema row name) >>= λ x. Ok (One x)

field_at : (to : Span) (w : World) (name : List ℕ) (v : Value) → to_field w name v ≡ result_at to (to_field w name v)
field_at to w name v =
    let f : Row → Result Value Ending = λ row. found (cell w.schema row name) >>= λ x. Ok (One x) in
    then_at to (as_row v) (as_row v) f f (row_at to v) (λ row. then_at to (found (cell w.schema row name)) (found (cell w.schema row name)) (λ x. Ok (One x)) (λ x. Ok (One x)) (found_at to (cell w.schema row name)) (λ x. refl))

abbrev to_second : Op → Span → Scalar → Value → Result Value Ending
to_second op at x u = as_scalar u >>= λ y. applied op at x y

abbrev to_first : Op → Span → Result Value Ending → Scalar → Result Value Ending
to_first op at r x = or_else (settled op x) (r >>= to_second op at x)

abbrev to_operator : Op → Span → Result Value Ending → Value → Result Value Ending
to_operator op at r v = as_scalar v >>= to_first op at r

second_at : (to at : Span) (op : Op) (x : Scalar) (u : Value) → to_second op to x u ≡ result_at to (to_second op at x u)
second_at to at op x u = then_at to (as_scalar u) (as_scalar u) (λ y. applied op at x y) (λ y. applied op to x y) (scalar_at to u) (applied_at to at op x)

operator_at : (to at : Span) (op : Op) (r r' : Result Value Ending) (v : Value) → r' ≡ result_at to r → to_operator op to r' v ≡ result_at to (to_operator op at r v)
operator_at to at op r r' v e =
    then_at to (as_scalar v) (as_scalar v) (to_first op at r) (to_first op to r') (scalar_at to v)
    (λ x. or_at to (settled op x) (r >>= to_second op at x) (r' >>= to_second op to x) (then_at to r r' (to_second op at x) (to_second op to x) e (second_at to at op x)))

abbrev to_not : Value → Result Value Ending
to_not v = as_scalar v >>= λ x. as_bool x >>= λ b. Ok (truth (not b))

not_at : (to : Span) (v : Value) → to_not v ≡ result_at to (to_not v)
not_at to v =
    let f : Scalar → Result Value Ending = λ x. as_bool x >>= λ b. Ok (truth (not b)) in
    then_at to (as_scalar v) (as_scalar v) f f (scalar_at to v) (λ x. then_at to (as_bool x) (as_bool x) (λ b. Ok (truth (not b))) (λ b. Ok (truth (not b))) (bool_at to x) (λ b. refl))

abbrev to_other_text : Scalar → Value → Result Value Ending
to_other_text x u = as_scalar u >>= λ y. same_text x y >>= λ b. Ok (truth b)

abbrev to_text : Result Value Ending → Value → Result Value Ending
to_text r v = as_scalar v >>= λ x. r >>= to_other_text x

other_text_at : (to : Span) (x : Scalar) (u : Value) → to_other_text x u ≡ result_at to (to_other_text x u)
other_text_at to x u =
    let f : Scalar → Result Value Ending = λ y. same_text x y >>= λ b. Ok (truth b) in
    then_at to (as_scalar u) (as_scalar u) f f (scalar_at to u) (λ y. then_at to (same_text x y) (same_text x y) (λ b. Ok (truth b)) (λ b. Ok (truth b)) (text_at to x y) (λ b. refl))

equals_at : (to : Span) (r r' : Result Value Ending) (v : Value) → r' ≡ result_at to r → to_text r' v ≡ result_at to (to_text r v)
equals_at to r r' v e = then_at to (as_scalar v) (as_scalar v) (λ x. r >>= to_other_text x) (λ x. r' >>= to_other_text x) (scalar_at to v) (λ x. then_at to r r' (to_other_text x) (to_other_text x) e (other_text_at to x))

abbrev to_size : Span → Variable → Result Value Ending
to_size at held = as_rows held.value >>= λ rows. number at (pos (length rows))

size_at : (to at : Span) (held : Variable) → to_size to held ≡ result_at to (to_size at held)
size_at to at held = then_at to (as_rows held.value) (as_rows held.value) (λ rows. number at (pos (length rows))) (λ rows. number to (pos (length rows))) (rows_at to held.value) (λ rows. number_at to at (pos (length rows)))

abbrev to_place : Span → List Row → Value → Result Value Ending
to_place at rows v = as_scalar v >>= λ y. as_long y >>= λ n. in_range at (nth rows n) >>= λ row. Ok (element row)

place_at : (to at : Span) (rows : List Row) (v : Value) → to_place to rows v ≡ result_at to (to_place at rows v)
place_at to at rows v =
    let f : Span → ℤ → Result Value Ending = λ at n. in_range at (nth rows n) >>= λ row. Ok (element row) in
    then_at to (as_scalar v) (as_scalar v) (λ y. as_long y >>= f at) (λ y. as_long y >>= f to) (scalar_at to v)
    (λ y. then_at to (as_long y) (as_long y) (f at) (f to) (long_at to y)
    (λ n. then_at to (in_range at (nth rows n)) (in_range to (nth rows n)) (λ row. Ok (element row)) (λ row. Ok (element row)) (range_at to at (nth rows n)) (λ row. refl)))

abbrev to_get : Span → Result Value Ending → Variable → Result Value Ending
to_get at r held = as_rows held.value >>= λ rows. r >>= to_place at rows

get_at : (to at : Span) (r r' : Result Value Ending) (held : Variable) → r' ≡ result_at to r → to_get to r' held ≡ result_at to (to_get at r held)
get_at to at r r' held e = then_at to (as_rows held.value) (as_rows held.value) (λ rows. r >>= to_place at rows) (λ rows. r' >>= to_place to rows) (rows_at to held.value) (λ rows. then_at to r r' (to_place at rows) (to_place to rows) e (place_at to at rows))

abbrev to_member : List Row → Value → Result Value Ending
to_member rows v = as_scalar v >>= λ y. Ok (truth (is_among rows (alone y)))

member_at : (to : Span) (rows : List Row) (v : Value) → to_member rows v ≡ result_at to (to_member rows v)
member_at to rows v = then_at to (as_scalar v) (as_scalar v) (λ y. Ok (truth (is_among rows (alone y)))) (λ y. Ok (truth (is_among rows (alone y)))) (scalar_at to v) (λ y. refl)

abbrev to_contains : Result Value Ending → Variable → Result Value Ending
to_contains r held = as_rows held.value >>= λ rows. r >>= to_member rows

contains_at : (to : Span) (r r' : Result Value Ending) (held : Variable) → r' ≡ result_at to r → to_contains r' held ≡ result_at to (to_contains r held)
contains_at to r r' held e = then_at to (as_rows held.value) (as_rows held.value) (λ rows. r >>= to_member rows) (λ rows. r' >>= to_member rows) (rows_at to held.value) (λ rows. then_at to r r' (to_member rows) (to_member rows) e (member_at to rows))

abbrev to_set : Value → Result Value Ending
to_set v = as_rows v >>= λ rows. Ok (Many (firsts same_member rows))

set_at : (to : Span) (v : Value) → to_set v ≡ result_at to (to_set v)
set_at to v = then_at to (as_rows v) (as_rows v) (λ rows. Ok (Many (firsts same_member rows))) (λ rows. Ok (Many (firsts same_member rows))) (rows_at to v) (λ rows. refl)

asked_at : (to at : Span) (w : World) (text : List ℕ) (r r' : Result (List Scalar) Ending) → r' ≡ result_at to r → (r' >>= λ xs. answered to (w.ask text xs)) ≡ result_at to (r >>= λ xs. answered at (w.ask text xs))
asked_at to at w text r r' e = then_at to r r' (λ xs. answered at (w.ask text xs)) (λ xs. answered to (w.ask text xs)) e (λ xs. answered_at to at (w.ask text xs))

abbrev to_more : Result (List Scalar) Ending → Value → Result (List Scalar) Ending
to_more r v = as_scalar v >>= λ x. r >>= λ xs. Ok (x ∷ xs)

more_at : (to : Span) (r r' : Result (List Scalar) Ending) (v : Value) → r' ≡ result_at to r → to_more r' v ≡ result_at to (to_more r v)
more_at to r r' v e = then_at to (as_scalar v) (as_scalar v) (λ x. r >>= λ xs. Ok (x ∷ xs)) (λ x. r' >>= λ xs. Ok (x ∷ xs)) (scalar_at to v) (λ x. then_at to r r' (λ xs. Ok (x ∷ xs)) (λ xs. Ok (x ∷ xs)) e (λ xs. refl))

-- ---- expressions

mutual
  pub value_at : (to : Span) (e : Expression) (w : World) (s : Store) → value_of (placed to e) w s ≡ result_at to (value_of e w s)
  value_at to (plain.Lit at x) w s = refl
  value_at to (plain.Var at x) w s = then_at to (found (at_name s x)) (found (at_name s x)) (λ (held : Variable). Ok held.value) (λ (held : Variable). Ok held.value) (found_at to (at_name s x)) (λ held. refl)
  value_at to (plain.Field at e name) w s = then_at to (value_of e w s) (value_of (placed to e) w s) (to_field w name) (to_field w name) (value_at to e w s) (field_at to w name)
  value_at to (plain.Binary at op a b) w s = then_at to (value_of a w s) (value_of (placed to a) w s) (to_operator op at (value_of b w s)) (to_operator op to (value_of (placed to b) w s)) (value_at to a w s) (λ v. operator_at to at op (value_of b w s) (value_of (placed to b) w s) v (value_at to b w s))
  value_at to (plain.Not at e) w s = then_at to (value_of e w s) (value_of (placed to e) w s) to_not to_not (value_at to e w s) (not_at to)
  value_at to (plain.Equals at a b) w s = then_at to (value_of a w s) (value_of (placed to a) w s) (to_text (value_of b w s)) (to_text (value_of (placed to b) w s)) (value_at to a w s) (λ v. equals_at to (value_of b w s) (value_of (placed to b) w s) v (value_at to b w s))
  value_at to (plain.Size at x) w s = then_at to (found (at_name s x)) (found (at_name s x)) (to_size at) (to_size to) (found_at to (at_name s x)) (size_at to at)
  value_at to (plain.Get at x e) w s = then_at to (found (at_name s x)) (found (at_name s x)) (to_get at (value_of e w s)) (to_get to (value_of (placed to e) w s)) (found_at to (at_name s x)) (λ held. get_at to at (value_of e w s) (value_of (placed to e) w s) held (value_at to e w s))
  value_at to (plain.Contains at x e) w s = then_at to (found (at_name s x)) (found (at_name s x)) (to_contains (value_of e w s)) (to_contains (value_of (placed to e) w s)) (found_at to (at_name s x)) (λ held. contains_at to (value_of e w s) (value_of (placed to e) w s) held (value_at to e w s))
  value_at to (plain.Fetch at t) w s = then_at to (found (at_name w.db t)) (found (at_name w.db t)) (λ (rows : List Row). Ok (Many rows)) (λ (rows : List Row). Ok (Many rows)) (found_at to (at_name w.db t)) (λ rows. refl)
  value_at to (plain.Query at ty text es) w s = asked_at to at w text (scalars_of es w s) (scalars_of (placed_all to es) w s) (scalars_at to es w s)
  value_at to (plain.QueryLong at text es) w s = asked_at to at w text (scalars_of es w s) (scalars_of (placed_all to es) w s) (scalars_at to es w s)
  value_at to (plain.QueryBoolean at text es) w s = asked_at to at w text (scalars_of es w s) (scalars_of (placed_all to es) w s) (scalars_at to es w s)
  value_at to (plain.NewList at) w s = refl
  value_at to (plain.NewSet at) w s = refl
  value_at to (plain.NewSetOf at e) w s = then_at to (value_of e w s) (value_of (placed to e) w s) to_set to_set (value_at to e w s) (set_at to)

  pub scalars_at : (to : Span) (es : Expressions) (w : World) (s : Store) → scalars_of (placed_all to es) w s ≡ result_at to (scalars_of es w s)
  scalars_at to plain.NoMore w s = refl
  scalars_at to (plain.And e es) w s = then_at to (value_of e w s) (value_of (placed to e) w s) (to_more (scalars_of es w s)) (to_more (scalars_of (placed_all to es) w s)) (value_at to e w s) (λ v. more_at to (scalars_of es w s) (scalars_of (placed_all to es) w s) v (scalars_at to es w s))

-- ---- both directions

ok_back : {A : Type 0} (to : Span) (r : Result A Ending) (x : A) → result_at to r ≡ Ok x → r ≡ Ok x
ok_back to (Ok y) x e = e
ok_back to (Err y) x e = absurd cc

pub value_kept : (to : Span) (e : Expression) (w : World) (s : Store) (v : Value) → value_of e w s ≡ Ok v → value_of (placed to e) w s ≡ Ok v
value_kept to e w s v h = value_at to e w s ∙ ap (result_at to) h

pub value_back : (to : Span) (e : Expression) (w : World) (s : Store) (v : Value) → value_of (placed to e) w s ≡ Ok v → value_of e w s ≡ Ok v
value_back to e w s v h = ok_back to (value_of e w s) v (sym (value_at to e w s) ∙ h)

pub scalars_kept : (to : Span) (es : Expressions) (w : World) (s : Store) (xs : List Scalar) → scalars_of es w s ≡ Ok xs → scalars_of (placed_all to es) w s ≡ Ok xs
scalars_kept to es w s xs h = scalars_at to es w s ∙ ap (result_at to) h

pub scalars_back : (to : Span) (es : Expressions) (w : World) (s : Store) (xs : List Scalar) → scalars_of (placed_all to es) w s ≡ Ok xs → scalars_of es w s ≡ Ok xs
scalars_back to es w s xs h = ok_back to (scalars_of es w s) xs (sym (scalars_at to es w s) ∙ h)

pub ruleset laws = (value_at, value_kept, value_back, scalars_at, scalars_kept, scalars_back)
