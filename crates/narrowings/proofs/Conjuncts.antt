-- What holds of the parts of a condition, and of the condition of those that are taken.
use Rattle.std.proofs.Common.{◌≡◌, ℕ, ℤ, Bool, true, false, cond, List, [], ◌∷◌, ◌++◌, length, nat_lt, Option, Some, None, Result, Ok, Err, refl, sym, ap, ◌∙◌, subst}
use Rattle.std.specs.List.{AllByRecursion}
use Rattle.qbs_base.specs.declared.columns.Column.{Column}
use Rattle.qbs_base.specs.declared.scalar.Scalar.{Scalar}
use Rattle.qbs_base.specs.declared.scalar.Scalar.TheVariants as scalars
use Rattle.qbs_base.specs.declared.scalar.Value.{Value}
use Rattle.qbs_base.specs.declared.scalar.Value.TheVariants.{One, Whole, Many}
use Rattle.qbs_base.specs.declared.span.Span.{Span}
use Rattle.sql_ast.specs.Tree as sql
use Rattle.sql_ast.specs.Tree.{Condition}
use Rattle.java_ast.specs.declared.tree.Op.TheVariants as ops
use Rattle.java_ast.specs.Names.{Names}
use Rattle.java_ast.specs.Tree as tree
use Rattle.java_ast.specs.Tree.{Expression}
use Rattle.java_mean.specs.declared.ending.Ending.{Ending}
use Rattle.java_mean.specs.Endings.{◌>>=◌}
use Rattle.java_mean.specs.Expression.{value_of, as_scalar, as_bool, truth, settled, or_else, applied}
use Rattle.java_mean.specs.Statement.{test_of}
use Rattle.java_mean.specs.Store.{Store}
use Rattle.java_mean.specs.Types.{Types}
use Rattle.java_mean.specs.Typing.{Frame, and_takes, HasType, binary, bool}
use Rattle.java_mean.specs.World.{World}
use Rattle.spreads.specs.Narrowed.{parts_of, is_plain, Arguments, with_part, is_taken, taken, both_there, condition_of, conditions_of, taken_condition}
use Rattle.spreads.proofs.Truth.{bind_ok}
use Rattle.narrowings.proofs.Parts.{both_so, some_is}

pub all_joined : {A : Type 0} (P : A → Type 0) (xs ys : List A) → AllByRecursion P xs → AllByRecursion P ys → AllByRecursion P (xs ++ ys)
all_joined P [] ys h k = k
all_joined P (x ∷ xs) ys h k = (h.0, all_joined P xs ys h.1 k)

pub all_mapped : {A : Type 0} (P Q : A → Type 0) → ((x : A) → P x → Q x) → (xs : List A) → AllByRecursion P xs → AllByRecursion Q xs
all_mapped P Q f [] h = tt
all_mapped P Q f (x ∷ xs) h = (f x h.0, all_mapped P Q f xs h.1)

pub ok_is : {A : Type 0} (x y : A) → (let r : Result A Ending = Ok x in r) ≡ Ok y → x ≡ y
ok_is {A} x y e = ap (λ (r : Result A Ending). elim r as (λ _. A) [ Ok z ↦ z | Err z ↦ x ]) e

pub one_is : (v : Value) (x : Scalar) → as_scalar v ≡ Ok x → v ≡ One x
one_is (One y) x e = ap One (ok_is y x e)
one_is (Whole row) x e = absurd cc
one_is (Many rows) x e = absurd cc

-- ---- Typings

and_typed : (c : Frame) (g : Types) (at : Span) (a b : Expression) → HasType c g (tree.Binary at ops.And a b) bool → HasType c g a bool × HasType c g b bool
and_typed c g at a b (binary _ _ _ _ _ _ and_takes h i) = (h, i)

pub parts_typed : (c : Frame) (g : Types) (e : Expression) → HasType c g e bool → AllByRecursion (λ (z : Expression). HasType c g z bool) (parts_of e)
parts_typed c g (tree.Binary at ops.And a b) h =
    let r = and_typed c g at a b h in
    all_joined (λ (z : Expression). HasType c g z bool) (parts_of a) (parts_of b) (parts_typed c g a r.0) (parts_typed c g b r.1)
parts_typed c g e h = (h, tt)

-- ---- Truth

module _ (w : World) (s : Store) where
  abbrev pub IsTrueHere : Expression → Type 0
  IsTrueHere e = value_of e w s ≡ Ok (truth true)

  true_second : (at : Span) (z : Scalar) → applied ops.And at (scalars.Bool true) z ≡ Ok (truth true) → z ≡ scalars.Bool true
  true_second at (scalars.Bool true) h = refl
  true_second at (scalars.Bool false) h = absurd cc
  true_second at (scalars.Long i) h = absurd cc
  true_second at (scalars.Text t) h = absurd cc

  no_long : (at : Span) (i : ℤ) (z : Scalar) → applied ops.And at (scalars.Long i) z ≡ Ok (truth true) → ⊥
  no_long at i (scalars.Bool r) h = absurd cc
  no_long at i (scalars.Long j) h = absurd cc
  no_long at i (scalars.Text t) h = absurd cc

  no_text : (at : Span) (t : List ℕ) (z : Scalar) → applied ops.And at (scalars.Text t) z ≡ Ok (truth true) → ⊥
  no_text at t (scalars.Bool r) h = absurd cc
  no_text at t (scalars.Long j) h = absurd cc
  no_text at t (scalars.Text u) h = absurd cc

  -- the value of the second operand, where it is read
  record Second (at : Span) (y : Scalar) (b : Expression) : Type 0 where
    scalar : Scalar
    value : value_of b w s ≡ Ok (One scalar)
    is : applied ops.And at y scalar ≡ Ok (truth true)

  second : (at : Span) (y : Scalar) (b : Expression) → (value_of b w s >>= λ u. as_scalar u >>= λ z. applied ops.And at y z) ≡ Ok (truth true) → Second at y b
  second at y b h =
      let p = bind_ok (value_of b w s) (λ u. as_scalar u >>= λ z. applied ops.And at y z) (truth true) h in
      let r = bind_ok (as_scalar p.0) (λ z. applied ops.And at y z) (truth true) p.2 in
      record { scalar = r.0; value = p.1 ∙ ap (λ v. let r : Result Value Ending = Ok v in r) (one_is p.0 r.0 r.1); is = r.2 }

  by_first : (at : Span) (a b : Expression) (y : Scalar) → value_of a w s ≡ Ok (One y) → or_else (settled ops.And y) (value_of b w s >>= λ u. as_scalar u >>= λ z. applied ops.And at y z) ≡ Ok (truth true) → IsTrueHere a × IsTrueHere b
  by_first at a b (scalars.Bool true) v h =
      let r = second at (scalars.Bool true) b h in
      (v, r.value ∙ ap (λ z. let o : Result Value Ending = Ok (One z) in o) (true_second at r.scalar r.is))
  by_first at a b (scalars.Bool false) v h = absurd cc
  by_first at a b (scalars.Long i) v h = (let r = second at (scalars.Long i) b h in absurd (no_long at i r.scalar r.is))
  by_first at a b (scalars.Text t) v h = (let r = second at (scalars.Text t) b h in absurd (no_text at t r.scalar r.is))

  and_true : (at : Span) (a b : Expression) → IsTrueHere (tree.Binary at ops.And a b) → IsTrueHere a × IsTrueHere b
  and_true at a b h =
      let p = bind_ok (value_of a w s) (λ v. as_scalar v >>= λ y. or_else (settled ops.And y) (value_of b w s >>= λ u. as_scalar u >>= λ z. applied ops.And at y z)) (truth true) h in
      let r = bind_ok (as_scalar p.0) (λ y. or_else (settled ops.And y) (value_of b w s >>= λ u. as_scalar u >>= λ z. applied ops.And at y z)) (truth true) p.2 in
      by_first at a b r.0 (p.1 ∙ ap (λ v. let r : Result Value Ending = Ok v in r) (one_is p.0 r.0 r.1)) r.2

  pub parts_true : (e : Expression) → IsTrueHere e → AllByRecursion IsTrueHere (parts_of e)
  parts_true (tree.Binary at ops.And a b) h =
      let r = and_true at a b h in
      all_joined IsTrueHere (parts_of a) (parts_of b) (parts_true a r.0) (parts_true b r.1)
  parts_true e h = (h, tt)

  bool_is : (y : Scalar) (b : Bool) → as_bool y ≡ Ok b → y ≡ scalars.Bool b
  bool_is (scalars.Bool p) b h = ap scalars.Bool (ok_is p b h)
  bool_is (scalars.Long i) b h = absurd cc
  bool_is (scalars.Text t) b h = absurd cc

  -- the value behind a test
  pub test_true : (e : Expression) → test_of e w s ≡ Ok true → IsTrueHere e
  test_true e h =
      let p = bind_ok (value_of e w s >>= as_scalar) as_bool true h in
      let r = bind_ok (value_of e w s) as_scalar p.0 p.1 in
      r.1 ∙ ap (λ v. let o : Result Value Ending = Ok v in o) (one_is r.0 p.0 r.2 ∙ ap One (bool_is p.0 true p.2))

-- ---- Those that are taken

pub all_taken : (P : Expression → Type 0) (assigned : Names) (x : List ℕ) (args : Arguments) (es : List Expression) → AllByRecursion P es → AllByRecursion (λ (e : Expression). P e × (is_plain assigned x e ≡ true)) (taken assigned x args es)
all_taken P assigned x args [] h = tt
all_taken P assigned x args (e ∷ es) h = by_taken (is_taken assigned x args e) refl (all_taken P assigned x (with_part x args e) es h.1) (all_taken P assigned x args es h.1)
  where
    by_taken : (b : Bool) → is_taken assigned x args e ≡ b → AllByRecursion (λ (z : Expression). P z × (is_plain assigned x z ≡ true)) (taken assigned x (with_part x args e) es) → AllByRecursion (λ (z : Expression). P z × (is_plain assigned x z ≡ true)) (taken assigned x args es) → AllByRecursion (λ (z : Expression). P z × (is_plain assigned x z ≡ true)) (cond b (e ∷ taken assigned x (with_part x args e) es) (taken assigned x args es))
    by_taken true i j k = ((h.0, (both_so (is_plain assigned x e) (nat_lt (length (with_part x args e)) 10) i).0), j)
    by_taken false i j k = k

-- what holds of each condition, and so of two by AND, holds of the condition of all
module _ (held : List Column) (x : List ℕ) (args : Arguments) (Q : Condition → Type 0) (joins : (a b : Condition) → Q a → Q b → Q (sql.Both a b)) where
  abbrev pub IsEach : Expression → Type 0
  IsEach e = (d : Condition) → condition_of held x args e ≡ Some d → Q d

  none_both : (o : Option Condition) → both_there sql.Both (let z : Option Condition = None in z) o ≡ None
  none_both (Some a) = refl
  none_both None = refl

  some_none : (a : Condition) → both_there sql.Both (Some a) (let z : Option Condition = None in z) ≡ None
  some_none a = refl

  none_stays : (es : List Expression) → conditions_of held x args None es ≡ None
  none_stays [] = refl
  none_stays (e ∷ es) = ap (λ o. conditions_of held x args o es) (none_both (condition_of held x args e)) ∙ none_stays es

  pub no_condition : (es : List Expression) (d : Condition) → conditions_of held x args None es ≡ Some d → ⊥
  no_condition es d h = (let none : (let z : Option Condition = None in z) ≡ Some d = sym (none_stays es) ∙ h in absurd cc)

  by_condition : (e : Expression) (es : List Expression) (a : Condition) → Q a → IsEach e → ((b : Condition) → Q b → (d : Condition) → conditions_of held x args (Some b) es ≡ Some d → Q d) → (o : Option Condition) → condition_of held x args e ≡ o → (d : Condition) → conditions_of held x args (both_there sql.Both (Some a) o) es ≡ Some d → Q d
  by_condition e es a q each rest (Some f) is d h = rest (sql.Both a f) (joins a f q (each f is)) d h
  by_condition e es a q each rest None is d h = absurd (no_condition es d h)

  more : (es : List Expression) (a : Condition) → Q a → AllByRecursion IsEach es → (d : Condition) → conditions_of held x args (Some a) es ≡ Some d → Q d
  more [] a q all d h = subst Q (some_is a d h) q
  more (e ∷ es) a q all d h = by_condition e es a q all.0 (λ b r f i. more es b r all.1 f i) (condition_of held x args e) refl d h

  first : (e : Expression) (es : List Expression) → IsEach e × AllByRecursion IsEach es → (o : Option Condition) → condition_of held x args e ≡ o → (d : Condition) → conditions_of held x args o es ≡ Some d → Q d
  first e es all (Some a) is d h = more es a (all.0 a is) all.1 d h
  first e es all None is d h = absurd (no_condition es d h)

  pub all_conditions : (es : List Expression) → AllByRecursion IsEach es → (d : Condition) → taken_condition held x args es ≡ Some d → Q d
  all_conditions [] all d h = absurd cc
  all_conditions (e ∷ es) all d h = first e es all (condition_of held x args e) refl d h
