-- Whether parts fit is seen at one row of each list.
use Rattle.std.proofs.Common.{◌≡◌, ◌↔◌, ℕ, zero, suc, ◌+◌, ◌<◌, Bool, true, false, cond, ◌&&◌, ◌||◌, IsTrue, is_some, List, [], ◌∷◌, ◌++◌, length, take, Option, Some, None, nat_eq, slice_get, get_or, refl, sym, ap, subst, ◌∙◌, arith, eqb-true, ◌^◌, ℤ, pos, negsuc, w64}
use Rattle.std.proofs.lemmas.Bool.{lt-ltb}
use mir.Val.{SFits}
use Rattle.std.specs.List.{AllByRecursion, Contains, flat_map, list_all}
use Rattle.qbs_base.specs.declared.scalar.Row.{Row}
use Rattle.qbs_base.specs.declared.scalar.Scalar.{Scalar}
use Rattle.qbs_base.specs.declared.scalar.Scalar.TheVariants as scalars
use Rattle.qbs_base.specs.declared.scalar.Ty.{Ty}
use Rattle.qbs_base.specs.declared.scalar.Ty.TheVariants as tys
use Rattle.qbs_base.specs.Sort.{put_in, stable_sort}
use Rattle.qbs_base.specs.Tables.{rows_of}
use Rattle.qbs_base.specs.Values.{Database, AreOf, fits_long}
use Rattle.tor_terms.specs.declared.term.Atom.{Atom}
use Rattle.tor_terms.specs.declared.term.Atom.TheVariants as atoms
use Rattle.tor_terms.specs.declared.term.Elem.TheVariants as elems
use Rattle.tor_terms.specs.declared.term.Operand.{Operand}
use Rattle.tor_terms.specs.declared.term.Operand.TheVariants as operands
use Rattle.tor_terms.specs.Truth.{World, operand_at, same_variant}
use Rattle.tor_terms.specs.Value.{plain_row}
use Rattle.kernel_lang.specs.declared.parts.Entry.{Entry}
use Rattle.kernel_lang.specs.declared.parts.ListDef.{ListDef}
use Rattle.kernel_lang.specs.declared.parts.Update.{Update}
use Rattle.kernel_lang.specs.declared.parts.Update.TheVariants as updates
use Rattle.kernel_lang.specs.Fitting.{Place, operand_places, atom_places, element_places, key_places, named_places, is_of, table_at, ColumnFits, comparable, of_one_variant, of_variant_of_all, AreRows, AtomFits, UpdateFits, PartsFit}
use Rattle.kernel_lang.specs.Given.{before, cut, list_at, world_given}
use Rattle.kernel_lang.specs.Plain.{Accumulator, Fragment}
use Rattle.kernel_lang.specs.Typed.{scalar_type, same_type}
use Rattle.kernel_lang.specs.Validity.{element_of}
use Rattle.kernel_lang.proofs.Runs.{all_sorted, all_cut}
use Rattle.kernel_interp.specs.Fits.{type_found, first_type, are_all_of, is_column, place_fits, is_none_left, has_no_row, is_never_read, operand_type, are_ordered, is_of_all, test_fits, update_fits, table_is_there, rest_fits}
use Rattle.kernel_interp.proofs.Flagged.{left_true, right_true}

-- ---- tests of lists

both : (a b : Bool) → a ≡ true → b ≡ true → (a && b) ≡ true
both true true p q = refl
both true false p q = absurd cc
both false b p q = absurd cc

true_or : (a b : Bool) → ((a ≡ false) → b ≡ true) → (a || b) ≡ true
true_or true b h = refl
true_or false b h = h refl

or_true : (a b : Bool) → (a || b) ≡ true → a ≡ false → b ≡ true
or_true true b h e = absurd cc
or_true false b h e = h

all_map : {X : Type 0} (P Q : X → Type 0) → ((x : X) → P x → Q x) → (xs : List X) → AllByRecursion P xs → AllByRecursion Q xs
all_map P Q g [] h = tt
all_map P Q g (x ∷ xs) h = (g x h.0, all_map P Q g xs h.1)

all_of_test : {X : Type 0} (p : X → Bool) (P : X → Type 0) → ((x : X) → p x ≡ true → P x) → (xs : List X) → list_all p xs ≡ true → AllByRecursion P xs
all_of_test p P g [] h = tt
all_of_test p P g (x ∷ xs) h = (g x (left_true (p x) (list_all p xs) h), all_of_test p P g xs (right_true (p x) (list_all p xs) h))

test_of_all : {X : Type 0} (p : X → Bool) (P : X → Type 0) → ((x : X) → P x → p x ≡ true) → (xs : List X) → AllByRecursion P xs → list_all p xs ≡ true
test_of_all p P g [] h = refl
test_of_all p P g (x ∷ xs) h = both (p x) (list_all p xs) (g x h.0) (test_of_all p P g xs h.1)

all_left : {X : Type 0} (P : X → Type 0) (xs ys : List X) → AllByRecursion P (xs ++ ys) → AllByRecursion P xs
all_left P [] ys h = tt
all_left P (x ∷ xs) ys h = (h.0, all_left P xs ys h.1)

all_right : {X : Type 0} (P : X → Type 0) (xs ys : List X) → AllByRecursion P (xs ++ ys) → AllByRecursion P ys
all_right P [] ys h = h
all_right P (x ∷ xs) ys h = all_right P xs ys h.1

all_parts : {X Y : Type 0} (P : Y → Type 0) (g : X → List Y) (xs : List X) → AllByRecursion P (flat_map g xs) → AllByRecursion (λ x. AllByRecursion P (g x)) xs
all_parts P g [] h = tt
all_parts P g (x ∷ xs) h = (all_left P (g x) (flat_map g xs) h, all_parts P g xs (all_right P (g x) (flat_map g xs) h))

-- two of each, one after the other
all_two : {X : Type 0} (P Q R : X → Type 0) → ((x : X) → P x → Q x → R x) → (xs : List X) → AllByRecursion P xs → AllByRecursion Q xs → AllByRecursion R xs
all_two P Q R g [] p q = tt
all_two P Q R g (x ∷ xs) p q = (g x p.0 q.0, all_two P Q R g xs p.1 q.1)

all_at : {X : Type 0} (P : X → Type 0) (xs : List X) (k : ℕ) (d : X) → AllByRecursion P xs → k < length xs → P (get_or xs k d)
all_at P [] k d h l = absurd (omega (arith, l))
all_at P (x ∷ xs) zero d h l = h.0
all_at P (x ∷ xs) (suc k) d h l = all_at P xs k d h.1 (omega (arith, l))

contained : {X : Type 0} (P : X → Type 0) (xs : List X) (x : X) → AllByRecursion P xs → Contains xs x → P x
contained P xs x h c = subst P c.2 (all_at P xs c.0 x h c.1)

-- ---- types

pub long_fits : (n : ℤ) → SFits w64 n → fits_long n ≡ true
long_fits (pos n) h = lt-ltb n (2 ^ 63) h.sfits
long_fits (negsuc n) h = lt-ltb n (2 ^ 63) h.sfits

type_of : (o : Option Scalar) (ty : Ty) → IsTrue (is_of ty o) → type_found o ≡ Some ty
type_of (Some (scalars.Long n)) tys.Long h = refl
type_of (Some (scalars.Bool n)) tys.Bool h = refl
type_of (Some (scalars.Text n)) tys.Text h = refl
type_of (Some (scalars.Long n)) tys.Bool h = absurd cc
type_of (Some (scalars.Long n)) tys.Text h = absurd cc
type_of (Some (scalars.Bool n)) tys.Long h = absurd cc
type_of (Some (scalars.Bool n)) tys.Text h = absurd cc
type_of (Some (scalars.Text n)) tys.Long h = absurd cc
type_of (Some (scalars.Text n)) tys.Bool h = absurd cc
type_of None tys.Long h = absurd cc
type_of None tys.Bool h = absurd cc
type_of None tys.Text h = absurd cc

of_type : (o : Option Scalar) (ty : Ty) → type_found o ≡ Some ty → IsTrue (is_of ty o)
of_type (Some (scalars.Long n)) tys.Long h = refl
of_type (Some (scalars.Bool n)) tys.Bool h = refl
of_type (Some (scalars.Text n)) tys.Text h = refl
of_type (Some (scalars.Long n)) tys.Bool h = absurd cc
of_type (Some (scalars.Long n)) tys.Text h = absurd cc
of_type (Some (scalars.Bool n)) tys.Long h = absurd cc
of_type (Some (scalars.Bool n)) tys.Text h = absurd cc
of_type (Some (scalars.Text n)) tys.Long h = absurd cc
of_type (Some (scalars.Text n)) tys.Bool h = absurd cc
of_type None ty h = absurd cc

own_type : (ty : Ty) → same_type (Some ty) (Some ty) ≡ true
own_type tys.Long = refl
own_type tys.Bool = refl
own_type tys.Text = refl

one_type : (ty : Ty) (p : Option Ty) → same_type (Some ty) p ≡ true → p ≡ Some ty
one_type tys.Long (Some tys.Long) h = refl
one_type tys.Bool (Some tys.Bool) h = refl
one_type tys.Text (Some tys.Text) h = refl
one_type tys.Long (Some tys.Bool) h = absurd cc
one_type tys.Long (Some tys.Text) h = absurd cc
one_type tys.Bool (Some tys.Long) h = absurd cc
one_type tys.Bool (Some tys.Text) h = absurd cc
one_type tys.Text (Some tys.Long) h = absurd cc
one_type tys.Text (Some tys.Bool) h = absurd cc
one_type tys.Long None h = absurd cc
one_type tys.Bool None h = absurd cc
one_type tys.Text None h = absurd cc

no_type : (p : Option Ty) → same_type None p ≡ true → ⊥
no_type (Some tys.Long) h = cc
no_type (Some tys.Bool) h = cc
no_type (Some tys.Text) h = cc
no_type None h = cc

-- what atoms ask of values goes by their types

order_typed : (o p : Option Scalar) → comparable o p ≡ are_ordered (type_found o) (type_found p)
order_typed None p = refl
order_typed (Some (scalars.Long x)) None = refl
order_typed (Some (scalars.Long x)) (Some (scalars.Long y)) = refl
order_typed (Some (scalars.Long x)) (Some (scalars.Bool y)) = refl
order_typed (Some (scalars.Long x)) (Some (scalars.Text y)) = refl
order_typed (Some (scalars.Bool x)) None = refl
order_typed (Some (scalars.Bool x)) (Some (scalars.Long y)) = refl
order_typed (Some (scalars.Bool x)) (Some (scalars.Bool y)) = refl
order_typed (Some (scalars.Bool x)) (Some (scalars.Text y)) = refl
order_typed (Some (scalars.Text x)) None = refl
order_typed (Some (scalars.Text x)) (Some (scalars.Long y)) = refl
order_typed (Some (scalars.Text x)) (Some (scalars.Bool y)) = refl
order_typed (Some (scalars.Text x)) (Some (scalars.Text y)) = refl

scalars_typed : (x y : Scalar) → same_variant x y ≡ same_type (Some (scalar_type x)) (Some (scalar_type y))
scalars_typed (scalars.Long x) (scalars.Long y) = refl
scalars_typed (scalars.Long x) (scalars.Bool y) = refl
scalars_typed (scalars.Long x) (scalars.Text y) = refl
scalars_typed (scalars.Bool x) (scalars.Long y) = refl
scalars_typed (scalars.Bool x) (scalars.Bool y) = refl
scalars_typed (scalars.Bool x) (scalars.Text y) = refl
scalars_typed (scalars.Text x) (scalars.Long y) = refl
scalars_typed (scalars.Text x) (scalars.Bool y) = refl
scalars_typed (scalars.Text x) (scalars.Text y) = refl

variant_typed : (o p : Option Scalar) → of_one_variant o p ≡ same_type (type_found o) (type_found p)
variant_typed None p = refl
variant_typed (Some (scalars.Long x)) None = refl
variant_typed (Some (scalars.Bool x)) None = refl
variant_typed (Some (scalars.Text x)) None = refl
variant_typed (Some x) (Some y) = scalars_typed x y

truth_typed : (o : Option Scalar) → is_of tys.Bool o ≡ same_type (Some tys.Bool) (type_found o)
truth_typed None = refl
truth_typed (Some (scalars.Long x)) = refl
truth_typed (Some (scalars.Bool x)) = refl
truth_typed (Some (scalars.Text x)) = refl

member_typed : (x : Scalar) (xs : List Scalar) → list_all (same_variant x) xs ≡ list_all (λ y. same_type (Some (scalar_type x)) (Some (scalar_type y))) xs
member_typed x [] = refl
member_typed x (y ∷ ys) =
    ap (λ (b : Bool). b && list_all (same_variant x) ys) (scalars_typed x y) ∙ ap (λ (b : Bool). same_type (Some (scalar_type x)) (Some (scalar_type y)) && b) (member_typed x ys)

members_typed : (o : Option Scalar) (xs : List Scalar) → of_variant_of_all o xs ≡ is_of_all (type_found o) xs
members_typed None xs = refl
members_typed (Some x) xs = member_typed x xs

-- ---- columns

abbrev Typed : Ty → ℕ → Row → Type 0
Typed ty c r = IsTrue (is_of ty (slice_get r.cells c))

abbrev ColumnIs : ℕ → List Row → Type 0
ColumnIs c rows = (ty : Ty) × AllByRecursion (Typed ty c) rows

rows_typed : (o : Option Ty) (c : ℕ) (r : Row) (rows : List Row) → are_all_of o c (r ∷ rows) ≡ true → ColumnIs c (r ∷ rows)
rows_typed None c r rows h = absurd (no_type (type_found (slice_get r.cells c)) (left_true (same_type None (type_found (slice_get r.cells c))) (are_all_of None c rows) h))
rows_typed (Some ty) c r rows h =
    (ty, all_of_test (λ s. same_type (Some ty) (type_found (slice_get s.cells c))) (Typed ty c) (λ s e. of_type (slice_get s.cells c) ty (one_type ty (type_found (slice_get s.cells c)) e)) (r ∷ rows) h)

column_is : (c : ℕ) (rows : List Row) → is_column c rows ≡ true → ColumnIs c rows
column_is c [] h = (tys.Long, tt)
column_is c (r ∷ rows) h = rows_typed (type_found (slice_get r.cells c)) c r rows h

all_typed : (ty : Ty) (c : ℕ) (rows : List Row) → AllByRecursion (Typed ty c) rows → are_all_of (Some ty) c rows ≡ true
all_typed ty c rows h =
    test_of_all (λ s. same_type (Some ty) (type_found (slice_get s.cells c))) (Typed ty c)
    (λ s t. subst (λ (o : Option Ty). same_type (Some ty) o ≡ true) (sym (type_of (slice_get s.cells c) ty t)) (own_type ty)) rows h

is_column_of : (c : ℕ) (rows : List Row) → ColumnIs c rows → is_column c rows ≡ true
is_column_of c [] h = refl
is_column_of c (r ∷ rows) h = subst (λ (o : Option Ty). are_all_of o c (r ∷ rows) ≡ true) (sym (type_of (slice_get r.cells c) h.0 h.1.0)) (all_typed h.0 c (r ∷ rows) h.1)

-- the type of a row of a column is that of the first
first_typed : (c : ℕ) (rows : List Row) (ty : Ty) → AllByRecursion (Typed ty c) rows → (rows ≡ [] → ⊥) → first_type c rows ≡ Some ty
first_typed c [] ty h n = absurd (n refl)
first_typed c (r ∷ rows) ty h n = type_of (slice_get r.cells c) ty h.0

-- ---- lists

-- a first element
abbrev Starts : {X : Type 0} → List X → Type 0
Starts [] = ⊥
Starts (x ∷ xs) = Unit {0}

put_starts : {X : Type 0} (lt : X → X → Bool) (x : X) (xs : List X) → Starts (put_in lt x xs)
put_starts lt x [] = tt
put_starts lt x (y ∷ ys) = go (lt y x)
  where
    go : (b : Bool) → Starts (cond b (y ∷ put_in lt x ys) (x ∷ y ∷ ys))
    go true = tt
    go false = tt

take_starts : {X : Type 0} (n : ℕ) (xs : List X) → nat_eq n 0 ≡ false → Starts xs → Starts (take n xs)
take_starts zero xs e h = absurd cc
take_starts (suc n) [] e h = h
take_starts (suc n) (x ∷ xs) e h = tt

cut_starts : (limit : Option ℕ) (lt : Row → Row → Bool) (rows : List Row) → is_none_left limit rows ≡ false → Starts (cut limit (stable_sort lt rows))
cut_starts limit lt [] e = absurd cc
cut_starts None lt (r ∷ rows) e = put_starts lt r (stable_sort lt rows)
cut_starts (Some n) lt (r ∷ rows) e = take_starts n (stable_sort lt (r ∷ rows)) e (put_starts lt r (stable_sort lt rows))

cut_none : (limit : Option ℕ) (lt : Row → Row → Bool) (rows : List Row) → is_none_left limit rows ≡ true → cut limit (stable_sort lt rows) ≡ []
cut_none None lt [] e = refl
cut_none (Some zero) lt [] e = refl
cut_none (Some (suc n)) lt [] e = refl
cut_none None lt (r ∷ rows) e = absurd cc
cut_none (Some zero) lt (r ∷ rows) e = refl
cut_none (Some (suc n)) lt (r ∷ rows) e = let x : suc n ≡ 0 = eqb-true (suc n) 0 e in absurd (omega (arith, x))

list_starts : (db : Database) (o : Option ListDef) → has_no_row db o ≡ false → Starts (list_at db o)
list_starts db None e = absurd cc
list_starts db (Some d) e = cut_starts d.limit (before d.keys) (rows_of db d.table) e

list_none : (db : Database) (o : Option ListDef) → has_no_row db o ≡ true → list_at db o ≡ []
list_none db None e = refl
list_none db (Some d) e = cut_none d.limit (before d.keys) (rows_of db d.table) e

no_rows : (limit : Option ℕ) (rows : List Row) → is_none_left limit rows ≡ false → rows ≡ [] → ⊥
no_rows limit [] e n = cc
no_rows limit (r ∷ rows) e n = cc

no_table : (db : Database) (o : Option ListDef) → has_no_row db o ≡ false → table_at db o ≡ [] → ⊥
no_table db None e n = cc
no_table db (Some d) e n = no_rows d.limit (rows_of db d.table) e n

list_typed : (P : Row → Type 0) (db : Database) (o : Option ListDef) → AllByRecursion P (table_at db o) → AllByRecursion P (list_at db o)
list_typed P db None h = tt
list_typed P db (Some d) h = all_cut P d.limit (stable_sort (before d.keys) (rows_of db d.table)) (all_sorted P (before d.keys) (rows_of db d.table) h)

-- the first row of a list
abbrev first_row : List Row → Row
first_row [] = plain_row None
first_row (r ∷ rows) = r

has_first : (rows : List Row) → Starts rows → Contains rows (first_row rows)
has_first [] h = absurd h
has_first (r ∷ rows) h = (0, omega arith, refl)

nothing_there : (rows : List Row) (r : Row) → rows ≡ [] → Contains rows r → ⊥
nothing_there rows r e c = let l : length rows ≡ 0 = ap length e in omega (arith, c.1, l)

all_none : (P : Row → Type 0) (rows : List Row) → rows ≡ [] → AllByRecursion P rows
all_none P rows e = subst (AllByRecursion P) (sym e) tt

-- ---- one row is enough

module _ (f : Fragment) (db : Database) (entry : Entry) where
  abbrev here : World
  here = world_given f db entry

  abbrev Columns : List Place → Type 0
  Columns places = AllByRecursion (ColumnFits f db) places

  operand_typed : (rows : ℕ → Row) (a : Operand) → Columns (operand_places a) → is_never_read f db a ≡ false → AreRows here rows (operand_places a) → type_found (operand_at here rows a) ≡ operand_type f db entry a
  operand_typed rows (operands.Field j c) h e r =
      let own : type_found (slice_get (rows j).cells c) ≡ Some h.0.0 = type_of (slice_get (rows j).cells c) h.0.0 (contained (Typed h.0.0 c) (list_at db (slice_get f.lists j)) (rows j) (list_typed (Typed h.0.0 c) db (slice_get f.lists j) h.0.1) r.0) in
      own ∙ sym (first_typed c (table_at db (slice_get f.lists j)) h.0.0 h.0.1 (no_table db (slice_get f.lists j) e))
  operand_typed rows (operands.Entry k) h e r = refl
  operand_typed rows (operands.Lit x) h e r = refl

  never : (rows : ℕ → Row) (a : Operand) → is_never_read f db a ≡ true → AreRows here rows (operand_places a) → ⊥
  never rows (operands.Field j c) e r = nothing_there (list_at db (slice_get f.lists j)) (rows j) (list_none db (slice_get f.lists j) e) r.0
  never rows (operands.Entry k) e r = cc
  never rows (operands.Lit x) e r = cc

  abbrev firsts : ℕ → Row
  firsts j = first_row (list_at db (slice_get f.lists j))

  first_rows : (a : Operand) → is_never_read f db a ≡ false → AreRows here firsts (operand_places a)
  first_rows (operands.Field j c) e = (has_first (list_at db (slice_get f.lists j)) (list_starts db (slice_get f.lists j) e), tt)
  first_rows (operands.Entry k) e = tt
  first_rows (operands.Lit x) e = tt

  all_both : {X : Type 0} (P : X → Type 0) (xs ys : List X) → AllByRecursion P xs → AllByRecursion P ys → AllByRecursion P (xs ++ ys)
  all_both P [] ys h g = g
  all_both P (x ∷ xs) ys h g = (h.0, all_both P xs ys h.1 g)

  one_fits : (test : Option Ty → Bool) (a : Operand) (rows : ℕ → Row) → Columns (operand_places a) → (is_never_read f db a || test (operand_type f db entry a)) ≡ true → AreRows here rows (operand_places a) → test (type_found (operand_at here rows a)) ≡ true
  one_fits test a rows h t r = go (is_never_read f db a) refl
    where
      go : (x : Bool) → is_never_read f db a ≡ x → test (type_found (operand_at here rows a)) ≡ true
      go true e = absurd (never rows a e r)
      go false e = ap test (operand_typed rows a h e r) ∙ or_true (is_never_read f db a) (test (operand_type f db entry a)) t e

  one_seen : (test : Option Ty → Bool) (a : Operand) → Columns (operand_places a) → ((rows : ℕ → Row) → AreRows here rows (operand_places a) → test (type_found (operand_at here rows a)) ≡ true) → (is_never_read f db a || test (operand_type f db entry a)) ≡ true
  one_seen test a h g =
      true_or (is_never_read f db a) (test (operand_type f db entry a))
      (λ e. ap test (sym (operand_typed firsts a h e (first_rows a e))) ∙ g firsts (first_rows a e))

  two_fit : (test : Option Ty → Option Ty → Bool) (a b : Operand) (rows : ℕ → Row) → Columns (operand_places a ++ operand_places b)
      → (is_never_read f db a || (is_never_read f db b || test (operand_type f db entry a) (operand_type f db entry b))) ≡ true → AreRows here rows (operand_places a ++ operand_places b)
      → test (type_found (operand_at here rows a)) (type_found (operand_at here rows b)) ≡ true
  two_fit test a b rows h t r =
      one_fits (λ o. test o (type_found (operand_at here rows b))) a rows ha (true_or (is_never_read f db a) (test (operand_type f db entry a) (type_found (operand_at here rows b))) (λ e.
      one_fits (λ o. test (operand_type f db entry a) o) b rows hb (or_true (is_never_read f db a) (is_never_read f db b || test (operand_type f db entry a) (operand_type f db entry b)) t e) rb)) ra
    where
      ha : Columns (operand_places a)
      ha = all_left (ColumnFits f db) (operand_places a) (operand_places b) h

      hb : Columns (operand_places b)
      hb = all_right (ColumnFits f db) (operand_places a) (operand_places b) h

      ra : AreRows here rows (operand_places a)
      ra = all_left (λ (p : Place). Contains (here.lists p.0) (rows p.0)) (operand_places a) (operand_places b) r

      rb : AreRows here rows (operand_places b)
      rb = all_right (λ (p : Place). Contains (here.lists p.0) (rows p.0)) (operand_places a) (operand_places b) r

  two_seen : (test : Option Ty → Option Ty → Bool) (a b : Operand) → Columns (operand_places a ++ operand_places b)
      → ((rows : ℕ → Row) → AreRows here rows (operand_places a ++ operand_places b) → test (type_found (operand_at here rows a)) (type_found (operand_at here rows b)) ≡ true)
      → (is_never_read f db a || (is_never_read f db b || test (operand_type f db entry a) (operand_type f db entry b))) ≡ true
  two_seen test a b h g =
      true_or (is_never_read f db a) (is_never_read f db b || test (operand_type f db entry a) (operand_type f db entry b)) (λ e.
      true_or (is_never_read f db b) (test (operand_type f db entry a) (operand_type f db entry b)) (λ d.
      ap (λ (o : Option Ty). test o (operand_type f db entry b)) (sym (operand_typed firsts a ha e (first_rows a e)))
      ∙ ap (test (type_found (operand_at here firsts a))) (sym (operand_typed firsts b hb d (first_rows b d)))
      ∙ g firsts (all_both (λ (p : Place). Contains (here.lists p.0) (firsts p.0)) (operand_places a) (operand_places b) (first_rows a e) (first_rows b d))))
    where
      ha : Columns (operand_places a)
      ha = all_left (ColumnFits f db) (operand_places a) (operand_places b) h

      hb : Columns (operand_places b)
      hb = all_right (ColumnFits f db) (operand_places a) (operand_places b) h

  -- the lemma: where its columns fit, an atom fits at all rows where it does at the first ones
  one_row_is_enough : (a : Atom) → Columns (atom_places a) → test_fits f db entry a ≡ true → AtomFits here a
  one_row_is_enough (atoms.Less a b) h t rows r = order_typed (operand_at here rows a) (operand_at here rows b) ∙ two_fit are_ordered a b rows h t r
  one_row_is_enough (atoms.Same a b) h t rows r = variant_typed (operand_at here rows a) (operand_at here rows b) ∙ two_fit same_type a b rows h t r
  one_row_is_enough (atoms.Truth a) h t rows r = truth_typed (operand_at here rows a) ∙ one_fits (same_type (Some tys.Bool)) a rows h t r
  one_row_is_enough (atoms.Member a q) h t rows r = members_typed (operand_at here rows a) (get_or entry.known q []) ∙ one_fits (λ o. is_of_all o (get_or entry.known q [])) a rows h t r
  one_row_is_enough (atoms.Flag k loops) h t rows r = refl

  first_row_fits : (a : Atom) → Columns (atom_places a) → AtomFits here a → test_fits f db entry a ≡ true
  first_row_fits (atoms.Less a b) h g = two_seen are_ordered a b h (λ rows r. sym (order_typed (operand_at here rows a) (operand_at here rows b)) ∙ g rows r)
  first_row_fits (atoms.Same a b) h g = two_seen same_type a b h (λ rows r. sym (variant_typed (operand_at here rows a) (operand_at here rows b)) ∙ g rows r)
  first_row_fits (atoms.Truth a) h g = one_seen (same_type (Some tys.Bool)) a h (λ rows r. sym (truth_typed (operand_at here rows a)) ∙ g rows r)
  first_row_fits (atoms.Member a q) h g = one_seen (λ o. is_of_all o (get_or entry.known q [])) a h (λ rows r. sym (members_typed (operand_at here rows a) (get_or entry.known q [])) ∙ g rows r)
  first_row_fits (atoms.Flag k loops) h g = refl

  -- ---- updates

  numbers_are : (o : Option ListDef) (c : ℕ) → ColumnIs c (table_at db o) → (has_no_row db o || same_type (Some tys.Long) (first_type c (table_at db o))) ≡ true → AllByRecursion (Typed tys.Long c) (list_at db o)
  numbers_are o c h t = go (has_no_row db o) refl
    where
      go : (x : Bool) → has_no_row db o ≡ x → AllByRecursion (Typed tys.Long c) (list_at db o)
      go true e = all_none (Typed tys.Long c) (list_at db o) (list_none db o e)
      go false e =
          let long : first_type c (table_at db o) ≡ Some tys.Long = one_type tys.Long (first_type c (table_at db o)) (or_true (has_no_row db o) (same_type (Some tys.Long) (first_type c (table_at db o))) t e) in
          let same : Some h.0 ≡ Some tys.Long = sym (first_typed c (table_at db o) h.0 h.1 (no_table db o e)) ∙ long in
          let ty : h.0 ≡ tys.Long = cc in
          subst (λ (u : Ty). AllByRecursion (Typed u c) (list_at db o)) ty (list_typed (Typed h.0 c) db o h.1)

  numbers_seen : (o : Option ListDef) (c : ℕ) → ColumnIs c (table_at db o) → AllByRecursion (Typed tys.Long c) (list_at db o) → (has_no_row db o || same_type (Some tys.Long) (first_type c (table_at db o))) ≡ true
  numbers_seen o c h g =
      true_or (has_no_row db o) (same_type (Some tys.Long) (first_type c (table_at db o))) (λ e.
      let there : Contains (list_at db o) (first_row (list_at db o)) = has_first (list_at db o) (list_starts db o e) in
      let long : type_found (slice_get (first_row (list_at db o)).cells c) ≡ Some tys.Long = type_of (slice_get (first_row (list_at db o)).cells c) tys.Long (contained (Typed tys.Long c) (list_at db o) (first_row (list_at db o)) g there) in
      let own : type_found (slice_get (first_row (list_at db o)).cells c) ≡ Some h.0 = type_of (slice_get (first_row (list_at db o)).cells c) h.0 (contained (Typed h.0 c) (list_at db o) (first_row (list_at db o)) (list_typed (Typed h.0 c) db o h.1) there) in
      ap (same_type (Some tys.Long)) (first_typed c (table_at db o) h.0 h.1 (no_table db o e) ∙ sym own ∙ long))

  update_is : (u : Update) → Columns (element_places (element_of u)) → update_fits f db u ≡ true → UpdateFits here u
  update_is (updates.Plus (elems.Field j c)) h t = numbers_are (slice_get f.lists j) c h.0 t
  update_is (updates.Best way (elems.Field j c)) h t = numbers_are (slice_get f.lists j) c h.0 t
  update_is (updates.Plus (elems.Whole j)) h t = tt
  update_is (updates.Best way (elems.Whole j)) h t = tt
  update_is (updates.Push e) h t = tt
  update_is (updates.PushNew e) h t = tt
  update_is updates.Tick h t = tt
  update_is updates.Mark h t = tt

  update_seen : (u : Update) → Columns (element_places (element_of u)) → UpdateFits here u → update_fits f db u ≡ true
  update_seen (updates.Plus (elems.Field j c)) h t = numbers_seen (slice_get f.lists j) c h.0 t
  update_seen (updates.Best way (elems.Field j c)) h t = numbers_seen (slice_get f.lists j) c h.0 t
  update_seen (updates.Plus (elems.Whole j)) h t = refl
  update_seen (updates.Best way (elems.Whole j)) h t = refl
  update_seen (updates.Push e) h t = refl
  update_seen (updates.PushNew e) h t = refl
  update_seen updates.Tick h t = refl
  update_seen updates.Mark h t = refl

  -- ---- all parts

  there : {X : Type 0} (xs : List X) (n : ℕ) → is_some (slice_get xs n) ≡ true → n < length xs
  there [] n e = absurd cc
  there (x ∷ xs) zero e = omega arith
  there (x ∷ xs) (suc n) e = let l : n < length xs = there xs n e in omega (arith, l)

  found : {X : Type 0} (xs : List X) (n : ℕ) → n < length xs → is_some (slice_get xs n) ≡ true
  found [] n l = absurd (omega (arith, l))
  found (x ∷ xs) zero l = refl
  found (x ∷ xs) (suc n) l = found xs n (omega (arith, l))

  abbrev places_of_atoms : List Place
  places_of_atoms = flat_map atom_places f.atoms

  abbrev places_of_accs : List Place
  places_of_accs = flat_map (λ (a : Accumulator). element_places (element_of a.update)) f.accs

  atoms_named : Columns (named_places f) → AllByRecursion (λ a. Columns (atom_places a)) f.atoms
  atoms_named h = all_parts (ColumnFits f db) atom_places f.atoms (all_left (ColumnFits f db) places_of_atoms places_of_accs (all_right (ColumnFits f db) (key_places 0 f.lists) (places_of_atoms ++ places_of_accs) h))

  accs_named : Columns (named_places f) → AllByRecursion (λ (a : Accumulator). Columns (element_places (element_of a.update))) f.accs
  accs_named h = all_parts (ColumnFits f db) (λ (a : Accumulator). element_places (element_of a.update)) f.accs (all_right (ColumnFits f db) places_of_atoms places_of_accs (all_right (ColumnFits f db) (key_places 0 f.lists) (places_of_atoms ++ places_of_accs) h))

  parts_are : length entry.known ≡ f.known → AreOf f.entries entry.values → rest_fits f db entry ≡ true → PartsFit f db entry
  parts_are many typed t =
      let behind = right_true (list_all (table_is_there db) f.lists) (list_all (test_fits f db entry) f.atoms && (list_all (λ (x : Accumulator). update_fits f db x.update) f.accs && list_all (place_fits f db) (named_places f))) t in
      let last = right_true (list_all (test_fits f db entry) f.atoms) (list_all (λ (x : Accumulator). update_fits f db x.update) f.accs && list_all (place_fits f db) (named_places f)) behind in
      let columns : Columns (named_places f) =
      all_of_test (place_fits f db) (ColumnFits f db) (λ p e. column_is p.1 (table_at db (slice_get f.lists p.0)) e) (named_places f) (right_true (list_all (λ (x : Accumulator). update_fits f db x.update) f.accs) (list_all (place_fits f db) (named_places f)) last) in
      record {
        tables = all_of_test (table_is_there db) (λ (x : ListDef). x.table < length db) (λ x e. there db x.table e) f.lists (left_true (list_all (table_is_there db) f.lists) (list_all (test_fits f db entry) f.atoms && (list_all (λ (x : Accumulator). update_fits f db x.update) f.accs && list_all (place_fits f db) (named_places f))) t);
        columns = columns;
        tests =
            all_two (λ x. Columns (atom_places x)) (λ x. test_fits f db entry x ≡ true) (AtomFits here) one_row_is_enough f.atoms (atoms_named columns)
            (all_of_test (test_fits f db entry) (λ x. test_fits f db entry x ≡ true) (λ x e. e) f.atoms (left_true (list_all (test_fits f db entry) f.atoms) (list_all (λ (x : Accumulator). update_fits f db x.update) f.accs && list_all (place_fits f db) (named_places f)) behind));
        numbers =
            all_two (λ (x : Accumulator). Columns (element_places (element_of x.update))) (λ (x : Accumulator). update_fits f db x.update ≡ true) (λ (x : Accumulator). UpdateFits here x.update) (λ x. update_is x.update) f.accs (accs_named columns)
            (all_of_test (λ (x : Accumulator). update_fits f db x.update) (λ (x : Accumulator). update_fits f db x.update ≡ true) (λ x e. e) f.accs (left_true (list_all (λ (x : Accumulator). update_fits f db x.update) f.accs) (list_all (place_fits f db) (named_places f)) last));
        known = many;
        values = typed;
      }

  parts_seen : PartsFit f db entry → rest_fits f db entry ≡ true
  parts_seen p =
      both (list_all (table_is_there db) f.lists) (list_all (test_fits f db entry) f.atoms && (list_all (λ (x : Accumulator). update_fits f db x.update) f.accs && list_all (place_fits f db) (named_places f)))
      (test_of_all (table_is_there db) (λ (x : ListDef). x.table < length db) (λ x l. found db x.table l) f.lists p.tables)
      (both (list_all (test_fits f db entry) f.atoms) (list_all (λ (x : Accumulator). update_fits f db x.update) f.accs && list_all (place_fits f db) (named_places f))
      (test_of_all (test_fits f db entry) (λ x. test_fits f db entry x ≡ true) (λ x e. e) f.atoms (all_two (λ x. Columns (atom_places x)) (AtomFits here) (λ x. test_fits f db entry x ≡ true) first_row_fits f.atoms (atoms_named p.columns) p.tests))
      (both (list_all (λ (x : Accumulator). update_fits f db x.update) f.accs) (list_all (place_fits f db) (named_places f))
      (test_of_all (λ (x : Accumulator). update_fits f db x.update) (λ (x : Accumulator). update_fits f db x.update ≡ true) (λ x e. e) f.accs
      (all_two (λ (x : Accumulator). Columns (element_places (element_of x.update))) (λ (x : Accumulator). UpdateFits here x.update) (λ (x : Accumulator). update_fits f db x.update ≡ true) (λ x. update_seen x.update) f.accs (accs_named p.columns) p.numbers))
      (test_of_all (place_fits f db) (ColumnFits f db) (λ q h. is_column_of q.1 (table_at db (slice_get f.lists q.0)) h) (named_places f) p.columns)))

  -- what is answered

  pub all_fit : (b : Bool) → length entry.known ≡ f.known → AreOf f.entries entry.values → b ≡ rest_fits f db entry → IsTrue b ↔ PartsFit f db entry
  all_fit b many typed e = (λ t. parts_are many typed (sym e ∙ t), λ p. e ∙ parts_seen p)
