-- A flag's own run, as whether its loops come to its update.
use Rattle.std.proofs.Common.{◌≡◌, ℕ, zero, suc, Bool, true, false, if◌then◌else◌, ◌&&◌, ◌||◌, List, [], ◌∷◌, ◌++◌, map, take, Option, Some, None, nat_eq, nat_lt, slice_get, refl, sym, ap, ◌∙◌, subst, arith}
use mathlib.Core.Path.{fun_ext}
use Rattle.std.specs.List.{AllByRecursion, list_any, list_all}
use Rattle.std.proofs.lemmas.Bool.Decides.{nat_tests}
use Rattle.qbs_base.specs.declared.scalar.Row.{Row}
use Rattle.qbs_base.specs.declared.scalar.Scalar.{Scalar}
use Rattle.qbs_base.specs.declared.scalar.Scalar.TheVariants as scalars
use Rattle.tor_terms.specs.declared.term.Atom.{Atom}
use Rattle.tor_terms.specs.Same.{same_numbers}
use Rattle.tor_terms.specs.Truth.{Datum, World}
use Rattle.tor_terms.specs.Value.{plain_row, only_truth}
use Rattle.kernel_lang.specs.declared.parts.Update.{Update}
use Rattle.kernel_lang.specs.declared.parts.Update.TheVariants as updates
use Rattle.kernel_lang.specs.Plain.{Accumulator, Fragment}
use Rattle.kernel_lang.specs.Running.{Layer, inside, with_row, placed, passes, run, each_row, followed_by, started, is_set, flag_by_run}
use Rattle.kernel_lang.specs.Sentences.{AccumulatorIsValid, IsValid}
use Rattle.kernel_lang.specs.Validity.{is_flag, is_mark, is_false, starts_as, start_is_valid, takes_a_column, starts_rightly, names_a_flag, flags_are_flags}
use Rattle.kernel_interp.specs.Marking.{any_mark, bound}

-- the value of a flag, set where the test holds
abbrev marked : Bool → List Datum → List Datum
marked b v = if b then only_truth true else v

marked_twice : (a b : Bool) (v : List Datum) → marked b (marked a v) ≡ marked (a || b) v
marked_twice true true v = refl
marked_twice true false v = refl
marked_twice false b v = refl

mark_rows : (f : Row → List Datum → Option (List Datum)) (p : Row → Bool) → ((r : Row) (v : List Datum) → f r v ≡ Some (marked (p r) v)) → (rs : List Row) (v : List Datum) → each_row rs f v ≡ Some (marked (list_any p rs) v)
mark_rows f p h [] v = refl
mark_rows f p h (r ∷ rs) v =
    ap (λ (o : Option (List Datum)). followed_by o (each_row rs f)) (h r v)
    ∙ mark_rows f p h rs (marked (p r) v)
    ∙ ap (λ (x : List Datum). Some x) (marked_twice (p r) (list_any p rs) v)

where_passed : (b m : Bool) (o : Option (List Datum)) (v : List Datum) → o ≡ Some (marked m v) → (if b then o else Some v) ≡ Some (marked (b && m) v)
where_passed true m o v h = h
where_passed false m o v h = refl

pub mark_run : (w : World) (tests : List Atom) (ys : List Layer) (rows : ℕ → Row) (v : List Datum) → run w tests updates.Mark ys rows v ≡ Some (marked (any_mark w tests ys rows) v)
mark_run w tests [] rows v = refl
mark_run w tests (y ∷ ys) rows v =
    mark_rows
    (λ r x. if passes w tests (with_row rows y.over r) y.guard then run w tests updates.Mark ys (with_row rows y.over r) x else Some x)
    (λ r. passes w tests (with_row rows y.over r) y.guard && any_mark w tests ys (with_row rows y.over r))
    (λ r x. where_passed (passes w tests (with_row rows y.over r) y.guard) (any_mark w tests ys (with_row rows y.over r)) (run w tests updates.Mark ys (with_row rows y.over r) x) x (mark_run w tests ys (with_row rows y.over r) x))
    (w.lists y.over) v

set_where : (b : Bool) → is_set (Some (marked b (only_truth false))) ≡ b
set_where true = refl
set_where false = refl

set_by_marks : (w : World) (tests : List Atom) (u : Update) (ys : List Layer) (rows : ℕ → Row) (start : Option Scalar) → u ≡ updates.Mark → start ≡ Some (scalars.Bool false)
    → is_set (run w tests u ys rows (started start)) ≡ any_mark w tests ys rows
set_by_marks w tests u ys rows start e f =
    ap (λ (v : Update). is_set (run w tests v ys rows (started start))) e
    ∙ ap (λ (o : Option Scalar). is_set (run w tests updates.Mark ys rows (started o))) f
    ∙ ap is_set (mark_run w tests ys rows (only_truth false))
    ∙ set_where (any_mark w tests ys rows)

-- rows at loops

placed_at : (loops : List ℕ) (rows : ℕ → Row) (k : ℕ) → placed loops (map rows loops) k ≡ bound loops rows (λ j. plain_row None) k
placed_at [] rows k = refl
placed_at (j ∷ js) rows k = ap (λ (r : Row). if nat_eq j k then rows j else r) (placed_at js rows k)

pub placed_bound : (loops : List ℕ) (rows : ℕ → Row) → placed loops (map rows loops) ≡ bound loops rows (λ j. plain_row None)
placed_bound loops rows = fun_ext (placed_at loops rows)

pub bound_last : (front : List ℕ) (j : ℕ) (rows own : ℕ → Row) → bound (front ++ j ∷ []) rows own ≡ bound front rows (with_row own j (rows j))
bound_last [] j rows own = refl
bound_last (i ∷ is) j rows own = ap (λ (b : ℕ → Row). with_row b i (rows i)) (bound_last is j rows own)

-- what a flag is

pub left_true : (a b : Bool) → (a && b) ≡ true → a ≡ true
left_true true b e = refl
left_true false b e = cc

pub right_true : (a b : Bool) → (a && b) ≡ true → b ≡ true
right_true true b e = e
right_true false b e = cc

pub mark_is : (u : Update) → is_mark u ≡ true → u ≡ updates.Mark
mark_is updates.Mark e = refl
mark_is (updates.Push x) e = cc
mark_is (updates.PushNew x) e = cc
mark_is updates.Tick e = cc
mark_is (updates.Plus x) e = cc
mark_is (updates.Best way x) e = cc

false_is : (o : Option Scalar) → starts_as is_false o ≡ true → o ≡ Some (scalars.Bool false)
false_is None e = cc
false_is (Some (scalars.Bool false)) e = refl
false_is (Some (scalars.Bool true)) e = cc
false_is (Some (scalars.Long n)) e = cc
false_is (Some (scalars.Text t)) e = cc

pub mark_start : (a : Accumulator) → a.update ≡ updates.Mark → starts_rightly a ≡ true → a.start ≡ Some (scalars.Bool false)
unfolding starts_rightly
mark_start a m s =
    let e : start_is_valid a.update a.start ≡ true = left_true (start_is_valid a.update a.start) (takes_a_column a.update) s in
    false_is a.start (subst (λ (u : Update). start_is_valid u a.start ≡ true) m e)

pub same_list : (a b : List ℕ) → same_numbers a b ≡ true → a ≡ b
same_list [] [] e = refl
same_list [] (k ∷ b) e = cc
same_list (j ∷ a) [] e = cc
same_list (j ∷ a) (k ∷ b) e =
    let h : j ≡ k = grind (arith, nat_tests, left_true (nat_eq j k) (same_numbers a b) e) in
    let t : a ≡ b = same_list a b (right_true (nat_eq j k) (same_numbers a b) e) in
    cc

pub flag_by_marks : (w : World) (tests : List Atom) (a : Accumulator) (loops : List ℕ) (rows own : ℕ → Row) → is_flag loops (Some a) ≡ true → starts_rightly a ≡ true → own ≡ (λ j. plain_row None)
    → any_mark w tests (inside a) (bound loops rows own) ≡ flag_by_run w tests (Some a) (map rows loops)
flag_by_marks w tests a loops rows own f s o =
    let m : a.update ≡ updates.Mark = mark_is a.update (left_true (is_mark a.update) (nat_lt 0 a.base) (left_true (is_mark a.update && nat_lt 0 a.base) (same_numbers loops (take a.base a.chain)) f)) in
    let l : loops ≡ take a.base a.chain = same_list loops (take a.base a.chain) (right_true (is_mark a.update && nat_lt 0 a.base) (same_numbers loops (take a.base a.chain)) f) in
    let p : placed (take a.base a.chain) (map rows loops) ≡ bound loops rows own =
    ap (λ (js : List ℕ). placed js (map rows loops)) (sym l) ∙ placed_bound loops rows ∙ ap (bound loops rows) (sym o) in
    sym (set_by_marks w tests a.update (inside a) (placed (take a.base a.chain) (map rows loops)) a.start m (mark_start a m s) ∙ ap (any_mark w tests (inside a)) p)

-- members of lists of which something is so

pub one_of : {X : Type 0} (P : X → Type 0) (xs : List X) (k : ℕ) (x : X) → AllByRecursion P xs → slice_get xs k ≡ Some x → P x
one_of P [] k x a e = absurd cc
one_of P (y ∷ ys) zero x a e = let f : y ≡ x = cc in subst P f a.0
one_of P (y ∷ ys) (suc k) x a e = one_of P ys k x a.1 e

pub test_at : {X : Type 0} (p : X → Bool) (xs : List X) (k : ℕ) (x : X) → list_all p xs ≡ true → slice_get xs k ≡ Some x → p x ≡ true
test_at p [] k x a e = absurd cc
test_at p (y ∷ ys) zero x a e = let f : y ≡ x = cc in subst (λ z. p z ≡ true) f (left_true (p y) (list_all p ys) a)
test_at p (y ∷ ys) (suc k) x a e = test_at p ys k x (right_true (p y) (list_all p ys) a) e

-- an atom of a valid fragment names a flag, where it names one
pub names_at : (f : Fragment) (k : ℕ) (a : Atom) → IsValid f → slice_get f.atoms k ≡ Some a → names_a_flag f a ≡ true
unfolding flags_are_flags
names_at f k a v e = test_at (names_a_flag f) f.atoms k a v.flags e

-- the flag with this number, read at rows of its loops
pub flag_found : (w : World) (f : Fragment) (k : ℕ) (a : Accumulator) (loops : List ℕ) (rows own : ℕ → Row) (b : Bool) → Some a ≡ slice_get f.accs k → is_flag loops (slice_get f.accs k) ≡ true → IsValid f → own ≡ (λ j. plain_row None)
    → b ≡ any_mark w f.atoms (inside a) (bound loops rows own) → b ≡ flag_by_run w f.atoms (slice_get f.accs k) (map rows loops)
flag_found w f k a loops rows own b e i v o h =
    let s : AccumulatorIsValid f a = one_of (AccumulatorIsValid f) f.accs k a v.accs (sym e) in
    h ∙ flag_by_marks w f.atoms a loops rows own (subst (λ (x : Option Accumulator). is_flag loops x ≡ true) (sym e) i) s.start o ∙ ap (λ (x : Option Accumulator). flag_by_run w f.atoms x (map rows loops)) e

pub flag_missing : (w : World) (f : Fragment) (k : ℕ) (rows : List Row) → None ≡ slice_get f.accs k → false ≡ flag_by_run w f.atoms (slice_get f.accs k) rows
flag_missing w f k rows e = ap (λ (x : Option Accumulator). flag_by_run w f.atoms x rows) e
