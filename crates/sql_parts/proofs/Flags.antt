-- Flags: a condition on an inner SELECT is the flag's truth at the outer rows. And so what a WHERE asks is
-- what the formulas ask.
use Rattle.std.proofs.Common.{◌≡◌, ℕ, zero, suc, ◌<◌, Bool, true, false, cond, ◌&&◌, ◌||◌, List, [], ◌∷◌, ◌++◌, map, drop, length, slice_get, refl, ap, ap₂, subst, arith, nat_eq, nat_lt}
use Rattle.std.specs.List.{AllByRecursion, list_all}
use Rattle.std.specs.Prelude.{◌^◌}
use Rattle.std.specs.declared.option.Option.{Option}
use Rattle.std.specs.declared.option.Option.TheVariants.{Some, None}
use Rattle.qbs_base.specs.declared.scalar.Row.{Row}
use Rattle.qbs_base.specs.declared.scalar.Scalar.{Scalar}
use Rattle.qbs_base.specs.declared.scalar.Scalar.TheVariants as scalars
use Rattle.qbs_base.specs.Folded.{is_some}
use Rattle.qbs_base.specs.Values.{Schema}
use Rattle.tor_terms.specs.declared.term.Atom.{Atom}
use Rattle.tor_terms.specs.Plain.{Form, Walk, Lit}
use Rattle.tor_terms.specs.Same.{same_numbers}
use Rattle.tor_terms.specs.Truth.{Datum, Tuple, World, row_at, has_loop, has_loops}
use Rattle.tor_terms.specs.Value.{here, not_empty, value}
use Rattle.kernel_lang.specs.declared.parts.ListDef.{ListDef}
use Rattle.kernel_lang.specs.declared.parts.Update.{Update}
use Rattle.kernel_lang.specs.declared.parts.Update.TheVariants as updates
use Rattle.kernel_lang.specs.Plain.{Accumulator, Fragment}
use Rattle.kernel_lang.specs.Postcondition.{loops_of, body, whole}
use Rattle.kernel_lang.specs.Running.{Layer, placed, is_set}
use Rattle.kernel_lang.specs.Sentences.{AccumulatorIsValid, IsValid}
use Rattle.kernel_lang.specs.Typed.{atom_is_typed, members_agree, update_is_typed, place_is_there, is_typed}
use Rattle.kernel_lang.specs.Fitting.{named_places}
use Rattle.kernel_lang.specs.Validity.{is_mark, is_flag, names_a_flag, flags_are_flags, start_is_valid, takes_a_column, starts_rightly, limits_are_valid, limit_is_valid, rises, rises_after}
use Rattle.kernel_lang.proofs.Listing.{and_left, and_right}
use Rattle.sql_parts.specs.Scopes.{Ground, numbered, number_in, def_of, list_of}
use Rattle.sql_parts.proofs.Tools.{eq_true, lt_of}

-- ---- what is typed

abbrev tests_typed : Schema → Fragment → Bool
tests_typed schema f = list_all (atom_is_typed schema f) f.atoms

pub typed_tests : (schema : Schema) (f : Fragment) → is_typed schema f ≡ true → tests_typed schema f ≡ true
typed_tests schema f h =
    let three = and_left
    (list_all (λ d. nat_lt d.table (length schema)) f.lists && list_all (place_is_there schema f) (named_places f) && tests_typed schema f)
    (list_all (λ a. list_all (members_agree schema f a) f.atoms) f.atoms)
    (and_left (list_all (λ d. nat_lt d.table (length schema)) f.lists && list_all (place_is_there schema f) (named_places f) && tests_typed schema f && list_all (λ a. list_all (members_agree schema f a) f.atoms) f.atoms)
    (list_all (λ a. update_is_typed schema f a.update) f.accs) h) in
    and_right (list_all (λ d. nat_lt d.table (length schema)) f.lists && list_all (place_is_there schema f) (named_places f)) (tests_typed schema f) three

-- ---- flags that are read

pub some_flag : (loops : List ℕ) (o : Option Accumulator) → is_flag loops o ≡ true → (a : Accumulator) × (o ≡ Some a)
some_flag loops None e = absurd cc
some_flag loops (Some a) e = (a, refl)

pub mark_of : (u : Update) → is_mark u ≡ true → u ≡ updates.Mark
mark_of (updates.Push e) h = absurd cc
mark_of (updates.PushNew e) h = absurd cc
mark_of updates.Tick h = absurd cc
mark_of (updates.Plus e) h = absurd cc
mark_of (updates.Best way e) h = absurd cc
mark_of updates.Mark h = refl

pub same_numbers-true : (js ks : List ℕ) → same_numbers js ks ≡ true → js ≡ ks
same_numbers-true [] [] h = refl
same_numbers-true [] (k ∷ ks) h = absurd cc
same_numbers-true (j ∷ js) [] h = absurd cc
same_numbers-true (j ∷ js) (k ∷ ks) h = ap₂ (λ x xs. x ∷ xs) (eq_true j k (and_left (nat_eq j k) (same_numbers js ks) h)) (same_numbers-true js ks (and_right (nat_eq j k) (same_numbers js ks) h))

pub false_start : (start : Option Scalar) → start_is_valid updates.Mark start ≡ true → start ≡ Some (scalars.Bool false)
false_start None h = absurd cc
false_start (Some (scalars.Long n)) h = absurd cc
false_start (Some (scalars.Text t)) h = absurd cc
false_start (Some (scalars.Bool true)) h = absurd cc
false_start (Some (scalars.Bool false)) h = refl

pub start_valid : (f : Fragment) (a : Accumulator) → AccumulatorIsValid f a → start_is_valid a.update a.start ≡ true
unfolding starts_rightly
start_valid f a v = and_left (start_is_valid a.update a.start) (takes_a_column a.update) v.start

pub column_taken : (f : Fragment) (a : Accumulator) → AccumulatorIsValid f a → takes_a_column a.update ≡ true
unfolding starts_rightly
column_taken f a v = and_right (start_is_valid a.update a.start) (takes_a_column a.update) v.start

pub some_not_empty : (xs : List Datum) → not_empty xs ≡ is_some xs
some_not_empty [] = refl
some_not_empty (x ∷ xs) = refl

-- a mark that starts false is set where some tuple is chosen
pub marked : (w : World) (all : List Atom) (fs : List Form) (outer : List ℕ) (y : Layer) (ys : List Layer) → is_set (Some (value w all (whole updates.Mark fs outer (Lit (scalars.Bool false)) (y ∷ ys)))) ≡ not_empty (value w all (body fs outer (Walk y.over) (loops_of ys)))
marked w all fs outer y ys = refl

-- rows that are placed, by their loops
pub placed_at : (rows : ℕ → Row) (js : List ℕ) (j : ℕ) → has_loop js j ≡ true → placed js (map rows js) j ≡ rows j
placed_at rows [] j h = absurd cc
placed_at rows (k ∷ js) j h = go (nat_eq k j) refl h (placed_at rows js j)
  where
    go : (b : Bool) → nat_eq k j ≡ b → (b || has_loop js j) ≡ true → (has_loop js j ≡ true → placed js (map rows js) j ≡ rows j) → cond b (rows k) (placed js (map rows js) j) ≡ rows j
    go true e h later = ap rows (eq_true k j e)
    go false e h later = later h

-- the current rows of loops, first in a tuple
pub here_at : (w : World) (js : List ℕ) (t : Tuple) (j : ℕ) → has_loop js j ≡ true → row_at w.current (here w js ++ t) j ≡ w.current j
here_at w [] t j h = absurd cc
here_at w (k ∷ js) t j h = go (nat_eq k j) refl h (here_at w js t j)
  where
    go : (b : Bool) → nat_eq k j ≡ b → (b || has_loop js j) ≡ true → (has_loop js j ≡ true → row_at w.current (here w js ++ t) j ≡ w.current j) → cond b (w.current k) (row_at w.current (here w js ++ t) j) ≡ w.current j
    go true e h later = ap w.current (eq_true k j e)
    go false e h later = later h

pub not_here : (w : World) (js : List ℕ) (t : Tuple) (j : ℕ) → has_loop js j ≡ false → row_at w.current (here w js ++ t) j ≡ row_at w.current t j
not_here w [] t j h = refl
not_here w (k ∷ js) t j h = go (nat_eq k j) h (not_here w js t j)
  where
    go : (b : Bool) → (b || has_loop js j) ≡ false → (has_loop js j ≡ false → row_at w.current (here w js ++ t) j ≡ row_at w.current t j) → cond b (w.current k) (row_at w.current (here w js ++ t) j) ≡ row_at w.current t j
    go true h later = absurd cc
    go false h later = later h

-- a loop that isn't among those in front
pub number_behind : (n : ℕ) (js : List ℕ) (others : List (ℕ × ℕ)) (j : ℕ) → has_loop js j ≡ false → number_in (numbered n js ++ others) j ≡ number_in others j
number_behind n [] others j h = refl
number_behind n (k ∷ js) others j h = go (nat_eq k j) h (number_behind (suc n) js others j)
  where
    go : (b : Bool) → (b || has_loop js j) ≡ false → (has_loop js j ≡ false → number_in (numbered (suc n) js ++ others) j ≡ number_in others j) → cond b (suc n) (number_in (numbered (suc n) js ++ others) j) ≡ number_in others j
    go true h later = absurd cc
    go false h later = later h

-- the loops of a list of loops
pub in_loops : (js loops : List ℕ) → has_loops js loops ≡ true → (j : ℕ) → has_loop loops j ≡ true → has_loop js j ≡ true
in_loops js [] h j e = absurd cc
in_loops js (k ∷ loops) h j e = go (nat_eq k j) refl e (in_loops js loops (and_right (has_loop js k) (has_loops js loops) h) j)
  where
    go : (b : Bool) → nat_eq k j ≡ b → (b || has_loop loops j) ≡ true → (has_loop loops j ≡ true → has_loop js j ≡ true) → has_loop js j ≡ true
    go true is e later = subst (λ i. has_loop js i ≡ true) (eq_true k j is) (and_left (has_loop js k) (has_loops js loops) h)
    go false is e later = later e

pub bool_cases : (P : Type 0) (b : Bool) → (b ≡ true → P) → (b ≡ false → P) → P
bool_cases P true t f = t refl
bool_cases P false t f = f refl

-- more than one loop, and so no limit
pub unlimited_lists : (n : ℕ) (ds : List ListDef) → 1 < n → list_all (λ d. limit_is_valid n d.limit) ds ≡ true → AllByRecursion (λ d. d.limit ≡ None) ds
unlimited_lists n [] h e = tt
unlimited_lists n (d ∷ ds) h e = (go d.limit (and_left (limit_is_valid n d.limit) (list_all (λ d. limit_is_valid n d.limit) ds) e), unlimited_lists n ds h (and_right (limit_is_valid n d.limit) (list_all (λ d. limit_is_valid n d.limit) ds) e))
  where
    go : (o : Option ℕ) → limit_is_valid n o ≡ true → o ≡ None
    go None e = refl
    go (Some m) e = let one : n ≡ 1 = eq_true n 1 (and_right (nat_lt m (2 ^ 63)) (nat_eq n 1) e) in absurd (omega (arith, one, h))

no_limit_at : (ds : List ListDef) → AllByRecursion (λ d. d.limit ≡ None) ds → (j : ℕ) → (def_of (slice_get ds j)).limit ≡ None
no_limit_at [] h j = refl
no_limit_at (d ∷ ds) h zero = h.0
no_limit_at (d ∷ ds) h (suc j) = no_limit_at ds h.1 j

pub every_unlimited : (g : Ground) → AllByRecursion (λ d. d.limit ≡ None) g.lists → (js : List ℕ) → AllByRecursion (λ j. (list_of g j).limit ≡ None) js
every_unlimited g h [] = tt
every_unlimited g h (j ∷ js) = (no_limit_at g.lists h j, every_unlimited g h js)

-- a chain of two loops is in a fragment of two lists
pub second_below : (a b n : ℕ) → a < b → b < n → 1 < n
second_below a b n h k = omega (arith, h, k)

pub two_loops : (n : ℕ) (js : List ℕ) → nat_lt 0 n ≡ true → n < length js → 1 < length js
two_loops n js h k = let l : 0 < n = lt_of 0 n h in omega (arith, l, k)

pub two_lists : (js : List ℕ) (n : ℕ) → 1 < length js → rises js ≡ true → list_all (λ j. nat_lt j n) js ≡ true → 1 < n
two_lists [] n h r e = absurd (omega (arith, h))
two_lists (a ∷ []) n h r e = absurd (omega (arith, h))
two_lists (a ∷ b ∷ js) n h r e =
    second_below a b n (lt_of a b (and_left (nat_lt a b) (rises_after b js) r)) (lt_of b n (and_left (nat_lt b n) (list_all (λ j. nat_lt j n) js) (and_right (nat_lt a n) (nat_lt b n && list_all (λ j. nat_lt j n) js) e)))

pub limits_hold : (f : Fragment) → IsValid f → list_all (λ d. limit_is_valid (length f.lists) d.limit) f.lists ≡ true
unfolding limits_are_valid
limits_hold f v = v.limits

pub flags_named : (f : Fragment) → IsValid f → list_all (names_a_flag f) f.atoms ≡ true
unfolding flags_are_flags
flags_named f v = v.flags

pub all_drop : {X : Type 0} (test : X → Bool) (n : ℕ) (xs : List X) → list_all test xs ≡ true → list_all test (drop n xs) ≡ true
all_drop test zero xs h = h
all_drop test (suc n) [] h = refl
all_drop test (suc n) (x ∷ xs) h = all_drop test n xs (and_right (test x) (list_all test xs) h)

pub drop_some : {X : Type 0} (n : ℕ) (xs : List X) → n < length xs → 0 < length (drop n xs)
drop_some zero xs h = h
drop_some (suc n) [] h = absurd (omega (arith, h))
drop_some (suc n) (x ∷ xs) h = drop_some n xs (omega (arith, h))
