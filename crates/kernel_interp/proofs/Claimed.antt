-- What postconditions say is what is taken at the rows that loops come to.
use Rattle.std.proofs.Common.{◌≡◌, ℕ, zero, suc, ℤ, pos, negsuc, ◌+ℤ◌, ◌<◌, Bool, IsTrue, true, false, cond, ◌||◌, ◌&&◌, List, [], ◌∷◌, ◌++◌, map, take, drop, length, Option, Some, None, nat_eq, nat_lt, nat_le, is_some, slice_get, refl, sym, ap, ap₂, ◌∙◌, subst, arith, eqb-true, eq-eqb, ◌+◌, ◌↔◌}
use mathlib.Core.Path.{fun_ext}
use Rattle.std.specs.Prelude.{IfOk}
use Rattle.std.specs.declared.result.Result.{Result}
use Rattle.std.specs.declared.result.Result.TheVariants.{Ok, Err}
use Rattle.qbs_base.specs.declared.memory.NoMemory.{NoMemory}
use Rattle.std.specs.List.{AllByRecursion, filter, flat_map, list_any, list_all}
use Rattle.std.proofs.lemmas.Bool.Decides.{nat_tests}
use Rattle.std.proofs.lemmas.Int.{ints}
use Rattle.std.proofs.lemmas.List.{take-append-drop}
use Rattle.qbs_base.specs.declared.scalar.Kind.{Kind}
use Rattle.qbs_base.specs.declared.scalar.Kind.TheVariants as kinds
use Rattle.qbs_base.specs.declared.scalar.Row.{Row}
use Rattle.qbs_base.specs.declared.scalar.Scalar.{Scalar}
use Rattle.qbs_base.specs.declared.scalar.Scalar.TheVariants as scalars
use Rattle.qbs_base.specs.declared.scalar.Ty.TheVariants as tys
use Rattle.qbs_base.specs.declared.scalar.Value.{Value}
use Rattle.qbs_base.specs.declared.scalar.Value.TheVariants as values
use Rattle.qbs_base.specs.Scalar.{scalar_same, same_cells}
use Rattle.qbs_base.specs.Values.{Database}
use Rattle.tor_terms.specs.declared.term.Atom.{Atom}
use Rattle.tor_terms.specs.declared.term.Atom.TheVariants as atoms
use Rattle.tor_terms.specs.declared.term.Elem.{Elem}
use Rattle.tor_terms.specs.declared.term.Elem.TheVariants as elems
use Rattle.tor_terms.specs.declared.term.Operand.{Operand}
use Rattle.tor_terms.specs.declared.term.Operand.TheVariants as operands
use Rattle.tor_terms.specs.declared.term.Way.{Way}
use Rattle.tor_terms.specs.Evaluation.{with_row as with_element, first_rows, sum_of, best_of, plus, then_number, number_of}
use Rattle.tor_terms.specs.Fits.{is_number, row_of}
use Rattle.tor_terms.specs.Plain.{Form, Is, Both, Either, Walk}
use Rattle.tor_terms.specs.Truth.{Datum, Element, World, rows_at, operand_at, known_atom_holds, holds, all_hold, has_loop, form_within}
use Rattle.tor_terms.specs.Value.{plain_row, only_number, number_in, elem_at, same_kind, same_row, first_ones, added, added_numbers, total, best, better, picked_number, not_empty, value}
use Rattle.tor_terms.specs.Worlds.{same_rows}
use Rattle.tor_terms.proofs.Scalars.{scalar_same-true, scalar_same-self}
use Rattle.kernel_lang.specs.declared.parts.Entry.{Entry}
use Rattle.kernel_lang.specs.declared.parts.Update.{Update}
use Rattle.kernel_lang.specs.declared.parts.Update.TheVariants as updates
use Rattle.kernel_lang.specs.Fitting.{PartsFit, UpdateFits, is_of}
use Rattle.kernel_lang.specs.Given.{world_given}
use Rattle.kernel_lang.specs.Plain.{Accumulator, Fragment}
use Rattle.kernel_lang.proofs.Sentences.{valid}
use Rattle.kernel_lang.specs.Pools.{Member, chosen, members_from, members}
use Rattle.kernel_lang.specs.Postcondition.{loops_of, nest_walks, body, val, start_term, whole, postcondition, flag_by_choice, with_choices, claimed, claims, all_claimed, postconditions}
use Rattle.kernel_lang.specs.Running.{Layer, layers, layers_of, with_row, placed, is_set, source_scalar, source_value, scalar_of}
use Rattle.kernel_lang.specs.Sentences.{AccumulatorIsValid, IsValid}
use Rattle.kernel_lang.specs.Validity.{broken, chain_is_valid, flags_are_flags, names_a_flag, element_of, element_within, guards_within, is_flag, is_mark, reads_its_chain, rises, start_is_valid, starts_rightly, takes_a_column}
use Rattle.kernel_interp.specs.Claiming.{any_visit, taken, element_for, claim_of, number_value, is_there, said, said_before, all_said, same_value, same_values}
use Rattle.kernel_interp.specs.Marking.{bound}
use Rattle.kernel_interp.specs.Members.{are_sound, flag_is_sound, names_a_member}
use Rattle.kernel_interp.proofs.Flagged.{left_true, right_true, mark_is, mark_start, same_list, placed_bound, test_at}
use Rattle.kernel_interp.proofs.Levels.{layers_at}
use Rattle.kernel_interp.proofs.Lists.{rows_back, inserted_row}
use Rattle.kernel_interp.proofs.Tupled.{Differ, differ, elements_are, some_chosen}

-- ---- the postcondition of a valid chain

loops_taken : (n : ℕ) (chain : List ℕ) (guards : List (Option Form)) → loops_of (take n (layers chain guards)) ≡ take n chain
loops_taken zero chain guards = refl
loops_taken (suc n) [] guards = refl
loops_taken (suc n) (j ∷ js) [] = ap (λ (is : List ℕ). j ∷ is) (loops_taken n js [])
loops_taken (suc n) (j ∷ js) (g ∷ gs) = ap (λ (is : List ℕ). j ∷ is) (loops_taken n js gs)

loops_all : (chain : List ℕ) (guards : List (Option Form)) → loops_of (layers chain guards) ≡ chain
loops_all [] guards = refl
loops_all (j ∷ js) [] = ap (λ (is : List ℕ). j ∷ is) (loops_all js [])
loops_all (j ∷ js) (g ∷ gs) = ap (λ (is : List ℕ). j ∷ is) (loops_all js gs)

loops_dropped : (n : ℕ) (chain : List ℕ) (guards : List (Option Form)) → loops_of (drop n (layers chain guards)) ≡ drop n chain
loops_dropped zero chain guards = loops_all chain guards
loops_dropped (suc n) [] guards = refl
loops_dropped (suc n) (j ∷ js) [] = loops_dropped n js []
loops_dropped (suc n) (j ∷ js) (g ∷ gs) = loops_dropped n js gs

some_at : (xs : List ℕ) (n : ℕ) → n < length xs → (x : ℕ) × (slice_get xs n ≡ Some x)
some_at [] n h = absurd (omega (arith, h))
some_at (x ∷ xs) zero h = (x, refl)
some_at (x ∷ xs) (suc n) h = some_at xs n (omega (arith, h))

drop_from : (xs : List ℕ) (n x : ℕ) → slice_get xs n ≡ Some x → drop n xs ≡ x ∷ drop (suc n) xs
drop_from [] n x e = absurd cc
drop_from (y ∷ xs) zero x e = let f : y ≡ x = cc in ap (λ (z : ℕ). z ∷ xs) f
drop_from (y ∷ xs) (suc n) x e = drop_from xs n x e

chain_parts : (a b c d : Bool) → (a && b && c && d) ≡ true → (b ≡ true) × (c ≡ true)
chain_parts true true true true h = (refl, refl)
chain_parts false b c d h = absurd cc
chain_parts true false c d h = absurd cc
chain_parts true true false d h = absurd cc
chain_parts true true true false h = absurd cc

pub record Shape (m : Member) : Type 0 where
  pub first : ℕ
  pub inner : List ℕ
  pub drops : drop m.0.base m.0.chain ≡ first ∷ inner
  pub differ : Differ (take m.0.base m.0.chain ++ first ∷ inner)
  pub post : postcondition m ≡ val m.0.update (start_term m.0.start) (body m.1 (take m.0.base m.0.chain) (Walk first) inner)

pub shape : (m : Member) → chain_is_valid m.0 ≡ true → Shape m
unfolding chain_is_valid
shape m h =
    record {
      first = at.0;
      inner = drop (suc m.0.base) m.0.chain;
      drops = drop_from m.0.chain m.0.base at.0 at.1;
      differ = subst Differ (sym (ap (λ (ls : List ℕ). take m.0.base m.0.chain ++ ls) (sym (drop_from m.0.chain m.0.base at.0 at.1)) ∙ take-append-drop m.0.base m.0.chain)) (differ m.0.chain parts.0);
      post =
          ap (λ (ys : List Layer). whole m.0.update m.1 (loops_of (take m.0.base (layers_of m.0))) (start_term m.0.start) ys) (layers_at m.0.chain m.0.guards m.0.base at.0 at.1)
          ∙ ap₂ (λ (outer ks : List ℕ). val m.0.update (start_term m.0.start) (body m.1 outer (Walk at.0) ks)) (loops_taken m.0.base m.0.chain m.0.guards) (loops_dropped (suc m.0.base) m.0.chain m.0.guards);
    }
  where
    parts : (rises m.0.chain ≡ true) × (nat_lt m.0.base (length m.0.chain) ≡ true)
    parts = chain_parts (nat_le (length m.0.chain) 3) (rises m.0.chain) (nat_lt m.0.base (length m.0.chain)) (nat_eq (length m.0.guards) (length m.0.chain)) h

    below : m.0.base < length m.0.chain
    below = grind (arith, nat_tests, parts.1)

    at : (x : ℕ) × (slice_get m.0.chain m.0.base ≡ Some x)
    at = some_at m.0.chain m.0.base below

-- ---- flags

-- the current rows are read by terms alone
module _ (w : World) (c : ℕ → Row) where
  abbrev there : World
  there = record w { current = c }

  same_operands : (rows : ℕ → Row) (a : Operand) → operand_at there rows a ≡ operand_at w rows a
  same_operands rows (operands.Field j k) = refl
  same_operands rows (operands.Entry k) = refl
  same_operands rows (operands.Lit x) = refl

  same_atom : (rows : ℕ → Row) (o : Option Atom) → known_atom_holds there rows o ≡ known_atom_holds w rows o
  same_atom rows None = refl
  same_atom rows (Some (atoms.Less a b)) = rw (same_operands rows a, same_operands rows b) refl
  same_atom rows (Some (atoms.Same a b)) = rw (same_operands rows a, same_operands rows b) refl
  same_atom rows (Some (atoms.Truth a)) = rw (same_operands rows a) refl
  same_atom rows (Some (atoms.Member a k)) = rw (same_operands rows a) refl
  same_atom rows (Some (atoms.Flag k loops)) = refl

  same_holds : (all : List Atom) (rows : ℕ → Row) (f : Form) → holds there all rows f ≡ holds w all rows f
  same_holds all rows (Is k s) = rw (same_atom rows (slice_get all k)) refl
  same_holds all rows (Both f g) = ap₂ (λ (a b : Bool). a && b) (same_holds all rows f) (same_holds all rows g)
  same_holds all rows (Either f g) = ap₂ (λ (a b : Bool). a || b) (same_holds all rows f) (same_holds all rows g)

  same_all : (all : List Atom) (rows : ℕ → Row) (fs : List Form) → all_hold there all rows fs ≡ all_hold w all rows fs
  same_all all rows [] = refl
  same_all all rows (f ∷ fs) = ap₂ (λ (a b : Bool). a && b) (same_holds all rows f) (same_all all rows fs)

  same_visits : (all : List Atom) (fs : List Form) (js : List ℕ) (rows : ℕ → Row) → any_visit there all fs js rows ≡ any_visit w all fs js rows
  same_visits all fs [] rows = same_all all rows fs
  same_visits all fs (j ∷ js) rows = ap (λ (p : Row → Bool). list_any p (w.lists j)) (fun_ext (λ r. same_visits all fs js (with_row rows j r)))

flag_visits : (f : Fragment) (w : World) (m : Member) (c : ℕ → Row) → chain_is_valid m.0 ≡ true → m.0.update ≡ updates.Mark → m.0.start ≡ Some (scalars.Bool false)
    → is_set (Some (value (record w { current = c }) f.atoms (postcondition m))) ≡ any_visit w f.atoms m.1 (drop m.0.base m.0.chain) c
flag_visits f w m c v u s =
    let k : Shape m = shape m v in
    ap (λ t. is_set (Some (value (record w { current = c }) f.atoms t))) (k.post ∙ ap₂ (λ (x : Update) (o : Option Scalar). val x (start_term o) (body m.1 (take m.0.base m.0.chain) (Walk k.first) k.inner)) u s)
    ∙ some_chosen (record w { current = c }) f.atoms m.1 (take m.0.base m.0.chain) k.first k.inner k.differ
    ∙ same_visits w c f.atoms m.1 (k.first ∷ k.inner) c
    ∙ ap (λ (js : List ℕ). any_visit w f.atoms m.1 js c) (sym k.drops)

-- the flag with this number, read at rows of its loops
pub flag_chosen : (f : Fragment) (w : World) (ms : List Member) (k : ℕ) (m : Member) (loops : List ℕ) (rows own : ℕ → Row) (b : Bool) → Some m ≡ slice_get ms k → flag_is_sound loops (slice_get ms k) ≡ true → are_sound f.atoms ms ≡ true
    → own ≡ (λ j. plain_row None) → b ≡ any_visit w f.atoms m.1 (drop m.0.base m.0.chain) (bound loops rows own) → b ≡ flag_by_choice f w (slice_get ms k) (map rows loops)
flag_chosen f w ms k m loops rows own b e i sound o h =
    let i' : is_flag loops (Some m.0) ≡ true = subst (λ (x : Option Member). flag_is_sound loops x ≡ true) (sym e) i in
    let valid : (chain_is_valid m.0 && starts_rightly m.0) ≡ true =
    test_at (λ (x : Member). chain_is_valid x.0 && starts_rightly x.0) ms k m (right_true (list_all (names_a_member ms) f.atoms) (list_all (λ (x : Member). chain_is_valid x.0 && starts_rightly x.0) ms) sound) (sym e) in
    let mark : m.0.update ≡ updates.Mark = mark_is m.0.update (left_true (is_mark m.0.update) (nat_lt 0 m.0.base) (left_true (is_mark m.0.update && nat_lt 0 m.0.base) _ i')) in
    let l : loops ≡ take m.0.base m.0.chain = same_list loops (take m.0.base m.0.chain) (right_true (is_mark m.0.update && nat_lt 0 m.0.base) _ i') in
    let start : m.0.start ≡ Some (scalars.Bool false) = mark_start m.0 mark (right_true (chain_is_valid m.0) (starts_rightly m.0) valid) in
    let p : placed (take m.0.base m.0.chain) (map rows loops) ≡ bound loops rows own = ap (λ (js : List ℕ). placed js (map rows loops)) (sym l) ∙ placed_bound loops rows ∙ ap (bound loops rows) (sym o) in
    h
    ∙ sym (flag_visits f w m (placed (take m.0.base m.0.chain) (map rows loops)) (left_true (chain_is_valid m.0) (starts_rightly m.0) valid) mark start ∙ ap (any_visit w f.atoms m.1 (drop m.0.base m.0.chain)) p)
    ∙ ap (λ (x : Option Member). flag_by_choice f w x (map rows loops)) e

pub flag_unknown : (f : Fragment) (w : World) (ms : List Member) (k : ℕ) (rows : List Row) → None ≡ slice_get ms k → false ≡ flag_by_choice f w (slice_get ms k) rows
flag_unknown f w ms k rows e = ap (λ (x : Option Member). flag_by_choice f w x rows) e

-- ---- elements that are numbers

abbrev Counts : Option ℤ → Bool → List Datum → Type 0
Counts None all xs = all ≡ false
Counts (Some n) all xs = (all ≡ true) × (xs ≡ only_number n)

sum_step : (m o : Option ℤ) (ys : List Datum) (all : Bool) (xs : List Datum) → Counts o all xs → Counts (plus m o) (is_some m && all) (added_numbers ys xs m (number_in xs))
sum_step None o ys all xs h = refl
sum_step (Some m) None ys all xs h = h
sum_step (Some m) (Some n) ys all xs h = (h.0, subst (λ zs. added_numbers ys zs (Some m) (number_in zs) ≡ only_number (m +ℤ n)) (sym h.1) refl)

sum_rows : (rows : List Row) → Counts (sum_of rows) (list_all is_number (map Element rows)) (total (map Element rows))
sum_rows [] = (refl, refl)
sum_rows (r ∷ rows) = sum_step (number_of r) (sum_of rows) (Element r ∷ []) (list_all is_number (map Element rows)) (total (map Element rows)) (sum_rows rows)

best_step : (way : Way) (n : ℤ) (m : Option ℤ) (rows : List Row) → ((k : ℤ) → Counts (best_of way k rows) (list_all is_number (map Element rows)) (best way (only_number k) (map Element rows)))
    → Counts (then_number m (λ k. best_of way (better way n k) rows)) (is_some m && list_all is_number (map Element rows)) (best way (picked_number way (only_number n) (Some n) m) (map Element rows))
best_step way n None rows h = refl
best_step way n (Some k) rows h = h (better way n k)

best_rows : (way : Way) (rows : List Row) (n : ℤ) → Counts (best_of way n rows) (list_all is_number (map Element rows)) (best way (only_number n) (map Element rows))
best_rows way [] n = (refl, refl)
best_rows way (r ∷ rows) n = best_step way n (number_of r) rows (best_rows way rows)

first_elements : (seen rows : List Row) → first_ones (map Element seen) (map Element rows) ≡ map Element (first_rows seen rows)
first_elements seen [] = refl
first_elements seen (r ∷ rows) = ap (λ (ys : List Datum). first_ones ys (map Element rows)) (inserted_row seen r) ∙ first_elements (with_element seen r) rows

-- what an update adds and compares is a number
abbrev AreNumbers : Update → List Row → Type 0
AreNumbers (updates.Plus e) rows = list_all is_number (map Element rows) ≡ true
AreNumbers (updates.Best way e) rows = list_all is_number (map Element rows) ≡ true
AreNumbers _ rows = Unit {0}

long_there : (o : Option Scalar) → is_of tys.Long o ≡ true → is_number (Element (plain_row o)) ≡ true
long_there (Some (scalars.Long n)) h = refl
long_there (Some (scalars.Bool b)) h = absurd cc
long_there (Some (scalars.Text t)) h = absurd cc
long_there None h = absurd cc

all_numbers : (xs ys : List Row) → list_all is_number (map Element xs) ≡ true → list_all is_number (map Element ys) ≡ true → list_all is_number (map Element (xs ++ ys)) ≡ true
all_numbers [] ys h g = g
all_numbers (x ∷ xs) ys h g = go (is_number (Element x)) h (λ k. all_numbers xs ys k g)
  where
    go : (b : Bool) → (b && list_all is_number (map Element xs)) ≡ true → (list_all is_number (map Element xs) ≡ true → list_all is_number (map Element (xs ++ ys)) ≡ true) → (b && list_all is_number (map Element (xs ++ ys))) ≡ true
    go true h k = k h
    go false h k = absurd cc

module _ (w : World) (tests : List Atom) (fs : List Form) (j c : ℕ) (longs : AllByRecursion (λ r. is_of tys.Long (slice_get r.cells c) ≡ true) (w.lists j)) where
  abbrev Inside : List ℕ → Type 0
  Inside js = (at : ℕ → Row) → (has_loop js j ≡ false → is_of tys.Long (slice_get (at j).cells c) ≡ true) → list_all is_number (map Element (taken w tests fs (elems.Field j c) js at)) ≡ true

  column_numbers : (js : List ℕ) (rows : ℕ → Row) → (has_loop js j ≡ false → is_of tys.Long (slice_get (rows j).cells c) ≡ true) → list_all is_number (map Element (taken w tests fs (elems.Field j c) js rows)) ≡ true
  column_numbers [] rows h = go (all_hold w tests rows fs) (long_there (slice_get (rows j).cells c) (h refl))
    where
      go : (b : Bool) → is_number (Element (plain_row (slice_get (rows j).cells c))) ≡ true → list_all is_number (map Element (cond b (elem_at rows (elems.Field j c) ∷ []) [])) ≡ true
      go true e = rw e refl
      go false e = refl
  column_numbers (i ∷ js) rows h = go (λ at k. column_numbers js at k) (nat_eq i j) refl h
    where
      own : (b : Bool) (r : Row) → nat_eq i j ≡ b → (b ≡ true → is_of tys.Long (slice_get r.cells c) ≡ true) → (b ≡ false → is_of tys.Long (slice_get (rows j).cells c) ≡ true) → is_of tys.Long (slice_get (cond b r (rows j)).cells c) ≡ true
      own true r e p q = p refl
      own false r e p q = q refl

      each : Inside js → (b : Bool) → nat_eq i j ≡ b → (has_loop js j ≡ false → b ≡ false → is_of tys.Long (slice_get (rows j).cells c) ≡ true) → (rs : List Row) → (b ≡ true → AllByRecursion (λ r. is_of tys.Long (slice_get r.cells c) ≡ true) rs)
          → list_all is_number (map Element (flat_map (λ r. taken w tests fs (elems.Field j c) js (with_row rows i r)) rs)) ≡ true
      each ih b e q [] p = refl
      each ih b e q (r ∷ rs) p =
          all_numbers (taken w tests fs (elems.Field j c) js (with_row rows i r)) (flat_map (λ s. taken w tests fs (elems.Field j c) js (with_row rows i s)) rs)
          (ih (with_row rows i r) (λ n. rw e (own b r e (λ t. (p t).0) (q n))))
          (each ih b e q rs (λ t. (p t).1))

      go : Inside js → (b : Bool) → nat_eq i j ≡ b → ((b || has_loop js j) ≡ false → is_of tys.Long (slice_get (rows j).cells c) ≡ true)
          → list_all is_number (map Element (flat_map (λ r. taken w tests fs (elems.Field j c) js (with_row rows i r)) (w.lists i))) ≡ true
      go ih true e q = each ih true e (λ n f. absurd cc) (w.lists i) (λ t. subst (λ n. AllByRecursion (λ r. is_of tys.Long (slice_get r.cells c) ≡ true) (w.lists n)) (sym (eqb-true i j e)) longs)
      go ih false e q = each ih false e (λ n f. q n) (w.lists i) (λ t. absurd cc)

all_true : {X : Type 0} (p : X → Bool) (xs : List X) → AllByRecursion (λ x. IsTrue (p x)) xs → AllByRecursion (λ x. p x ≡ true) xs
all_true p [] h = tt
all_true p (x ∷ xs) h = (h.0, all_true p xs h.1)

none_true : (b : Bool) → b ≡ true → b ≡ false → ⊥
none_true true e f = cc
none_true false e f = cc

are_numbers : (w v : World) (tests : List Atom) (fs : List Form) (chain : List ℕ) (u : Update) (rows : ℕ → Row) → v.lists ≡ w.lists → element_within chain (element_of u) ≡ true → takes_a_column u ≡ true → UpdateFits w u → AreNumbers u (taken v tests fs (element_for u) chain rows)
are_numbers w v tests fs chain (updates.Push e) rows same within column h = tt
are_numbers w v tests fs chain (updates.PushNew e) rows same within column h = tt
are_numbers w v tests fs chain updates.Tick rows same within column h = tt
are_numbers w v tests fs chain (updates.Plus (elems.Whole j)) rows same within column h = absurd cc
are_numbers w v tests fs chain (updates.Plus (elems.Field j c)) rows same within column h =
    column_numbers v tests fs j c (subst (λ (lists : ℕ → List Row). AllByRecursion (λ r. is_of tys.Long (slice_get r.cells c) ≡ true) (lists j)) (sym same) (all_true (λ r. is_of tys.Long (slice_get r.cells c)) (w.lists j) h)) chain rows (λ n. absurd (none_true (has_loop chain j) within n))
are_numbers w v tests fs chain (updates.Best way (elems.Whole j)) rows same within column h = absurd cc
are_numbers w v tests fs chain (updates.Best way (elems.Field j c)) rows same within column h =
    column_numbers v tests fs j c (subst (λ (lists : ℕ → List Row). AllByRecursion (λ r. is_of tys.Long (slice_get r.cells c) ≡ true) (lists j)) (sym same) (all_true (λ r. is_of tys.Long (slice_get r.cells c)) (w.lists j) h)) chain rows (λ n. absurd (none_true (has_loop chain j) within n))
are_numbers w v tests fs chain updates.Mark rows same within column h = tt

-- an atom names a flag that is there, where it names one
pub named_at : (tests : List Atom) (ms : List Member) (k : ℕ) (a : Atom) → are_sound tests ms ≡ true → slice_get tests k ≡ Some a → names_a_member ms a ≡ true
named_at tests ms k a sound e = test_at (names_a_member ms) tests k a (left_true (list_all (names_a_member ms) tests) (list_all (λ (m : Member). chain_is_valid m.0 && starts_rightly m.0) ms) sound) e

-- ---- what is made of elements

as_long : {X Y : Type 0} (f : X → Y) (xs : List X) → length (map f xs) ≡ length xs
as_long f [] = refl
as_long f (x ∷ xs) = ap suc (as_long f xs)

module _ (v : World) (tests : List Atom) (fs : List Form) (l : ℕ) (inner : List ℕ) (d : Differ (l ∷ inner)) where
  abbrev tuples : List Datum
  tuples = filter (λ x. all_hold v tests (rows_at v.current x) fs) (value v tests (nest_walks (Walk l) inner))

  abbrev elements : Elem → List Datum
  elements e = map (λ x. Element (elem_at (rows_at v.current x) e)) tuples

  abbrev took : Elem → List Row
  took e = taken v tests fs e (l ∷ inner) v.current

  same_elements : (e : Elem) → elements e ≡ map Element (took e)
  same_elements e = elements_are v tests fs e [] l inner d

  same_length : (e : Elem) → length tuples ≡ length (took e)
  same_length e = sym (as_long (λ x. Element (elem_at (rows_at v.current x) e)) tuples) ∙ ap length (same_elements e) ∙ as_long Element (took e)

  there_elements : (f : Datum → Datum) (xs : List Datum) → not_empty xs ≡ not_empty (map f xs)
  there_elements f [] = refl
  there_elements f (x ∷ xs) = refl

  there_rows : (rows : List Row) → not_empty (map Element rows) ≡ is_there rows
  there_rows [] = refl
  there_rows (r ∷ rows) = refl

  same_there : (e : Elem) → not_empty tuples ≡ is_there (took e)
  same_there e = there_elements (λ x. Element (elem_at (rows_at v.current x) e)) tuples ∙ ap not_empty (same_elements e) ∙ there_rows (took e)

  kept_number : (opposite : Bool) (n : ℤ) → source_scalar opposite (scalars.Long n) ≡ scalars.Long n
  kept_number true n = refl
  kept_number false n = refl

  none_more : (n : ℤ) → (pos 0 +ℤ n) ≡ n
  none_more n = omega (arith, ints)

  number_is : (opposite : Bool) (xs : List Datum) (n : ℤ) → xs ≡ only_number n → values.One (source_scalar opposite (scalar_of xs)) ≡ number_value (Some n)
  number_is opposite xs n e = ap (λ (ys : List Datum). values.One (source_scalar opposite (scalar_of ys))) e ∙ ap (λ (x : Scalar). values.One x) (kept_number opposite n)

  sum_is : (opposite : Bool) (rows : List Row) (o : Option ℤ) → sum_of rows ≡ o → list_all is_number (map Element rows) ≡ true → values.One (source_scalar opposite (scalar_of (added (only_number (pos 0)) (total (map Element rows))))) ≡ number_value o
  sum_is opposite rows None e all = let c : Counts None (list_all is_number (map Element rows)) (total (map Element rows)) = subst (λ o. Counts o (list_all is_number (map Element rows)) (total (map Element rows))) e (sum_rows rows) in absurd (none_true (list_all is_number (map Element rows)) all c)
  sum_is opposite rows (Some n) e all =
      let c : Counts (Some n) (list_all is_number (map Element rows)) (total (map Element rows)) = subst (λ o. Counts o (list_all is_number (map Element rows)) (total (map Element rows))) e (sum_rows rows) in
      number_is opposite (added (only_number (pos 0)) (total (map Element rows))) n (ap (added (only_number (pos 0))) c.1 ∙ ap only_number (none_more n))

  best_is : (opposite : Bool) (way : Way) (first : ℤ) (rows : List Row) (o : Option ℤ) → best_of way first rows ≡ o → list_all is_number (map Element rows) ≡ true → values.One (source_scalar opposite (scalar_of (best way (only_number first) (map Element rows)))) ≡ number_value o
  best_is opposite way first rows None e all = let c : Counts None (list_all is_number (map Element rows)) (best way (only_number first) (map Element rows)) = subst (λ o. Counts o (list_all is_number (map Element rows)) (best way (only_number first) (map Element rows))) e (best_rows way rows first) in absurd (none_true (list_all is_number (map Element rows)) all c)
  best_is opposite way first rows (Some n) e all =
      let c : Counts (Some n) (list_all is_number (map Element rows)) (best way (only_number first) (map Element rows)) = subst (λ o. Counts o (list_all is_number (map Element rows)) (best way (only_number first) (map Element rows))) e (best_rows way rows first) in
      number_is opposite (best way (only_number first) (map Element rows)) n c.1

  made : (u : Update) (start : Option Scalar) (opposite : Bool) → start_is_valid u start ≡ true → AreNumbers u (took (element_for u))
      → source_value u opposite (value v tests (val u (start_term start) (body fs [] (Walk l) inner))) ≡ claim_of u start opposite (took (element_for u))
  made (updates.Push e) None opposite s n = ap (λ (xs : List Datum). values.Many (map row_of xs)) (same_elements e) ∙ ap (λ (rows : List Row). values.Many rows) (rows_back (took e))
  made (updates.Push e) (Some x) opposite s n = absurd cc
  made (updates.PushNew e) None opposite s n =
      ap (λ (xs : List Datum). values.Many (map row_of (first_ones [] xs))) (same_elements e)
      ∙ ap (λ (xs : List Datum). values.Many (map row_of xs)) (first_elements [] (took e))
      ∙ ap (λ (rows : List Row). values.Many rows) (rows_back (first_rows [] (took e)))
  made (updates.PushNew e) (Some x) opposite s n = absurd cc
  made updates.Tick None opposite s n = absurd cc
  made updates.Tick (Some (scalars.Long (pos zero))) opposite s n =
      number_is opposite (added (only_number (pos 0)) (only_number (pos (length tuples)))) (pos (length (took (elems.Whole 0)))) (ap only_number (none_more (pos (length tuples))) ∙ ap (λ (k : ℕ). only_number (pos k)) (same_length (elems.Whole 0)))
  made updates.Tick (Some (scalars.Long (pos (suc k)))) opposite s n = absurd cc
  made updates.Tick (Some (scalars.Long (negsuc k))) opposite s n = absurd cc
  made updates.Tick (Some (scalars.Bool b)) opposite s n = absurd cc
  made updates.Tick (Some (scalars.Text t)) opposite s n = absurd cc
  made (updates.Plus e) None opposite s n = absurd cc
  made (updates.Plus e) (Some (scalars.Long (pos zero))) opposite s n =
      ap (λ (xs : List Datum). values.One (source_scalar opposite (scalar_of (added (only_number (pos 0)) (total xs))))) (same_elements e) ∙ sum_is opposite (took e) (sum_of (took e)) refl n
  made (updates.Plus e) (Some (scalars.Long (pos (suc k)))) opposite s n = absurd cc
  made (updates.Plus e) (Some (scalars.Long (negsuc k))) opposite s n = absurd cc
  made (updates.Plus e) (Some (scalars.Bool b)) opposite s n = absurd cc
  made (updates.Plus e) (Some (scalars.Text t)) opposite s n = absurd cc
  made (updates.Best way e) None opposite s n = absurd cc
  made (updates.Best way e) (Some (scalars.Long first)) opposite s n =
      ap (λ (xs : List Datum). values.One (source_scalar opposite (scalar_of (best way (only_number first) xs)))) (same_elements e) ∙ best_is opposite way first (took e) (best_of way first (took e)) refl n
  made (updates.Best way e) (Some (scalars.Bool b)) opposite s n = absurd cc
  made (updates.Best way e) (Some (scalars.Text t)) opposite s n = absurd cc
  made updates.Mark None opposite s n = absurd cc
  made updates.Mark (Some (scalars.Bool false)) opposite s n = ap (λ (b : Bool). values.One (source_scalar opposite (scalars.Bool b))) (same_there (elems.Whole 0))
  made updates.Mark (Some (scalars.Bool true)) opposite s n = absurd cc
  made updates.Mark (Some (scalars.Long k)) opposite s n = absurd cc
  made updates.Mark (Some (scalars.Text t)) opposite s n = absurd cc

within_of : (f : Fragment) (a : Accumulator) → reads_its_chain f.atoms a ≡ true → element_within a.chain (element_of a.update) ≡ true
unfolding reads_its_chain
within_of f a e = right_true (guards_within f.atoms a.chain 1 a.guards && list_all (form_within f.atoms a.chain) a.pool) (element_within a.chain (element_of a.update)) e

starts_of : (a : Accumulator) → starts_rightly a ≡ true → (start_is_valid a.update a.start ≡ true) × (takes_a_column a.update ≡ true)
unfolding starts_rightly
starts_of a e = (left_true (start_is_valid a.update a.start) (takes_a_column a.update) e, right_true (start_is_valid a.update a.start) (takes_a_column a.update) e)

-- what the postcondition of an accumulator with base 0 says
pub claim_said : (f : Fragment) (w : World) (ms : List Member) (m : Member) → AccumulatorIsValid f m.0 → m.0.base ≡ 0 → UpdateFits w m.0.update → w.current ≡ (λ j. plain_row None) → claimed f ms w m ≡ said f.atoms (with_choices f ms w) m
claim_said f w ms m v b fits c =
    let k : Shape m = shape m v.chain in
    let chain : m.0.chain ≡ k.first ∷ k.inner = ap (λ (n : ℕ). drop n m.0.chain) (sym b) ∙ k.drops in
    let d : Differ (k.first ∷ k.inner) = subst (λ (n : ℕ). Differ (take n m.0.chain ++ k.first ∷ k.inner)) b k.differ in
    let s = starts_of m.0 v.start in
    let numbers : AreNumbers m.0.update (taken (with_choices f ms w) f.atoms m.1 (element_for m.0.update) (k.first ∷ k.inner) w.current) =
    are_numbers w (with_choices f ms w) f.atoms m.1 (k.first ∷ k.inner) m.0.update w.current refl (subst (λ (ls : List ℕ). element_within ls (element_of m.0.update) ≡ true) chain (within_of f m.0 v.loops)) s.1 fits in
    ap (λ t. source_value m.0.update m.0.opposite (value (with_choices f ms w) f.atoms t)) (k.post ∙ ap (λ (n : ℕ). val m.0.update (start_term m.0.start) (body m.1 (take n m.0.chain) (Walk k.first) k.inner)) b)
    ∙ made (with_choices f ms w) f.atoms m.1 k.first k.inner d m.0.update m.0.start m.0.opposite s.0 numbers
    ∙ ap₂ (λ (ls : List ℕ) (rows : ℕ → Row). claim_of m.0.update m.0.start m.0.opposite (taken (with_choices f ms w) f.atoms m.1 (element_for m.0.update) ls rows)) (sym chain) c

-- of all of them
all_by_base : (f : Fragment) (w : World) (ms : List Member) (m : Member) (n : ℕ) (xs ys : List Value) → m.0.base ≡ n → AccumulatorIsValid f m.0 → UpdateFits w m.0.update → w.current ≡ (λ j. plain_row None) → xs ≡ ys → claims f ms w n m xs ≡ said_before f.atoms (with_choices f ms w) n m ys
all_by_base f w ms m zero xs ys b v h c e = ap₂ (λ (x : Value) (zs : List Value). x ∷ zs) (claim_said f w ms m v b h c) e
all_by_base f w ms m (suc n) xs ys b v h c e = e

claims_are : (f : Fragment) (w : World) (ms : List Member) (cand : List ℕ) (n : ℕ) (accs : List Accumulator) → AllByRecursion (AccumulatorIsValid f) accs → AllByRecursion (λ a. UpdateFits w a.update) accs → w.current ≡ (λ j. plain_row None)
    → all_claimed f ms w (members_from cand n accs) ≡ all_said f.atoms (with_choices f ms w) (members_from cand n accs)
claims_are f w ms cand n [] v h c = refl
claims_are f w ms cand n (a ∷ rest) v h c =
    all_by_base f w ms (a, chosen cand n a.pool) a.base (all_claimed f ms w (members_from cand (n + length a.pool) rest)) (all_said f.atoms (with_choices f ms w) (members_from cand (n + length a.pool) rest)) refl v.0 h.0 c
    (claims_are f w ms cand (n + length a.pool) rest v.1 h.1 c)

pub postconditions_are : (f : Fragment) (cand : List ℕ) (db : Database) (entry : Entry) → broken f ≡ None → PartsFit f db entry
    → postconditions f cand db entry ≡ all_said f.atoms (with_choices f (members f cand) (world_given f db entry)) (members f cand)
postconditions_are f cand db entry e fit = let v : IsValid f = valid f e in claims_are f (world_given f db entry) (members f cand) cand 0 f.accs v.accs fit.numbers refl

-- ---- members of a valid fragment

member_there : (cand : List ℕ) (n : ℕ) (accs : List Accumulator) (k : ℕ) (loops : List ℕ) → is_flag loops (slice_get accs k) ≡ flag_is_sound loops (slice_get (members_from cand n accs) k)
member_there cand n [] k loops = refl
member_there cand n (a ∷ rest) zero loops = refl
member_there cand n (a ∷ rest) (suc k) loops = member_there cand (n + length a.pool) rest k loops

named_there : (f : Fragment) (cand : List ℕ) (tests : List Atom) → list_all (names_a_flag f) tests ≡ true → list_all (names_a_member (members f cand)) tests ≡ true
named_there f cand [] h = refl
named_there f cand (a ∷ rest) h = and_both (names_a_member (members f cand) a) (list_all (names_a_member (members f cand)) rest) (one a (left_true (names_a_flag f a) (list_all (names_a_flag f) rest) h)) (named_there f cand rest (right_true (names_a_flag f a) (list_all (names_a_flag f) rest) h))
  where
    and_both : (a b : Bool) → a ≡ true → b ≡ true → (a && b) ≡ true
    and_both true b e g = g
    and_both false b e g = absurd cc

    one : (a : Atom) → names_a_flag f a ≡ true → names_a_member (members f cand) a ≡ true
    one (atoms.Flag k loops) e = sym (member_there cand 0 f.accs k loops) ∙ e
    one (atoms.Less a b) e = refl
    one (atoms.Same a b) e = refl
    one (atoms.Truth a) e = refl
    one (atoms.Member a k) e = refl

members_valid : (f : Fragment) (cand : List ℕ) (n : ℕ) (accs : List Accumulator) → AllByRecursion (AccumulatorIsValid f) accs → list_all (λ (m : Member). chain_is_valid m.0 && starts_rightly m.0) (members_from cand n accs) ≡ true
members_valid f cand n [] v = refl
members_valid f cand n (a ∷ rest) v = rw (v.0.chain, v.0.start) (members_valid f cand (n + length a.pool) rest v.1)

pub members_sound : (f : Fragment) (cand : List ℕ) → broken f ≡ None → are_sound f.atoms (members f cand) ≡ true
unfolding flags_are_flags
members_sound f cand e = let v : IsValid f = valid f e in rw (named_there f cand f.atoms v.flags) (members_valid f cand 0 f.accs v.accs)

-- ---- values that are the same

same_cells_true : (xs ys : List Scalar) → same_cells xs ys ≡ true → xs ≡ ys
same_cells_true [] [] h = refl
same_cells_true [] (y ∷ ys) h = absurd cc
same_cells_true (x ∷ xs) [] h = absurd cc
same_cells_true (x ∷ xs) (y ∷ ys) h = ap₂ (λ (z : Scalar) (zs : List Scalar). z ∷ zs) (scalar_same-true x y (left_true (scalar_same x y) (same_cells xs ys) h)) (same_cells_true xs ys (right_true (scalar_same x y) (same_cells xs ys) h))

same_kind_true : (k l : Kind) → same_kind k l ≡ true → k ≡ l
same_kind_true kinds.Plain kinds.Plain h = refl
same_kind_true (kinds.Table m) (kinds.Table n) h = ap kinds.Table (eqb-true m n h)
same_kind_true kinds.Plain (kinds.Table n) h = absurd cc
same_kind_true (kinds.Table m) kinds.Plain h = absurd cc

same_row_true : (r s : Row) → same_row r s ≡ true → r ≡ s
same_row_true r s h = ap₂ (λ (k : Kind) (xs : List Scalar). record { kind = k; cells = xs }) (same_kind_true r.kind s.kind (left_true (same_kind r.kind s.kind) (same_cells r.cells s.cells) h)) (same_cells_true r.cells s.cells (right_true (same_kind r.kind s.kind) (same_cells r.cells s.cells) h))

same_rows_true : (rs ss : List Row) → same_rows rs ss ≡ true → rs ≡ ss
same_rows_true [] [] h = refl
same_rows_true [] (s ∷ ss) h = absurd cc
same_rows_true (r ∷ rs) [] h = absurd cc
same_rows_true (r ∷ rs) (s ∷ ss) h = ap₂ (λ (q : Row) (qs : List Row). q ∷ qs) (same_row_true r s (left_true (same_row r s) (same_rows rs ss) h)) (same_rows_true rs ss (right_true (same_row r s) (same_rows rs ss) h))

same_value_true : (v u : Value) → same_value v u ≡ true → v ≡ u
same_value_true (values.One x) (values.One y) h = ap values.One (scalar_same-true x y h)
same_value_true (values.Whole r) (values.Whole s) h = ap values.Whole (same_row_true r s h)
same_value_true (values.Many rs) (values.Many ss) h = ap values.Many (same_rows_true rs ss h)
same_value_true (values.One x) (values.Whole s) h = absurd cc
same_value_true (values.One x) (values.Many ss) h = absurd cc
same_value_true (values.Whole r) (values.One y) h = absurd cc
same_value_true (values.Whole r) (values.Many ss) h = absurd cc
same_value_true (values.Many rs) (values.One y) h = absurd cc
same_value_true (values.Many rs) (values.Whole s) h = absurd cc

pub same_values_true : (vs us : List Value) → same_values vs us ≡ true → vs ≡ us
same_values_true [] [] h = refl
same_values_true [] (u ∷ us) h = absurd cc
same_values_true (v ∷ vs) [] h = absurd cc
same_values_true (v ∷ vs) (u ∷ us) h = ap₂ (λ (x : Value) (xs : List Value). x ∷ xs) (same_value_true v u (left_true (same_value v u) (same_values vs us) h)) (same_values_true vs us (right_true (same_value v u) (same_values vs us) h))

cells_self : (xs : List Scalar) → same_cells xs xs ≡ true
cells_self [] = refl
cells_self (x ∷ xs) = rw (scalar_same-self x) (cells_self xs)

kind_self : (k : Kind) → same_kind k k ≡ true
kind_self kinds.Plain = refl
kind_self (kinds.Table n) = eq-eqb n n refl

row_self : (r : Row) → same_row r r ≡ true
row_self r = rw (kind_self r.kind) (cells_self r.cells)

rows_self : (rs : List Row) → same_rows rs rs ≡ true
rows_self [] = refl
rows_self (r ∷ rs) = rw (row_self r) (rows_self rs)

value_self : (v : Value) → same_value v v ≡ true
value_self (values.One x) = scalar_same-self x
value_self (values.Whole r) = row_self r
value_self (values.Many rs) = rows_self rs

pub values_self : (vs : List Value) → same_values vs vs ≡ true
values_self [] = refl
values_self (v ∷ vs) = rw (value_self v) (values_self vs)

-- whether values are those that the postconditions say
pub said_exactly : (f : Fragment) (cand : List ℕ) (db : Database) (entry : Entry) (ends : List Value) (b : Bool) → broken f ≡ None → PartsFit f db entry
    → b ≡ same_values ends (all_said f.atoms (with_choices f (members f cand) (world_given f db entry)) (members f cand)) → IsTrue b ↔ (ends ≡ postconditions f cand db entry)
said_exactly f cand db entry ends b e fit h =
    let p = postconditions_are f cand db entry e fit in
    (λ t. same_values_true ends _ (sym h ∙ t) ∙ sym p, λ t. h ∙ ap (same_values ends) (sym (t ∙ p)) ∙ values_self ends)

-- and what a call answers
pub said_result : (f : Fragment) (cand : List ℕ) (db : Database) (entry : Entry) (ends own : List Value) (ms : List Member) (w : World) (r : Result Bool NoMemory) → broken f ≡ None → PartsFit f db entry
    → own ≡ ends → ms ≡ members f cand → w ≡ world_given f db entry → IfOk r (λ b. b ≡ same_values own (all_said f.atoms (with_choices f ms w) ms)) → IfOk r (λ b. IsTrue b ↔ (ends ≡ postconditions f cand db entry))
said_result f cand db entry ends own ms w (Ok b) e fit o m v h =
    said_exactly f cand db entry ends b e fit
    (h ∙ ap (λ (vs : List Value). same_values vs (all_said f.atoms (with_choices f ms w) ms)) o
    ∙ ap (λ (ns : List Member). same_values ends (all_said f.atoms (with_choices f ns w) ns)) m
    ∙ ap (λ (x : World). same_values ends (all_said f.atoms (with_choices f (members f cand) x) (members f cand))) v)
said_result f cand db entry ends own ms w (Err x) e fit o m v h = tt
