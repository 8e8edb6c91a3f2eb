-- Where the parts of a valid fragment fit, each accumulator can be run.
use Rattle.std.proofs.Common.{◌≡◌, ℕ, zero, suc, true, ◌&&◌, IsTrue, is_some, List, [], ◌∷◌, map, length, Option, Some, None, nat_eq, slice_get, Bor, refl, sym, ap, ◌∙◌, subst, arith}
use mathlib.Core.Path.{fun_ext}
use Rattle.std.specs.List.{AllByRecursion, list_all}
use Rattle.std.proofs.lemmas.Bool.Decides.{nat_tests}
use Rattle.std.specs.declared.alloc.Global.{Global}
use Rattle.std.specs.declared.vec.Vec.{Vec}
use Rattle.qbs_base.specs.declared.scalar.Row.{Row}
use Rattle.qbs_base.specs.declared.scalar.Scalar.{Scalar}
use Rattle.qbs_base.specs.declared.scalar.Scalar.TheVariants as scalars
use Rattle.qbs_base.specs.declared.scalar.Ty.TheVariants as tys
use Rattle.qbs_base.specs.Values.{Database}
use Rattle.tor_terms.specs.declared.term.Elem.TheVariants as elems
use Rattle.tor_terms.specs.Evaluation.{number_of}
use Rattle.tor_terms.specs.Plain.{Form}
use Rattle.tor_terms.specs.Truth.{World, form_within}
use Rattle.tor_terms.specs.Value.{plain_row}
use Rattle.kernel_lang.specs.declared.parts.Entry.{Entry}
use Rattle.kernel_lang.specs.declared.parts.ListDef.{ListDef}
use Rattle.kernel_lang.specs.declared.parts.Update.{Update}
use Rattle.kernel_lang.specs.declared.parts.Update.TheVariants as updates
use Rattle.kernel_lang.specs.Fitting.{PartsFit, UpdateFits, is_of}
use Rattle.kernel_lang.specs.Given.{listed, list_at, world_given, world_over}
use Rattle.kernel_lang.specs.Plain.{Accumulator, Fragment}
use Rattle.kernel_lang.specs.Running.{Layer, layers, with_row}
use Rattle.kernel_lang.specs.Sentences.{AccumulatorIsValid, IsValid}
use Rattle.kernel_lang.specs.Validity.{broken, element_of, element_within, guards_within, loops_are_few, start_is_valid, takes_a_column, starts_rightly, reads_its_chain, suits_the_lists}
use Rattle.kernel_lang.proofs.Sentences.{valid}
use Rattle.kernel_interp.proofs.Flagged.{left_true, right_true}
use Rattle.kernel_interp.specs.Ends.{NumberFits, NumbersFit, IsReady}
use Rattle.kernel_interp.specs.Reading.{lists_seen, list_or_none}

all_of : {X : Type 0} (P : X → Type 0) → ((x : X) → P x) → (xs : List X) → AllByRecursion P xs
all_of P h [] = tt
all_of P h (x ∷ xs) = (h x, all_of P h xs)

all_from : {X : Type 0} (P Q : X → Type 0) → ((x : X) → P x → Q x) → (xs : List X) → AllByRecursion P xs → AllByRecursion Q xs
all_from P Q h [] a = tt
all_from P Q h (x ∷ xs) a = (h x a.0, all_from P Q h xs a.1)

-- an update that sums nothing
no_sum : (lists : ℕ → List Row) (u : Update) → ((rows : ℕ → Row) → NumberFits u rows) → (ys : List Layer) (rows : ℕ → Row) → NumbersFit lists u ys rows
no_sum lists u h [] rows = h rows
no_sum lists u h (y ∷ ys) rows = all_of (λ r. NumbersFit lists u ys (with_row rows y.over r)) (λ r. no_sum lists u h ys (with_row rows y.over r)) (lists y.over)

number_there : (o : Option Scalar) → IsTrue (is_of tys.Long o) → IsTrue (is_some (number_of (plain_row o)))
number_there (Some (scalars.Long n)) h = h
number_there (Some (scalars.Bool b)) h = h
number_there (Some (scalars.Text t)) h = h
number_there None h = h

own_row : (rows : ℕ → Row) (i j : ℕ) (r : Row) → i ≡ j → with_row rows i r j ≡ r
own_row rows i j r e = let t : nat_eq i j ≡ true = grind (arith, nat_tests) in rw t refl

column_number : (rows : ℕ → Row) (i j c : ℕ) (r : Row) → i ≡ j → IsTrue (is_of tys.Long (slice_get r.cells c)) → NumberFits (updates.Plus (elems.Field j c)) (with_row rows i r)
column_number rows i j c r e h = subst (λ (s : Row). IsTrue (is_some (number_of (plain_row (slice_get s.cells c))))) (sym (own_row rows i j r e)) (number_there (slice_get r.cells c) h)

sum_of_one : (f : Fragment) (w : World) (j c : ℕ) (chain : List ℕ) (guards : List (Option Form)) (rows : ℕ → Row) → loops_are_few f chain (updates.Plus (elems.Field j c)) ≡ true
    → element_within chain (Some (elems.Field j c)) ≡ true → UpdateFits w (updates.Plus (elems.Field j c)) → NumbersFit w.lists (updates.Plus (elems.Field j c)) (layers chain guards) rows
sum_of_one f w j c [] guards rows few within h = absurd cc
sum_of_one f w j c (i ∷ k ∷ rest) guards rows few within h = absurd (let e : suc (suc (length rest)) ≡ 1 = grind (arith, nat_tests, few) in omega arith)
sum_of_one f w j c (i ∷ []) guards rows few within h = go guards
  where
    same : i ≡ j
    same = grind (arith, nat_tests, within)

    here : AllByRecursion (λ r. NumberFits (updates.Plus (elems.Field j c)) (with_row rows i r)) (w.lists i)
    here =
        all_from (λ r. IsTrue (is_of tys.Long (slice_get r.cells c))) (λ r. NumberFits (updates.Plus (elems.Field j c)) (with_row rows i r)) (λ r l. column_number rows i j c r same l) (w.lists i)
        (subst (λ (m : ℕ). AllByRecursion (λ r. IsTrue (is_of tys.Long (slice_get r.cells c))) (w.lists m)) (sym same) h)

    go : (gs : List (Option Form)) → NumbersFit w.lists (updates.Plus (elems.Field j c)) (layers (i ∷ []) gs) rows
    go [] = here
    go (g ∷ gs) = here

numbers_fit : (f : Fragment) (w : World) (u : Update) (chain : List ℕ) (guards : List (Option Form)) (rows : ℕ → Row) → loops_are_few f chain u ≡ true → element_within chain (element_of u) ≡ true
    → takes_a_column u ≡ true → UpdateFits w u → NumbersFit w.lists u (layers chain guards) rows
numbers_fit f w (updates.Plus (elems.Field j c)) chain guards rows few within column h = sum_of_one f w j c chain guards rows few within h
numbers_fit f w (updates.Plus (elems.Whole j)) chain guards rows few within column h = absurd cc
numbers_fit f w (updates.Push e) chain guards rows few within column h = no_sum w.lists (updates.Push e) (λ x. tt) (layers chain guards) rows
numbers_fit f w (updates.PushNew e) chain guards rows few within column h = no_sum w.lists (updates.PushNew e) (λ x. tt) (layers chain guards) rows
numbers_fit f w updates.Tick chain guards rows few within column h = no_sum w.lists updates.Tick (λ x. tt) (layers chain guards) rows
numbers_fit f w (updates.Best way e) chain guards rows few within column h = no_sum w.lists (updates.Best way e) (λ x. tt) (layers chain guards) rows
numbers_fit f w updates.Mark chain guards rows few within column h = no_sum w.lists updates.Mark (λ x. tt) (layers chain guards) rows

few_of : (f : Fragment) (a : Accumulator) → suits_the_lists f a ≡ true → loops_are_few f a.chain a.update ≡ true
unfolding suits_the_lists
few_of f a e = left_true (loops_are_few f a.chain a.update) _ e

within_of : (f : Fragment) (a : Accumulator) → reads_its_chain f.atoms a ≡ true → element_within a.chain (element_of a.update) ≡ true
unfolding reads_its_chain
within_of f a e = right_true (guards_within f.atoms a.chain 1 a.guards && list_all (form_within f.atoms a.chain) a.pool) (element_within a.chain (element_of a.update)) e

column_of : (a : Accumulator) → starts_rightly a ≡ true → takes_a_column a.update ≡ true
unfolding starts_rightly
column_of a e = right_true (start_is_valid a.update a.start) (takes_a_column a.update) e

one_ready : (f : Fragment) (w : World) (a : Accumulator) → AccumulatorIsValid f a → UpdateFits w a.update → IsReady w a
one_ready f w a v h =
    record {
      starts = v.start;
      numbers = numbers_fit f w a.update a.chain a.guards (λ j. plain_row None) (few_of f a v.lists) (within_of f a v.loops) (column_of a v.start) h;
    }

all_ready : (f : Fragment) (w : World) (accs : List Accumulator) → AllByRecursion (AccumulatorIsValid f) accs → AllByRecursion (λ a. UpdateFits w a.update) accs → AllByRecursion (IsReady w) accs
all_ready f w [] v h = tt
all_ready f w (a ∷ rest) v h = (one_ready f w a v.0 h.0, all_ready f w rest v.1 h.1)

pub ready : (f : Fragment) (db : Database) (entry : Entry) → broken f ≡ None → PartsFit f db entry → AllByRecursion (IsReady (world_given f db entry)) f.accs
ready f db entry e fit = let v : IsValid f = valid f e in all_ready f (world_given f db entry) f.accs v.accs fit.numbers

-- the world of a setting is the one that is given

list_there : (db : Database) (defs : List ListDef) (j : ℕ) → list_or_none (slice_get (map (listed db) defs) j) ≡ list_at db (slice_get defs j)
list_there db [] j = refl
list_there db (d ∷ ds) zero = refl
list_there db (d ∷ ds) (suc j) = list_there db ds j

pub same_lists : (f : Fragment) (db : Database) (entry : Entry) (lists : List (Vec (Bor Row) Global)) → lists_seen lists ≡ map (listed db) f.lists → world_over (λ j. list_or_none (slice_get (lists_seen lists) j)) entry ≡ world_given f db entry
same_lists f db entry lists e =
    ap (λ (ls : ℕ → List Row). world_over ls entry)
    (fun_ext (λ j. ap (λ (ls : List (List Row)). list_or_none (slice_get ls j)) e ∙ list_there db f.lists j))
