-- What a fragment is given, as an environment, and what its rows have where its parts fit.
use Rattle.std.proofs.Common.{◌≡◌, ℕ, zero, suc, ◌<◌, Bool, true, false, cond, ◌&&◌, List, [], ◌∷◌, map, length, is_some, nat_eq, nat_lt, slice_get, refl, sym, ap, ◌∙◌, subst, arith}
use mathlib.Core.Path.{fun_ext}
use Rattle.std.specs.List.{flat_map, list_all, list_any, AllByRecursion}
use Rattle.std.proofs.lemmas.Bool.Decides.{nat_tests}
use Rattle.std.proofs.lemmas.List.{length-map}
use Rattle.std.specs.declared.option.Option.{Option}
use Rattle.std.specs.declared.option.Option.TheVariants.{Some, None}
use Rattle.qbs_base.specs.declared.scalar.Row.{Row}
use Rattle.qbs_base.specs.declared.scalar.Scalar.{Scalar}
use Rattle.qbs_base.specs.declared.scalar.Ty.{Ty}
use Rattle.qbs_base.specs.declared.scalar.Ty.TheVariants as tys
use Rattle.qbs_base.specs.Sort.{stable_sort}
use Rattle.qbs_base.specs.Values.{Database}
use Rattle.tor_terms.specs.declared.env.Env.{Env}
use Rattle.tor_terms.specs.declared.env.FlagTable.{FlagTable}
use Rattle.tor_terms.specs.declared.term.Elem.{Elem}
use Rattle.tor_terms.specs.declared.term.Elem.TheVariants as elems
use Rattle.tor_terms.specs.Plain.{Form}
use Rattle.tor_terms.specs.Truth.{form_within}
use Rattle.tor_terms.specs.Worlds.{flag_truth, world_of}
use Rattle.tor_axioms.proofs.Decided.{and_left, and_right}
use Rattle.kernel_lang.specs.declared.parts.Entry.{Entry}
use Rattle.kernel_lang.specs.declared.parts.ListDef.{ListDef}
use Rattle.kernel_lang.specs.declared.parts.Update.{Update}
use Rattle.kernel_lang.specs.declared.parts.Update.TheVariants.{Push, PushNew, Tick, Plus, Best, Mark}
use Rattle.kernel_lang.specs.Fitting.{key_places, atom_places, element_places, is_of, table_at, ColumnFits, UpdateFits, PartsFit}
use Rattle.qbs_base.specs.Tables.{rows_of}
use Rattle.kernel_lang.specs.Given.{before, listed, list_at, world_given, world_over}
use Rattle.kernel_lang.specs.Plain.{Accumulator, Fragment}
use Rattle.kernel_lang.specs.Pools.{chosen}
use Rattle.kernel_lang.specs.Sentences.{AccumulatorIsValid}
use Rattle.kernel_lang.specs.Validity.{all_formulas, formula_is_there, loops_are_there, element_is_there, accumulator_is_there, chain_is_valid, rises, rises_after, guards_within, element_of, element_within, reads_its_chain, start_is_valid, takes_a_column, starts_rightly, loops_are_few, suits_the_lists}
use Rattle.kernel_lang.proofs.Runs.{all_sorted, all_cut}
use Rattle.kernel_lang.proofs.Listing.{and_four, and_three}
use Rattle.vc_gen.proofs.Scope.{IsNew}
use Rattle.vc_gen.proofs.Fit.{lt_from}
use Rattle.vc_gen.proofs.Sorted.{Differ, ElementFits, NumbersFit, CountsOne, lists_in, Suits}
use Rattle.vc_gen.proofs.AllOf.{all_right, all_from, tests_all, all_flat}

-- ---- the environment, with tables of flags

abbrev pub env_given : Fragment → Database → Entry → List FlagTable → Env
env_given f db entry tables = record { lists = map (listed db) f.lists; at = []; cur = []; entries = entry.values; known = entry.known; holds = []; flags = tables }

list_there : (db : Database) (defs : List ListDef) (j : ℕ) → lists_in (map (listed db) defs) j ≡ list_at db (slice_get defs j)
list_there db [] j = refl
list_there db (d ∷ ds) zero = refl
list_there db (d ∷ ds) (suc j) = list_there db ds j

pub same_given : (f : Fragment) (db : Database) (entry : Entry) (tables : List FlagTable) → world_of (env_given f db entry tables) ≡ record (world_given f db entry) { flags = λ k. flag_truth (slice_get tables k) }
same_given f db entry tables = ap (λ (lists : ℕ → List Row). record (world_over lists entry) { flags = λ k. flag_truth (slice_get tables k) }) (fun_ext (λ j. list_there db f.lists j))

-- ---- rows of lists are rows of tables

all_listed : (P : Row → Type 0) (db : Database) (defs : List ListDef) (j : ℕ) → AllByRecursion P (table_at db (slice_get defs j)) → AllByRecursion P (lists_in (map (listed db) defs) j)
all_listed P db [] j h = tt
all_listed P db (d ∷ ds) zero h = all_cut P d.limit (stable_sort (before d.keys) (rows_of db d.table)) (all_sorted P (before d.keys) (rows_of db d.table) h)
all_listed P db (d ∷ ds) (suc j) h = all_listed P db ds j h

some_of : (ty : Ty) (o : Option Scalar) → is_of ty o ≡ true → is_some o ≡ true
some_of ty (Some x) h = refl
some_of tys.Long None h = absurd cc
some_of tys.Bool None h = absurd cc
some_of tys.Text None h = absurd cc

-- the columns of an update's element
columns_of : (f : Fragment) (db : Database) (o : Option Elem) → AllByRecursion (ColumnFits f db) (element_places o) → ElementFits (lists_in (map (listed db) f.lists)) o
columns_of f db None h = tt
columns_of f db (Some (elems.Whole j)) h = tt
columns_of f db (Some (elems.Field j c)) h =
    all_listed (λ r. is_some (slice_get r.cells c) ≡ true) db f.lists j
    (all_from (λ r. is_of h.0.0 (slice_get r.cells c) ≡ true) (λ r. is_some (slice_get r.cells c) ≡ true) (λ r k. some_of h.0.0 (slice_get r.cells c) k) (table_at db (slice_get f.lists j)) h.0.1)

numbers_of : (f : Fragment) (db : Database) (entry : Entry) (u : Update) → UpdateFits (world_given f db entry) u → NumbersFit (lists_in (map (listed db) f.lists)) u
numbers_of f db entry (Push e) h = tt
numbers_of f db entry (PushNew e) h = tt
numbers_of f db entry Tick h = tt
numbers_of f db entry Mark h = tt
numbers_of f db entry (Plus (elems.Whole j)) h = tt
numbers_of f db entry (Best way (elems.Whole j)) h = tt
numbers_of f db entry (Plus (elems.Field j c)) h = subst (AllByRecursion (λ r. is_of tys.Long (slice_get r.cells c) ≡ true)) (sym (list_there db f.lists j)) h
numbers_of f db entry (Best way (elems.Field j c)) h = subst (AllByRecursion (λ r. is_of tys.Long (slice_get r.cells c) ≡ true)) (sym (list_there db f.lists j)) h

-- of each accumulator
pub elements_fit : (f : Fragment) (db : Database) (entry : Entry) → PartsFit f db entry → AllByRecursion (λ a. AllByRecursion (ColumnFits f db) (element_places (element_of a.update))) f.accs
elements_fit f db entry fit =
    all_flat (ColumnFits f db) (λ a. element_places (element_of a.update)) f.accs
    (all_right (ColumnFits f db) (flat_map atom_places f.atoms) _ (all_right (ColumnFits f db) (key_places 0 f.lists) _ fit.columns))

-- ---- what a valid accumulator has

differ_less : (j k : ℕ) → j < k → nat_eq j k ≡ false
differ_less j k h = grind (arith, nat_tests)

new_below : (i j : ℕ) (ks : List ℕ) → i < j → rises_after j ks ≡ true → IsNew i ks
new_below i j [] h r = tt
new_below i j (k ∷ ks) h r =
    let l : j < k = lt_from j k (and_left (nat_lt j k) (rises_after k ks) r) in
    let m : i < k = omega (arith, h, l) in
    (differ_less i k m, new_below i k ks m (and_right (nat_lt j k) (rises_after k ks) r))

new_first : (j : ℕ) (ks : List ℕ) → rises_after j ks ≡ true → IsNew j ks
new_first j [] r = tt
new_first j (k ∷ ks) r =
    let l : j < k = lt_from j k (and_left (nat_lt j k) (rises_after k ks) r) in
    (differ_less j k l, new_below j k ks l (and_right (nat_lt j k) (rises_after k ks) r))

rises_next : (j : ℕ) (ks : List ℕ) → rises_after j ks ≡ true → rises ks ≡ true
rises_next j [] r = refl
rises_next j (k ∷ ks) r = and_right (nat_lt j k) (rises_after k ks) r

all_differ : (js : List ℕ) → rises js ≡ true → Differ js
all_differ [] r = tt
all_differ (j ∷ js) r = (new_first j js r, all_differ js (rises_next j js r))

chosen_all : (test : Form → Bool) (c : List ℕ) (n : ℕ) (pool : List Form) → list_all test pool ≡ true → list_all test (chosen c n pool) ≡ true
chosen_all test c n [] h = refl
chosen_all test c n (g ∷ gs) h = go (list_any (nat_eq n) c) (chosen_all test c (suc n) gs (and_right (test g) (list_all test gs) h))
  where
    go : (b : Bool) → list_all test (chosen c (suc n) gs) ≡ true → list_all test (cond b (g ∷ chosen c (suc n) gs) (chosen c (suc n) gs)) ≡ true
    go true k = ap (λ x. x && list_all test (chosen c (suc n) gs)) (and_left (test g) (list_all test gs) h) ∙ k
    go false k = k

one_loop : (chain : List ℕ) → nat_eq (length chain) 1 ≡ true → (j : ℕ) × (chain ≡ j ∷ [])
one_loop [] h = absurd cc
one_loop (j ∷ []) h = (j, refl)
one_loop (j ∷ k ∷ rest) h = absurd (let e : suc (suc (length rest)) ≡ 1 = grind (arith, nat_tests, h) in omega arith)

counts_one : (f : Fragment) (chain : List ℕ) (u : Update) → loops_are_few f chain u ≡ true → CountsOne u chain
counts_one f chain Tick h = one_loop chain h
counts_one f chain (Push e) h = tt
counts_one f chain (PushNew e) h = tt
counts_one f chain (Plus e) h = tt
counts_one f chain (Best way e) h = tt
counts_one f chain Mark h = tt

few_of : (f : Fragment) (a : Accumulator) → suits_the_lists f a ≡ true → loops_are_few f a.chain a.update ≡ true
unfolding suits_the_lists
few_of f a e = and_left (loops_are_few f a.chain a.update) _ e

pub starts_of : (a : Accumulator) → starts_rightly a ≡ true → start_is_valid a.update a.start ≡ true
unfolding starts_rightly
starts_of a e = and_left (start_is_valid a.update a.start) (takes_a_column a.update) e

column_of : (a : Accumulator) → starts_rightly a ≡ true → takes_a_column a.update ≡ true
unfolding starts_rightly
column_of a e = and_right (start_is_valid a.update a.start) (takes_a_column a.update) e

loops_of_chain : (f : Fragment) (a : Accumulator) → accumulator_is_there f a ≡ true → loops_are_there f a.chain ≡ true
unfolding accumulator_is_there
loops_of_chain f a e = (and_three (loops_are_there f a.chain) (element_is_there f (element_of a.update)) (all_formulas (formula_is_there (length f.atoms)) a) e).0

chain_rises : (a : Accumulator) → chain_is_valid a ≡ true → rises a.chain ≡ true
unfolding chain_is_valid
chain_rises a e = (and_four _ (rises a.chain) (nat_lt a.base (length a.chain)) (nat_eq (length a.guards) (length a.chain)) e).1

pool_within : (f : Fragment) (a : Accumulator) → reads_its_chain f.atoms a ≡ true → (list_all (form_within f.atoms a.chain) a.pool ≡ true) × (element_within a.chain (element_of a.update) ≡ true)
unfolding reads_its_chain
pool_within f a e = let k = and_three (guards_within f.atoms a.chain 1 a.guards) (list_all (form_within f.atoms a.chain) a.pool) (element_within a.chain (element_of a.update)) e in (k.1, k.2)

pub suits_of : (f : Fragment) (db : Database) (entry : Entry) (a : Accumulator) → AccumulatorIsValid f a → AllByRecursion (ColumnFits f db) (element_places (element_of a.update)) → UpdateFits (world_given f db entry) a.update
    → (c : List ℕ) (n : ℕ) → Suits (map (listed db) f.lists) f.atoms a.update (chosen c n a.pool) a.chain
suits_of f db entry a v columns numbers c n =
    record {
      below = subst (λ m. AllByRecursion (λ j. nat_lt j m ≡ true) a.chain) (sym (length-map f.lists (listed db))) (tests_all (λ j. nat_lt j (length f.lists)) a.chain (loops_of_chain f a v.names));
      differ = all_differ a.chain (chain_rises a v.chain);
      forms = chosen_all (form_within f.atoms a.chain) c n a.pool (pool_within f a v.loops).0;
      element = (pool_within f a v.loops).1;
      columns = columns_of f db (element_of a.update) columns;
      numbers = numbers_of f db entry a.update numbers;
      column = column_of a v.start;
      few = counts_one f a.chain a.update (few_of f a v.lists);
    }
