-- The formulas of a lowered fragment: what holds of the numbers of atoms of leaves holds of guards and pools.
use Rattle.std.proofs.Common.{◌≡◌, ℕ, suc, Bool, true, false, not, ◌&&◌, ◌||◌, List, [], ◌∷◌, ◌++◌, length, take, Option, Some, None, refl, sym, ap, ◌∙◌, cond, slice_get, nat_eq, nat_lt}
use Rattle.std.specs.List.{AllByRecursion, filter, flat_map, list_any, list_all}
use Rattle.std.proofs.lemmas.Bool.{and_parts, lt-ltb}
use Rattle.std.proofs.lemmas.List.Folds.{list_all-append}
use Rattle.std.proofs.lemmas.Option.{slice_get_within}
use Rattle.java_ast.specs.Tree as tree
use Rattle.java_ast.specs.Tree.{Expression}
use Rattle.kernel_lang.specs.Pools.{conjuncts, negated, all_entered, may_enter, pool_of}
use Rattle.kernel_lang.specs.Validity.{guard_all, formula_is_there, reads_no_flag, is_no_flag, guards_within}
use Rattle.tor_terms.specs.declared.term.Atom.{Atom}
use Rattle.tor_terms.specs.Plain.{Form, Is, Both, Either}
use Rattle.tor_terms.specs.Same.{entered, same_form}
use Rattle.tor_terms.specs.Truth.{known_within, form_within}
use Rattle.loop_text.specs.Kernel.Counting.{is_and}
use Rattle.loop_text.specs.Kernel.KernelConditions.{leaves, is_excepted}
use Rattle.loop_text.specs.Kernel.KernelForms.{is_or, is_joined}
use Rattle.java_loops.specs.Lowering.Lowered.{guard_joined, guard_at, guards_from}
use Rattle.java_loops.specs.Lowering.Numbering.{number_where, same_atom, Numbers, reading_of, Reading, said, both_of, either_of, joined_of, leaf_form, form_of_condition}
use Rattle.java_loops.specs.Kernel.Setting.{Setting}
use Rattle.loop_text.specs.Sites.Sites.{Test, Round}

-- ---- Formulas

-- a test of all numbers of atoms
abbrev pub all_numbers : (ℕ → Bool) → Form → Bool
all_numbers test (Is k s) = test k
all_numbers test (Both f g) = all_numbers test f && all_numbers test g
all_numbers test (Either f g) = all_numbers test f && all_numbers test g

pub within_numbers : (all : List Atom) (loops : List ℕ) (f : Form) → form_within all loops f ≡ all_numbers (λ k. known_within loops (slice_get all k)) f
within_numbers all loops (Is k s) = refl
within_numbers all loops (Both f g) = rw (within_numbers all loops f, within_numbers all loops g) refl
within_numbers all loops (Either f g) = rw (within_numbers all loops f, within_numbers all loops g) refl

pub there_numbers : (n : ℕ) (f : Form) → formula_is_there n f ≡ all_numbers (λ k. nat_lt k n) f
there_numbers n (Is k s) = refl
there_numbers n (Both f g) = rw (there_numbers n f, there_numbers n g) refl
there_numbers n (Either f g) = rw (there_numbers n f, there_numbers n g) refl

pub quiet_numbers : (all : List Atom) (f : Form) → reads_no_flag all f ≡ all_numbers (λ k. is_no_flag (slice_get all k)) f
quiet_numbers all (Is k s) = refl
quiet_numbers all (Both f g) = rw (quiet_numbers all f, quiet_numbers all g) refl
quiet_numbers all (Either f g) = rw (quiet_numbers all f, quiet_numbers all g) refl

pub guard_same : (p q : Form → Bool) → ((f : Form) → p f ≡ q f) → (o : Option Form) → guard_all p o ≡ guard_all q o
guard_same p q h None = refl
guard_same p q h (Some f) = h f

-- ---- Conditions

pub all_front : {A : Type 0} (P : A → Type 0) (xs ys : List A) → AllByRecursion P (xs ++ ys) → AllByRecursion P xs
all_front P [] ys a = tt
all_front P (x ∷ xs) ys a = (a.0, all_front P xs ys a.1)

pub all_back : {A : Type 0} (P : A → Type 0) (xs ys : List A) → AllByRecursion P (xs ++ ys) → AllByRecursion P ys
all_back P [] ys a = a
all_back P (x ∷ xs) ys a = all_back P xs ys a.1

-- the number of the atom of a leaf passes, where the leaf isn't excepted
abbrev pub LeafPasses : (ℕ → Bool) → Setting → Numbers → ℕ → Expression → Type 0
LeafPasses test w t n e = is_excepted w.sites n e ≡ false → test (number_where (same_atom (reading_of w t.entries t.known n e).atom) t.atoms) ≡ true

abbrev passes : (ℕ → Bool) → Option Form → Bool
passes test o = guard_all (all_numbers test) o

both_pass : (test : ℕ → Bool) (f g : Option Form) → passes test f ≡ true → passes test g ≡ true → passes test (both_of f g) ≡ true
both_pass test None g h i = i
both_pass test (Some f) None h i = h
both_pass test (Some f) (Some g) h i = rw (h, i) refl

either_pass : (test : ℕ → Bool) (f g : Option Form) → passes test f ≡ true → passes test g ≡ true → passes test (either_of f g) ≡ true
either_pass test None g h i = refl
either_pass test (Some f) None h i = refl
either_pass test (Some f) (Some g) h i = rw (h, i) refl

joined_pass : (test : ℕ → Bool) (q : Bool) (f g : Option Form) → passes test f ≡ true → passes test g ≡ true → passes test (joined_of q f g) ≡ true
joined_pass test true f g h i = both_pass test f g h i
joined_pass test false f g h i = either_pass test f g h i

leaf_step : (test : ℕ → Bool) (all : List Atom) (holds : Bool) (r : Reading) (b : Bool) → (b ≡ false → test (number_where (same_atom r.atom) all) ≡ true) → passes test (cond b None (Some (said all holds r))) ≡ true
leaf_step test all holds r true h = refl
leaf_step test all holds r false h = h refl

leaf_pass : (test : ℕ → Bool) (w : Setting) (t : Numbers) (n : ℕ) (holds : Bool) (e : Expression) → AllByRecursion (LeafPasses test w t n) (e ∷ []) → passes test (leaf_form w t n holds e) ≡ true
leaf_pass test w t n holds e a = leaf_step test t.atoms holds (reading_of w t.entries t.known n e) (is_excepted w.sites n e) a.0

binary_pass : (test : ℕ → Bool) (w : Setting) (t : Numbers) (n : ℕ) (holds q : Bool) (e a b : Expression) (f g : Option Form) (j : Bool) → AllByRecursion (LeafPasses test w t n) (cond j (leaves a ++ leaves b) (e ∷ [])) → (AllByRecursion (LeafPasses test w t n) (leaves a) → passes test f ≡ true) → (AllByRecursion (LeafPasses test w t n) (leaves b) → passes test g ≡ true) → passes test (cond j (joined_of q f g) (leaf_form w t n holds e)) ≡ true
binary_pass test w t n holds q e a b f g true all h i = joined_pass test q f g (h (all_front (LeafPasses test w t n) (leaves a) (leaves b) all)) (i (all_back (LeafPasses test w t n) (leaves a) (leaves b) all))
binary_pass test w t n holds q e a b f g false all h i = leaf_pass test w t n holds e all

-- the formula of a condition
pub condition_passes : (test : ℕ → Bool) (w : Setting) (t : Numbers) (n : ℕ) (holds : Bool) (e : Expression) → AllByRecursion (LeafPasses test w t n) (leaves e) → guard_all (all_numbers test) (form_of_condition w t n holds e) ≡ true
condition_passes test w t n holds (tree.Binary at op a b) all =
    binary_pass test w t n holds (is_joined op holds) (tree.Binary at op a b) a b (form_of_condition w t n holds a) (form_of_condition w t n holds b) (is_and op || is_or op) all (condition_passes test w t n holds a) (condition_passes test w t n holds b)
condition_passes test w t n holds (tree.Not at e) all = condition_passes test w t n (not holds) e all
condition_passes test w t n holds (tree.Lit at x) all = leaf_pass test w t n holds (tree.Lit at x) all
condition_passes test w t n holds (tree.Var at x) all = leaf_pass test w t n holds (tree.Var at x) all
condition_passes test w t n holds (tree.Field at e f) all = leaf_pass test w t n holds (tree.Field at e f) all
condition_passes test w t n holds (tree.Equals at a b) all = leaf_pass test w t n holds (tree.Equals at a b) all
condition_passes test w t n holds (tree.Size at x) all = leaf_pass test w t n holds (tree.Size at x) all
condition_passes test w t n holds (tree.Get at x e) all = leaf_pass test w t n holds (tree.Get at x e) all
condition_passes test w t n holds (tree.Contains at x e) all = leaf_pass test w t n holds (tree.Contains at x e) all
condition_passes test w t n holds (tree.Fetch at x) all = leaf_pass test w t n holds (tree.Fetch at x) all
condition_passes test w t n holds (tree.Query at ty text es) all = leaf_pass test w t n holds (tree.Query at ty text es) all
condition_passes test w t n holds (tree.QueryLong at text es) all = leaf_pass test w t n holds (tree.QueryLong at text es) all
condition_passes test w t n holds (tree.QueryBoolean at text es) all = leaf_pass test w t n holds (tree.QueryBoolean at text es) all
condition_passes test w t n holds (tree.NewList at) all = leaf_pass test w t n holds (tree.NewList at) all
condition_passes test w t n holds (tree.NewSet at) all = leaf_pass test w t n holds (tree.NewSet at) all
condition_passes test w t n holds (tree.NewSetOf at e) all = leaf_pass test w t n holds (tree.NewSetOf at e) all

-- ---- Guards

abbrev pub TestPasses : (ℕ → Bool) → Setting → Numbers → ℕ → Test → Type 0
TestPasses test w t level c = nat_eq c.level level ≡ true → guard_all (all_numbers test) (form_of_condition w t c.number c.holds c.condition) ≡ true

abbrev of_level : ℕ → List Test → List Test
of_level level cs = filter (λ (c : Test). nat_eq c.level level) cs

joined_step : (test : ℕ → Bool) (w : Setting) (t : Numbers) (c : Test) (cs : List Test) (g : Option Form) (b : Bool) → (b ≡ true → passes test (form_of_condition w t c.number c.holds c.condition) ≡ true) → passes test g ≡ true → ((h : Option Form) → passes test h ≡ true → passes test (guard_joined w t h cs) ≡ true) → passes test (guard_joined w t g (cond b (c ∷ cs) cs)) ≡ true
joined_step test w t c cs g true h i more = more (both_of g (form_of_condition w t c.number c.holds c.condition)) (both_pass test g (form_of_condition w t c.number c.holds c.condition) i (h refl))
joined_step test w t c cs g false h i more = more g i

guard_joins : (test : ℕ → Bool) (w : Setting) (t : Numbers) (level : ℕ) (cs : List Test) (g : Option Form) → AllByRecursion (TestPasses test w t level) cs → passes test g ≡ true → passes test (guard_joined w t g (of_level level cs)) ≡ true
guard_joins test w t level [] g a h = h
guard_joins test w t level (c ∷ cs) g a h = joined_step test w t c (of_level level cs) g (nat_eq c.level level) a.0 h (λ o i. guard_joins test w t level cs o a.1 i)

-- the guard of a level
pub guard_passes : (test : ℕ → Bool) (w : Setting) (t : Numbers) (r : Round) (level : ℕ) → AllByRecursion (TestPasses test w t level) r.tests → guard_all (all_numbers test) (guard_at w t r level) ≡ true
guard_passes test w t r level a = guard_joins test w t level r.tests None a refl

pub guards_all : (p : Form → Bool) (w : Setting) (t : Numbers) (r : Round) (level : ℕ) (js : List ℕ) → ((k : ℕ) → guard_all p (guard_at w t r k) ≡ true) → list_all (guard_all p) (guards_from w t r level js) ≡ true
guards_all p w t r level [] h = refl
guards_all p w t r level (j ∷ js) h = rw (h level, guards_all p w t r (suc level) js h) refl

pub guards_in : (w : Setting) (t : Numbers) (r : Round) (chain : List ℕ) (level : ℕ) (js : List ℕ) → ((k : ℕ) → guard_all (form_within t.atoms (take k chain)) (guard_at w t r k) ≡ true) → guards_within t.atoms chain level (guards_from w t r level js) ≡ true
guards_in w t r chain level [] h = refl
guards_in w t r chain level (j ∷ js) h = rw (h level, guards_in w t r chain (suc level) js h) refl

pub guards_count : (w : Setting) (t : Numbers) (r : Round) (level : ℕ) (js : List ℕ) → length (guards_from w t r level js) ≡ length js
guards_count w t r level [] = refl
guards_count w t r level (j ∷ js) = ap suc (guards_count w t r (suc level) js)

-- ---- Pools

pub negated_pass : (test : ℕ → Bool) (f : Form) → all_numbers test (negated f) ≡ all_numbers test f
negated_pass test (Is k s) = refl
negated_pass test (Both f g) = rw (negated_pass test f, negated_pass test g) refl
negated_pass test (Either f g) = rw (negated_pass test f, negated_pass test g) refl

entered_step : (p : Form → Bool) (pool : List Form) (f : Form) (b : Bool) → list_all p pool ≡ true → p f ≡ true → list_all p (cond b pool (pool ++ f ∷ [])) ≡ true
entered_step p pool f true h i = h
entered_step p pool f false h i = list_all-append p pool (f ∷ []) ∙ rw (h, i) refl

entered_pass : (p : Form → Bool) (pool : List Form) (f : Form) → list_all p pool ≡ true → p f ≡ true → list_all p (entered pool f) ≡ true
entered_pass p pool f h i = entered_step p pool f (list_any (same_form f) pool) h i

all_entered_pass : (test : ℕ → Bool) (pool fs : List Form) → list_all (all_numbers test) pool ≡ true → list_all (all_numbers test) fs ≡ true → list_all (all_numbers test) (all_entered pool fs) ≡ true
all_entered_pass test pool [] h i = h
all_entered_pass test pool (f ∷ fs) h i =
    let p = and_parts (all_numbers test f) (list_all (all_numbers test) fs) i in
    all_entered_pass test (entered (entered pool f) (negated f)) fs (entered_pass (all_numbers test) (entered pool f) (negated f) (entered_pass (all_numbers test) pool f h p.0) (negated_pass test f ∙ p.0)) p.1

filter_step : (p q : Form → Bool) (f : Form) (fs : List Form) (b : Bool) → (b ≡ true → q f ≡ true) → list_all q (filter p fs) ≡ true → list_all q (cond b (f ∷ filter p fs) (filter p fs)) ≡ true
filter_step p q f fs true h i = rw (h refl, i) refl
filter_step p q f fs false h i = i

filter_pass : (p q : Form → Bool) (fs : List Form) → ((f : Form) → p f ≡ true → q f ≡ true) → list_all q (filter p fs) ≡ true
filter_pass p q [] h = refl
filter_pass p q (f ∷ fs) h = filter_step p q f fs (p f) (h f) (filter_pass p q fs h)

-- what holds of all that may enter holds of the pool
pub pool_passes : (test : ℕ → Bool) (all : List Atom) (conditions : List Form) (chain : List ℕ) (base : ℕ) → ((f : Form) → may_enter all chain base f ≡ true → all_numbers test f ≡ true) → list_all (all_numbers test) (pool_of all conditions chain base) ≡ true
pool_passes test all conditions chain base h = all_entered_pass test [] (filter (may_enter all chain base) (flat_map conjuncts conditions)) refl (filter_pass (may_enter all chain base) (all_numbers test) (flat_map conjuncts conditions) h)

pub all_same : {A : Type 0} (p q : A → Bool) (xs : List A) → ((x : A) → p x ≡ q x) → list_all p xs ≡ list_all q xs
all_same p q [] h = refl
all_same p q (x ∷ xs) h = rw (h x, all_same p q xs h) refl

weaker_numbers : (p q : ℕ → Bool) (f : Form) → ((k : ℕ) → p k ≡ true → q k ≡ true) → all_numbers p f ≡ true → all_numbers q f ≡ true
weaker_numbers p q (Is k s) h e = h k e
weaker_numbers p q (Both f g) h e = let i = and_parts (all_numbers p f) (all_numbers p g) e in rw (weaker_numbers p q f h i.0, weaker_numbers p q g h i.1) refl
weaker_numbers p q (Either f g) h e = let i = and_parts (all_numbers p f) (all_numbers p g) e in rw (weaker_numbers p q f h i.0, weaker_numbers p q g h i.1) refl

-- the atoms of what reads loops alone are there
known_there : (all : List Atom) (loops : List ℕ) (k : ℕ) (o : Option Atom) → slice_get all k ≡ o → known_within loops o ≡ true → nat_lt k (length all) ≡ true
known_there all loops k None is h = absurd cc
known_there all loops k (Some a) is h = lt-ltb k (length all) (slice_get_within all k a is)

pub pool_there : (all : List Atom) (conditions : List Form) (chain : List ℕ) (base : ℕ) → list_all (formula_is_there (length all)) (pool_of all conditions chain base) ≡ true
pool_there all conditions chain base =
    all_same (formula_is_there (length all)) (all_numbers (λ k. nat_lt k (length all))) (pool_of all conditions chain base) (there_numbers (length all))
    ∙ pool_passes (λ k. nat_lt k (length all)) all conditions chain base (λ f h. weaker_numbers (λ k. known_within chain (slice_get all k)) (λ k. nat_lt k (length all)) f (λ k e. known_there all chain k (slice_get all k) refl e) (sym (within_numbers all chain f) ∙ (and_parts (form_within all chain f) (nat_eq base 0 || reads_no_flag all f) h).0))

pub pool_within : (all : List Atom) (conditions : List Form) (chain : List ℕ) (base : ℕ) → list_all (form_within all chain) (pool_of all conditions chain base) ≡ true
pool_within all conditions chain base =
    all_same (form_within all chain) (all_numbers (λ k. known_within chain (slice_get all k))) (pool_of all conditions chain base) (within_numbers all chain)
    ∙ pool_passes (λ k. known_within chain (slice_get all k)) all conditions chain base (λ f h. sym (within_numbers all chain f) ∙ (and_parts (form_within all chain f) (nat_eq base 0 || reads_no_flag all f) h).0)

or_first_false : (a b : Bool) → (a || b) ≡ true → a ≡ false → b ≡ true
or_first_false true b h e = absurd cc
or_first_false false b h e = h

-- the pool of a flag reads no flag
pub pool_quiet : (all : List Atom) (conditions : List Form) (chain : List ℕ) (base : ℕ) → nat_eq base 0 ≡ false → list_all (reads_no_flag all) (pool_of all conditions chain base) ≡ true
pool_quiet all conditions chain base inner =
    all_same (reads_no_flag all) (all_numbers (λ k. is_no_flag (slice_get all k))) (pool_of all conditions chain base) (quiet_numbers all)
    ∙ pool_passes (λ k. is_no_flag (slice_get all k)) all conditions chain base (λ f h. sym (quiet_numbers all f) ∙ or_first_false (nat_eq base 0) (reads_no_flag all f) (and_parts (form_within all chain f) (nat_eq base 0 || reads_no_flag all f) h).1 inner)
