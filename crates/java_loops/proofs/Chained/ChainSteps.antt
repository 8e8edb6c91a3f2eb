-- The way from a place in a loop down to a statement: the branches and loops on it, their conditions as formulas, and
-- the guards of an accumulator that they make.
use Rattle.std.proofs.Common.{◌≡◌, ℕ, suc, ◌<◌, ◌≤◌, ◌+◌, Bool, true, false, ◌||◌, List, [], ◌∷◌, ◌++◌, length, map, drop, Option, Some, None, refl, sym, ap, ◌∙◌, cond, arith, nat_eq, append_assoc}
use Rattle.std.specs.List.{filter, AllByRecursion}
use Rattle.std.proofs.lemmas.List.Elements.{filter-append}
use Rattle.std.proofs.lemmas.List.{append-nil}
use Rattle.std.proofs.lemmas.Bool.{eq-eqb, ne_eqb}
use Rattle.java_ast.specs.Tree.{Expression}
use Rattle.java_mean.proofs.Members.{all_added}
use Rattle.tor_terms.specs.Plain.{Form}
use Rattle.kernel_lang.specs.Running.{Layer, layer, layers}
use Rattle.java_loops.specs.Walks.Chains.{joined_to, joined}
use Rattle.java_loops.specs.Lowering.Lowered.{guard_joined, guard_at, guards_from, found_form}
use Rattle.java_loops.specs.Lowering.Numbering.{Numbers, loop_number, both_of, form_of_condition}
use Rattle.java_loops.specs.Kernel.Setting.{Setting}
use Rattle.loop_text.specs.Sites.Sites.{Test, Round, in_loop, in_branch}
use Rattle.java_loops.proofs.Standing.StandingWithin.{test_of, Leveled}

-- ---- Steps

-- into the loop with this number, or into the branch of the `if` with this number in which its condition holds or fails
pub data Step : Type 0 where
  Through : ℕ → Step
  Into : ℕ → Expression → Bool → Step

abbrev pub round_down : Round → List Step → Round
round_down r [] = r
round_down r (Through n ∷ ss) = round_down (in_loop r n) ss
round_down r (Into n c holds ∷ ss) = round_down (in_branch r n c holds) ss

-- the conditions before the first loop
abbrev pub fronts : Setting → Numbers → List Step → List Form
fronts w t [] = []
fronts w t (Through n ∷ ss) = []
fronts w t (Into n c holds ∷ ss) = found_form (form_of_condition w t n holds c) ++ fronts w t ss

-- the loops, each with the conditions behind it
abbrev pub layers_down : Setting → Numbers → List Step → List Layer
layers_down w t [] = []
layers_down w t (Through n ∷ ss) = layer (loop_number w.sites n) (joined (fronts w t ss)) ∷ layers_down w t ss
layers_down w t (Into n c holds ∷ ss) = layers_down w t ss

abbrev pub loops_down : List Step → List ℕ
loops_down [] = []
loops_down (Through n ∷ ss) = n ∷ loops_down ss
loops_down (Into n c holds ∷ ss) = loops_down ss

-- the tests of the way, from a place with so many loops round it
abbrev pub tests_down : ℕ → List Step → List Test
tests_down level [] = []
tests_down level (Through n ∷ ss) = tests_down (suc level) ss
tests_down level (Into n c holds ∷ ss) = record { number = n; level = level; condition = c; holds = holds } ∷ tests_down level ss

-- the way goes into a branch of the `if` with this number
abbrev pub has_if : ℕ → List Step → Bool
has_if i [] = false
has_if i (Through n ∷ ss) = has_if i ss
has_if i (Into n c holds ∷ ss) = nat_eq n i || has_if i ss

-- ---- What stands round the end of the way

length_more : (xs : List ℕ) (n : ℕ) → length (xs ++ n ∷ []) ≡ suc (length xs)
length_more [] n = refl
length_more (x ∷ xs) n = ap suc (length_more xs n)

pub loops_of_down : (r : Round) (ss : List Step) → (round_down r ss).loops ≡ r.loops ++ loops_down ss
loops_of_down r [] = sym (append-nil r.loops)
loops_of_down r (Through n ∷ ss) = loops_of_down (in_loop r n) ss ∙ append_assoc r.loops (n ∷ []) (loops_down ss)
loops_of_down r (Into n c holds ∷ ss) = loops_of_down (in_branch r n c holds) ss

pub tests_of_down : (r : Round) (ss : List Step) → (round_down r ss).tests ≡ r.tests ++ tests_down (length r.loops) ss
tests_of_down r [] = sym (append-nil r.tests)
tests_of_down r (Through n ∷ ss) = tests_of_down (in_loop r n) ss ∙ ap (λ (k : ℕ). r.tests ++ tests_down k ss) (length_more r.loops n)
tests_of_down r (Into n c holds ∷ ss) = tests_of_down (in_branch r n c holds) ss ∙ append_assoc r.tests (test_of r n c holds ∷ []) (tests_down (length r.loops) ss)

-- ---- Guards

-- a guard with further conditions
abbrev pub joined_onto : Option Form → List Form → Option Form
joined_onto None fs = joined fs
joined_onto (Some f) fs = Some (joined_to f fs)

onto_nothing : (g : Option Form) → g ≡ joined_onto g []
onto_nothing None = refl
onto_nothing (Some f) = refl

onto_next : (g o : Option Form) (fs : List Form) → joined_onto (both_of g o) fs ≡ joined_onto g (found_form o ++ fs)
onto_next None None fs = refl
onto_next None (Some f) fs = refl
onto_next (Some g) None fs = refl
onto_next (Some g) (Some f) fs = refl

abbrev pub at_level : ℕ → List Test → List Test
at_level level ts = filter (λ (t : Test). nat_eq t.level level) ts

level_other : (level : ℕ) (t : Test) (ts : List Test) → nat_eq t.level level ≡ false → at_level level (t ∷ ts) ≡ at_level level ts
level_other level t ts e = ap (λ b. cond b (t ∷ at_level level ts) (at_level level ts)) e

pub level_same : (level : ℕ) (t : Test) (ts : List Test) → nat_eq t.level level ≡ true → at_level level (t ∷ ts) ≡ t ∷ at_level level ts
level_same level t ts e = ap (λ b. cond b (t ∷ at_level level ts) (at_level level ts)) e

-- the way has no tests of an outer level
deeper : (level from : ℕ) (ss : List Step) → level < from → at_level level (tests_down from ss) ≡ []
deeper level from [] h = refl
deeper level from (Through n ∷ ss) h = deeper level (suc from) ss (omega arith)
deeper level from (Into n c holds ∷ ss) h =
    level_other level (record { number = n; level = from; condition = c; holds = holds }) (tests_down from ss) (ne_eqb from level (λ e. omega (arith, e))) ∙ deeper level from ss h

-- tests of lower levels are none of this one
pub outer_none : (level : ℕ) (ts : List Test) → AllByRecursion (λ (t : Test). t.level < level) ts → at_level level ts ≡ []
outer_none level [] h = refl
outer_none level (t ∷ ts) h = level_other level t ts (ne_eqb t.level level (λ e. omega (arith, e, h.0))) ∙ outer_none level ts h.1

front_joined : (w : Setting) (t : Numbers) (level : ℕ) (ss : List Step) (g : Option Form) → guard_joined w t g (at_level level (tests_down level ss)) ≡ joined_onto g (fronts w t ss)
front_joined w t level [] g = onto_nothing g
front_joined w t level (Through n ∷ ss) g = ap (guard_joined w t g) (deeper level (suc level) ss (omega arith)) ∙ onto_nothing g
front_joined w t level (Into n c holds ∷ ss) g =
    ap (guard_joined w t g) (level_same level (record { number = n; level = level; condition = c; holds = holds }) (tests_down level ss) (eq-eqb level level refl))
    ∙ front_joined w t level ss (both_of g (form_of_condition w t n holds c))
    ∙ onto_next g (form_of_condition w t n holds c) (fronts w t ss)

-- ---- Layers

-- the levels of the tests are at most this one
abbrev pub AtMost : ℕ → List Test → Type 0
AtMost level ts = AllByRecursion (λ (t : Test). t.level ≤ level) ts

below : (level : ℕ) (ts : List Test) → AtMost level ts → AllByRecursion (λ (t : Test). t.level < suc level) ts
below level [] h = tt
below level (t ∷ ts) h = (omega (arith, h.0), below level ts h.1)

at_most_more : (level : ℕ) (ts : List Test) → AtMost level ts → AtMost (suc level) ts
at_most_more level [] h = tt
at_most_more level (t ∷ ts) h = (omega (arith, h.0), at_most_more level ts h.1)

-- the guards of a place with these tests
abbrev pub with_tests : List ℕ → List Test → Round
with_tests loops ts = record { loops = loops; tests = ts }

guard_behind : (w : Setting) (t : Numbers) (level : ℕ) (loops : List ℕ) (before : List Test) (ss : List Step) → AtMost level before → guard_at w t (with_tests loops (before ++ tests_down (suc level) ss)) (suc level) ≡ joined (fronts w t ss)
guard_behind w t level loops before ss h =
    ap (guard_joined w t None) (filter-append (λ (x : Test). nat_eq x.level (suc level)) before (tests_down (suc level) ss) ∙ ap (λ xs. xs ++ at_level (suc level) (tests_down (suc level) ss)) (outer_none (suc level) before (below level before h)))
    ∙ front_joined w t (suc level) ss None

layers_behind : (w : Setting) (t : Numbers) (level : ℕ) (loops : List ℕ) (before : List Test) (ss : List Step) → AtMost level before → layers (map (loop_number w.sites) (loops_down ss)) (guards_from w t (with_tests loops (before ++ tests_down level ss)) (suc level) (loops_down ss)) ≡ layers_down w t ss
layers_behind w t level loops before [] h = refl
layers_behind w t level loops before (Through n ∷ ss) h =
    ap (λ g. layer (loop_number w.sites n) g ∷ layers (map (loop_number w.sites) (loops_down ss)) (guards_from w t (with_tests loops (before ++ tests_down (suc level) ss)) (suc (suc level)) (loops_down ss))) (guard_behind w t level loops before ss h)
    ∙ ap (λ ys. layer (loop_number w.sites n) (joined (fronts w t ss)) ∷ ys) (layers_behind w t (suc level) loops before ss (at_most_more level before h))
layers_behind w t level loops before (Into n c holds ∷ ss) h =
    let x : Test = record { number = n; level = level; condition = c; holds = holds } in
    ap (λ ts. layers (map (loop_number w.sites) (loops_down ss)) (guards_from w t (with_tests loops ts) (suc level) (loops_down ss))) (sym (append_assoc before (x ∷ []) (tests_down level ss)))
    ∙ layers_behind w t level loops (before ++ x ∷ []) ss (all_added (λ (t : Test). t.level ≤ level) before x h (omega arith))

drop_layers : (w : Setting) (t : Numbers) (q : Round) (level : ℕ) (js ks : List ℕ) → drop (length js) (layers (map (loop_number w.sites) (js ++ ks)) (guards_from w t q level (js ++ ks))) ≡ layers (map (loop_number w.sites) ks) (guards_from w t q (length js + level) ks)
drop_layers w t q level [] ks = let e : level ≡ 0 + level = omega arith in ap (λ k. layers (map (loop_number w.sites) ks) (guards_from w t q k ks)) e
drop_layers w t q level (j ∷ js) ks = let e : length js + suc level ≡ suc (length js) + level = omega arith in drop_layers w t q (suc level) js ks ∙ ap (λ k. layers (map (loop_number w.sites) ks) (guards_from w t q k ks)) e

-- The layers of an accumulator inside of a place are those of the way from there.
pub layers_inside : (w : Setting) (t : Numbers) (r : Round) (ss : List Step) → Leveled r → drop (length r.loops) (layers (map (loop_number w.sites) (round_down r ss).loops) (guards_from w t (round_down r ss) 1 (round_down r ss).loops)) ≡ layers_down w t ss
layers_inside w t r ss leveled =
    let ls : List ℕ = r.loops ++ loops_down ss in
    let ts : List Test = r.tests ++ tests_down (length r.loops) ss in
    let one_more : length r.loops + 1 ≡ suc (length r.loops) = omega arith in
    ap (λ (q : Round). drop (length r.loops) (layers (map (loop_number w.sites) q.loops) (guards_from w t q 1 q.loops))) (both_parts (round_down r ss) ls ts (loops_of_down r ss) (tests_of_down r ss))
    ∙ drop_layers w t (with_tests ls ts) 1 r.loops (loops_down ss)
    ∙ ap (λ k. layers (map (loop_number w.sites) (loops_down ss)) (guards_from w t (with_tests ls ts) k (loops_down ss))) one_more
    ∙ layers_behind w t (length r.loops) ls r.tests ss leveled.by
  where
    both_parts : (q : Round) (ls : List ℕ) (ts : List Test) → q.loops ≡ ls → q.tests ≡ ts → q ≡ with_tests ls ts
    both_parts q ls ts e f = ap (λ l. with_tests l q.tests) e ∙ ap (with_tests ls) f
