-- Sets, counts and sums of a lowered fragment have one loop, and beside a sorted and cut list stands only what is appended.
use Rattle.std.proofs.Common.{◌≡◌, ℕ, suc, ◌+◌, Bool, true, false, not, ◌&&◌, ◌||◌, List, [], ◌∷◌, ◌++◌, length, map, Option, Some, None, refl, sym, ap, ◌∙◌, subst, cond, slice_get, nat_eq, arith, is_none}
use Rattle.std.specs.List.{AllByRecursion, filter, list_any, list_all}
use Rattle.std.proofs.lemmas.Bool.{and_parts, or_left, or_right, eqb-true}
use Rattle.qbs_base.specs.declared.columns.Column.{Column}
use Rattle.java_ast.specs.Tree as tree
use Rattle.java_ast.specs.Tree.{Expression, Statement}
use Rattle.java_mean.specs.declared.types.JavaType.{JavaType}
use Rattle.java_mean.specs.declared.types.JavaType.TheVariants.{Of, Listed, Distinct}
use Rattle.java_mean.specs.Typing.{Frame}
use Rattle.kernel_lang.specs.declared.parts.ListDef.{ListDef}
use Rattle.kernel_lang.specs.Plain.{Accumulator}
use Rattle.kernel_lang.specs.Pools.{pool_of}
use Rattle.kernel_lang.specs.Validity.{loops_are_few, one_unsorted_loop, is_unsorted, is_empty, is_sorted_and_cut, only_appends, is_push, suits_the_lists}
use Rattle.tor_terms.specs.declared.term.Elem.{Elem}
use Rattle.java_loops.specs.Kernel.Kernel.{lowering}
use Rattle.loop_text.specs.Kernel.KernelConditions.{condition_of}
use Rattle.loop_text.specs.Kernel.KernelForms.{Form, Taken, whole, column, adds, counts, sums, takes, marks, other, form_of, is_once}
use Rattle.java_loops.specs.Kernel.KernelForms.{is_distinct, first_is_sorted, fits, fits_target, fits_outer}
use Rattle.loop_text.specs.Kernel.KernelLists.{Source, has_keys, is_sorted_source, source_in, count_loops}
use Rattle.java_loops.specs.Kernel.KernelLists.{is_barred, is_barred_site, is_list_bound, is_listed, allows_limit}
use Rattle.loop_text.specs.Kernel.KernelLoop.{counting_in, limit_of}
use Rattle.loop_text.specs.Kernel.KernelStarts.{Numbered, form_found}
use Rattle.loop_text.specs.Statements.Loops.{is_loop}
use Rattle.java_loops.specs.Lowering.Lowered.{added, update_with, keys_of, keys_found, list_of, lists_of, guard_joined, guard_at, guards_from, form_written, forms_from, conditions_of}
use Rattle.java_loops.specs.Lowering.Lowered as lowered
use Rattle.java_loops.specs.Lowering.Numbering.{Numbers, numbers_of, loop_number}
use Rattle.java_loops.specs.Kernel.Setting.{Setting}
use Rattle.loop_text.specs.declared.sites.bindings.Binding.TheVariants.{Outer}
use Rattle.loop_text.specs.Sites.Sites.{Site, Test, Round, binding_at, any_site, depth, in_loop, outside, target_of}
use Rattle.java_loops.proofs.Nested.NestRules.{formed_at}
use Rattle.java_loops.proofs.Standing.Standing.{site_of}
use Rattle.java_loops.proofs.Standing.StandingRules.{fails_at}
use Rattle.java_loops.proofs.Standing.StandingWithin.{Under}
use Rattle.java_loops.proofs.Standing.StandingSites.{loop_first}
use Rattle.java_loops.proofs.Valid.ValidAccumulators.{UpdateStands, made, mapped_length}
use Rattle.java_loops.proofs.Valid.ValidFlags.{FlagStands}
use Rattle.java_loops.proofs.Valid.ValidLimits.{limit_allowed, lists_pass, same_place}
use Rattle.java_loops.proofs.Valid.ValidLoop.{Checked, rules}
use Rattle.java_loops.proofs.Valid.ValidOperands.{chain_at}
use Rattle.java_loops.proofs.Valid.ValidStarts.{false_not}
use Rattle.java_loops.proofs.Valid.ValidVisits.{TestStands}

-- ---- Needed variables are bound outside

-- a needed variable is visible before the loop
pub record SeenBefore (w : Setting) (x : List ℕ) : Type 0 where
  pub type : JavaType
  pub seen : w.types x ≡ Some type

pub outer_fits : (w : Setting) (c : Frame) → Checked w c → (u : Numbered) (x : List ℕ) → SeenBefore w x → UpdateStands w c u x → fits_outer w u.number u.site x (form_found w.sites (Some u)) ≡ true
outer_fits w c is u x seen s =
    let bound : binding_at w.sites u.number x ≡ Outer = s.visited.scope.outer x seen.type seen.seen in
    let fit : fits_target w u.number u.site (Some x) ≡ true = ap (λ o. fits_target w u.number u.site o) (sym s.target) ∙ formed_at w (rules w is.none).unbroken u.number u.site s.there in
    ap (λ b. fits w u.number u.site x b) (sym bound) ∙ fit

-- ---- One loop

one_loop : (w : Setting) (r : Round) → Under (in_loop outside 0) r → nat_eq (length r.loops) 1 ≡ true → r.loops ≡ 0 ∷ []
one_loop w r under h = only r.loops under.loops under.is_loops (eqb-true (length r.loops) 1 h)
  where
    only : (js more : List ℕ) → js ≡ 0 ∷ more → length js ≡ 1 → js ≡ 0 ∷ []
    only js [] e l = e
    only js (m ∷ ms) e l = let k : length js ≡ length (0 ∷ m ∷ ms) = ap length e in absurd (omega (arith, k, l))

no_keys : (columns : List Column) (keys : List (List ℕ)) (downs : List Bool) → has_keys keys ≡ false → is_empty (keys_of columns keys downs) ≡ true
no_keys columns [] downs h = refl
no_keys columns (k ∷ ks) downs h = absurd cc

unsorted_source : (columns : List Column) (o : Option Source) → is_sorted_source o ≡ false → is_empty (keys_found columns o) ≡ true
unsorted_source columns None h = refl
unsorted_source columns (Some s) h = no_keys columns s.keys s.downs h

first_list : (w : Setting) (ss : List Site) (s : Site) → slice_get ss 0 ≡ Some s → is_loop s.statement ≡ true → first_is_sorted w ss ≡ false → is_unsorted (slice_get (lists_of w ss) 0) ≡ true
first_list w [] s there loops h = absurd cc
first_list w (t ∷ ss) s there loops h =
    let same : t ≡ s = cc in
    let loops' : is_loop t.statement ≡ true = ap (λ (z : Site). is_loop z.statement) same ∙ loops in
    ap (λ b. is_unsorted (slice_get (cond b (list_of w t.statement ∷ lists_of w ss) (lists_of w ss)) 0)) loops' ∙ unsorted_source (Rattle.qbs_base.specs.Columns.columns_at w.schema (Rattle.java_loops.specs.Lowering.Numbering.table_of_loop w.schema t.statement)) (source_in w.fragment.run t.statement) h

kernel_is_loop : (f : Rattle.loop_text.specs.Statements.Fragment.Fragment) (s : Statement) → Rattle.loop_text.specs.Kernel.KernelLoop.is_kernel_loop f s ≡ true → is_loop s ≡ true
kernel_is_loop f (tree.ForEach at ty y e b) h = refl
kernel_is_loop f (tree.While at c b) h = refl
kernel_is_loop f (tree.Declare at ty y e) h = absurd cc
kernel_is_loop f (tree.Assign at y e) h = absurd cc
kernel_is_loop f (tree.Add at y e) h = absurd cc
kernel_is_loop f (tree.Sort at y keys downs) h = absurd cc
kernel_is_loop f (tree.If at c p) h = absurd cc
kernel_is_loop f (tree.IfElse at c p q) h = absurd cc
kernel_is_loop f (tree.Print at e) h = absurd cc
kernel_is_loop f (tree.Return at e) h = absurd cc
kernel_is_loop f (tree.Break at) h = absurd cc

first_unsorted : (w : Setting) (c : Frame) → Checked w c → first_is_sorted w w.sites ≡ false → is_unsorted (slice_get (lists_of w w.sites) 0) ≡ true
first_unsorted w c is h =
    let loop : Statement = w.fragment.loop in
    let one : slice_get w.sites 0 ≡ Some (site_of outside None loop) = ap (λ ss. slice_get ss 0) is.sites ∙ loop_first loop in
    first_list w w.sites (site_of outside None loop) one (kernel_is_loop w.fragment loop (Rattle.java_loops.proofs.Nested.NestRules.loop_parts w (rules w is.none).unbroken).1) h

added_few : (w : Setting) (c : Frame) → Checked w c → (r : Round) (b : Bool) (e : Elem) → Under (in_loop outside 0) r → (not b || (nat_eq (length r.loops) 1 && not (first_is_sorted w w.sites))) ≡ true → loops_are_few (lowering w).fragment (chain_at w r) (added b e) ≡ true
added_few w c is r false e under h = refl
added_few w c is r true e under h =
    let two = and_parts (nat_eq (length r.loops) 1) (not (first_is_sorted w w.sites)) h in
    ap (λ js. one_unsorted_loop (lowering w).fragment (map (loop_number w.sites) js)) (one_loop w r under two.0) ∙ first_unsorted w c is (false_not (first_is_sorted w w.sites) two.1)

one_chain : (w : Setting) (r : Round) → nat_eq (length r.loops) 1 ≡ true → nat_eq (length (chain_at w r)) 1 ≡ true
one_chain w r h = ap (λ n. nat_eq n 1) (mapped_length (loop_number w.sites) r.loops) ∙ h

few_loops : (w : Setting) (c : Frame) → Checked w c → (u : Numbered) (x : List ℕ) (f : Form) → Under (in_loop outside 0) u.site.round → fits_outer w u.number u.site x f ≡ true → loops_are_few (lowering w).fragment (chain_at w u.site.round) (update_with w x u.site.round f) ≡ true
few_loops w c is u x (adds t) under h = added_few w c is u.site.round (is_distinct (w.types x)) (lowered.element_of w t) under h
few_loops w c is u x counts under h = one_chain w u.site.round h
few_loops w c is u x (sums q) under h = one_chain w u.site.round h
few_loops w c is u x (takes q) under h = refl
few_loops w c is u x (marks b) under h = refl
few_loops w c is u x other under h = refl

-- ---- Beside a sorted and cut list

-- no site is barred, if some list is sorted and cut
abbrev NoneBarred : Setting → Type 0
NoneBarred w = any_site (is_barred_site w) 0 w.sites ≡ false

sorted_keys : (columns : List Column) (keys : List (List ℕ)) (downs : List Bool) → is_empty (keys_of columns keys downs) ≡ false → has_keys keys ≡ true
sorted_keys columns [] downs h = absurd cc
sorted_keys columns (k ∷ ks) downs h = refl

sorted_source : (columns : List Column) (o : Option Source) → is_empty (keys_found columns o) ≡ false → is_sorted_source o ≡ true
sorted_source columns None h = absurd cc
sorted_source columns (Some s) h = sorted_keys columns s.keys s.downs h

cut_step : (w : Setting) (loop : Statement) (o : Option ℕ) (empty : Bool) → (empty ≡ false → is_sorted_source (source_in w.fragment.run loop) ≡ true) → allows_limit w loop o ≡ true → (any_site (is_barred_site w) 0 w.sites ≡ true) → (not (is_none o) && not empty) ≡ false
cut_step w loop None empty h a barred = refl
cut_step w loop (Some n) true h a barred = refl
cut_step w loop (Some n) false h a barred =
    let two = and_parts (nat_eq (count_loops w.sites) 1) (not (is_sorted_source (source_in w.fragment.run loop) && any_site (is_barred_site w) 0 w.sites)) a in
    let s : is_sorted_source (source_in w.fragment.run loop) ≡ true = h refl in
    let e : (is_sorted_source (source_in w.fragment.run loop) && any_site (is_barred_site w) 0 w.sites) ≡ true = rw (s, barred) refl in
    let f = false_not (is_sorted_source (source_in w.fragment.run loop) && any_site (is_barred_site w) 0 w.sites) two.1 in
    absurd cc

none_cut : (p : ListDef → Bool) (ds : List ListDef) → list_all (λ d. not (p d)) ds ≡ true → list_any p ds ≡ false
none_cut p [] h = refl
none_cut p (d ∷ ds) h = let two = and_parts (not (p d)) (list_all (λ z. not (p z)) ds) h in rw (false_not (p d) two.0, none_cut p ds two.1) refl

not_so : (b : Bool) → b ≡ false → not b ≡ true
not_so true h = absurd cc
not_so false h = refl

barred_uncut : (w : Setting) (c : Frame) → Checked w c → any_site (is_barred_site w) 0 w.sites ≡ true → list_any is_sorted_and_cut (lists_of w w.sites) ≡ false
barred_uncut w c is barred =
    none_cut is_sorted_and_cut (lists_of w w.sites) (lists_pass w (λ d. not (is_sorted_and_cut d)) 0 w.sites (λ i m s e there. same_place w i m s e there)
    (λ m s there loops. not_so (is_sorted_and_cut (list_of w s.statement)) (cut_step w s.statement (limit_of (counting_in s.statement)) (is_empty (list_of w s.statement).keys) (λ e. sorted_source (Rattle.qbs_base.specs.Columns.columns_at w.schema (Rattle.java_loops.specs.Lowering.Numbering.table_of_loop w.schema s.statement)) (source_in w.fragment.run s.statement) e) (limit_allowed w c is m s there loops) barred)))

barred_if : (w : Setting) (n : ℕ) (s : Statement) (e : Expression) → condition_of s ≡ Some e → is_barred w n s ≡ true
barred_if w n (tree.If at q p) e h = refl
barred_if w n (tree.IfElse at q p o) e h = refl
barred_if w n (tree.ForEach at ty y q b) e h = absurd cc
barred_if w n (tree.While at q b) e h = absurd cc
barred_if w n (tree.Declare at ty y q) e h = absurd cc
barred_if w n (tree.Assign at y q) e h = absurd cc
barred_if w n (tree.Add at y q) e h = absurd cc
barred_if w n (tree.Sort at y keys downs) e h = absurd cc
barred_if w n (tree.Print at q) e h = absurd cc
barred_if w n (tree.Return at q) e h = absurd cc
barred_if w n (tree.Break at) e h = absurd cc

no_tests : (w : Setting) (loops : List ℕ) (ts : List Test) → NoneBarred w → AllByRecursion (TestStands w.sites loops) ts → ts ≡ []
no_tests w loops [] none a = refl
no_tests w loops (t ∷ ts) none a =
    let h = fails_at (is_barred_site w) w.sites none t.number a.0.site a.0.there in
    let k = barred_if w t.number a.0.site.statement t.condition a.0.is in
    absurd cc

plain_guards : (w : Setting) (t : Numbers) (r : Round) (level : ℕ) (js : List ℕ) → r.tests ≡ [] → list_all is_none (guards_from w t r level js) ≡ true
plain_guards w t r level [] h = refl
plain_guards w t r level (j ∷ js) h =
    let e : is_none (guard_at w t r level) ≡ true = ap (λ ts. is_none (guard_joined w t None (filter (λ (c : Test). nat_eq c.level level) ts))) h in
    rw (e, plain_guards w t r (suc level) js h) refl

no_condition : (w : Setting) (n : ℕ) (s : Site) (o : Option Expression) → NoneBarred w → slice_get w.sites n ≡ Some s → condition_of s.statement ≡ o → o ≡ None
no_condition w n s None none there h = refl
no_condition w n s (Some e) none there h =
    let f = fails_at (is_barred_site w) w.sites none n s there in
    let k = barred_if w n s.statement e h in
    absurd cc

no_forms : (w : Setting) (t : Numbers) (n : ℕ) (ss : List Site) → NoneBarred w → ((i m : ℕ) (s : Site) → n + i ≡ m → slice_get ss i ≡ Some s → slice_get w.sites m ≡ Some s) → forms_from w t n ss ≡ []
no_forms w t n [] none f = refl
no_forms w t n (s ∷ ss) none f =
    ap (λ o. form_written w t n o ++ forms_from w t (suc n) ss) (no_condition w n s (condition_of s.statement) none (f 0 n s (omega arith) refl) refl)
    ∙ no_forms w t (suc n) ss none (λ i m z e there. f (suc i) m z (omega arith) there)

empty_pool : (w : Setting) (chain : List ℕ) (base : ℕ) → NoneBarred w → is_empty (pool_of (numbers_of w).atoms (conditions_of w (numbers_of w)) chain base) ≡ true
empty_pool w chain base none = ap (λ fs. is_empty (pool_of (numbers_of w).atoms fs chain base)) (no_forms w (numbers_of w) 0 w.sites none (λ i m s e there. same_place w i m s e there))

listed_plain : (o : Option JavaType) (e : Elem) → is_listed o ≡ true → is_push (added (is_distinct o) e) ≡ true
listed_plain None e h = absurd cc
listed_plain (Some (Of k)) e h = absurd cc
listed_plain (Some (Listed k)) e h = refl
listed_plain (Some (Distinct k)) e h = absurd cc

push_form : (w : Setting) (x : List ℕ) (u : Numbered) (o : Option ℕ) (q : Option Rattle.loop_text.specs.Sites.Sites.RowColumn) → is_listed (w.types x) ≡ true → fits_outer w u.number u.site x (Rattle.loop_text.specs.Kernel.KernelForms.adds_taken o q) ≡ true → is_push (update_with w x u.site.round (Rattle.loop_text.specs.Kernel.KernelForms.adds_taken o q)) ≡ true
push_form w x u o (Some q) l h = listed_plain (w.types x) (lowered.element_of w (column q)) l
push_form w x u (Some j) None l h = listed_plain (w.types x) (lowered.element_of w (whole j)) l
push_form w x u None None l h = absurd cc

push_statement : (w : Setting) (x : List ℕ) (u : Numbered) (s : Statement) → target_of s ≡ Some x → is_barred w u.number s ≡ false → binding_at w.sites u.number x ≡ Outer → fits_outer w u.number u.site x (form_of w.sites u.number s) ≡ true → is_push (update_with w x u.site.round (form_of w.sites u.number s)) ≡ true
push_statement w x u (tree.Add at y e) t free bound h =
    let same : y ≡ x = cc in
    let free' : is_list_bound w x (binding_at w.sites u.number x) ≡ true = Rattle.java_loops.proofs.Nested.NestRules.true_from_not (is_list_bound w x (binding_at w.sites u.number x)) (subst (λ z. not (is_list_bound w z (binding_at w.sites u.number z)) ≡ false) same free) in
    push_form w x u (Rattle.loop_text.specs.Sites.Sites.row_at w.sites u.number e) (Rattle.loop_text.specs.Sites.Sites.row_column_at w.sites u.number e) (ap (is_list_bound w x) (sym bound) ∙ free') h
push_statement w x u (tree.Assign at y e) t free bound h = absurd cc
push_statement w x u (tree.Declare at ty y e) t free bound h = absurd cc
push_statement w x u (tree.Sort at y keys downs) t free bound h = absurd cc
push_statement w x u (tree.If at q p) t free bound h = absurd cc
push_statement w x u (tree.IfElse at q p o) t free bound h = absurd cc
push_statement w x u (tree.ForEach at ty y e b) t free bound h = absurd cc
push_statement w x u (tree.While at q b) t free bound h = absurd cc
push_statement w x u (tree.Print at e) t free bound h = absurd cc
push_statement w x u (tree.Return at e) t free bound h = absurd cc
push_statement w x u (tree.Break at) t free bound h = absurd cc

appends : (w : Setting) (c : Frame) → Checked w c → (u : Numbered) (x : List ℕ) → SeenBefore w x → UpdateStands w c u x → NoneBarred w → only_appends (made w x 0 u) ≡ true
appends w c is u x seen s none =
    let push : is_push (update_with w x u.site.round (form_found w.sites (Some u))) ≡ true = push_statement w x u u.site.statement s.target (fails_at (is_barred_site w) w.sites none u.number u.site s.there) (s.visited.scope.outer x seen.type seen.seen) (outer_fits w c is u x seen s) in
    rw (push, plain_guards w (numbers_of w) u.site.round 1 u.site.round.loops (no_tests w u.site.round.loops u.site.round.tests none s.round.tests), empty_pool w (chain_at w u.site.round) 0 none) refl

cut_or : (w : Setting) (c : Frame) → Checked w c → (a : Accumulator) (b : Bool) → any_site (is_barred_site w) 0 w.sites ≡ b → (b ≡ false → only_appends a ≡ true) → (not (list_any is_sorted_and_cut (lists_of w w.sites)) || only_appends a) ≡ true
cut_or w c is a true e h = or_left (not (list_any is_sorted_and_cut (lists_of w w.sites))) (only_appends a) (not_so (list_any is_sorted_and_cut (lists_of w w.sites)) (barred_uncut w c is e))
cut_or w c is a false e h = or_right (not (list_any is_sorted_and_cut (lists_of w w.sites))) (only_appends a) (h refl)

pub needed_suits : (w : Setting) (c : Frame) → Checked w c → (u : Numbered) (x : List ℕ) → SeenBefore w x → UpdateStands w c u x → suits_the_lists (lowering w).fragment (made w x 0 u) ≡ true
unfolding suits_the_lists
needed_suits w c is u x seen s =
    rw (few_loops w c is u x (form_found w.sites (Some u)) s.inside (outer_fits w c is u x seen s), cut_or w c is (made w x 0 u) (any_site (is_barred_site w) 0 w.sites) refl (λ e. appends w c is u x seen s e)) refl

-- a flag is barred beside a sorted and cut list
marks_barred : (w : Setting) (n : ℕ) (s : Statement) (x : List ℕ) (b : Bool) → target_of s ≡ Some x → form_of w.sites n s ≡ marks b → is_barred w n s ≡ true
marks_barred w n (tree.Assign at y e) x b t h = refl
marks_barred w n (tree.Add at y e) x b t h = absurd (taken (Rattle.loop_text.specs.Sites.Sites.row_at w.sites n e) (Rattle.loop_text.specs.Sites.Sites.row_column_at w.sites n e) h)
  where
    taken : (o : Option ℕ) (q : Option Rattle.loop_text.specs.Sites.Sites.RowColumn) → Rattle.loop_text.specs.Kernel.KernelForms.adds_taken o q ≡ marks b → ⊥
    taken o (Some q) h = absurd cc
    taken (Some j) None h = absurd cc
    taken None None h = absurd cc
marks_barred w n (tree.Declare at ty y e) x b t h = absurd cc
marks_barred w n (tree.Sort at y keys downs) x b t h = absurd cc
marks_barred w n (tree.If at q p) x b t h = absurd cc
marks_barred w n (tree.IfElse at q p o) x b t h = absurd cc
marks_barred w n (tree.ForEach at ty y e p) x b t h = absurd cc
marks_barred w n (tree.While at q p) x b t h = absurd cc
marks_barred w n (tree.Print at e) x b t h = absurd cc
marks_barred w n (tree.Return at e) x b t h = absurd cc
marks_barred w n (tree.Break at) x b t h = absurd cc

flag_few : (w : Setting) (x : List ℕ) (r : Round) (chain : List ℕ) (f : Form) (b : Bool) → f ≡ marks b → loops_are_few (lowering w).fragment chain (update_with w x r f) ≡ true
flag_few w x r chain f b e = ap (λ z. loops_are_few (lowering w).fragment chain (update_with w x r z)) e

pub flag_suits : (w : Setting) (c : Frame) → Checked w c → (d : ℕ) (s : Site) (u : Numbered) (x : List ℕ) → FlagStands w c d s u x → suits_the_lists (lowering w).fragment (made w x (length s.round.loops) u) ≡ true
unfolding suits_the_lists
flag_suits w c is d s u x f =
    rw (flag_few w x u.site.round (chain_at w u.site.round) (form_found w.sites (Some u)) f.value f.form, cut_or w c is (made w x (length s.round.loops) u) (any_site (is_barred_site w) 0 w.sites) refl (λ e. let h = fails_at (is_barred_site w) w.sites e u.number u.site f.update.there in let k = marks_barred w u.number u.site.statement x f.value f.update.target f.form in absurd cc)) refl
