-- The accumulators of a lowered fragment: numbers, chains, bases, and the loops that guards, pools and elements read.
use Rattle.std.proofs.Common.{◌≡◌, ℕ, zero, suc, ◌+◌, ◌<◌, ◌≤◌, Bool, true, false, not, ◌&&◌, ◌||◌, List, [], ◌∷◌, length, map, Option, Some, None, refl, sym, ap, ◌∙◌, subst, cond, slice_get, nat_eq, nat_lt, nat_le, arith, le-leb}
use Rattle.std.specs.List.{AllByRecursion}
use Rattle.std.proofs.lemmas.Bool.{lt-ltb, eq-eqb}
use Rattle.std.proofs.lemmas.Option.{slice_get_within}
use Rattle.sql_ast.proofs.Combinations.{all_append}
use Rattle.java_ast.specs.Tree as tree
use Rattle.java_ast.specs.Tree.{Expression, Statement, Statements, Nothing, Then}
use Rattle.java_mean.specs.Typing.{Frame}
use Rattle.kernel_lang.specs.Plain.{Accumulator}
use Rattle.kernel_lang.specs.Validity.{element_of, element_is_there, element_within, is_mark, accumulator_is_there, chain_is_valid, base_is_valid, reads_its_chain}
use Rattle.tor_terms.specs.declared.term.Elem.{Elem}
use Rattle.tor_terms.specs.Truth.{has_loop}
use Rattle.loop_text.specs.Statements.Fragment.{Fragment, needed_of, set_by}
use Rattle.java_loops.specs.Kernel.Kernel.{lowering}
use Rattle.loop_text.specs.Kernel.KernelForms.{whole, column, Form, adds, counts, sums, takes, marks, other, form_of}
use Rattle.java_loops.specs.Kernel.KernelForms.{is_distinct}
use Rattle.loop_text.specs.Kernel.KernelLoop.{is_kernel_loop}
use Rattle.loop_text.specs.Kernel.KernelStarts.{Numbered, update_of, update_of_flag, form_found}
use Rattle.java_loops.specs.Lowering.Lowered.{added, update_with, is_opposite, accumulator_in, accumulator_with, accumulator_of, outer_accumulators, flag_here, flags_from, accumulators_of, set_in_order, needed_in_order, conditions_of, lists_of}
use Rattle.java_loops.specs.Lowering.Lowered as lowered
use Rattle.java_ast.specs.Names.{Names, is_among}
use Rattle.java_loops.specs.Lowering.Numbering.{numbers_of, loop_number}
use Rattle.java_loops.specs.Kernel.Setting.{Setting}
use Rattle.loop_text.specs.Sites.Sites.{Site, Round, declared_name, target_of, in_loop, outside, sites_of}
use Rattle.java_loops.proofs.Nested.NestRules.{loop_parts}
use Rattle.java_loops.proofs.Standing.Standing.{site_of}
use Rattle.java_loops.proofs.Standing.StandingRules.{get_same}
use Rattle.java_loops.proofs.Standing.StandingSites.{loop_first}
use Rattle.java_loops.proofs.Standing.StandingWithin.{Under}
use Rattle.java_loops.proofs.Valid.ValidChains.{lists_count, loop_counted, chain_rises, chain_there, in_the_loop}
use Rattle.java_loops.proofs.Valid.ValidForms.{guards_count, pool_there, pool_within}
use Rattle.java_loops.proofs.Valid.ValidGuards.{guards_read_chain, guards_are_there}
use Rattle.java_loops.proofs.Valid.ValidLoop.{Checked, rules, site_visited}
use Rattle.java_loops.proofs.Valid.ValidOperands.{AnyRow, any_nested, any_first, chain_at, loop_among}
use Rattle.java_loops.proofs.Valid.ValidScope.{Walked}
use Rattle.java_loops.proofs.Valid.ValidUpdates.{FormIn, form_in}
use Rattle.java_loops.proofs.Valid.ValidVisits.{Visited, RoundStands}

-- ---- Where accumulators come from

-- an accumulator of a needed variable, or of a flag, with its update
pub data Comes (w : Setting) : Accumulator → Type 0 where
  needed : (x : List ℕ) (u : Numbered) → is_among (needed_of w.fragment) x ≡ true → update_of w.sites x ≡ Some u → Comes w (accumulator_with w (numbers_of w) (conditions_of w (numbers_of w)) x 0 u.site.round (form_found w.sites (Some u)))
  flagged : (x : List ℕ) (d : ℕ) (s : Site) (u : Numbered) → slice_get w.sites d ≡ Some s → declared_name s.statement ≡ Some x → update_of_flag w.sites d ≡ Some u → Comes w (accumulator_with w (numbers_of w) (conditions_of w (numbers_of w)) x (length s.round.loops) u.site.round (form_found w.sites (Some u)))

one_comes : (w : Setting) (x : List ℕ) (o : Option Numbered) → is_among (needed_of w.fragment) x ≡ true → update_of w.sites x ≡ o → AllByRecursion (Comes w) (accumulator_of w (numbers_of w) (conditions_of w (numbers_of w)) x 0 o)
one_comes w x None h e = tt
one_comes w x (Some u) h e = (needed x u h e, tt)

outer_come : (w : Setting) (xs : Names) → AllByRecursion (λ x. is_among (needed_of w.fragment) x ≡ true) xs → AllByRecursion (Comes w) (outer_accumulators w (numbers_of w) (conditions_of w (numbers_of w)) xs)
outer_come w [] a = tt
outer_come w (x ∷ xs) a = all_append (Comes w) (accumulator_of w (numbers_of w) (conditions_of w (numbers_of w)) x 0 (update_of w.sites x)) (outer_accumulators w (numbers_of w) (conditions_of w (numbers_of w)) xs) (one_comes w x (update_of w.sites x) a.0 refl) (outer_come w xs a.1)

flag_comes : (w : Setting) (d : ℕ) (s : Site) (x : List ℕ) (o : Option Numbered) → slice_get w.sites d ≡ Some s → declared_name s.statement ≡ Some x → update_of_flag w.sites d ≡ o → AllByRecursion (Comes w) (accumulator_of w (numbers_of w) (conditions_of w (numbers_of w)) x (length s.round.loops) o)
flag_comes w d s x None there name e = tt
flag_comes w d s x (Some u) there name e = (flagged x d s u there name e, tt)

here_comes : (w : Setting) (d : ℕ) (s : Site) (o : Option (List ℕ)) → slice_get w.sites d ≡ Some s → declared_name s.statement ≡ o → AllByRecursion (Comes w) (flag_here w (numbers_of w) (conditions_of w (numbers_of w)) d s.round o)
here_comes w d s None there name = tt
here_comes w d s (Some x) there name = flag_comes w d s x (update_of_flag w.sites d) there name refl

flags_come : (w : Setting) (d : ℕ) (ss : List Site) → ((i m : ℕ) (s : Site) → d + i ≡ m → slice_get ss i ≡ Some s → slice_get w.sites m ≡ Some s) → AllByRecursion (Comes w) (flags_from w (numbers_of w) (conditions_of w (numbers_of w)) d ss)
flags_come w d [] h = tt
flags_come w d (s ∷ ss) h =
    all_append (Comes w) (flag_here w (numbers_of w) (conditions_of w (numbers_of w)) d s.round (declared_name s.statement)) (flags_from w (numbers_of w) (conditions_of w (numbers_of w)) (suc d) ss)
    (here_comes w d s (declared_name s.statement) (h 0 d s (omega arith) refl) refl)
    (flags_come w (suc d) ss (λ i m t e there. h (suc i) m t (omega arith) there))

order_step : (P : List ℕ → Type 0) (y : List ℕ) (ys : Names) (b : Bool) → (b ≡ true → P y) → AllByRecursion P ys → AllByRecursion P (cond b (y ∷ ys) ys)
order_step P y ys true h a = (h refl, a)
order_step P y ys false h a = a

pub order_among : (xs : Names) (ss : Statements) → AllByRecursion (λ x. is_among xs x ≡ true) (set_in_order xs ss)
order_among xs Nothing = tt
order_among xs (Then s ss) = order_step (λ x. is_among xs x ≡ true) (set_by s) (set_in_order xs ss) (is_among xs (set_by s)) (λ h. h) (order_among xs ss)

same_number : (w : Setting) (i m : ℕ) (s : Site) → 0 + i ≡ m → slice_get w.sites i ≡ Some s → slice_get w.sites m ≡ Some s
same_number w i m s e there = let same : i ≡ m = omega arith in subst (λ k. slice_get w.sites k ≡ Some s) same there

-- each accumulator comes from a needed variable or a flag
pub all_come : (w : Setting) → AllByRecursion (Comes w) (lowering w).fragment.accs
all_come w =
    all_append (Comes w) (outer_accumulators w (numbers_of w) (conditions_of w (numbers_of w)) (needed_in_order w)) (flags_from w (numbers_of w) (conditions_of w (numbers_of w)) 0 w.sites)
    (outer_come w (needed_in_order w) (order_among (needed_of w.fragment) w.fragment.run))
    (flags_come w 0 w.sites (λ i m s e there. same_number w i m s e there))

-- ---- The site of an update

pub record UpdateStands (w : Setting) (c : Frame) (u : Numbered) (x : List ℕ) : Type 0 where
  pub there : slice_get w.sites u.number ≡ Some u.site
  pub target : target_of u.site.statement ≡ Some x
  pub visited : Visited AnyRow c w.types w.sites u.number
  pub site : visited.site ≡ u.site
  pub round : RoundStands w.sites u.number u.site.round
  pub formed : FormIn w.sites u.site.round (form_found w.sites (Some u))
  pub inside : Under (in_loop outside 0) u.site.round

pub no_target : (f : Fragment) (s : Statement) (x : List ℕ) → is_kernel_loop f s ≡ true → target_of s ≡ Some x → ⊥
no_target f (tree.ForEach at ty y e b) x h t = absurd cc
no_target f (tree.While at c b) x h t = absurd cc
no_target f (tree.Declare at ty y e) x h t = absurd cc
no_target f (tree.Assign at y e) x h t = absurd cc
no_target f (tree.Add at y e) x h t = absurd cc
no_target f (tree.Sort at y keys downs) x h t = absurd cc
no_target f (tree.If at c p) x h t = absurd cc
no_target f (tree.IfElse at c p q) x h t = absurd cc
no_target f (tree.Print at e) x h t = absurd cc
no_target f (tree.Return at e) x h t = absurd cc
no_target f (tree.Break at) x h t = absurd cc

behind_step : (w : Setting) (c : Frame) → Checked w c → (n : ℕ) (s : Site) (x : List ℕ) → slice_get w.sites n ≡ Some s → target_of s.statement ≡ Some x → 1 ≤ n
behind_step w c is zero s x there h =
    let one : slice_get w.sites 0 ≡ Some (site_of outside None w.fragment.loop) = ap (λ ss. slice_get ss 0) is.sites ∙ loop_first w.fragment.loop in
    let same : site_of outside None w.fragment.loop ≡ s = get_same w.sites 0 (site_of outside None w.fragment.loop) s one there in
    absurd (no_target w.fragment w.fragment.loop x (loop_parts w (rules w is.none).unbroken).1 (ap (λ (z : Site). target_of z.statement) same ∙ h))
behind_step w c is (suc n) s x there h = omega arith

-- what is behind the loop itself stands in it
pub inside_loop_at : (w : Setting) (c : Frame) → Checked w c → (n : ℕ) (s : Site) → 1 ≤ n → slice_get w.sites n ≡ Some s → Under (in_loop outside 0) s.round
inside_loop_at w c is n s low there =
    let there' : slice_get (sites_of w.fragment.loop) n ≡ Some s = subst (λ ss. slice_get ss n ≡ Some s) is.sites there in
    in_the_loop w.fragment.loop n s low (slice_get_within (sites_of w.fragment.loop) n s there') there'

pub update_stands : (w : Setting) (c : Frame) → Checked w c → (u : Numbered) (x : List ℕ) → slice_get w.sites u.number ≡ Some u.site → target_of u.site.statement ≡ Some x → UpdateStands w c u x
update_stands w c is u x there target =
    let v : Visited AnyRow c w.types w.sites u.number = site_visited AnyRow w c is (any_first c w.fragment.loop) (any_nested w c is) u.number (slice_get_within w.sites u.number u.site there) in
    let same : v.site ≡ u.site = get_same w.sites u.number v.site u.site v.there there in
    record {
      there = there;
      target = target;
      visited = v;
      site = same;
      round = subst (λ (z : Site). RoundStands w.sites u.number z.round) same v.round;
      formed = subst (λ (z : Site). FormIn w.sites z.round (form_of w.sites u.number z.statement)) same (form_in AnyRow c w.types w.sites u.number v);
      inside = inside_loop_at w c is u.number u.site (behind_step w c is u.number u.site x there target) there;
    }

-- ---- Elements

element_added : (b : Bool) (e : Elem) → element_of (added b e) ≡ Some e
element_added true e = refl
element_added false e = refl

pub loop_there : (w : Setting) (r : Round) (j : ℕ) → Walked w.sites r j → nat_lt (loop_number w.sites j) (length (lists_of w w.sites)) ≡ true
loop_there w r j h = lt-ltb (loop_number w.sites j) (length (lists_of w w.sites)) (subst (λ z. loop_number w.sites j < z) (sym (lists_count w w.sites)) (loop_counted w.sites j h.site h.there h.loops))

element_there : (w : Setting) (x : List ℕ) (r : Round) (f : Form) → FormIn w.sites r f → element_is_there (lowering w).fragment (element_of (update_with w x r f)) ≡ true
element_there w x r (adds (whole j)) h = ap (element_is_there (lowering w).fragment) (element_added (is_distinct (w.types x)) (lowered.element_of w (whole j))) ∙ loop_there w r j h
element_there w x r (adds (column q)) h = ap (element_is_there (lowering w).fragment) (element_added (is_distinct (w.types x)) (lowered.element_of w (column q))) ∙ loop_there w r q.loop h
element_there w x r counts h = refl
element_there w x r (sums q) h = loop_there w r q.loop h
element_there w x r (takes q) h = loop_there w r q.loop h
element_there w x r (marks b) h = refl
element_there w x r other h = refl

loop_in : (w : Setting) (r : Round) (j : ℕ) → Walked w.sites r j → has_loop (chain_at w r) (loop_number w.sites j) ≡ true
loop_in w r j h = loop_among (loop_number w.sites) r.loops j h.inside

element_in : (w : Setting) (x : List ℕ) (r : Round) (f : Form) → FormIn w.sites r f → element_within (chain_at w r) (element_of (update_with w x r f)) ≡ true
element_in w x r (adds (whole j)) h = ap (element_within (chain_at w r)) (element_added (is_distinct (w.types x)) (lowered.element_of w (whole j))) ∙ loop_in w r j h
element_in w x r (adds (column q)) h = ap (element_within (chain_at w r)) (element_added (is_distinct (w.types x)) (lowered.element_of w (column q))) ∙ loop_in w r q.loop h
element_in w x r counts h = refl
element_in w x r (sums q) h = loop_in w r q.loop h
element_in w x r (takes q) h = loop_in w r q.loop h
element_in w x r (marks b) h = refl
element_in w x r other h = refl

-- ---- Sentences of an accumulator with its update

pub mapped_length : (f : ℕ → ℕ) (js : List ℕ) → length (map f js) ≡ length js
mapped_length f [] = refl
mapped_length f (j ∷ js) = ap suc (mapped_length f js)

abbrev pub made : Setting → List ℕ → ℕ → Numbered → Accumulator
made w x base u = accumulator_with w (numbers_of w) (conditions_of w (numbers_of w)) x base u.site.round (form_found w.sites (Some u))

pub names_there : (w : Setting) (c : Frame) → Checked w c → (x : List ℕ) (base : ℕ) (u : Numbered) → UpdateStands w c u x → accumulator_is_there (lowering w).fragment (made w x base u) ≡ true
unfolding accumulator_is_there
names_there w c is x base u s =
    rw (chain_there (lowering w).fragment w.sites u.number u.site.round.loops (lists_count w w.sites) s.round.loops, element_there w x u.site.round (form_found w.sites (Some u)) s.formed, guards_are_there w c is u.site.round u.number s.round, pool_there (numbers_of w).atoms (conditions_of w (numbers_of w)) (chain_at w u.site.round) base) refl

pub chain_read : (w : Setting) (c : Frame) → Checked w c → (x : List ℕ) (base : ℕ) (u : Numbered) → UpdateStands w c u x → reads_its_chain (lowering w).fragment.atoms (made w x base u) ≡ true
unfolding reads_its_chain
chain_read w c is x base u s =
    rw (guards_read_chain w c is u.site.round u.number s.round, pool_within (numbers_of w).atoms (conditions_of w (numbers_of w)) (chain_at w u.site.round) base, element_in w x u.site.round (form_found w.sites (Some u)) s.formed) refl

pub chain_valid : (w : Setting) (c : Frame) → Checked w c → (x : List ℕ) (base : ℕ) (u : Numbered) → UpdateStands w c u x → base < length u.site.round.loops → chain_is_valid (made w x base u) ≡ true
unfolding chain_is_valid
chain_valid w c is x base u s low =
    let r : Round = u.site.round in
    let same : length (chain_at w r) ≡ length r.loops = mapped_length (loop_number w.sites) r.loops in
    let short : nat_le (length (chain_at w r)) 3 ≡ true = le-leb (length (chain_at w r)) 3 (subst (λ z. z ≤ 3) (sym same) s.round.short) in
    let inner : nat_lt base (length (chain_at w r)) ≡ true = lt-ltb base (length (chain_at w r)) (subst (λ z. base < z) (sym same) low) in
    let each : nat_eq (length (lowered.guards_from w (numbers_of w) r 1 r.loops)) (length (chain_at w r)) ≡ true = eq-eqb (length (lowered.guards_from w (numbers_of w) r 1 r.loops)) (length (chain_at w r)) (guards_count w (numbers_of w) r 1 r.loops ∙ sym same) in
    rw (short, chain_rises w.sites u.number r.loops s.round.loops s.round.rising, inner, each) refl

or_true : (b : Bool) → (b || true) ≡ true
or_true true = refl
or_true false = refl

outer_base : (w : Setting) (x : List ℕ) (r : Round) (f : Form) → (is_mark (update_with w x r f) || (nat_eq 0 0 && not (is_opposite f))) ≡ true
outer_base w x r (adds t) = or_true (is_mark (update_with w x r (adds t)))
outer_base w x r counts = refl
outer_base w x r (sums q) = refl
outer_base w x r (takes q) = refl
outer_base w x r (marks b) = refl
outer_base w x r other = refl

pub base_of_needed : (w : Setting) (x : List ℕ) (u : Numbered) → base_is_valid (made w x 0 u) ≡ true
unfolding base_is_valid
base_of_needed w x u = outer_base w x u.site.round (form_found w.sites (Some u))

pub under_positive : (r : Round) → Under (in_loop outside 0) r → 0 < length r.loops
under_positive r h = let e : length r.loops ≡ length (0 ∷ h.loops) = ap length h.is_loops in omega (arith, e)

-- an update stands in a loop
pub update_inside : (w : Setting) (c : Frame) (u : Numbered) (x : List ℕ) → UpdateStands w c u x → 0 < length u.site.round.loops
update_inside w c u x s = under_positive u.site.round s.inside
