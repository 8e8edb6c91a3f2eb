-- The accumulator of a flag of a block: its update, its start, its number and its layers.
use Rattle.std.proofs.Common.{◌≡◌, ℕ, zero, suc, ◌+◌, Bool, true, false, not, List, [], ◌∷◌, ◌++◌, length, map, take, drop, Option, Some, refl, sym, ap, ◌∙◌, slice_get, arith, ⊎_elim}
use Rattle.qbs_base.specs.declared.scalar.Scalar.TheVariants as scalars
use Rattle.java_ast.specs.Tree as tree
use Rattle.java_ast.specs.Tree.{Expression, Statement, Statements}
use Rattle.java_mean.specs.Types.{Types}
use Rattle.kernel_lang.specs.Plain.{Accumulator, Fragment}
use Rattle.kernel_lang.specs.Running.{Layer, layers, layers_of}
use Rattle.tor_terms.specs.Plain.{Form}
use Rattle.tor_terms.specs.Truth.{has_loop}
use Rattle.tor_terms.proofs.Scalars.{scalar_same-true}
use Rattle.java_loops.specs.Walks.Chains as chains
use Rattle.java_loops.specs.Walks.Chains.{Change, declares, IsBranch, IsChain, IsFlag}
use Rattle.java_loops.specs.Walks.Numbering.{Numbering, Flags, with_loops}
use Rattle.loop_text.specs.Statements.Fragment.{needed_of, accumulators}
use Rattle.loop_text.specs.Kernel.KernelForms as kernel_forms
use Rattle.loop_text.specs.Kernel.KernelForms.{adds, counts, sums, takes, marks, other, form_of, fits_local, is_in_own_loop}
use Rattle.java_loops.specs.Kernel.KernelForms.{fits, fits_target}
use Rattle.loop_text.specs.Kernel.KernelStarts.{form_found, may_start, update_of_flag, starts_flag, broken_flag_start, broken_starts_of}
use Rattle.loop_text.specs.Statements.Loops.{is_loop}
use Rattle.java_loops.specs.Lowering.Lowered.{guards_from, flags_from, update_with, start_with}
use Rattle.java_loops.specs.Lowering.Numbering.{Numbers, loop_number, count_flags, flag_number, starts_true}
use Rattle.java_loops.specs.Kernel.Setting.{Setting}
use Rattle.loop_text.specs.declared.sites.bindings.Binding.TheVariants.{Local}
use Rattle.loop_text.specs.Sites.Sites.{Round, Site, declared_name, first_broken, place_of}
use Rattle.java_loops.proofs.Chained.ChainAims.{Flagging, passed}
use Rattle.java_loops.proofs.Chained.ChainFlagSites.{FlagUpdate, flag_accumulator, flag_at}
use Rattle.java_loops.proofs.Chained.ChainFlags.{OwnLoops, start_truth}
use Rattle.java_loops.proofs.Chained.ChainSight.{Sight}
use Rattle.java_loops.proofs.Chained.ChainSteps.{Step, round_down, layers_down, loops_down, loops_of_down, layers_inside}
use Rattle.java_loops.proofs.Nested.NestRules.{Unbroken, allowed_at, formed_at, true_from_not}
use Rattle.java_loops.proofs.Standing.StandingRules.{first_none, none_where, unbroken_at}
use Rattle.java_loops.proofs.Standing.StandingWithin.{Leveled}

-- ---- The form of its update

-- the update of a flag marks it, in a loop of its own block
pub record FlagForm (w : Setting) (d : ℕ) (x : List ℕ) (t : Site) (f : FlagUpdate w d x) : Type 0 where
  pub truth : Bool
  pub form : form_of w.sites f.number f.site.statement ≡ marks truth
  pub own : is_in_own_loop f.site (Some t) ≡ true

flag_form_by : (w : Setting) (d : ℕ) (x : List ℕ) (t : Site) (f : FlagUpdate w d x) (form : kernel_forms.Form) → slice_get w.sites d ≡ Some t → form_of w.sites f.number f.site.statement ≡ form → fits_local w.sites f.site d form ≡ true → FlagForm w d x t f
flag_form_by w d x t f (marks b) there e h = record { truth = b; form = e; own = ap (is_in_own_loop f.site) (sym there) ∙ h }
flag_form_by w d x t f (adds z) there e h = absurd cc
flag_form_by w d x t f counts there e h = absurd cc
flag_form_by w d x t f (sums c) there e h = absurd cc
flag_form_by w d x t f (takes c) there e h = absurd cc
flag_form_by w d x t f other there e h = absurd cc

pub flag_form : (w : Setting) → Unbroken w → (d : ℕ) (x : List ℕ) (t : Site) → slice_get w.sites d ≡ Some t → (f : FlagUpdate w d x) → FlagForm w d x t f
flag_form w u d x t there f =
    let h : fits w f.number f.site x (Local d) ≡ true = ap (fits w f.number f.site x) (sym f.bound) ∙ ap (λ o. fits_target w f.number f.site o) (sym f.target) ∙ formed_at w u f.number f.site f.there in
    flag_form_by w d x t f (form_of w.sites f.number f.site.statement) there refl h

pub own_loops : (w : Setting) → Unbroken w → OwnLoops w
own_loops w u = record { by = λ d x t there name f. (flag_form w u d x t there f).own }

-- ---- Its start

truth_start : (b c : Bool) → scalars.Bool b ≡ scalars.Bool c → b ≡ c
truth_start b c e = cc

flag_start : (w : Setting) (d : ℕ) (x : List ℕ) (t : Site) (f : FlagUpdate w d x) → (form : FlagForm w d x t f) → (s : Flagging t.statement) → starts_flag w.sites d t.statement ≡ true → starts_true t.statement ≡ not form.truth
flag_start w d x t f form s h =
    let e : Expression = tree.Lit s.at' (scalars.Bool s.start) in
    let k : may_start (form_found w.sites (update_of_flag w.sites d)) e ≡ true = ap (starts_flag w.sites d) (sym s.is) ∙ h in
    let m : may_start (marks form.truth) e ≡ true = ap (λ z. may_start z e) (sym (ap (form_found w.sites) f.found ∙ form.form)) ∙ k in
    let same : s.start ≡ not form.truth = truth_start s.start (not form.truth) (scalar_same-true (scalars.Bool s.start) (scalars.Bool (not form.truth)) m) in
    ap starts_true s.is ∙ start_truth s.at s.at' s.name s.start ∙ same

declaration_of : (s : Statement) (x : List ℕ) → declared_name s ≡ Some x → declares s ≡ false → ⊥
declaration_of (tree.Declare at ty y e) x h k = absurd cc
declaration_of (tree.Assign at y e) x h k = absurd cc
declaration_of (tree.Add at y e) x h k = absurd cc
declaration_of (tree.Sort at y keys downs) x h k = absurd cc
declaration_of (tree.If at e p) x h k = absurd cc
declaration_of (tree.IfElse at e p q) x h k = absurd cc
declaration_of (tree.ForEach at ty y e p) x h k = absurd cc
declaration_of (tree.While at e p) x h k = absurd cc
declaration_of (tree.Print at e) x h k = absurd cc
declaration_of (tree.Return at e) x h k = absurd cc
declaration_of (tree.Break at) x h k = absurd cc

-- a flag starts with the opposite of what its update sets
pub flag_opposite : (w : Setting) → Unbroken w → (d : ℕ) (x : List ℕ) (t : Site) → slice_get w.sites d ≡ Some t → declared_name t.statement ≡ Some x → (f : FlagUpdate w d x) → (form : FlagForm w d x t f) → starts_true t.statement ≡ not form.truth
flag_opposite w u d x t there name f form =
    let rest = (first_none (broken_starts_of w.sites (place_of w.fragment.loop) (accumulators w.fragment) w.fragment.run) (first_broken (broken_flag_start w.sites) 0 w.sites) u.starts).1 in
    let here = true_from_not (starts_flag w.sites d t.statement) (none_where (not (starts_flag w.sites d t.statement)) (place_of t.statement) (unbroken_at (broken_flag_start w.sites) w.sites rest d t there)) in
    ⊎_elim (λ s. flag_start w d x t f form s here) (λ h. absurd (declaration_of t.statement x name h)) (passed w.sites t t.statement (allowed_at w u d t there))

-- ---- Its accumulator

get_behind : {A : Type 0} (xs ys : List A) (n i : ℕ) → length xs ≡ n → slice_get (xs ++ ys) (n + i) ≡ slice_get ys i
get_behind [] ys zero i e = let same : 0 + i ≡ i = omega arith in ap (slice_get ys) same
get_behind [] ys (suc n) i e = absurd (omega (arith, e))
get_behind (x ∷ xs) ys zero i e = absurd (omega (arith, e))
get_behind (x ∷ xs) ys (suc n) i e = let same : suc n + i ≡ suc (n + i) = omega arith in ap (slice_get (x ∷ (xs ++ ys))) same ∙ get_behind xs ys n i (omega (arith, e))

-- the accumulators of a fragment are those of needed variables, and behind them those of flags
pub record HasFlags (w : Setting) (t : Numbers) (F : Fragment) : Type 0 where
  pub needed : List Accumulator
  pub conditions : List Form
  pub is : F.accs ≡ needed ++ flags_from w t conditions 0 w.sites
  pub count : length needed ≡ length (needed_of w.fragment)

take_front : (f : ℕ → ℕ) (xs ys : List ℕ) → take (length xs) (map f (xs ++ ys)) ≡ map f xs
take_front f [] ys = refl
take_front f (x ∷ xs) ys = ap (λ zs. f x ∷ zs) (take_front f xs ys)

-- the loops round the declaration of a flag
pub flag_loops : (w : Setting) (d : ℕ) (x : List ℕ) (t : Site) (f : FlagUpdate w d x) (r : Round) (ss : List Step) → t.round ≡ r → f.site.round ≡ round_down r ss → take (length t.round.loops) (map (loop_number w.sites) f.site.round.loops) ≡ map (loop_number w.sites) t.round.loops
flag_loops w d x t f r ss same way =
    let loops : f.site.round.loops ≡ t.round.loops ++ loops_down ss = ap (λ (q : Round). q.loops) way ∙ loops_of_down r ss ∙ ap (λ (q : Round). q.loops ++ loops_down ss) (sym same) in
    ap (λ ls. take (length t.round.loops) (map (loop_number w.sites) ls)) loops ∙ take_front (loop_number w.sites) t.round.loops (loops_down ss)

-- the accumulator of a flag has the layers of the way from its block to its update
pub is_flag : (w : Setting) → Unbroken w → (t : Numbers) (F : Fragment) (N : Numbering) → (has : HasFlags w t F) → (r : Round) (n : ℕ) (g : Types) (loops : List ℕ → Option ℕ) → Sight w r n g loops → Leveled r → (d : ℕ) (x : List ℕ) (s : Site) → slice_get w.sites d ≡ Some s → declared_name s.statement ≡ Some x → s.round ≡ r → (f : FlagUpdate w d x) → (form : FlagForm w d x s f) → (ss : List Step) → f.site.round ≡ round_down r ss → IsFlag F (with_loops loops N) (flag_number w d) (flag_accumulator w t has.conditions d x s.round f) (layers_down w t ss)
is_flag w u t F N has r n g loops sight leveled d x s there name same f form ss way =
    let acc : Accumulator = flag_accumulator w t has.conditions d x s.round f in
    record {
      there =
          ap (λ accs. slice_get accs (flag_number w d)) has.is
          ∙ get_behind has.needed (flags_from w t has.conditions 0 w.sites) (length (needed_of w.fragment)) (count_flags (take d w.sites)) has.count
          ∙ flag_at w u t has.conditions d s x there name f;
      update = ap (update_with w x f.site.round) form.form;
      start = ap (λ z. start_with w x (update_with w x f.site.round z)) form.form;
      inside =
          ap (λ k. drop k (layers_of acc)) (ap (λ (q : Round). length q.loops) same)
          ∙ ap (λ (q : Round). drop (length r.loops) (layers (map (loop_number w.sites) q.loops) (guards_from w t q 1 q.loops))) way
          ∙ layers_inside w t r ss leveled;
      loops = λ y j e. ap (λ ls. has_loop ls j) (flag_loops w d x s f r ss same way ∙ ap (λ (q : Round). map (loop_number w.sites) q.loops) same) ∙ sight.within y j e;
    }

-- ---- The loop that sets it

branch_no_loop : (s : Statement) (a : List ℕ) (b : Bool) (c : Expression) (p : Statements) → IsBranch s a b c p → is_loop s ≡ false
branch_no_loop _ _ _ _ _ (chains.only_branch at a c p) = refl
branch_no_loop _ _ _ _ _ (chains.first_branch at a c p q e) = refl
branch_no_loop _ _ _ _ _ (chains.other_branch at a c p q e) = refl

-- the chain of a loop has no conditions before the loop
pub loop_fronts : (F : Fragment) (quiet : Bool) (N : Numbering) (flags : Flags) (s : Statement) (a : List ℕ) (fs : List Form) (ys : List Layer) (ch : Change) → IsChain F quiet N flags s a fs ys ch → is_loop s ≡ true → fs ≡ []
loop_fronts F _ _ _ _ _ _ _ _ (chains.update quiet N flags s a ch up) e = refl
loop_fronts F _ _ _ _ _ _ _ _ (chains.under quiet N flags s a polarity c p fs gs ys ch branch conjuncts below) e = let h = branch_no_loop s a polarity c p branch in absurd cc
loop_fronts F _ _ _ _ _ _ _ _ (chains.best quiet N flags s a polarity c p way j column fs gs branch is below) e = let h = branch_no_loop s a polarity c p branch in absurd cc
loop_fronts F _ _ _ _ _ _ _ _ (chains.over quiet N flags at ty x z p a j gs ys u opposite is apart unflagged different new below) e = refl
