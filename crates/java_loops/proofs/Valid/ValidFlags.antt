-- The flags of a lowered fragment: where their updates stand, and what their accumulators are.
use Rattle.std.proofs.Common.{◌≡◌, ℕ, ◌<◌, Bool, true, not, ◌&&◌, ◌||◌, List, length, Option, Some, None, refl, sym, ap, ◌∙◌, subst, slice_get, nat_eq, nat_lt}
use Rattle.std.proofs.lemmas.Bool.{and_parts, ltb-true, eqb-true}
use Rattle.java_ast.specs.Tree.{Statement}
use Rattle.java_mean.specs.declared.types.JavaType.{JavaType}
use Rattle.java_mean.specs.Types.{Types}
use Rattle.java_mean.specs.Typing as typing
use Rattle.java_mean.specs.Typing.{Frame, TypedStatement}
use Rattle.kernel_lang.specs.Validity.{is_mark, chain_is_valid, base_is_valid}
use Rattle.loop_text.specs.Kernel.KernelForms.{Form, adds, counts, sums, takes, marks, other, fits_local, is_in_own_loop, tests_within}
use Rattle.java_loops.specs.Kernel.KernelForms.{fits, fits_target}
use Rattle.loop_text.specs.Kernel.KernelStarts.{Numbered, update_of_flag, form_found}
use Rattle.loop_text.specs.Kernel.KernelStatements.{updates_local, target_binding, target_bound}
use Rattle.java_loops.specs.Kernel.Setting.{Setting}
use Rattle.loop_text.specs.declared.sites.bindings.Binding.{Binding}
use Rattle.loop_text.specs.declared.sites.bindings.Binding.TheVariants.{Row, Local, Outer}
use Rattle.loop_text.specs.Sites.Sites.{Site, Round, binding_at, same_binding, declared_name, target_of, is_update, is_some, depth}
use Rattle.java_loops.proofs.Nested.NestRules.{formed_at}
use Rattle.java_loops.proofs.Standing.StandingRules.{get_same}
use Rattle.java_loops.proofs.Valid.ValidAccumulators.{UpdateStands, update_stands, made, chain_valid}
use Rattle.java_loops.proofs.Valid.ValidLoop.{Checked, rules}
use Rattle.java_loops.proofs.Valid.ValidOperands.{AnyRow}
use Rattle.java_loops.proofs.Valid.ValidScope.{Under, Declared, IsBound}
use Rattle.java_loops.proofs.Valid.ValidUpdates.{FoundSite, found_site}

-- ---- What an update sets is visible

pub record Seen (now : Types) (x : List ℕ) : Type 0 where
  pub type : JavaType
  pub seen : now x ≡ Some type

target_step : (c : Frame) (l : Option Types) (now h : Types) (s : Statement) (x : List ℕ) → TypedStatement c l now s h → target_of s ≡ Some x → Seen now x
target_step c _ _ _ _ x (typing.assign l now at y e k i t) is = let same : y ≡ x = cc in record { type = k; seen = ap now (sym same) ∙ i }
target_step c _ _ _ _ x (typing.add l now at y e k a i has t) is = let same : y ≡ x = cc in record { type = k; seen = ap now (sym same) ∙ i }
target_step c _ _ _ _ x _ is = absurd cc

pub target_seen : (w : Setting) (c : Frame) (u : Numbered) (x : List ℕ) (s : UpdateStands w c u x) → Seen s.visited.now x
target_seen w c u x s = target_step c s.visited.at_body s.visited.now s.visited.after s.visited.site.statement x s.visited.typed (ap (λ (z : Site). target_of z.statement) s.site ∙ s.target)

-- ---- The update of a flag

some_target : (o : Option (List ℕ)) → is_some o ≡ true → (x : List ℕ) × (o ≡ Some x)
some_target None h = absurd cc
some_target (Some x) h = (x, refl)

pub local_is : (b : Binding) (d : ℕ) → same_binding b (Local d) ≡ true → b ≡ Local d
local_is (Row n) d h = absurd cc
local_is (Local n) d h = ap Local (eqb-true n d h)
local_is Outer d h = absurd cc

pub record LocalUpdate (sites : List Site) (d n : ℕ) (s : Site) : Type 0 where
  pub name : List ℕ
  pub target : target_of s.statement ≡ Some name
  pub bound : binding_at sites n name ≡ Local d

-- a site that updates a flag sets a name that is bound to it
pub local_update : (sites : List Site) (d n : ℕ) (s : Site) → updates_local sites d n s ≡ true → LocalUpdate sites d n s
local_update sites d n s h =
    let two = and_parts (is_update s.statement) (same_binding (target_binding sites n s) (Local d)) h in
    let t = some_target (target_of s.statement) two.0 in
    record { name = t.0; target = t.1; bound = sym (ap (target_bound sites n) t.1) ∙ local_is (target_binding sites n s) d two.1 }

pub record LocalMarks (s : Site) (o : Option Site) (f : Form) : Type 0 where
  pub value : Bool
  pub form : f ≡ marks value
  pub own : is_in_own_loop s o ≡ true

local_marks : (sites : List Site) (s : Site) (d : ℕ) (f : Form) → fits_local sites s d f ≡ true → LocalMarks s (slice_get sites d) f
local_marks sites s d (adds t) h = absurd cc
local_marks sites s d counts h = absurd cc
local_marks sites s d (sums q) h = absurd cc
local_marks sites s d (takes q) h = absurd cc
local_marks sites s d (marks b) h = record { value = b; form = refl; own = h }
local_marks sites s d other h = absurd cc

-- The update of a flag that is declared at the site s with the number d.
pub record FlagStands (w : Setting) (c : Frame) (d : ℕ) (s : Site) (u : Numbered) (x : List ℕ) : Type 0 where
  pub update : UpdateStands w c u x
  pub bound : binding_at w.sites u.number x ≡ Local d
  pub declares : declared_name s.statement ≡ Some x
  pub under : Under s.round u.site.round
  pub value : Bool
  pub form : form_found w.sites (Some u) ≡ marks value
  pub deeper : depth s < depth u.site
  pub tests : tests_within (depth s) u.site.round ≡ length s.round.tests

bound_here : (w : Setting) (c : Frame) (u : Numbered) (x : List ℕ) (d : ℕ) (s : UpdateStands w c u x) → binding_at w.sites u.number x ≡ Local d → Declared w.sites u.site.round d x
bound_here w c u x d s b =
    let t = target_seen w c u x s in
    let h : IsBound AnyRow w.types w.sites s.visited.site.round x t.type (Local d) = subst (λ z. IsBound AnyRow w.types w.sites s.visited.site.round x t.type z) b (s.visited.scope.bound x t.type t.seen) in
    subst (λ (z : Site). Declared w.sites z.round d x) s.site h

flag_of_name : (w : Setting) (c : Frame) → Checked w c → (d : ℕ) (s : Site) (u : Numbered) → slice_get w.sites d ≡ Some s → slice_get w.sites u.number ≡ Some u.site → (l : LocalUpdate w.sites d u.number u.site) → FlagStands w c d s u l.name
flag_of_name w c is d s u there get l =
    let up : UpdateStands w c u l.name = update_stands w c is u l.name get l.target in
    let b : Declared w.sites u.site.round d l.name = bound_here w c u l.name d up l.bound in
    let same : b.site ≡ s = get_same w.sites d b.site s b.there there in
    let fit : fits_target w u.number u.site (Some l.name) ≡ true = ap (λ o. fits_target w u.number u.site o) (sym l.target) ∙ formed_at w (rules w is.none).unbroken u.number u.site get in
    let fit' : fits w u.number u.site l.name (Local d) ≡ true = ap (λ z. fits w u.number u.site l.name z) (sym l.bound) ∙ fit in
    let m = local_marks w.sites u.site d (form_found w.sites (Some u)) fit' in
    let own : is_in_own_loop u.site (Some s) ≡ true = ap (λ o. is_in_own_loop u.site o) (sym there) ∙ m.own in
    let two = and_parts (nat_lt (depth s) (depth u.site)) (nat_eq (tests_within (depth s) u.site.round) (length s.round.tests)) own in
    record {
      update = up;
      bound = l.bound;
      declares = ap (λ (z : Site). declared_name z.statement) (sym same) ∙ b.declares;
      under = subst (λ (z : Site). Under z.round u.site.round) same b.under;
      value = m.value;
      form = m.form;
      deeper = ltb-true (depth s) (depth u.site) two.0;
      tests = eqb-true (tests_within (depth s) u.site.round) (length s.round.tests) two.1;
    }

pub flag_stands : (w : Setting) (c : Frame) → Checked w c → (d : ℕ) (s : Site) (u : Numbered) (x : List ℕ) → slice_get w.sites d ≡ Some s → declared_name s.statement ≡ Some x → update_of_flag w.sites d ≡ Some u → FlagStands w c d s u x
flag_stands w c is d s u x there name found =
    let f : FoundSite (updates_local w.sites d) w.sites u = found_site (updates_local w.sites d) w.sites u found in
    let l = local_update w.sites d u.number u.site f.passes in
    let g : FlagStands w c d s u l.name = flag_of_name w c is d s u there f.there l in
    let both : Some l.name ≡ Some x = sym g.declares ∙ name in
    let same : l.name ≡ x = cc in
    subst (λ z. FlagStands w c d s u z) same g

-- ---- Chains and bases of flags

pub chain_of_flag : (w : Setting) (c : Frame) → Checked w c → (d : ℕ) (s : Site) (u : Numbered) (x : List ℕ) → FlagStands w c d s u x → chain_is_valid (made w x (length s.round.loops) u) ≡ true
chain_of_flag w c is d s u x f = chain_valid w c is x (length s.round.loops) u f.update f.deeper

marks_base : (w : Setting) (x : List ℕ) (r : Round) (base : ℕ) (f : Form) (b : Bool) → f ≡ marks b → (is_mark (Rattle.java_loops.specs.Lowering.Lowered.update_with w x r f) || (nat_eq base 0 && not (Rattle.java_loops.specs.Lowering.Lowered.is_opposite f))) ≡ true
marks_base w x r base f b e = ap (λ z. is_mark (Rattle.java_loops.specs.Lowering.Lowered.update_with w x r z) || (nat_eq base 0 && not (Rattle.java_loops.specs.Lowering.Lowered.is_opposite z))) e

pub base_of_flag : (w : Setting) (c : Frame) → Checked w c → (d : ℕ) (s : Site) (u : Numbered) (x : List ℕ) → FlagStands w c d s u x → base_is_valid (made w x (length s.round.loops) u) ≡ true
unfolding base_is_valid
base_of_flag w c is d s u x f = marks_base w x u.site.round (length s.round.loops) (form_found w.sites (Some u)) f.value f.form
