-- Each local flag of a loop of the kernel form has one update, and its accumulator stands at its number.
use Rattle.std.proofs.Common.{◌≡◌, ℕ, zero, suc, ◌+◌, Bool, true, false, not, ◌||◌, List, [], ◌∷◌, ◌++◌, length, take, Option, Some, None, refl, sym, ap, ◌∙◌, cond, slice_get, arith}
use Rattle.std.specs.List.{filter}
use Rattle.std.proofs.lemmas.Bool.{and_parts, or_parts, eqb-true}
use Rattle.java_ast.specs.Tree as tree
use Rattle.java_ast.specs.Tree.{Statement}
use Rattle.kernel_lang.specs.Plain.{Accumulator}
use Rattle.tor_terms.specs.Plain.{Form}
use Rattle.loop_text.specs.Statements.Fragment.{needed_of}
use Rattle.loop_text.specs.Kernel.KernelStarts.{first_site, update_of_flag, form_found}
use Rattle.loop_text.specs.Kernel.KernelStatements.{is_declaration, is_idle_flag, is_none, broken_update, updates_local, target_binding, target_bound}
use Rattle.java_loops.specs.Lowering.Lowered.{accumulator_with, accumulator_of, flag_here, flags_from}
use Rattle.java_loops.specs.Lowering.Numbering.{Numbers, count_flags}
use Rattle.java_loops.specs.Kernel.Setting.{Setting}
use Rattle.loop_text.specs.declared.sites.bindings.Binding.{Binding}
use Rattle.loop_text.specs.declared.sites.bindings.Binding.TheVariants.{Row, Local, Outer}
use Rattle.loop_text.specs.Sites.Sites.{Round, Site, binding_at, declared_name, any_site, first_broken, place_where, place_of, is_update, is_some, same_binding, target_of}
use Rattle.java_loops.proofs.Chained.ChainSets.{UpdateAt, one_update}
use Rattle.java_loops.proofs.Nested.NestRules.{Unbroken, true_from_not, and_second}
use Rattle.java_loops.proofs.Standing.StandingRules.{none_where, first_none, fails_at}
use Rattle.loop_text.proofs.Indexed.ChainFlagSites.{DeclaredAt, local_declared}

-- ---- The update of a flag

pub record FlagUpdate (w : Setting) (d : ℕ) (x : List ℕ) : Type 0 where
  pub number : ℕ
  pub site : Site
  pub there : slice_get w.sites number ≡ Some site
  pub target : target_of site.statement ≡ Some x
  pub bound : binding_at w.sites number x ≡ Local d
  pub found : update_of_flag w.sites d ≡ Some (record { number = number; site = site })

record FoundSite (test : ℕ → Site → Bool) (k : ℕ) (sites : List Site) : Type 0 where
  index : ℕ
  number : ℕ
  is : k + index ≡ number
  site : Site
  there : slice_get sites index ≡ Some site
  passes : test number site ≡ true
  found : first_site test k sites ≡ Some (record { number = number; site = site })

find_step : (test : ℕ → Site → Bool) (k : ℕ) (s : Site) (ss : List Site) (b : Bool) → test k s ≡ b → (b || any_site test (suc k) ss) ≡ true → (any_site test (suc k) ss ≡ true → FoundSite test (suc k) ss) → FoundSite test k (s ∷ ss)
find_step test k s ss true e h more = record { index = 0; number = k; is = omega arith; site = s; there = refl; passes = e; found = ap (λ b. cond b (Some (record { number = k; site = s })) (first_site test (suc k) ss)) e }
find_step test k s ss false e h more =
    let f = more h in
    record { index = suc f.index; number = f.number; is = let g = f.is in omega (arith, g); site = f.site; there = f.there; passes = f.passes; found = ap (λ b. cond b (Some (record { number = k; site = s })) (first_site test (suc k) ss)) e ∙ f.found }

find : (test : ℕ → Site → Bool) (k : ℕ) (sites : List Site) → any_site test k sites ≡ true → FoundSite test k sites
find test k [] h = absurd cc
find test k (s ∷ ss) h = find_step test k s ss (test k s) refl h (λ e. find test (suc k) ss e)

local_is : (b : Binding) (d : ℕ) → same_binding b (Local d) ≡ true → b ≡ Local d
local_is (Local n) d h = ap Local (eqb-true n d h)
local_is (Row n) d h = absurd cc
local_is Outer d h = absurd cc

-- what updates the local variable that is declared there
pub record LocalUpdate (sites : List Site) (d n : ℕ) (s : Site) : Type 0 where
  pub name : List ℕ
  pub target : target_of s.statement ≡ Some name
  pub bound : binding_at sites n name ≡ Local d

local_target : (sites : List Site) (d n : ℕ) (s : Site) (o : Option (List ℕ)) → target_of s.statement ≡ o → is_some o ≡ true → same_binding (target_bound sites n o) (Local d) ≡ true → LocalUpdate sites d n s
local_target sites d n s (Some x) e h k = record { name = x; target = e; bound = local_is (binding_at sites n x) d k }
local_target sites d n s None e h k = absurd cc

pub updated_local : (sites : List Site) (d n : ℕ) (s : Site) → updates_local sites d n s ≡ true → LocalUpdate sites d n s
updated_local sites d n s h =
    let two = and_parts (is_update s.statement) (same_binding (target_binding sites n s) (Local d)) h in
    local_target sites d n s (target_of s.statement) refl two.0 two.1

same_name : (s : Statement) (x y : List ℕ) → declared_name s ≡ Some x → declared_name s ≡ Some y → x ≡ y
same_name s x y e f = let g : Some x ≡ Some y = sym e ∙ f in cc

-- an update of the local variable is one of this name
pub local_name : (sites : List Site) (d n : ℕ) (s t : Site) (x : List ℕ) → slice_get sites d ≡ Some t → declared_name t.statement ≡ Some x → (u : LocalUpdate sites d n s) → u.name ≡ x
local_name sites d n s t x there name u =
    let e : DeclaredAt sites d n u.name = local_declared sites n d u.name u.bound in
    let same : Some e.site ≡ Some t = sym e.there ∙ there in
    let same_site : e.site ≡ t = cc in
    same_name t.statement u.name x (ap (λ (z : Site). declared_name z.statement) (sym same_site) ∙ e.name) name

declares_it : (s : Statement) (x : List ℕ) → declared_name s ≡ Some x → is_declaration s ≡ true
declares_it (tree.Declare at ty y e) x h = refl
declares_it (tree.Assign at y e) x h = absurd cc
declares_it (tree.Add at y e) x h = absurd cc
declares_it (tree.Sort at y keys downs) x h = absurd cc
declares_it (tree.If at e p) x h = absurd cc
declares_it (tree.IfElse at e p q) x h = absurd cc
declares_it (tree.ForEach at ty y e p) x h = absurd cc
declares_it (tree.While at e p) x h = absurd cc
declares_it (tree.Print at e) x h = absurd cc
declares_it (tree.Return at e) x h = absurd cc
declares_it (tree.Break at) x h = absurd cc

pub flag_update : (w : Setting) → Unbroken w → (d : ℕ) (t : Site) (x : List ℕ) → slice_get w.sites d ≡ Some t → declared_name t.statement ≡ Some x → FlagUpdate w d x
flag_update w u d t x there name =
    let first = (first_none (place_where (is_none (needed_of w.fragment) || any_site (is_idle_flag w.sites) 0 w.sites) (place_of w.fragment.loop)) (first_broken (broken_update w.sites) 0 w.sites) u.updates).0 in
    let idle = (or_parts (is_none (needed_of w.fragment)) (any_site (is_idle_flag w.sites) 0 w.sites) (none_where (is_none (needed_of w.fragment) || any_site (is_idle_flag w.sites) 0 w.sites) (place_of w.fragment.loop) first)).1 in
    let here : is_idle_flag w.sites d t ≡ false = fails_at (is_idle_flag w.sites) w.sites idle d t there in
    let some = true_from_not (any_site (updates_local w.sites d) 0 w.sites) (and_second (is_declaration t.statement) (not (any_site (updates_local w.sites d) 0 w.sites)) here (declares_it t.statement x name)) in
    let f : FoundSite (updates_local w.sites d) 0 w.sites = find (updates_local w.sites d) 0 w.sites some in
    let same : f.index ≡ f.number = let g = f.is in omega (arith, g) in
    let l : LocalUpdate w.sites d f.number f.site = updated_local w.sites d f.number f.site f.passes in
    let names : l.name ≡ x = local_name w.sites d f.number f.site t x there name l in
    record {
      number = f.number;
      site = f.site;
      there = ap (slice_get w.sites) (sym same) ∙ f.there;
      target = l.target ∙ ap Some names;
      bound = ap (binding_at w.sites f.number) (sym names) ∙ l.bound;
      found = f.found;
    }

abbrev pub update_at : (w : Setting) (d : ℕ) (x : List ℕ) → (f : FlagUpdate w d x) → UpdateAt w.sites f.number x (Local d)
update_at w d x f = record { site = f.site; there = f.there; target = f.target; bound = f.bound }

-- each update of the flag is this one
pub only_update : (w : Setting) → Unbroken w → (d : ℕ) (x : List ℕ) → (f : FlagUpdate w d x) → (n : ℕ) → UpdateAt w.sites n x (Local d) → n ≡ f.number
only_update w u d x f n at = one_update w u n f.number x (Local d) refl at (update_at w d x f)

-- ---- The number of a flag

-- each declaration among the sites has its accumulator
pub record AllUpdated (w : Setting) (k : ℕ) (sites : List Site) : Type 0 where
  pub by : (i d : ℕ) (s : Site) (x : List ℕ) → k + i ≡ d → slice_get sites i ≡ Some s → declared_name s.statement ≡ Some x → FlagUpdate w d x

all_updated_rest : (w : Setting) (k : ℕ) (s : Site) (ss : List Site) → AllUpdated w k (s ∷ ss) → AllUpdated w (suc k) ss
all_updated_rest w k s ss h = record { by = λ i d t x e get name. h.by (suc i) d t x (omega (arith, e)) get name }

pub all_updated : (w : Setting) → Unbroken w → AllUpdated w 0 w.sites
all_updated w u = record { by = λ i d s x e get name. let same : i ≡ d = omega (arith, e) in flag_update w u d s x (ap (slice_get w.sites) (sym same) ∙ get) name }

abbrev pub flag_accumulator : (w : Setting) → Numbers → List Form → (d : ℕ) (x : List ℕ) → Round → FlagUpdate w d x → Accumulator
flag_accumulator w t cs d x r f = accumulator_with w t cs x (length r.loops) f.site.round (form_found w.sites (Some (record { number = f.number; site = f.site })))

here_is : (w : Setting) (t : Numbers) (cs : List Form) (d : ℕ) (x : List ℕ) (r : Round) → (f : FlagUpdate w d x) → flag_here w t cs d r (Some x) ≡ flag_accumulator w t cs d x r f ∷ []
here_is w t cs d x r f = ap (accumulator_of w t cs x (length r.loops)) f.found

is_flag_step : (s : Site) (ss : List Site) (b : Bool) → is_declaration s.statement ≡ b → count_flags (s ∷ ss) ≡ cond b (suc (count_flags ss)) (count_flags ss)
is_flag_step s ss true e = ap (λ b. length (cond b (s ∷ filter (λ (z : Site). is_declaration z.statement) ss) (filter (λ (z : Site). is_declaration z.statement) ss))) e
is_flag_step s ss false e = ap (λ b. length (cond b (s ∷ filter (λ (z : Site). is_declaration z.statement) ss) (filter (λ (z : Site). is_declaration z.statement) ss))) e

no_declaration : (s : Statement) → declared_name s ≡ None → is_declaration s ≡ false
no_declaration (tree.Declare at ty y e) h = absurd cc
no_declaration (tree.Assign at y e) h = refl
no_declaration (tree.Add at y e) h = refl
no_declaration (tree.Sort at y keys downs) h = refl
no_declaration (tree.If at e p) h = refl
no_declaration (tree.IfElse at e p q) h = refl
no_declaration (tree.ForEach at ty y e p) h = refl
no_declaration (tree.While at e p) h = refl
no_declaration (tree.Print at e) h = refl
no_declaration (tree.Return at e) h = refl
no_declaration (tree.Break at) h = refl

later_flag : (w : Setting) (t : Numbers) (cs : List Form) (k i : ℕ) (s : Site) (ss : List Site) (acc : Accumulator) (o : Option (List ℕ)) → declared_name s.statement ≡ o → AllUpdated w k (s ∷ ss) → slice_get (flags_from w t cs (suc k) ss) (count_flags (take i ss)) ≡ Some acc → slice_get (flag_here w t cs k s.round o ++ flags_from w t cs (suc k) ss) (count_flags (s ∷ take i ss)) ≡ Some acc
later_flag w t cs k i s ss acc (Some x) e all h =
    let f : FlagUpdate w k x = all.by 0 k s x (omega arith) refl e in
    ap (λ xs. slice_get (xs ++ flags_from w t cs (suc k) ss) (count_flags (s ∷ take i ss))) (here_is w t cs k x s.round f)
    ∙ ap (slice_get (flag_accumulator w t cs k x s.round f ∷ flags_from w t cs (suc k) ss)) (is_flag_step s (take i ss) true (declares_it s.statement x e))
    ∙ h
later_flag w t cs k i s ss acc None e all h =
    ap (slice_get (flags_from w t cs (suc k) ss)) (is_flag_step s (take i ss) false (no_declaration s.statement e)) ∙ h

flag_from : (w : Setting) (t : Numbers) (cs : List Form) (k i d : ℕ) (sites : List Site) (s : Site) (x : List ℕ) → k + i ≡ d → slice_get sites i ≡ Some s → declared_name s.statement ≡ Some x → AllUpdated w k sites → (f : FlagUpdate w d x) → slice_get (flags_from w t cs k sites) (count_flags (take i sites)) ≡ Some (flag_accumulator w t cs d x s.round f)
flag_from w t cs k i d [] s x e get name all f = absurd cc
flag_from w t cs k zero d (z ∷ zs) s x e get name all f =
    let same : z ≡ s = cc in
    let number : k ≡ d = omega (arith, e) in
    ap (λ (y : Site). slice_get (flag_here w t cs k y.round (declared_name y.statement) ++ flags_from w t cs (suc k) zs) 0) same
    ∙ ap (λ o. slice_get (flag_here w t cs k s.round o ++ flags_from w t cs (suc k) zs) 0) name
    ∙ ap (λ i. slice_get (flag_here w t cs i s.round (Some x) ++ flags_from w t cs (suc k) zs) 0) number
    ∙ ap (λ xs. slice_get (xs ++ flags_from w t cs (suc k) zs) 0) (here_is w t cs d x s.round f)
flag_from w t cs k (suc i) d (z ∷ zs) s x e get name all f =
    later_flag w t cs k i z zs (flag_accumulator w t cs d x s.round f) (declared_name z.statement) refl all (flag_from w t cs (suc k) i d zs s x (omega (arith, e)) get name (all_updated_rest w k z zs all) f)

pub flag_at : (w : Setting) → Unbroken w → (t : Numbers) (cs : List Form) (d : ℕ) (s : Site) (x : List ℕ) → slice_get w.sites d ≡ Some s → declared_name s.statement ≡ Some x → (f : FlagUpdate w d x) → slice_get (flags_from w t cs 0 w.sites) (count_flags (take d w.sites)) ≡ Some (flag_accumulator w t cs d x s.round f)
flag_at w u t cs d s x get name f = flag_from w t cs 0 d d w.sites s x (omega arith) get name (all_updated w u) f
