-- What the chain of a variable stands in, and how flags and changes go on along the way from a place in a loop down to the
-- site that updates the variable.
use Rattle.std.proofs.Common.{◌≡◌, ℕ, suc, ◌<◌, ◌≤◌, Bool, true, false, ◌&&◌, List, [], ◌∷◌, length, Option, Some, None, refl, sym, ap, ◌∙◌, subst, slice_get, bytes_eq, arith, ◌⊎◌, inl, inr, ⊎_elim}
use Rattle.std.specs.List.{AllByRecursion}
use Rattle.std.proofs.lemmas.Bool.{cases_lt, and_parts}
use Rattle.qbs_base.specs.declared.span.Span.{Span}
use Rattle.qbs_base.specs.declared.scalar.Scalar.TheVariants as scalars
use Rattle.java_ast.specs.Tree as tree
use Rattle.java_ast.specs.Tree.{Spelled, Expression, Statement, Statements}
use Rattle.java_mean.specs.declared.types.JavaType.{JavaType}
use Rattle.java_mean.specs.Types.{Types, with_type}
use Rattle.java_mean.specs.Typing as typing
use Rattle.java_mean.specs.Typing.{Frame, HasType, bool, TypedStatement}
use Rattle.kernel_lang.specs.declared.parts.Update.{Update}
use Rattle.kernel_lang.specs.Plain.{Fragment}
use Rattle.kernel_lang.specs.Running.{Layer}
use Rattle.tor_terms.specs.Plain.{Form}
use Rattle.java_loops.specs.Walks.Chains.{Change, By, declares, IsUpdate, IsBranch, IsChain, AreChain, Settles}
use Rattle.java_loops.specs.Walks.Effects.{sets}
use Rattle.java_loops.specs.Walks.Numbering.{Numbering, Flag, Flags, Starts, with_flag, with_loops, is_at_other_loops}
use Rattle.loop_text.specs.Kernel.KernelConditions.{condition_of}
use Rattle.loop_text.specs.Kernel.KernelStatements.{is_row, is_allowed, is_boolean, is_truth_literal}
use Rattle.java_loops.specs.Lowering.Numbering.{Numbers, loop_number}
use Rattle.java_loops.specs.Kernel.Setting.{Setting}
use Rattle.loop_text.specs.declared.sites.bindings.Binding.{Binding}
use Rattle.loop_text.specs.declared.sites.bindings.Binding.TheVariants.{Row, Local}
use Rattle.loop_text.specs.Sites.Sites.{Test, Round, Site, binding_at, in_loop, in_branch, target_of, depth}
use Rattle.java_loops.proofs.Chained.ChainPremises.{HasNumbers, HasRows, FlagsRead}
use Rattle.java_loops.proofs.Chained.ChainSets.{UpdateAt}
use Rattle.java_loops.proofs.Chained.ChainSight.{Sight, Kept, Binds}
use Rattle.java_loops.proofs.Chained.ChainSteps.{Step, Through, Into, round_down, fronts, layers_down, has_if}
use Rattle.java_loops.proofs.Nested.NestRules.{Unbroken}
use Rattle.java_loops.proofs.Standing.Standing.{site_of, Stands, single, when, choose, walks, repeats}
use Rattle.java_loops.proofs.Standing.StandingRules.{get_same}
use Rattle.java_loops.proofs.Standing.StandingWithin.{Under, Leveled}

-- ---- What is asked

-- A variable of a setting that is updated at a site, with what its chain stands in: the types of expressions, the fragment,
-- the numbers, whether no flag is read, the variable and what it is bound to, and the number of the site and its round.
pub record Aim : Type 0 where
  pub setting : Setting
  pub frame : Frame
  pub fragment : Fragment
  pub numbers : Numbers
  pub numbering : Numbering
  pub quiet : Bool
  pub name : List ℕ
  pub bound : Binding
  pub number : ℕ
  pub round : Round

-- the update of the variable stands there, in a loop of the kernel form
pub record Aimed (a : Aim) : Type 0 where
  pub unbroken : Unbroken a.setting
  pub numbers : HasNumbers a.setting a.numbering
  pub rows : HasRows a.setting a.frame
  pub first : Site
  pub first_there : slice_get a.setting.sites 0 ≡ Some first
  pub first_flat : depth first ≡ 0
  pub no_row : is_row a.bound ≡ false
  pub update : UpdateAt a.setting.sites a.number a.name a.bound
  pub round : update.site.round ≡ a.round

-- the numbers with these loops in sight
abbrev pub numbering_at : Aim → (List ℕ → Option ℕ) → Numbering
numbering_at a loops = with_loops loops a.numbering

-- the tests have lower numbers
abbrev pub AllBefore : ℕ → List Test → Type 0
AllBefore n ts = AllByRecursion (λ (t : Test). t.number < n) ts

-- the sites behind the first number and before the second stand in this round
pub record Between (w : Setting) (r : Round) (n m : ℕ) : Type 0 where
  pub by : (k : ℕ) (site : Site) → n < k → k < m → slice_get w.sites k ≡ Some site → Under r site.round

-- ---- Flags on the way

-- a statement of a block settles the flags of the block, of which the same is known behind it
pub record Settled (a : Aim) (P : Round → ℕ → Types → Flags → List (List ℕ) → Type 0) (r : Round) (m : ℕ) (g : Types) (loops : List ℕ → Option ℕ) (flags : Flags) (s : Statement) (bs : List (List ℕ)) : Type 0 where
  pub behind : Flags
  pub settles : Settles a.fragment a.quiet (numbering_at a loops) flags s bs behind
  pub known : P r m g behind bs

-- How what is known of the flags in sight, in a block with these names, goes on: it is known of a round, the number of the
-- next site, the visible types, the flags and the names of the block.
pub record FlagRules (a : Aim) (P : Round → ℕ → Types → Flags → List (List ℕ) → Type 0) : Type 0 where
  pub absent : (r : Round) (n : ℕ) (g : Types) (flags : Flags) (bs : List (List ℕ)) → P r n g flags bs → flags a.name ≡ None
  pub hidden : (r : Round) (n : ℕ) (g : Types) (flags : Flags) (bs : List (List ℕ)) → P r n g flags bs → (x : List ℕ) → g x ≡ None → flags x ≡ None
  pub others : (r : Round) (n : ℕ) (g : Types) (flags : Flags) (bs : List (List ℕ)) → P r n g flags bs → (x : List ℕ) (flag : Flag) → flags x ≡ Some flag → is_at_other_loops (loop_number a.setting.sites n) flag
  pub reads : (r : Round) (previous : Option Statement) (n : ℕ) (g : Types) (flags : Flags) (bs : List (List ℕ)) (s : Statement) (e : Expression) (holds : Bool) (ss : List Step) → P r n g flags bs → slice_get a.setting.sites n ≡ Some (site_of r previous s) → condition_of s ≡ Some e → a.round ≡ round_down (in_branch r n e holds) ss → FlagsRead a.setting n g flags
  pub declared : (r : Round) (previous : Option Statement) (n m : ℕ) (g : Types) (flags : Flags) (bs : List (List ℕ)) (at at' : Span) (x : List ℕ) (start : Bool) (t : JavaType) → P r n g flags bs → slice_get a.setting.sites n ≡ Some (site_of r previous (tree.Declare at tree.Boolean x (tree.Lit at' (scalars.Bool start)))) → suc n ≡ m → g x ≡ None → a.setting.types x ≡ None → bytes_eq x a.name ≡ false → Binds a.setting n m x (Local n) → P r m (with_type x (Some t) g) (with_flag x (Some (Starts start)) flags) (x ∷ bs)
  pub settled : (r : Round) (previous : Option Statement) (n m : ℕ) (l : Option Types) (g h : Types) (loops : List ℕ → Option ℕ) (flags : Flags) (bs : List (List ℕ)) (s : Statement) → P r n g flags bs → Leveled r → AllBefore n r.tests → 0 < length r.loops → Sight a.setting r n g loops → Stands a.setting.sites r previous s n m → TypedStatement a.frame l g s h → declares s ≡ false → sets s a.name ≡ false → Kept a.setting n m g → Settled a P r m g loops flags s bs
  pub branch : (r : Round) (previous : Option Statement) (n m : ℕ) (g : Types) (flags : Flags) (bs : List (List ℕ)) (s : Statement) (e : Expression) (holds : Bool) → P r n g flags bs → Leveled (in_branch r n e true) → slice_get a.setting.sites n ≡ Some (site_of r previous s) → condition_of s ≡ Some e → n < m → Between a.setting (in_branch r n e true) n m → Kept a.setting n m g → P (in_branch r n e holds) m g flags []
  pub row : (r : Round) (n m : ℕ) (g : Types) (flags : Flags) (bs : List (List ℕ)) (x : List ℕ) (t : JavaType) → P r n g flags bs → suc n ≡ m → g x ≡ None → Binds a.setting n m x (Row n) → P (in_loop r n) m (with_type x (Some t) g) flags []

-- ---- Changes on the way

pub record Started (a : Aim) (Q : List Step → Change → Type 0) (s : Statement) (loops : List ℕ → Option ℕ) : Type 0 where
  pub change : Change
  pub kept : Q [] change
  pub update : IsUpdate (numbering_at a loops) s a.name change

pub record Branched (a : Aim) (Q : List Step → Change → Type 0) (s : Statement) (loops : List ℕ → Option ℕ) (flags : Flags) (ss : List Step) : Type 0 where
  pub change : Change
  pub kept : Q ss change
  pub chain : IsChain a.fragment a.quiet (numbering_at a loops) flags s a.name (fronts a.setting a.numbers ss) (layers_down a.setting a.numbers ss) change

pub record Looped (Q : List Step → Change → Type 0) (ss : List Step) (change : Change) : Type 0 where
  pub update : Update
  pub opposite : Bool
  pub is : change ≡ By update opposite
  pub kept : Q ss (By update opposite)

-- How the change goes on from the update upwards, over the branches and loops round it.
pub record WayRules (a : Aim) (Q : List Step → Change → Type 0) : Type 0 where
  pub start : (r : Round) (previous : Option Statement) (l : Option Types) (g h : Types) (loops : List ℕ → Option ℕ) (s : Statement) → slice_get a.setting.sites a.number ≡ Some (site_of r previous s) → Sight a.setting r a.number g loops → TypedStatement a.frame l g s h → Started a Q s loops
  pub branch : (r : Round) (previous : Option Statement) (n : ℕ) (g : Types) (loops : List ℕ → Option ℕ) (flags : Flags) (s : Statement) (e : Expression) (holds : Bool) (p : Statements) (ss : List Step) (change : Change) → slice_get a.setting.sites n ≡ Some (site_of r previous s) → condition_of s ≡ Some e → HasType a.frame g e bool → Sight a.setting r n g loops → FlagsRead a.setting n g flags → Leveled r → AllBefore n r.tests → a.round ≡ round_down (in_branch r n e holds) ss → n < a.number → has_if n ss ≡ false → Q ss change → IsBranch s a.name holds e p → AreChain a.fragment a.quiet (numbering_at a loops) flags [] p a.name (fronts a.setting a.numbers ss) (layers_down a.setting a.numbers ss) change → Branched a Q s loops flags (Into n e holds ∷ ss)
  pub loop : (r : Round) (n : ℕ) (ss : List Step) (change : Change) → Leveled r → a.round ≡ round_down (in_loop r n) ss → Q ss change → Looped (λ ts ch. Q (Through n ∷ ts) ch) ss change

-- ---- Down

-- a way to the update from the site with this number on, and the chain over it
pub record Down (a : Aim) (Q : List Step → Change → Type 0) (C : List Form → List Layer → Change → Type 0) (r : Round) (n : ℕ) : Type 0 where
  pub steps : List Step
  pub fresh : (i : ℕ) → i < n → has_if i steps ≡ false
  pub is : a.round ≡ round_down r steps
  pub change : Change
  pub kept : Q steps change
  pub chain : C (fronts a.setting a.numbers steps) (layers_down a.setting a.numbers steps) change

abbrev pub DownIn : (a : Aim) → (List Step → Change → Type 0) → Round → ℕ → (List ℕ → Option ℕ) → Flags → Statement → Type 0
DownIn a Q r n loops flags s = Down a Q (λ fs ys ch. IsChain a.fragment a.quiet (numbering_at a loops) flags s a.name fs ys ch) r n

abbrev pub DownAll : (a : Aim) → (List Step → Change → Type 0) → Round → ℕ → (List ℕ → Option ℕ) → Flags → List (List ℕ) → Statements → Type 0
DownAll a Q r n loops flags bs p = Down a Q (λ fs ys ch. AreChain a.fragment a.quiet (numbering_at a loops) flags bs p a.name fs ys ch) r n

-- what is known where the way begins
pub record Start (a : Aim) (P : Round → ℕ → Types → Flags → List (List ℕ) → Type 0) (r : Round) (n : ℕ) (g : Types) (loops : List ℕ → Option ℕ) (flags : Flags) (bs : List (List ℕ)) : Type 0 where
  pub leveled : Leveled r
  pub before : AllBefore n r.tests
  pub inner : 0 < length r.loops
  pub sight : Sight a.setting r n g loops
  pub flags_known : P r n g flags bs
  pub type : JavaType
  pub visible : g a.name ≡ Some type
  pub bound : binding_at a.setting.sites n a.name ≡ a.bound

-- ---- Pieces

pub stands_there : (sites : List Site) (r : Round) (previous : Option Statement) (s : Statement) (n m : ℕ) → Stands sites r previous s n m → slice_get sites n ≡ Some (site_of r previous s)
stands_there sites _ _ _ _ _ (single r previous s n one get) = get
stands_there sites _ _ _ _ _ (when r previous at q p n m get all) = get
stands_there sites _ _ _ _ _ (choose r previous at q p o n m z get all other) = get
stands_there sites _ _ _ _ _ (walks r previous at ty x q p n m get all) = get
stands_there sites _ _ _ _ _ (repeats r previous at q p n m get all) = get

-- the update has a target
targeted : (a : Aim) → Aimed a → (r : Round) (previous : Option Statement) (s : Statement) (n : ℕ) → slice_get a.setting.sites n ≡ Some (site_of r previous s) → target_of s ≡ None → n ≡ a.number → ⊥
targeted a d r previous s n get none e =
    let there : slice_get a.setting.sites a.number ≡ Some (site_of r previous s) = ap (slice_get a.setting.sites) (sym e) ∙ get in
    let same : site_of r previous s ≡ d.update.site = get_same a.setting.sites a.number (site_of r previous s) d.update.site there d.update.there in
    let target : target_of s ≡ Some a.name = ap (λ (x : Site). target_of x.statement) same ∙ d.update.target in
    absurd cc

pub behind_here : (a : Aim) → Aimed a → (r : Round) (previous : Option Statement) (s : Statement) (n : ℕ) → slice_get a.setting.sites n ≡ Some (site_of r previous s) → target_of s ≡ None → n ≤ a.number → suc n ≤ a.number
behind_here a d r previous s n get none low =
    ⊎_elim (λ h. h) (λ h. absurd (targeted a d r previous s n get none (omega (arith, low, h)))) (cases_lt n a.number)

pub same_types : (c : Frame) (l : Option Types) (g h : Types) (s : Statement) → TypedStatement c l g s h → declares s ≡ false → h ≡ g
same_types c _ _ _ _ (typing.declare l g at ty x e k n q t) plain = absurd cc
same_types c _ _ _ _ (typing.assign l g at x e k i t) plain = refl
same_types c _ _ _ _ (typing.add l g at x e k a i has t) plain = refl
same_types c _ _ _ _ (typing.sort l g at x keys down a i) plain = refl
same_types c _ _ _ _ (typing.when l g h at e p t u) plain = refl
same_types c _ _ _ _ (typing.choose l g h i at e p q t u v) plain = refl
same_types c _ _ _ _ (typing.for_each l g h at ty x e p k a n t has u) plain = refl
same_types c _ _ _ _ (typing.for_each_new l g h at ty x e p k n s new u) plain = refl
same_types c _ _ _ _ (typing.while_true l g h at e p t u) plain = refl
same_types c _ _ _ _ (typing.print l g at e ty t) plain = refl
same_types c _ _ _ _ (typing.return_none l g at i) plain = refl
same_types c _ _ _ _ (typing.return_value l g at e k i t) plain = refl
same_types c _ _ _ _ (typing.leave b g at ex) plain = refl

-- ---- Statements that are passed

pub record Flagging (s : Statement) : Type 0 where
  pub at : Span
  pub at' : Span
  pub name : List ℕ
  pub start : Bool
  pub is : s ≡ tree.Declare at tree.Boolean name (tree.Lit at' (scalars.Bool start))

flagging_literal : (at : Span) (x : List ℕ) (e : Expression) → is_truth_literal e ≡ true → Flagging (tree.Declare at tree.Boolean x e)
flagging_literal at x (tree.Lit at' (scalars.Bool b)) h = record { at = at; at' = at'; name = x; start = b; is = refl }
flagging_literal at x (tree.Lit at' (scalars.Long n)) h = absurd cc
flagging_literal at x (tree.Lit at' (scalars.Text s)) h = absurd cc
flagging_literal at x (tree.Var at' y) h = absurd cc
flagging_literal at x (tree.Field at' y f) h = absurd cc
flagging_literal at x (tree.Binary at' op y z) h = absurd cc
flagging_literal at x (tree.Not at' y) h = absurd cc
flagging_literal at x (tree.Equals at' y z) h = absurd cc
flagging_literal at x (tree.Size at' y) h = absurd cc
flagging_literal at x (tree.Get at' y z) h = absurd cc
flagging_literal at x (tree.Contains at' y z) h = absurd cc
flagging_literal at x (tree.Fetch at' y) h = absurd cc
flagging_literal at x (tree.Query at' y z es) h = absurd cc
flagging_literal at x (tree.QueryLong at' y z) h = absurd cc
flagging_literal at x (tree.QueryBoolean at' y z) h = absurd cc
flagging_literal at x (tree.NewList at') h = absurd cc
flagging_literal at x (tree.NewSet at') h = absurd cc
flagging_literal at x (tree.NewSetOf at' y) h = absurd cc

boolean_is : (ty : Spelled) → is_boolean ty ≡ true → ty ≡ tree.Boolean
boolean_is tree.Boolean h = refl
boolean_is tree.Int h = absurd cc
boolean_is tree.Long h = absurd cc
boolean_is tree.String h = absurd cc
boolean_is tree.BoxedInteger h = absurd cc
boolean_is tree.BoxedLong h = absurd cc
boolean_is tree.BoxedBoolean h = absurd cc
boolean_is (tree.Table name) h = absurd cc
boolean_is (tree.ListOf e) h = absurd cc
boolean_is (tree.SetOf e) h = absurd cc

pub flagging : (at : Span) (ty : Spelled) (x : List ℕ) (e : Expression) → (is_boolean ty && is_truth_literal e) ≡ true → Flagging (tree.Declare at ty x e)
flagging at ty x e h =
    let two = and_parts (is_boolean ty) (is_truth_literal e) h in
    subst (λ z. Flagging (tree.Declare at z x e)) (sym (boolean_is ty two.0)) (flagging_literal at x e two.1)

pub passed : (sites : List Site) (y : Site) (s : Statement) → is_allowed sites y s ≡ true → Flagging s ⊎ (declares s ≡ false)
passed sites y (tree.Declare at ty x e) h = inl (flagging at ty x e h)
passed sites y (tree.Assign at x e) h = inr refl
passed sites y (tree.Add at x e) h = inr refl
passed sites y (tree.Sort at x keys downs) h = inr refl
passed sites y (tree.If at e p) h = inr refl
passed sites y (tree.IfElse at e p q) h = inr refl
passed sites y (tree.ForEach at ty x e p) h = inr refl
passed sites y (tree.While at e p) h = inr refl
passed sites y (tree.Print at e) h = inr refl
passed sites y (tree.Return at e) h = inr refl
passed sites y (tree.Break at) h = inr refl
