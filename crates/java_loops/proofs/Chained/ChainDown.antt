-- The chain of a variable, found by going down from a place in a loop to the site that updates the variable.
use Rattle.std.proofs.Common.{◌≡◌, ℕ, suc, ◌<◌, ◌≤◌, Bool, true, false, ◌||◌, List, [], ◌∷◌, ◌++◌, length, Option, Some, None, refl, sym, ap, ◌∙◌, subst, cond, slice_get, bytes_eq, nat_eq, arith, ◌⊎◌, inl, inr, ⊎_elim}
use Rattle.std.specs.List.{AllByRecursion}
use Rattle.std.proofs.lemmas.Bool.{cases_lt, ne_eqb, false_from_ne_true}
use Rattle.qbs_base.specs.declared.span.Span.{Span}
use Rattle.qbs_base.specs.declared.scalar.Scalar.TheVariants as scalars
use Rattle.java_ast.specs.Tree as tree
use Rattle.java_ast.specs.Tree.{Spelled, Expression, Statement, Statements, Nothing, Then}
use Rattle.java_mean.specs.declared.types.JavaType.{JavaType}
use Rattle.java_mean.specs.declared.types.JavaType.TheVariants.{Of}
use Rattle.java_mean.specs.declared.types.Single.TheVariants.{RowOf}
use Rattle.java_mean.specs.Types.{Types, with_type}
use Rattle.java_mean.specs.Typing.{Frame, HasType, IsNew, is_new_list, is_new_set, bool, TypedStatement, TypedStatements}
use Rattle.java_mean.proofs.Members.{all_added}
use Rattle.java_mean.proofs.TypedRuns.{extends_statement}
use Rattle.java_loops.specs.Walks.Chains as chains
use Rattle.java_loops.specs.Walks.Chains.{Change, By, declares, IsBranch, IsChain, AreChain}
use Rattle.java_loops.specs.Walks.Effects.{sets, all_set}
use Rattle.java_loops.specs.Walks.Numbering.{Flags, Starts, with_flag, with_loop, IsNewLoop}
use Rattle.loop_text.specs.Kernel.KernelConditions.{condition_of}
use Rattle.loop_text.specs.Kernel.KernelLists.{source_of}
use Rattle.loop_text.specs.Kernel.KernelLoop.{is_while}
use Rattle.loop_text.specs.Statements.Setting.{is_found}
use Rattle.java_loops.specs.Lowering.Numbering.{loop_number, table_of_loop}
use Rattle.loop_text.specs.declared.sites.bindings.Binding.TheVariants.{Row, Local}
use Rattle.loop_text.specs.Sites.Sites.{Test, Round, Site, binding_at, bound_by, in_loop, in_branch}
use Rattle.java_loops.proofs.Typing.BoundSteps.{bound_next, bound_past, bound_other}
use Rattle.java_loops.proofs.Typing.BoundTyping.{typed_next, typed_if, typed_choice, over, over_new, typed_each, TypedDeclare, typed_declare, new_other, seen_with}
use Rattle.java_loops.proofs.Chained.ChainAims.{Aim, Aimed, AllBefore, Between, numbering_at, Settled, FlagRules, Started, Branched, Looped, WayRules, DownIn, DownAll, Start, stands_there, behind_here, same_types, Flagging, passed}
use Rattle.java_loops.proofs.Chained.ChainSets.{goes_up, all_up, set_within, all_set_within, set_elsewhere}
use Rattle.java_loops.proofs.Chained.ChainSight.{Sight, apart_new, new_outside, Kept, sight_kept, Binds, sight_declared, sight_row, with_row}
use Rattle.java_loops.proofs.Chained.ChainSites.{all_at_site}
use Rattle.java_loops.proofs.Chained.ChainSteps.{Step, Through, Into, fronts, layers_down, has_if}
use Rattle.java_loops.proofs.Nested.NestRules.{allowed_at, inner_at, listed_at}
use Rattle.java_loops.proofs.Standing.Standing.{site_of, Stands, single, when, choose, walks, repeats, AllStand, nothing, next}
use Rattle.java_loops.proofs.Standing.StandingRules.{get_same}
use Rattle.java_loops.proofs.Standing.StandingWithin.{Leveled, test_of}

-- ---- What is known further on

all_before : (n m : ℕ) (ts : List Test) → n ≤ m → AllBefore n ts → AllBefore m ts
all_before n m [] h all = tt
all_before n m (t ∷ ts) h all = (let i = all.0 in omega (arith, h, i), all_before n m ts h all.1)

leveled_branch : (r : Round) (n : ℕ) (e : Expression) (holds : Bool) → Leveled r → Leveled (in_branch r n e holds)
leveled_branch r n e holds h = record { by = all_added (λ (t : Test). t.level ≤ length r.loops) r.tests (test_of r n e holds) h.by (omega arith) }

longer : (xs : List ℕ) (n : ℕ) → length (xs ++ n ∷ []) ≡ suc (length xs)
longer [] n = refl
longer (x ∷ xs) n = ap suc (longer xs n)

all_higher : (k m : ℕ) (ts : List Test) → k ≤ m → AllByRecursion (λ (t : Test). t.level ≤ k) ts → AllByRecursion (λ (t : Test). t.level ≤ m) ts
all_higher k m [] h all = tt
all_higher k m (t ∷ ts) h all = (let i = all.0 in omega (arith, h, i), all_higher k m ts h all.1)

leveled_loop : (r : Round) (n : ℕ) → Leveled r → Leveled (in_loop r n)
leveled_loop r n h = let e = longer r.loops n in record { by = all_higher (length r.loops) (length (r.loops ++ n ∷ [])) r.tests (omega (arith, e)) h.by }

kept_if : (a : Aim) (r : Round) (previous : Option Statement) (s : Statement) (n : ℕ) (g : Types) (e : Expression) → slice_get a.setting.sites n ≡ Some (site_of r previous s) → condition_of s ≡ Some e → Kept a.setting n (suc n) g
kept_if a r previous (tree.If at c p) n g e get is = record { up = omega arith; by = λ x k i. bound_next a.setting.sites n (site_of r previous (tree.If at c p)) x get }
kept_if a r previous (tree.IfElse at c p q) n g e get is = record { up = omega arith; by = λ x k i. bound_next a.setting.sites n (site_of r previous (tree.IfElse at c p q)) x get }
kept_if a r previous (tree.Declare at ty x z) n g e get is = absurd cc
kept_if a r previous (tree.Assign at x z) n g e get is = absurd cc
kept_if a r previous (tree.Add at x z) n g e get is = absurd cc
kept_if a r previous (tree.Sort at x keys downs) n g e get is = absurd cc
kept_if a r previous (tree.ForEach at ty x z b) n g e get is = absurd cc
kept_if a r previous (tree.While at c b) n g e get is = absurd cc
kept_if a r previous (tree.Print at z) n g e get is = absurd cc
kept_if a r previous (tree.Return at z) n g e get is = absurd cc
kept_if a r previous (tree.Break at) n g e get is = absurd cc

start_branch : (a : Aim) (P : Round → ℕ → Types → Flags → List (List ℕ) → Type 0) → FlagRules a P → (r : Round) (previous : Option Statement) (n m : ℕ) (g : Types) (loops : List ℕ → Option ℕ) (flags : Flags) (bs : List (List ℕ)) (s : Statement) (e : Expression) (holds : Bool) → slice_get a.setting.sites n ≡ Some (site_of r previous s) → condition_of s ≡ Some e → n < m → Between a.setting (in_branch r n e true) n m → Kept a.setting n m g → Start a P r n g loops flags bs → Start a P (in_branch r n e holds) m g loops flags []
start_branch a P rules r previous n m g loops flags bs s e holds get is up between kept k =
    record {
      leveled = leveled_branch r n e holds k.leveled;
      before = all_added (λ (t : Test). t.number < m) r.tests (test_of r n e holds) (all_before n m r.tests kept.up k.before) up;
      inner = k.inner;
      sight = sight_kept a.setting r (in_branch r n e holds) n m g loops refl kept k.sight;
      flags_known = rules.branch r previous n m g flags bs s e holds k.flags_known (leveled_branch r n e true k.leveled) get is up between kept;
      type = k.type;
      visible = k.visible;
      bound = kept.by a.name k.type k.visible ∙ k.bound;
    }

start_row : (a : Aim) (P : Round → ℕ → Types → Flags → List (List ℕ) → Type 0) → FlagRules a P → (r : Round) (previous : Option Statement) (n : ℕ) (g : Types) (loops : List ℕ → Option ℕ) (flags : Flags) (bs : List (List ℕ)) (at : Span) (ty : Spelled) (x : List ℕ) (e : Expression) (b : Statements) (t : JavaType) → slice_get a.setting.sites n ≡ Some (site_of r previous (tree.ForEach at ty x e b)) → t ≡ Of (RowOf (table_of_loop a.setting.schema (tree.ForEach at ty x e b))) → g x ≡ None → Start a P r n g loops flags bs → Start a P (in_loop r n) (suc n) (with_type x (Some t) g) (with_row x (loop_number a.setting.sites n) loops) flags []
start_row a P rules r previous n g loops flags bs at ty x e b t get is_row new k =
    let s : Statement = tree.ForEach at ty x e b in
    let binds : Binds a.setting n (suc n) x (Row n) = record { up = omega arith; by = λ y. bound_next a.setting.sites n (site_of r previous s) y get } in
    let more = longer r.loops n in
    record {
      leveled = leveled_loop r n k.leveled;
      before = all_before n (suc n) r.tests (omega arith) k.before;
      inner = omega (arith, more);
      sight = sight_row a.setting r n (suc n) g loops x t (site_of r previous s) get refl refl is_row new binds k.sight;
      flags_known = rules.row r n (suc n) g flags bs x t k.flags_known refl new binds;
      type = k.type;
      visible = seen_with g a.name x (Some t) k.type new k.visible;
      bound = binds.by a.name ∙ ap (λ q. cond q (Row n) (binding_at a.setting.sites n a.name)) (new_other g a.name x k.type new k.visible) ∙ k.bound;
    }

none_between : (a : Aim) (r : Round) (n : ℕ) → Between a.setting r n (suc n)
none_between a r n = record { by = λ k site low high there. absurd (omega (arith, low, high)) }

first_between : (a : Aim) (r : Round) (p : Statements) (n m : ℕ) → AllStand a.setting.sites r None p (suc n) m → Between a.setting r n m
first_between a r p n m all = record { by = λ k site low high there. (all_at_site a.setting.sites r None p (suc n) m all k site low high there).under }

-- nothing else sets the variable
unset_in : (a : Aim) → Aimed a → (r : Round) (previous : Option Statement) (s : Statement) (n m : ℕ) → Stands a.setting.sites r previous s n m → (l : Option Types) (g h : Types) → TypedStatement a.frame l g s h → (k : JavaType) → g a.name ≡ Some k → binding_at a.setting.sites n a.name ≡ a.bound → (a.number < n) ⊎ (m ≤ a.number) → sets s a.name ≡ false
unset_in a d r previous s n m stands l g h t k seen b out =
    false_from_ne_true (sets s a.name) (λ e. set_elsewhere a.setting d.unbroken a.number n m a.name a.bound d.no_row d.update b out (set_within a.frame a.setting.sites r previous s n m stands l g h t a.name k seen e))

unset_all : (a : Aim) → Aimed a → (r : Round) (previous : Option Statement) (p : Statements) (n m : ℕ) → AllStand a.setting.sites r previous p n m → (l : Option Types) (g h : Types) → TypedStatements a.frame l g p h → (k : JavaType) → g a.name ≡ Some k → binding_at a.setting.sites n a.name ≡ a.bound → (a.number < n) ⊎ (m ≤ a.number) → all_set p a.name ≡ false
unset_all a d r previous p n m stands l g h t k seen b out =
    false_from_ne_true (all_set p a.name) (λ e. set_elsewhere a.setting d.unbroken a.number n m a.name a.bound d.no_row d.update b out (all_set_within a.frame a.setting.sites r previous p n m stands l g h t a.name k seen e))

-- ---- The update

down_here : (a : Aim) → Aimed a → (Q : List Step → Change → Type 0) → WayRules a Q → (r : Round) (previous : Option Statement) (s : Statement) (n : ℕ) (l : Option Types) (g h : Types) (loops : List ℕ → Option ℕ) (flags : Flags) → slice_get a.setting.sites n ≡ Some (site_of r previous s) → n ≡ a.number → Sight a.setting r n g loops → TypedStatement a.frame l g s h → DownIn a Q r n loops flags s
down_here a d Q ways r previous s n l g h loops flags get e sight t =
    let there : slice_get a.setting.sites a.number ≡ Some (site_of r previous s) = ap (slice_get a.setting.sites) (sym e) ∙ get in
    let same : site_of r previous s ≡ d.update.site = get_same a.setting.sites a.number (site_of r previous s) d.update.site there d.update.there in
    let started : Started a Q s loops = ways.start r previous l g h loops s there (subst (λ i. Sight a.setting r i g loops) e sight) t in
    record {
      steps = [];
      fresh = λ i low. refl;
      is = sym d.round ∙ ap (λ (x : Site). x.round) (sym same);
      change = started.change;
      kept = started.kept;
      chain = chains.update a.quiet (numbering_at a loops) flags s a.name started.change started.update;
    }

-- ---- A branch

fresh_step : (n i : ℕ) (b : Bool) → i < n → b ≡ false → (nat_eq n i || b) ≡ false
fresh_step n i b low e = ap (λ q. q || b) (ne_eqb n i (λ same. omega (arith, low, same))) ∙ e

down_branch : (a : Aim) (P : Round → ℕ → Types → Flags → List (List ℕ) → Type 0) → FlagRules a P → (Q : List Step → Change → Type 0) → WayRules a Q → (r : Round) (previous : Option Statement) (s : Statement) (n : ℕ) (g : Types) (loops : List ℕ → Option ℕ) (flags : Flags) (bs : List (List ℕ)) (e : Expression) (holds : Bool) (p : Statements) (from : ℕ) → slice_get a.setting.sites n ≡ Some (site_of r previous s) → condition_of s ≡ Some e → HasType a.frame g e bool → Start a P r n g loops flags bs → n < a.number → IsBranch s a.name holds e p → DownAll a Q (in_branch r n e holds) from loops flags [] p → n < from → DownIn a Q r n loops flags s
down_branch a P rules Q ways r previous s n g loops flags bs e holds p from get is typed k before branch down further =
    let more : Branched a Q s loops flags (Into n e holds ∷ down.steps) = ways.branch r previous n g loops flags s e holds p down.steps down.change get is typed k.sight (rules.reads r previous n g flags bs s e holds down.steps k.flags_known get is down.is) k.leveled k.before down.is before (down.fresh n further) down.kept branch down.chain in
    record { steps = Into n e holds ∷ down.steps; fresh = λ i low. fresh_step n i (has_if i down.steps) low (down.fresh i (omega (arith, low, further))); is = down.is; change = more.change; kept = more.kept; chain = more.chain }

-- ---- A loop

-- no list of a loop is a new one
pub not_new : (run : Statements) (e : Expression) → IsNew e → is_found (source_of run e) ≡ true → ⊥
not_new run _ (is_new_list at) h = absurd cc
not_new run _ (is_new_set at) h = absurd cc

new_loop : (a : Aim) (P : Round → ℕ → Types → Flags → List (List ℕ) → Type 0) → FlagRules a P → (r : Round) (n : ℕ) (g : Types) (loops : List ℕ → Option ℕ) (flags : Flags) (bs : List (List ℕ)) → Start a P r n g loops flags bs → IsNewLoop (numbering_at a loops) flags (loop_number a.setting.sites n)
new_loop a P rules r n g loops flags bs k =
    record {
      loops = λ y i e. let h = k.sight.low y i e in ne_eqb (loop_number a.setting.sites n) i (λ same. omega (arith, h, same));
      in_sight = λ y flag e. rules.others r n g flags bs k.flags_known y flag e;
    }

down_loop : (a : Aim) → Aimed a → (P : Round → ℕ → Types → Flags → List (List ℕ) → Type 0) → FlagRules a P → (Q : List Step → Change → Type 0) → WayRules a Q → (r : Round) (previous : Option Statement) (n : ℕ) (g : Types) (loops : List ℕ → Option ℕ) (flags : Flags) (bs : List (List ℕ)) (at : Span) (ty : Spelled) (x : List ℕ) (e : Expression) (p : Statements) → slice_get a.setting.sites n ≡ Some (site_of r previous (tree.ForEach at ty x e p)) → g x ≡ None → Start a P r n g loops flags bs → DownAll a Q (in_loop r n) (suc n) (with_row x (loop_number a.setting.sites n) loops) flags [] p → DownIn a Q r n loops flags (tree.ForEach at ty x e p)
down_loop a d P rules Q ways r previous n g loops flags bs at ty x e p get new k down =
    let s : Statement = tree.ForEach at ty x e p in
    let j : ℕ = loop_number a.setting.sites n in
    let o : Looped (λ ts ch. Q (Through n ∷ ts) ch) down.steps down.change = ways.loop r n down.steps down.change k.leveled down.is down.kept in
    let chain : AreChain a.fragment a.quiet (with_loop x j (numbering_at a loops)) flags [] p a.name (fronts a.setting a.numbers down.steps) (layers_down a.setting a.numbers down.steps) (By o.update o.opposite) = subst (λ ch. AreChain a.fragment a.quiet (with_loop x j (numbering_at a loops)) flags [] p a.name (fronts a.setting a.numbers down.steps) (layers_down a.setting a.numbers down.steps) ch) o.is down.chain in
    record {
      steps = Through n ∷ down.steps;
      fresh = λ i low. down.fresh i (omega (arith, low));
      is = down.is;
      change = By o.update o.opposite;
      kept = o.kept;
      chain =
          chains.over a.quiet (numbering_at a loops) flags at ty x e p a.name j (fronts a.setting a.numbers down.steps) (layers_down a.setting a.numbers down.steps) o.update o.opposite
          (d.numbers.lists n (site_of r previous s) at ty x e p loops get refl)
          (apart_new a.setting a.numbering d.numbers r n g loops k.sight x new)
          (rules.hidden r n g flags bs k.flags_known x new)
          (new_other g a.name x k.type new k.visible)
          (new_loop a P rules r n g loops flags bs k)
          chain;
    }

-- ---- Statements of a block

down_first : (a : Aim) (Q : List Step → Change → Type 0) (r : Round) (n : ℕ) (loops : List ℕ → Option ℕ) (flags : Flags) (bs : List (List ℕ)) (s : Statement) (p : Statements) → all_set p a.name ≡ false → DownIn a Q r n loops flags s → DownAll a Q r n loops flags bs (Then s p)
down_first a Q r n loops flags bs s p rest down =
    record {
      steps = down.steps;
      fresh = down.fresh;
      is = down.is;
      change = down.change;
      kept = down.kept;
      chain = chains.here a.quiet (numbering_at a loops) flags bs s p a.name (fronts a.setting a.numbers down.steps) (layers_down a.setting a.numbers down.steps) down.change down.chain rest;
    }

down_later : (a : Aim) (P : Round → ℕ → Types → Flags → List (List ℕ) → Type 0) → FlagRules a P → (Q : List Step → Change → Type 0) (r : Round) (n m : ℕ) → n ≤ m → (g : Types) (loops : List ℕ → Option ℕ) (flags : Flags) (bs : List (List ℕ)) (s : Statement) (p : Statements) → declares s ≡ false → sets s a.name ≡ false → (z : Settled a P r m g loops flags s bs) → DownAll a Q r m loops z.behind bs p → DownAll a Q r n loops flags bs (Then s p)
down_later a P rules Q r n m up g loops flags bs s p plain unset z down =
    record {
      steps = down.steps;
      fresh = λ i low. down.fresh i (omega (arith, low, up));
      is = down.is;
      change = down.change;
      kept = down.kept;
      chain = chains.later a.quiet (numbering_at a loops) flags z.behind bs s p a.name (fronts a.setting a.numbers down.steps) (layers_down a.setting a.numbers down.steps) down.change plain unset z.settles (rules.absent r m g z.behind bs z.known) down.chain;
    }

down_declared : (a : Aim) → Aimed a → (P : Round → ℕ → Types → Flags → List (List ℕ) → Type 0) (Q : List Step → Change → Type 0) (r : Round) (n m : ℕ) → n ≤ m → (g : Types) (loops : List ℕ → Option ℕ) (flags : Flags) (bs : List (List ℕ)) (s : Statement) (p : Statements) (f : Flagging s) → g f.name ≡ None → Start a P r n g loops flags bs → DownAll a Q r m loops (with_flag f.name (Some (Starts f.start)) flags) (f.name ∷ bs) p → DownAll a Q r n loops flags bs (Then s p)
down_declared a d P Q r n m up g loops flags bs s p f new k down =
    record {
      steps = down.steps;
      fresh = λ i low. down.fresh i (omega (arith, low, up));
      is = down.is;
      change = down.change;
      kept = down.kept;
      chain =
          subst (λ z. AreChain a.fragment a.quiet (numbering_at a loops) flags bs (Then z p) a.name (fronts a.setting a.numbers down.steps) (layers_down a.setting a.numbers down.steps) down.change) (sym f.is)
          (chains.declared a.quiet (numbering_at a loops) flags bs f.at f.at' f.name f.start p a.name (fronts a.setting a.numbers down.steps) (layers_down a.setting a.numbers down.steps) down.change (apart_new a.setting a.numbering d.numbers r n g loops k.sight f.name new) (new_other g a.name f.name k.type new k.visible) down.chain);
    }

-- a declaration has one site
declared_step : (a : Aim) (r : Round) (previous : Option Statement) (s : Statement) (n m : ℕ) → Stands a.setting.sites r previous s n m → (f : Flagging s) → (suc n ≡ m) × Binds a.setting n m f.name (Local n)
declared_step a _ _ _ _ _ (single r previous s n one get) f =
    (refl, record { up = omega arith; by = λ y. bound_next a.setting.sites n (site_of r previous s) y get ∙ ap (λ z. bound_by y n z (binding_at a.setting.sites n y)) f.is })
declared_step a _ _ _ _ _ (when r previous at q p n m get all) f = let e = f.is in absurd cc
declared_step a _ _ _ _ _ (choose r previous at q p o n m z get all other) f = let e = f.is in absurd cc
declared_step a _ _ _ _ _ (walks r previous at ty x q p n m get all) f = let e = f.is in absurd cc
declared_step a _ _ _ _ _ (repeats r previous at q p n m get all) f = let e = f.is in absurd cc

start_declared : (a : Aim) (P : Round → ℕ → Types → Flags → List (List ℕ) → Type 0) → FlagRules a P → (r : Round) (previous : Option Statement) (s : Statement) (n m : ℕ) (g : Types) (loops : List ℕ → Option ℕ) (flags : Flags) (bs : List (List ℕ)) (f : Flagging s) (t : JavaType) → t ≡ bool → Stands a.setting.sites r previous s n m → g f.name ≡ None → Start a P r n g loops flags bs → Start a P r m (with_type f.name (Some t) g) loops (with_flag f.name (Some (Starts f.start)) flags) (f.name ∷ bs)
start_declared a P rules r previous s n m g loops flags bs f t flag stands new k =
    let step = declared_step a r previous s n m stands f in
    let binds : Binds a.setting n m f.name (Local n) = step.1 in
    let other : bytes_eq f.name a.name ≡ false = new_other g a.name f.name k.type new k.visible in
    record {
      leveled = k.leveled;
      before = all_before n m r.tests binds.up k.before;
      inner = k.inner;
      sight = sight_declared a.setting r n m n g loops f.name t flag new binds k.sight;
      flags_known = rules.declared r previous n m g flags bs f.at f.at' f.name f.start t k.flags_known (stands_there a.setting.sites r previous s n m stands ∙ ap (λ z. Some (site_of r previous z)) f.is) step.0 new (new_outside a.setting r n g loops k.sight f.name new) other binds;
      type = k.type;
      visible = seen_with g a.name f.name (Some t) k.type new k.visible;
      bound = binds.by a.name ∙ ap (λ q. cond q (Local n) (binding_at a.setting.sites n a.name)) other ∙ k.bound;
    }

-- the name of a declaration is new, and is visible behind it
record NewName (c : Frame) (g h : Types) (x : List ℕ) : Type 0 where
  type : JavaType
  flag : type ≡ bool
  new : g x ≡ None
  after : h ≡ with_type x (Some type) g

new_name : (c : Frame) (l : Option Types) (g h : Types) (s : Statement) (f : Flagging s) → TypedStatement c l g s h → NewName c g h f.name
new_name c l g h s f t =
    let d : TypedDeclare c g h tree.Boolean f.name (tree.Lit f.at' (scalars.Bool f.start)) = typed_declare c l g f.at tree.Boolean f.name (tree.Lit f.at' (scalars.Bool f.start)) h (subst (λ z. TypedStatement c l g z h) f.is t) in
    let spelled : Some bool ≡ Some d.type = d.spelled in
    record { type = d.type; flag = cc; new = d.new; after = d.after }

start_kept : (a : Aim) (P : Round → ℕ → Types → Flags → List (List ℕ) → Type 0) (r : Round) (n m : ℕ) (g : Types) (loops : List ℕ → Option ℕ) (flags behind : Flags) (bs : List (List ℕ)) → Kept a.setting n m g → P r m g behind bs → Start a P r n g loops flags bs → Start a P r m g loops behind bs
start_kept a P r n m g loops flags behind bs kept known k =
    record {
      leveled = k.leveled;
      before = all_before n m r.tests kept.up k.before;
      inner = k.inner;
      sight = sight_kept a.setting r r n m g loops refl kept k.sight;
      flags_known = known;
      type = k.type;
      visible = k.visible;
      bound = kept.by a.name k.type k.visible ∙ k.bound;
    }

kept_past : (a : Aim) (r : Round) (previous : Option Statement) (s : Statement) (n m : ℕ) → Stands a.setting.sites r previous s n m → (l : Option Types) (g h : Types) → TypedStatement a.frame l g s h → Kept a.setting n m g
kept_past a r previous s n m stands l g h t =
    let up = goes_up a.setting.sites r previous s n m stands in
    record { up = omega (arith, up); by = λ x k i. bound_past a.frame a.setting.sites r previous s n m stands l g h t x k i }

kept_other : (a : Aim) (r : Round) (previous : Option Statement) (at : Span) (e : Expression) (p q : Statements) (n m : ℕ) → slice_get a.setting.sites n ≡ Some (site_of r previous (tree.IfElse at e p q)) → AllStand a.setting.sites (in_branch r n e true) None p (suc n) m → (l : Option Types) (g h : Types) → TypedStatements a.frame l g p h → Kept a.setting n m g
kept_other a r previous at e p q n m get all l g h t =
    let up = all_up a.setting.sites (in_branch r n e true) None p (suc n) m all in
    record { up = omega (arith, up); by = λ x k i. bound_other a.frame a.setting.sites r previous at e p q n m get all l g h t x k i }

-- ---- All the way down

-- the statements behind one, where the update stands there
next_down : (a : Aim) → Aimed a → (P : Round → ℕ → Types → Flags → List (List ℕ) → Type 0) → FlagRules a P → (Q : List Step → Change → Type 0) → (r : Round) (previous : Option Statement) (s : Statement) (p : Statements) (n m : ℕ) → Stands a.setting.sites r previous s n m → (l : Option Types) (g h : Types) (loops : List ℕ → Option ℕ) (flags : Flags) (bs : List (List ℕ)) → TypedStatement a.frame l g s h → Start a P r n g loops flags bs → m ≤ a.number → ((flags' : Flags) (bs' : List (List ℕ)) → Start a P r m h loops flags' bs' → DownAll a Q r m loops flags' bs' p) → DownAll a Q r n loops flags bs (Then s p)
next_down a d P rules Q r previous s p n m stands l g h loops flags bs t k behind down =
    let up = goes_up a.setting.sites r previous s n m stands in
    ⊎_elim
    (λ f. let v = new_name a.frame l g h s f t in
    down_declared a d P Q r n m (omega (arith, up)) g loops flags bs s p f v.new k
    (down (with_flag f.name (Some (Starts f.start)) flags) (f.name ∷ bs) (subst (λ z. Start a P r m z loops (with_flag f.name (Some (Starts f.start)) flags) (f.name ∷ bs)) (sym v.after) (start_declared a P rules r previous s n m g loops flags bs f v.type v.flag stands v.new k))))
    (λ plain.
    let kept = kept_past a r previous s n m stands l g h t in
    let unset = unset_in a d r previous s n m stands l g h t k.type k.visible k.bound (inr behind) in
    let z : Settled a P r m g loops flags s bs = rules.settled r previous n m l g h loops flags bs s k.flags_known k.leveled k.before k.inner k.sight stands t plain unset kept in
    down_later a P rules Q r n m kept.up g loops flags bs s p plain unset z
    (down z.behind bs (subst (λ y. Start a P r m y loops z.behind bs) (sym (same_types a.frame l g h s t plain)) (start_kept a P r n m g loops flags z.behind bs kept z.known k))))
    (passed a.setting.sites (site_of r previous s) s (allowed_at a.setting d.unbroken n (site_of r previous s) (stands_there a.setting.sites r previous s n m stands)))

module _ (a : Aim) (d : Aimed a) (P : Round → ℕ → Types → Flags → List (List ℕ) → Type 0) (rules : FlagRules a P) (Q : List Step → Change → Type 0) (ways : WayRules a Q) where
  mutual
    pub down : (r : Round) (previous : Option Statement) (s : Statement) (n m : ℕ) → Stands a.setting.sites r previous s n m → (l : Option Types) (g h : Types) (loops : List ℕ → Option ℕ) (flags : Flags) (bs : List (List ℕ)) → TypedStatement a.frame l g s h → Start a P r n g loops flags bs → n ≤ a.number → a.number < m → DownIn a Q r n loops flags s
    down _ _ _ _ _ (single r previous s n one get) l g h loops flags bs t k low high =
        down_here a d Q ways r previous s n l g h loops flags get (omega (arith, low, high)) k.sight t
    down _ _ _ _ _ (when r previous at e p n m get all) l g h loops flags bs t k low high =
        let u = typed_if a.frame l g h at e p t in
        let s : Statement = tree.If at e p in
        let before = behind_here a d r previous s n get refl low in
        down_branch a P rules Q ways r previous s n g loops flags bs e true p (suc n) get refl u.test k before (chains.only_branch at a.name e p)
        (all_down (in_branch r n e true) None p (suc n) m all l g u.branch.last loops flags [] u.branch.body (start_branch a P rules r previous n (suc n) g loops flags bs s e true get refl (omega arith) (none_between a (in_branch r n e true) n) (kept_if a r previous s n g e get refl) k) before high) (omega arith)
    down _ _ _ _ _ (choose r previous at e p q n m z get all other) l g h loops flags bs t k low high =
        let u = typed_choice a.frame l g h at e p q t in
        let s : Statement = tree.IfElse at e p q in
        let before = behind_here a d r previous s n get refl low in
        let first = kept_if a r previous s n g e get refl in
        let second = kept_other a r previous at e p q n m get all l g u.branch.last u.branch.body in
        let up = all_up a.setting.sites (in_branch r n e true) None p (suc n) m all in
        ⊎_elim
        (λ here. down_branch a P rules Q ways r previous s n g loops flags bs e true p (suc n) get refl u.test k before
        (chains.first_branch at a.name e p q (unset_all a d (in_branch r n e false) None q m z other l g u.other.last u.other.body k.type k.visible (second.by a.name k.type k.visible ∙ k.bound) (inl here)))
        (all_down (in_branch r n e true) None p (suc n) m all l g u.branch.last loops flags [] u.branch.body (start_branch a P rules r previous n (suc n) g loops flags bs s e true get refl (omega arith) (none_between a (in_branch r n e true) n) first k) before here) (omega arith))
        (λ there. down_branch a P rules Q ways r previous s n g loops flags bs e false q m get refl u.test k before
        (chains.other_branch at a.name e p q (unset_all a d (in_branch r n e true) None p (suc n) m all l g u.branch.last u.branch.body k.type k.visible (first.by a.name k.type k.visible ∙ k.bound) (inr there)))
        (all_down (in_branch r n e false) None q m z other l g u.other.last loops flags [] u.other.body (start_branch a P rules r previous n m g loops flags bs s e false get refl (omega (arith, up)) (first_between a (in_branch r n e true) p n m all) second k) there high) (omega (arith, up)))
        (cases_lt a.number m)
    down _ _ _ _ _ (walks r previous at ty x e p n m get all) l g h loops flags bs t k low high =
        let s : Statement = tree.ForEach at ty x e p in
        let before = behind_here a d r previous s n get refl low in
        elim (typed_each a.frame l g h at ty x e p t) [
          | over z j f new v has u ↦ down_loop a d P rules Q ways r previous n g loops flags bs at ty x e p get new k
              (all_down (in_loop r n) None p (suc n) m all (Some (with_type x (Some (Of f)) g)) (with_type x (Some (Of f)) g) z (with_row x (loop_number a.setting.sites n) loops) flags [] u (start_row a P rules r previous n g loops flags bs at ty x e p (Of f) get (ap Of (d.rows.by n (site_of r previous s) at ty x e p g j f get refl k.sight.outer v has)) new k) before high)
          | over_new z j new isnew u ↦ absurd (not_new a.setting.fragment.run e isnew (listed_at a.setting d.unbroken n (site_of r previous s) get refl))
        ]
    down _ _ _ _ _ (repeats r previous at e p n m get all) l g h loops flags bs t k low high =
        let no_while : is_while (tree.While at e p) ≡ false = inner_at a.setting d.unbroken d.first d.first_there d.first_flat n (site_of r previous (tree.While at e p)) get k.inner in
        absurd cc

    pub all_down : (r : Round) (previous : Option Statement) (p : Statements) (n m : ℕ) → AllStand a.setting.sites r previous p n m → (l : Option Types) (g h : Types) (loops : List ℕ → Option ℕ) (flags : Flags) (bs : List (List ℕ)) → TypedStatements a.frame l g p h → Start a P r n g loops flags bs → n ≤ a.number → a.number < m → DownAll a Q r n loops flags bs p
    all_down _ _ _ _ _ (nothing r previous n) l g h loops flags bs t k low high = absurd (omega (arith, low, high))
    all_down _ _ _ _ _ (next r previous s p n m o first rest) l g h loops flags bs t k low high =
        let u = typed_next a.frame l g h s p t in
        ⊎_elim
        (λ here. down_first a Q r n loops flags bs s p
        (unset_all a d r (Some s) p m o rest l u.middle u.last u.rest k.type (extends_statement a.frame l g u.middle s u.first a.name k.type k.visible) (bound_past a.frame a.setting.sites r previous s n m first l g u.middle u.first a.name k.type k.visible ∙ k.bound) (inl here))
        (down r previous s n m first l g u.middle loops flags bs u.first k low here))
        (λ there. next_down a d P rules Q r previous s p n m first l g u.middle loops flags bs u.first k there
        (λ flags' bs' k'. all_down r (Some s) p m o rest l u.middle u.last loops flags' bs' u.rest k' there high))
        (cases_lt a.number m)
