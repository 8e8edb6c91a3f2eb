-- The flags on the way to the update of a flag: none of them is read there, and those that a statement sets are lost.
use Rattle.std.proofs.Common.{◌≡◌, ℕ, Bool, true, false, not, ◌&&◌, ◌||◌, List, [], ◌∷◌, ◌++◌, length, Option, Some, None, refl, sym, ap, ◌∙◌, subst, cond, slice_get, bytes_eq, nat_eq, nat_lt}
use Rattle.std.specs.List.{AllByRecursion, list_any}
use Rattle.std.proofs.lemmas.Bool.{and_parts, eq-eqb}
use Rattle.java_ast.specs.Tree.{Expression, Statement}
use Rattle.java_mean.specs.declared.types.JavaType.{JavaType}
use Rattle.java_mean.specs.Types.{Types, with_type}
use Rattle.java_mean.proofs.Puts.{name_same}
use Rattle.java_loops.specs.Walks.Chains as chains
use Rattle.java_loops.specs.Walks.Chains.{Settles}
use Rattle.java_loops.specs.Walks.Numbering.{Numbering, Flag, Flags, Starts, no_flags, with_flag, with_loops, IsApart, is_at_other_loops}
use Rattle.kernel_lang.specs.Plain.{Fragment}
use Rattle.loop_text.specs.Kernel.KernelConditions.{may_read, updates_flag_under, is_local, is_in_its_loops}
use Rattle.loop_text.specs.Kernel.KernelStatements.{updates_local, target_bound}
use Rattle.java_loops.specs.Lowering.Numbering.{loop_number}
use Rattle.java_loops.specs.Kernel.Setting.{Setting}
use Rattle.loop_text.specs.declared.sites.bindings.Binding.TheVariants.{Local}
use Rattle.loop_text.specs.Sites.Sites.{Test, Round, Site, binding_at, any_site, in_branch, is_under, is_update, is_some, target_of}
use Rattle.java_loops.proofs.Typing.BoundTyping.{seen_with}
use Rattle.java_loops.proofs.Chained.ChainAims.{Aim, Aimed, numbering_at, Settled, FlagRules}
use Rattle.java_loops.proofs.Chained.ChainPremises.{HasNumbers}
use Rattle.java_loops.proofs.Chained.ChainSight.{Sight, Kept, Binds, unbound_loop, apart_in, old_binding}
use Rattle.java_loops.proofs.Chained.ChainSteps.{Step, round_down, tests_of_down, tests_down}
use Rattle.java_loops.proofs.Nested.NestRules.{false_from_not}
use Rattle.java_loops.proofs.Standing.StandingRules.{fails_at}
use Rattle.java_loops.proofs.Standing.StandingWithin.{test_of}

-- ---- Names

-- what is new and no flag yet stays so
none_before : (g : Types) (x y : List ℕ) (t : JavaType) (q : Bool) → cond q (Some t) (g y) ≡ None → g y ≡ None
none_before g x y t true e = absurd cc
none_before g x y t false e = e

pub hidden_before : (g : Types) (x y : List ℕ) (t : JavaType) → with_type x (Some t) g y ≡ None → g y ≡ None
hidden_before g x y t e = none_before g x y t (bytes_eq x y) e

other_name : (g : Types) (x y : List ℕ) (t : JavaType) (q : Bool) → cond q (Some t) (g y) ≡ None → q ≡ false
other_name g x y t true e = absurd cc
other_name g x y t false e = refl

-- a name that isn't visible behind a declaration isn't that of the declaration
pub hidden_other : (g : Types) (x y : List ℕ) (t : JavaType) → with_type x (Some t) g y ≡ None → bytes_eq x y ≡ false
hidden_other g x y t e = other_name g x y t (bytes_eq x y) e

-- a local variable of a block, which isn't visible at the whole loop
pub record OwnName (w : Setting) (n : ℕ) (g : Types) (x : List ℕ) : Type 0 where
  pub type : JavaType
  pub visible : g x ≡ Some type
  pub number : ℕ
  pub bound : binding_at w.sites n x ≡ Local number
  pub outside : w.types x ≡ None

pub apart_own : (w : Setting) (N : Numbering) → HasNumbers w N → (r : Round) (n : ℕ) (g : Types) (loops : List ℕ → Option ℕ) → Sight w r n g loops → (x : List ℕ) → OwnName w n g x → IsApart (with_loops loops N) x
apart_own w N h r n g loops s x o = apart_in N loops x (h.new x o.outside) (unbound_loop w r n g loops s x (Local o.number) o.bound (λ i e. absurd cc))

own_kept : (w : Setting) (n m : ℕ) (g : Types) (bs : List (List ℕ)) → Kept w n m g → AllByRecursion (OwnName w n g) bs → AllByRecursion (OwnName w m g) bs
own_kept w n m g [] kept all = tt
own_kept w n m g (b ∷ bs) kept all =
    let o : OwnName w n g b = all.0 in
    (record { type = o.type; visible = o.visible; number = o.number; bound = kept.by b o.type o.visible ∙ o.bound; outside = o.outside }, own_kept w n m g bs kept all.1)

own_declared : (w : Setting) (n m i : ℕ) (g : Types) (x : List ℕ) (t : JavaType) (bs : List (List ℕ)) → g x ≡ None → Binds w n m x (Local i) → AllByRecursion (OwnName w n g) bs → AllByRecursion (OwnName w m (with_type x (Some t) g)) bs
own_declared w n m i g x t [] new binds all = tt
own_declared w n m i g x t (b ∷ bs) new binds all =
    let o : OwnName w n g b = all.0 in
    (record { type = o.type; visible = seen_with g b x (Some t) o.type new o.visible; number = o.number; bound = old_binding w n m g x b (Local i) o.type binds new o.visible ∙ o.bound; outside = o.outside }, own_declared w n m i g x t bs new binds all.1)

own_new : (w : Setting) (n m i : ℕ) (g : Types) (x : List ℕ) (t : JavaType) → w.types x ≡ None → Binds w n m x (Local i) → OwnName w m (with_type x (Some t) g) x
own_new w n m i g x t outside binds =
    record { type = t; visible = ap (λ q. cond q (Some t) (g x)) (name_same x); number = i; bound = binds.by x ∙ ap (λ q. cond q (Local i) (binding_at w.sites n x)) (name_same x); outside = outside }

-- ---- Flags that are lost

abbrev lost_all : List (List ℕ) → Flags → Flags
lost_all [] flags = flags
lost_all (b ∷ bs) flags = with_flag b None (lost_all bs flags)

lost_none : (b : Bool) (o : Option Flag) → o ≡ None → cond b None o ≡ None
lost_none true o e = refl
lost_none false o e = e

still_none : (bs : List (List ℕ)) (flags : Flags) (x : List ℕ) → flags x ≡ None → lost_all bs flags x ≡ None
still_none [] flags x e = e
still_none (b ∷ bs) flags x e = lost_none (bytes_eq b x) (lost_all bs flags x) (still_none bs flags x e)

lost_some : (b : Bool) (o : Option Flag) (flag : Flag) → cond b None o ≡ Some flag → o ≡ Some flag
lost_some true o flag e = absurd cc
lost_some false o flag e = e

still_some : (bs : List (List ℕ)) (flags : Flags) (x : List ℕ) (flag : Flag) → lost_all bs flags x ≡ Some flag → flags x ≡ Some flag
still_some [] flags x flag e = e
still_some (b ∷ bs) flags x flag e = still_some bs flags x flag (lost_some (bytes_eq b x) (lost_all bs flags x) flag e)

settles_lost : (F : Fragment) (N : Numbering) (flags : Flags) (s : Statement) (bs : List (List ℕ)) → AllByRecursion (IsApart N) bs → Settles F true N flags s bs (lost_all bs flags)
settles_lost F N flags s [] all = chains.ended true N flags s
settles_lost F N flags s (b ∷ bs) all = chains.lost true N flags (lost_all bs flags) s b bs all.0 (settles_lost F N flags s bs all.1)

all_apart : (w : Setting) (N : Numbering) → HasNumbers w N → (r : Round) (n : ℕ) (g : Types) (loops : List ℕ → Option ℕ) → Sight w r n g loops → (bs : List (List ℕ)) → AllByRecursion (OwnName w n g) bs → AllByRecursion (IsApart (with_loops loops N)) bs
all_apart w N h r n g loops s [] all = tt
all_apart w N h r n g loops s (b ∷ bs) all = (apart_own w N h r n g loops s b all.0, all_apart w N h r n g loops s bs all.1)

-- ---- No flag is read

any_here : (xs ys : List Test) (t : Test) (q : Test → Bool) → q t ≡ true → list_any q ((xs ++ t ∷ []) ++ ys) ≡ true
any_here [] ys t q e = ap (λ b. b || list_any q ys) e
any_here (x ∷ xs) ys t q e = ap (λ b. q x || b) (any_here xs ys t q e) ∙ or_true (q x)
  where
    or_true : (b : Bool) → (b || true) ≡ true
    or_true true = refl
    or_true false = refl

-- a place further down stands under the `if`
pub under_way : (r q : Round) (n : ℕ) (e : Expression) (holds : Bool) (ss : List Step) → q ≡ round_down (in_branch r n e holds) ss → list_any (λ (t : Test). nat_eq n t.number) q.tests ≡ true
under_way r q n e holds ss is =
    let more : q.tests ≡ (r.tests ++ test_of r n e holds ∷ []) ++ tests_down (length r.loops) ss = ap (λ (x : Round). x.tests) is ∙ tests_of_down (in_branch r n e holds) ss in
    ap (list_any (λ (t : Test). nat_eq n t.number)) more ∙ any_here r.tests (tests_down (length r.loops) ss) (test_of r n e holds) (λ (t : Test). nat_eq n t.number) (eq-eqb n n refl)

-- an `if` round the update of a flag reads no flag
pub reads_none : (a : Aim) → (d : Aimed a) → (i : ℕ) → a.bound ≡ Local i → (r : Round) (n j : ℕ) (e : Expression) (holds : Bool) (ss : List Step) → a.round ≡ round_down (in_branch r n e holds) ss → may_read a.setting.sites n j ≡ true → ⊥
reads_none a d i local r n j e holds ss way may =
    let sites : List Site = a.setting.sites in
    let two = and_parts (any_site (λ k s. nat_lt k n && updates_local sites j k s) 0 sites) (is_in_its_loops sites n (slice_get sites n) (slice_get sites j) && not (any_site (updates_flag_under sites n) 0 sites)) may in
    let none = false_from_not (any_site (updates_flag_under sites n) 0 sites) (and_parts (is_in_its_loops sites n (slice_get sites n) (slice_get sites j)) (not (any_site (updates_flag_under sites n) 0 sites)) two.1).1 in
    let fails : updates_flag_under sites n a.number d.update.site ≡ false = fails_at (updates_flag_under sites n) sites none a.number d.update.site d.update.there in
    let updates : is_update d.update.site.statement ≡ true = ap is_some d.update.target in
    let bound : is_local (target_bound sites a.number (target_of d.update.site.statement)) ≡ true = ap (λ o. is_local (target_bound sites a.number o)) d.update.target ∙ ap is_local (d.update.bound ∙ local) in
    let under : is_under n d.update.site ≡ true = ap (λ (q : Round). list_any (λ (t : Test). nat_eq n t.number) q.tests) d.round ∙ under_way r a.round n e holds ss way in
    let holds_so : updates_flag_under sites n a.number d.update.site ≡ true =
    ap (λ b. b && (is_local (target_bound sites a.number (target_of d.update.site.statement)) && is_under n d.update.site)) updates
    ∙ ap (λ b. b && is_under n d.update.site) bound
    ∙ under in
    absurd cc

-- ---- The rules

pub record Quiet (a : Aim) (r : Round) (n : ℕ) (g : Types) (flags : Flags) (bs : List (List ℕ)) : Type 0 where
  pub absent : flags a.name ≡ None
  pub hidden : (x : List ℕ) → g x ≡ None → flags x ≡ None
  pub others : (j : ℕ) (x : List ℕ) (flag : Flag) → flags x ≡ Some flag → is_at_other_loops j flag
  pub own : AllByRecursion (OwnName a.setting n g) bs

started_apart : (flags : Flags) (b : List ℕ) (start : Bool) (j : ℕ) (x : List ℕ) (flag : Flag) (q : Bool) → ((y : List ℕ) (f : Flag) → flags y ≡ Some f → is_at_other_loops j f) → cond q (Some (Starts start)) (flags x) ≡ Some flag → is_at_other_loops j flag
started_apart flags b start j x flag true h e = let same : Starts start ≡ flag = cc in subst (λ f. is_at_other_loops j f) same tt
started_apart flags b start j x flag false h e = h x flag e

quiet_declared : (a : Aim) (r : Round) (n m : ℕ) (g : Types) (flags : Flags) (bs : List (List ℕ)) (x : List ℕ) (start : Bool) (t : JavaType) → Quiet a r n g flags bs → g x ≡ None → a.setting.types x ≡ None → bytes_eq x a.name ≡ false → Binds a.setting n m x (Local n) → Quiet a r m (with_type x (Some t) g) (with_flag x (Some (Starts start)) flags) (x ∷ bs)
quiet_declared a r n m g flags bs x start t q new outside other binds =
    record {
      absent = ap (λ b. cond b (Some (Starts start)) (flags a.name)) other ∙ q.absent;
      hidden = λ y e. ap (λ b. cond b (Some (Starts start)) (flags y)) (hidden_other g x y t e) ∙ q.hidden y (hidden_before g x y t e);
      others = λ j y flag e. started_apart flags x start j y flag (bytes_eq x y) (λ z f h. q.others j z f h) e;
      own = (own_new a.setting n m n g x t outside binds, own_declared a.setting n m n g x t bs new binds q.own);
    }

quiet_settled : (a : Aim) → a.quiet ≡ true → HasNumbers a.setting a.numbering → (r : Round) (n m : ℕ) (g : Types) (loops : List ℕ → Option ℕ) (flags : Flags) (bs : List (List ℕ)) (s : Statement) → Quiet a r n g flags bs → Sight a.setting r n g loops → Kept a.setting n m g → Settled a (Quiet a) r m g loops flags s bs
quiet_settled a quiet numbers r n m g loops flags bs s q sight kept =
    record {
      behind = lost_all bs flags;
      settles = subst (λ b. Settles a.fragment b (numbering_at a loops) flags s bs (lost_all bs flags)) (sym quiet) (settles_lost a.fragment (numbering_at a loops) flags s bs (all_apart a.setting a.numbering numbers r n g loops sight bs q.own));
      known = record {
        absent = still_none bs flags a.name q.absent;
        hidden = λ x e. still_none bs flags x (q.hidden x e);
        others = λ j x flag e. q.others j x flag (still_some bs flags x flag e);
        own = own_kept a.setting n m g bs kept q.own;
      };
    }

pub quiet_rules : (a : Aim) → (d : Aimed a) → (i : ℕ) → a.bound ≡ Local i → a.quiet ≡ true → FlagRules a (Quiet a)
quiet_rules a d i local quiet =
    record {
      absent = λ r n g flags bs q. q.absent;
      hidden = λ r n g flags bs q x e. q.hidden x e;
      others = λ r n g flags bs q x flag e. q.others (loop_number a.setting.sites n) x flag e;
      reads = λ r previous n g flags bs s e holds ss q get is way. record { by = λ x k j t seen b there may. absurd (reads_none a d i local r n j e holds ss way may) };
      declared = λ r previous n m g flags bs at at' x start t q get next new outside other binds. quiet_declared a r n m g flags bs x start t q new outside other binds;
      settled = λ r previous n m l g h loops flags bs s q leveled before inner sight stands t plain unset kept. quiet_settled a quiet d.numbers r n m g loops flags bs s q sight kept;
      branch = λ r previous n m g flags bs s e holds q leveled get is up between kept. record { absent = q.absent; hidden = q.hidden; others = q.others; own = tt };
      row = λ r n m g flags bs x t q next new binds. record { absent = q.absent; hidden = λ y e. q.hidden y (hidden_before g x y t e); others = q.others; own = tt };
    }

-- before a flag's own loop no flag is in sight
pub quiet_start : (a : Aim) (r : Round) (n : ℕ) (g : Types) → Quiet a r n g no_flags []
quiet_start a r n g = record { absent = refl; hidden = λ x e. refl; others = λ j x flag e. absurd cc; own = tt }
