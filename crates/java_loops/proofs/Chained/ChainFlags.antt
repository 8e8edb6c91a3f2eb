-- The flags on the way to the update of an accumulator: behind the statement that sets it a flag of a block is read as its
-- own accumulator.
use Rattle.std.proofs.Common.{◌≡◌, ℕ, suc, ◌+◌, ◌<◌, ◌≤◌, Bool, true, false, not, ◌&&◌, ◌||◌, List, [], ◌∷◌, ◌++◌, length, map, Option, Some, None, refl, sym, ap, ◌∙◌, subst, cond, slice_get, bytes_eq, nat_eq, nat_lt, nat_le, arith, le-leb, ltb-true, eqb-true, ⊎_elim}
use Rattle.std.specs.List.{filter, AllByRecursion}
use Rattle.std.proofs.lemmas.Bool.{and_parts, or_cases, cases_lt, false_from_ne_true}
use Rattle.qbs_base.specs.declared.span.Span.{Span}
use Rattle.qbs_base.specs.declared.scalar.Scalar.TheVariants as scalars
use Rattle.java_ast.specs.Tree as tree
use Rattle.java_ast.specs.Tree.{Spelled, Expression, Statement, Statements}
use Rattle.java_mean.specs.declared.types.JavaType.{JavaType}
use Rattle.java_mean.specs.Types.{Types, with_type}
use Rattle.java_mean.proofs.Puts.{names_equal, name_same}
use Rattle.tor_terms.specs.Same.{same_numbers}
use Rattle.java_loops.specs.Walks.Nests.{is_among}
use Rattle.java_loops.specs.Walks.Numbering.{Flag, Flags, Starts, Reads, with_flag, is_at_other_loops}
use Rattle.loop_text.specs.Kernel.KernelConditions.{is_in_its_loops, updates_flag_under, condition_of}
use Rattle.loop_text.specs.Kernel.KernelForms.{tests_within, is_in_own_loop}
use Rattle.loop_text.specs.Kernel.KernelStatements.{updates_local}
use Rattle.java_loops.specs.Lowering.Numbering.{loop_number, flag_number, starts_true}
use Rattle.java_loops.specs.Kernel.Setting.{Setting}
use Rattle.loop_text.specs.declared.sites.bindings.Binding.{Binding}
use Rattle.loop_text.specs.declared.sites.bindings.Binding.TheVariants.{Row, Local}
use Rattle.loop_text.specs.Sites.Sites.{Test, Round, Site, binding_at, declared_name, any_site, depth, in_branch, in_loop, target_of}
use Rattle.java_loops.proofs.Typing.BoundTyping.{seen_with}
use Rattle.java_loops.proofs.Chained.ChainAims.{Aim, Between}
use Rattle.loop_text.proofs.Indexed.ChainFlagSites.{DeclaredAt, local_declared}
use Rattle.java_loops.proofs.Chained.ChainFlagSites.{FlagUpdate, LocalUpdate, updated_local, local_name, flag_update, only_update}
use Rattle.java_loops.proofs.Chained.ChainPremises.{FlagsRead}
use Rattle.java_loops.proofs.Chained.ChainQuiet.{OwnName, hidden_before, hidden_other}
use Rattle.java_loops.proofs.Chained.ChainSight.{or_right, Kept, Binds, NewOrOld, split_name, old_binding, number_later}
use Rattle.java_loops.proofs.Nested.NestRules.{Unbroken}
use Rattle.java_loops.proofs.Standing.Standing.{site_of}
use Rattle.java_loops.proofs.Standing.StandingRules.{get_same}
use Rattle.java_loops.proofs.Standing.StandingWithin.{Under, Leveled, test_of}

-- ---- Where a flag is declared

-- in this block; in the same loops, in a block round this one; or in outer loops
pub data Placed (r : Round) (bs : List (List ℕ)) (t : Site) (x : List ℕ) : Type 0 where
  here : is_among bs x ≡ true → t.round ≡ r → Placed r bs t x
  branched : depth t ≡ length r.loops → length t.round.tests < length r.tests → Placed r bs t x
  outer : depth t < length r.loops → Placed r bs t x

-- what is known of a visible flag
pub record LocalAt (w : Setting) (r : Round) (n : ℕ) (flags : Flags) (bs : List (List ℕ)) (x : List ℕ) (d : ℕ) : Type 0 where
  pub site : Site
  pub there : slice_get w.sites d ≡ Some site
  pub name : declared_name site.statement ≡ Some x
  pub placed : Placed r bs site x
  pub start : (f : FlagUpdate w d x) → n ≤ f.number → flags x ≡ Some (Starts (starts_true site.statement))
  pub read : (f : FlagUpdate w d x) → f.number < n → depth site ≡ length r.loops → flags x ≡ Some (Reads (flag_number w d) (starts_true site.statement) (map (loop_number w.sites) site.round.loops))

-- a flag of a block, which is declared in it
pub record OwnFlag (w : Setting) (r : Round) (n : ℕ) (g : Types) (x : List ℕ) : Type 0 where
  pub own : OwnName w n g x
  pub round : (t : Site) → slice_get w.sites own.number ≡ Some t → t.round ≡ r

pub own_flags_kept : (w : Setting) (r : Round) (n m : ℕ) (g : Types) (bs : List (List ℕ)) → Kept w n m g → AllByRecursion (OwnFlag w r n g) bs → AllByRecursion (OwnFlag w r m g) bs
own_flags_kept w r n m g [] kept all = tt
own_flags_kept w r n m g (b ∷ bs) kept all =
    let f : OwnFlag w r n g b = all.0 in
    let o : OwnName w n g b = f.own in
    (record { own = record { type = o.type; visible = o.visible; number = o.number; bound = kept.by b o.type o.visible ∙ o.bound; outside = o.outside }; round = f.round }, own_flags_kept w r n m g bs kept all.1)

own_flags_declared : (w : Setting) (r : Round) (n m i : ℕ) (g : Types) (x : List ℕ) (t : JavaType) (bs : List (List ℕ)) → g x ≡ None → Binds w n m x (Local i) → AllByRecursion (OwnFlag w r n g) bs → AllByRecursion (OwnFlag w r m (with_type x (Some t) g)) bs
own_flags_declared w r n m i g x t [] new binds all = tt
own_flags_declared w r n m i g x t (b ∷ bs) new binds all =
    let f : OwnFlag w r n g b = all.0 in
    let o : OwnName w n g b = f.own in
    (record { own = record { type = o.type; visible = seen_with g b x (Some t) o.type new o.visible; number = o.number; bound = old_binding w n m g x b (Local i) o.type binds new o.visible ∙ o.bound; outside = o.outside }; round = f.round }, own_flags_declared w r n m i g x t bs new binds all.1)

own_flag_new : (w : Setting) (r : Round) (n m i : ℕ) (g : Types) (x : List ℕ) (t : JavaType) (s : Site) → slice_get w.sites i ≡ Some s → s.round ≡ r → w.types x ≡ None → Binds w n m x (Local i) → OwnFlag w r m (with_type x (Some t) g) x
own_flag_new w r n m i g x t s get same outside binds =
    record {
      own = record { type = t; visible = ap (λ q. cond q (Some t) (g x)) (name_same x); number = i; bound = binds.by x ∙ ap (λ q. cond q (Local i) (binding_at w.sites n x)) (name_same x); outside = outside };
      round = λ z there. ap (λ (y : Site). y.round) (get_same w.sites i z s there get) ∙ same;
    }

-- the names of a block are visible
pub hidden_out : (w : Setting) (r : Round) (n : ℕ) (g : Types) (bs : List (List ℕ)) → AllByRecursion (OwnFlag w r n g) bs → (x : List ℕ) → g x ≡ None → is_among bs x ≡ false
hidden_out w r n g [] all x e = refl
hidden_out w r n g (b ∷ bs) all x e =
    let f : OwnFlag w r n g b = all.0 in
    let o : OwnName w n g b = f.own in
    ap (λ q. q || is_among bs x) (false_from_ne_true (bytes_eq b x) (λ same. let h : g b ≡ None = ap g (names_equal b x same) ∙ e in let k = o.visible in absurd cc)) ∙ hidden_out w r n g bs all.1 x e

pub record Loud (a : Aim) (r : Round) (n : ℕ) (g : Types) (flags : Flags) (bs : List (List ℕ)) : Type 0 where
  pub absent : flags a.name ≡ None
  pub hidden : (x : List ℕ) → g x ≡ None → flags x ≡ None
  pub others : (j : ℕ) (x : List ℕ) (flag : Flag) → loop_number a.setting.sites n ≤ j → flags x ≡ Some flag → is_at_other_loops j flag
  pub locals : (x : List ℕ) (k : JavaType) (d : ℕ) → g x ≡ Some k → binding_at a.setting.sites n x ≡ Local d → LocalAt a.setting r n flags bs x d
  pub own : AllByRecursion (OwnFlag a.setting r n g) bs

-- ---- The update of a flag stands in a loop of its own block

all_within : (level : ℕ) (ts more : List Test) → AllByRecursion (λ (t : Test). t.level ≤ level) ts → length ts ≤ length (filter (λ (t : Test). nat_le t.level level) (ts ++ more))
all_within level [] more all = omega arith
all_within level (t ∷ ts) more all =
    let rest = all_within level ts more all.1 in
    let e : length (filter (λ (x : Test). nat_le x.level level) (t ∷ (ts ++ more))) ≡ suc (length (filter (λ (x : Test). nat_le x.level level) (ts ++ more))) = ap (λ b. length (cond b (t ∷ filter (λ (x : Test). nat_le x.level level) (ts ++ more)) (filter (λ (x : Test). nat_le x.level level) (ts ++ more)))) (le-leb t.level level all.0) in
    omega (arith, rest, e)

-- no update of a flag stands in a branch inside the flag's block
pub not_below : (r : Round) (t s : Site) → Leveled r → Under r s.round → depth t ≡ length r.loops → length t.round.tests < length r.tests → is_in_own_loop s (Some t) ≡ true → ⊥
not_below r t s leveled under same fewer own =
    let two = and_parts (nat_lt (depth t) (depth s)) (nat_eq (tests_within (depth t) s.round) (length t.round.tests)) own in
    let e : tests_within (depth t) s.round ≡ length t.round.tests = eqb-true (tests_within (depth t) s.round) (length t.round.tests) two.1 in
    let f : length r.tests ≤ tests_within (length r.loops) s.round = subst (λ ts. length r.tests ≤ length (filter (λ (x : Test). nat_le x.level (length r.loops)) ts)) (sym under.is_tests) (all_within (length r.loops) r.tests under.tests leveled.by) in
    let g : tests_within (length r.loops) s.round ≡ length t.round.tests = ap (λ k. tests_within k s.round) (sym same) ∙ e in
    omega (arith, f, g, fewer)

longer : {A : Type 0} (xs : List A) (x : A) → length (xs ++ x ∷ []) ≡ suc (length xs)
longer [] x = refl
longer (y ∷ ys) x = ap suc (longer ys x)

-- ---- Into a branch, and into a loop

placed_branch : (r : Round) (n : ℕ) (e : Expression) (holds : Bool) (bs : List (List ℕ)) (t : Site) (x : List ℕ) → Placed r bs t x → Placed (in_branch r n e holds) [] t x
placed_branch r n e holds bs t x (here among is) =
    let more = longer r.tests (test_of r n e holds) in
    let same : length t.round.tests ≡ length r.tests = ap (λ (q : Round). length q.tests) is in
    branched (ap (λ (q : Round). length q.loops) is) (omega (arith, more, same))
placed_branch r n e holds bs t x (branched same fewer) = let more = longer r.tests (test_of r n e holds) in branched same (omega (arith, more, fewer))
placed_branch r n e holds bs t x (outer deep) = outer deep

placed_loop : (r : Round) (n : ℕ) (bs : List (List ℕ)) (t : Site) (x : List ℕ) → Placed r bs t x → Placed (in_loop r n) [] t x
placed_loop r n bs t x (here among is) =
    let more = longer r.loops n in
    let same : length t.round.loops ≡ length r.loops = ap (λ (q : Round). length q.loops) is in
    outer (omega (arith, more, same))
placed_loop r n bs t x (branched same fewer) = let more = longer r.loops n in outer (omega (arith, more, same))
placed_loop r n bs t x (outer deep) = let more = longer r.loops n in outer (omega (arith, more, deep))

at_most : (r : Round) (bs : List (List ℕ)) (t : Site) (x : List ℕ) → Placed r bs t x → depth t ≤ length r.loops
at_most r bs t x (here among is) = let same : length t.round.loops ≡ length r.loops = ap (λ (q : Round). length q.loops) is in omega (arith, same)
at_most r bs t x (branched same fewer) = omega (arith, same)
at_most r bs t x (outer deep) = omega (arith, deep)

at_least_tests : (r : Round) (bs : List (List ℕ)) (t : Site) (x : List ℕ) → Placed r bs t x → depth t ≡ length r.loops → length t.round.tests ≤ length r.tests
at_least_tests r bs t x (here among is) e = let same : length t.round.tests ≡ length r.tests = ap (λ (q : Round). length q.tests) is in omega (arith, same)
at_least_tests r bs t x (branched same fewer) e = omega (arith, fewer)
at_least_tests r bs t x (outer deep) e = absurd (omega (arith, e, deep))

-- the update of a flag is none of these sites
no_update_at : (w : Setting) (d n : ℕ) (x : List ℕ) (s : Site) → (f : FlagUpdate w d x) → slice_get w.sites n ≡ Some s → target_of s.statement ≡ None → f.number ≡ n → ⊥
no_update_at w d n x s f get none same =
    let e : f.site ≡ s = get_same w.sites n f.site s (ap (slice_get w.sites) (sym same) ∙ f.there) get in
    let t : target_of s.statement ≡ Some x = ap (λ (z : Site). target_of z.statement) (sym e) ∙ f.target in
    absurd cc

untargeted : (s : Statement) (e : Expression) → condition_of s ≡ Some e → target_of s ≡ None
untargeted (tree.If at c p) e h = refl
untargeted (tree.IfElse at c p q) e h = refl
untargeted (tree.Declare at ty y z) e h = absurd cc
untargeted (tree.Assign at y z) e h = absurd cc
untargeted (tree.Add at y z) e h = absurd cc
untargeted (tree.Sort at y keys downs) e h = absurd cc
untargeted (tree.ForEach at ty y z p) e h = absurd cc
untargeted (tree.While at c p) e h = absurd cc
untargeted (tree.Print at z) e h = absurd cc
untargeted (tree.Return at z) e h = absurd cc
untargeted (tree.Break at) e h = absurd cc

-- each flag of the setting is updated in a loop of its own block
pub record OwnLoops (w : Setting) : Type 0 where
  pub by : (d : ℕ) (x : List ℕ) (t : Site) → slice_get w.sites d ≡ Some t → declared_name t.statement ≡ Some x → (f : FlagUpdate w d x) → is_in_own_loop f.site (Some t) ≡ true

pub loud_branch : (a : Aim) → OwnLoops a.setting → (r : Round) (previous : Option Statement) (n m : ℕ) (g : Types) (flags : Flags) (bs : List (List ℕ)) (s : Statement) (e : Expression) (holds : Bool) → Leveled (in_branch r n e true) → Loud a r n g flags bs → slice_get a.setting.sites n ≡ Some (site_of r previous s) → condition_of s ≡ Some e → n < m → Between a.setting (in_branch r n e true) n m → Kept a.setting n m g → Loud a (in_branch r n e holds) m g flags []
loud_branch a own r previous n m g flags bs s e holds leveled q get is up between kept =
    let w : Setting = a.setting in
    record {
      absent = q.absent;
      hidden = q.hidden;
      others = λ j x flag low h. let k = number_later w.sites n m kept.up in q.others j x flag (omega (arith, low, k)) h;
      locals = λ x k d seen b.
          let l : LocalAt w r n flags bs x d = q.locals x k d seen (sym (kept.by x k seen) ∙ b) in
          record {
            site = l.site;
            there = l.there;
            name = l.name;
            placed = placed_branch r n e holds bs l.site x l.placed;
            start = λ f low. l.start f (omega (arith, low, up));
            read = λ f high same. ⊎_elim
                (λ before. l.read f before same)
                (λ behind. ⊎_elim
                (λ inside. let more = longer r.tests (test_of r n e true) in let fewer = at_least_tests r bs l.site x l.placed same in
                absurd (not_below (in_branch r n e true) l.site f.site leveled (between.by f.number f.site inside high f.there) same (omega (arith, more, fewer)) (own.by d x l.site l.there l.name f)))
                (λ at. absurd (no_update_at w d n x (site_of r previous s) f get (untargeted s e is) (omega (arith, behind, at))))
                (cases_lt n f.number))
                (cases_lt f.number n);
          };
      own = tt;
    }

not_row : (n d : ℕ) (b now : Binding) (P : Type 0) → now ≡ Row n → now ≡ Local d → P
not_row n d b now P e f = let g : Row n ≡ Local d = sym e ∙ f in absurd cc

pub loud_row : (a : Aim) (r : Round) (n m : ℕ) (g : Types) (flags : Flags) (bs : List (List ℕ)) (x : List ℕ) (t : JavaType) → Loud a r n g flags bs → suc n ≡ m → Binds a.setting n m x (Row n) → Loud a (in_loop r n) m (with_type x (Some t) g) flags []
loud_row a r n m g flags bs x t q next binds =
    let w : Setting = a.setting in
    record {
      absent = q.absent;
      hidden = λ y e. q.hidden y (hidden_before g x y t e);
      others = λ j y flag low h. let k = number_later w.sites n m binds.up in q.others j y flag (omega (arith, low, k)) h;
      locals = λ y k d seen b.
          let o : NewOrOld g x y (Some t) (Row n) (binding_at w.sites n y) (binding_at w.sites m y) k = split_name w n m g x y (Some t) (Row n) k binds seen in
          ⊎_elim
          (λ h. not_row n d (Row n) (binding_at w.sites m y) (LocalAt w (in_loop r n) m flags [] y d) h.1 b)
          (λ h.
          let l : LocalAt w r n flags bs y d = q.locals y k d h.1.0 (sym h.1.1 ∙ b) in
          record {
            site = l.site;
            there = l.there;
            name = l.name;
            placed = placed_loop r n bs l.site y l.placed;
            start = λ f low. let up = binds.up in l.start f (omega (arith, low, up));
            read = λ f high same. let deep = at_most r bs l.site y l.placed in let more = longer r.loops n in absurd (omega (arith, deep, more, same));
          })
          o.by;
      own = tt;
    }

-- ---- Behind a declaration

pub start_truth : (at at' : Span) (x : List ℕ) (b : Bool) → starts_true (tree.Declare at tree.Boolean x (tree.Lit at' (scalars.Bool b))) ≡ b
start_truth at at' x true = refl
start_truth at at' x false = refl

placed_more : (r : Round) (bs : List (List ℕ)) (t : Site) (x y : List ℕ) → Placed r bs t y → Placed r (x ∷ bs) t y
placed_more r bs t x y (here among is) = here (or_right (bytes_eq x y) (is_among bs y) among) is
placed_more r bs t x y (branched same fewer) = branched same fewer
placed_more r bs t x y (outer deep) = outer deep

new_local : (w : Setting) (r : Round) (previous : Option Statement) (n m : ℕ) (flags : Flags) (bs : List (List ℕ)) (at at' : Span) (x : List ℕ) (start : Bool) → slice_get w.sites n ≡ Some (site_of r previous (tree.Declare at tree.Boolean x (tree.Lit at' (scalars.Bool start)))) → suc n ≡ m → LocalAt w r m (with_flag x (Some (Starts start)) flags) (x ∷ bs) x n
new_local w r previous n m flags bs at at' x start get next =
    record {
      site = site_of r previous (tree.Declare at tree.Boolean x (tree.Lit at' (scalars.Bool start)));
      there = get;
      name = refl;
      placed = here (ap (λ b. b || is_among bs x) (name_same x)) refl;
      start = λ f low. ap (λ b. cond b (Some (Starts start)) (flags x)) (name_same x) ∙ ap (λ b. Some (Starts b)) (sym (start_truth at at' x start));
      read = λ f high same. let e : DeclaredAt w.sites n f.number x = local_declared w.sites f.number n x f.bound in let low = e.before in absurd (omega (arith, low, high, next));
    }

started_loops : (start : Bool) (o : Option Flag) (j : ℕ) (flag : Flag) (q : Bool) → (o ≡ Some flag → is_at_other_loops j flag) → cond q (Some (Starts start)) o ≡ Some flag → is_at_other_loops j flag
started_loops start o j flag true h e = let same : Starts start ≡ flag = cc in subst (λ f. is_at_other_loops j f) same tt
started_loops start o j flag false h e = h e

pub loud_declared : (a : Aim) (r : Round) (previous : Option Statement) (n m : ℕ) (g : Types) (flags : Flags) (bs : List (List ℕ)) (at at' : Span) (x : List ℕ) (start : Bool) (t : JavaType) → Loud a r n g flags bs → slice_get a.setting.sites n ≡ Some (site_of r previous (tree.Declare at tree.Boolean x (tree.Lit at' (scalars.Bool start)))) → suc n ≡ m → g x ≡ None → a.setting.types x ≡ None → bytes_eq x a.name ≡ false → Binds a.setting n m x (Local n) → Loud a r m (with_type x (Some t) g) (with_flag x (Some (Starts start)) flags) (x ∷ bs)
loud_declared a r previous n m g flags bs at at' x start t q get next new outside other binds =
    let w : Setting = a.setting in
    let s : Site = site_of r previous (tree.Declare at tree.Boolean x (tree.Lit at' (scalars.Bool start))) in
    record {
      absent = ap (λ b. cond b (Some (Starts start)) (flags a.name)) other ∙ q.absent;
      hidden = λ y e. ap (λ b. cond b (Some (Starts start)) (flags y)) (hidden_other g x y t e) ∙ q.hidden y (hidden_before g x y t e);
      others = λ j y flag low h. let k = number_later w.sites n m binds.up in started_loops start (flags y) j flag (bytes_eq x y) (λ e. q.others j y flag (omega (arith, low, k)) e) h;
      locals = λ y k d seen b.
          let o : NewOrOld g x y (Some t) (Local n) (binding_at w.sites n y) (binding_at w.sites m y) k = split_name w n m g x y (Some t) (Local n) k binds seen in
          ⊎_elim
          (λ h.
          let numbers : Local n ≡ Local d = sym h.1 ∙ b in
          let number : n ≡ d = cc in
          let name : x ≡ y = names_equal x y h.0 in
          subst (λ z. LocalAt w r m (with_flag x (Some (Starts start)) flags) (x ∷ bs) z d) name (subst (λ i. LocalAt w r m (with_flag x (Some (Starts start)) flags) (x ∷ bs) x i) number (new_local w r previous n m flags bs at at' x start get next)))
          (λ h.
          let l : LocalAt w r n flags bs y d = q.locals y k d h.1.0 (sym h.1.1 ∙ b) in
          let kept : with_flag x (Some (Starts start)) flags y ≡ flags y = ap (λ c. cond c (Some (Starts start)) (flags y)) h.0 in
          record {
            site = l.site;
            there = l.there;
            name = l.name;
            placed = placed_more r bs l.site x y l.placed;
            start = λ f low. kept ∙ l.start f (omega (arith, low, next));
            read = λ f high same. ⊎_elim
                (λ before. kept ∙ l.read f before same)
                (λ behind. absurd (no_update_at w d n y s f get refl (omega (arith, behind, high, next))))
                (cases_lt f.number n);
          })
          o.by;
      own = (own_flag_new w r n m n g x t s get refl outside binds, own_flags_declared w r n m n g x t bs new binds q.own);
    }

-- ---- Which flags an `if` may read

record PassingSite (test : ℕ → Site → Bool) (sites : List Site) : Type 0 where
  number : ℕ
  site : Site
  there : slice_get sites number ≡ Some site
  passes : test number site ≡ true

record PassingFrom (test : ℕ → Site → Bool) (k : ℕ) (sites : List Site) : Type 0 where
  index : ℕ
  number : ℕ
  is : k + index ≡ number
  site : Site
  there : slice_get sites index ≡ Some site
  passes : test number site ≡ true

passing_from : (test : ℕ → Site → Bool) (k : ℕ) (sites : List Site) → any_site test k sites ≡ true → PassingFrom test k sites
passing_from test k [] h = absurd cc
passing_from test k (s ∷ ss) h =
    ⊎_elim
    (λ e. record { index = 0; number = k; is = omega arith; site = s; there = refl; passes = e })
    (λ e. let f = passing_from test (suc k) ss e in record { index = suc f.index; number = f.number; is = let g = f.is in omega (arith, g); site = f.site; there = f.there; passes = f.passes })
    (or_cases (test k s) (any_site test (suc k) ss) h)

passing : (test : ℕ → Site → Bool) (sites : List Site) → any_site test 0 sites ≡ true → PassingSite test sites
passing test sites h =
    let f : PassingFrom test 0 sites = passing_from test 0 sites h in
    let same : f.index ≡ f.number = let g = f.is in omega (arith, g) in
    record { number = f.number; site = f.site; there = ap (slice_get sites) (sym same) ∙ f.there; passes = f.passes }

numbers_same : (xs ys : List ℕ) → same_numbers xs ys ≡ true → xs ≡ ys
numbers_same [] [] h = refl
numbers_same [] (y ∷ ys) h = absurd cc
numbers_same (x ∷ xs) [] h = absurd cc
numbers_same (x ∷ xs) (y ∷ ys) h =
    let two = and_parts (nat_eq x y) (same_numbers xs ys) h in
    ap (λ z. z ∷ xs) (eqb-true x y two.0) ∙ ap (λ zs. y ∷ zs) (numbers_same xs ys two.1)

same_depth : (sites : List Site) (n : ℕ) (s t : Site) (o p : Option Site) → o ≡ Some s → p ≡ Some t → is_in_its_loops sites n o p ≡ true → t.round.loops ≡ s.round.loops
same_depth sites n s t o p e f h =
    let g : is_in_its_loops sites n (Some s) (Some t) ≡ true = ap (λ z. is_in_its_loops sites n z (Some t)) (sym e) ∙ ap (is_in_its_loops sites n o) (sym f) ∙ h in
    sym (numbers_same s.round.loops t.round.loops g)

pub loud_reads : (a : Aim) → Unbroken a.setting → (r : Round) (previous : Option Statement) (n : ℕ) (g : Types) (flags : Flags) (bs : List (List ℕ)) (s : Statement) → Loud a r n g flags bs → slice_get a.setting.sites n ≡ Some (site_of r previous s) → FlagsRead a.setting n g flags
loud_reads a u r previous n g flags bs s q get =
    record {
      by = λ x k d t seen b there may.
          let w : Setting = a.setting in
          let l : LocalAt w r n flags bs x d = q.locals x k d seen b in
          let same : l.site ≡ t = get_same w.sites d l.site t l.there there in
          let f : FlagUpdate w d x = flag_update w u d l.site x l.there l.name in
          let two = and_parts (any_site (λ i y. nat_lt i n && updates_local w.sites d i y) 0 w.sites) (is_in_its_loops w.sites n (slice_get w.sites n) (slice_get w.sites d) && not (any_site (updates_flag_under w.sites n) 0 w.sites)) may in
          let loops = (and_parts (is_in_its_loops w.sites n (slice_get w.sites n) (slice_get w.sites d)) (not (any_site (updates_flag_under w.sites n) 0 w.sites)) two.1).0 in
          let e : l.site.round.loops ≡ r.loops = same_depth w.sites n (site_of r previous s) l.site (slice_get w.sites n) (slice_get w.sites d) get l.there loops in
          let p : PassingSite (λ i y. nat_lt i n && updates_local w.sites d i y) w.sites = passing (λ i y. nat_lt i n && updates_local w.sites d i y) w.sites two.0 in
          let parts = and_parts (nat_lt p.number n) (updates_local w.sites d p.number p.site) p.passes in
          let m : LocalUpdate w.sites d p.number p.site = updated_local w.sites d p.number p.site parts.1 in
          let name : m.name ≡ x = local_name w.sites d p.number p.site l.site x l.there l.name m in
          let number : p.number ≡ f.number = only_update w u d x f p.number (record { site = p.site; there = p.there; target = m.target ∙ ap Some name; bound = ap (binding_at w.sites p.number) (sym name) ∙ m.bound }) in
          let before = ltb-true p.number n parts.0 in
          subst (λ (z : Site). flags x ≡ Some (Reads (flag_number w d) (starts_true z.statement) (map (loop_number w.sites) z.round.loops))) same (l.read f (omega (arith, before, number)) (ap length e));
    }
