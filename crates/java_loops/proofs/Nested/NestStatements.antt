-- The statements in a loop of the kernel form make a nest.
use Rattle.std.proofs.Common.{◌≡◌, ℕ, suc, Bool, true, false, ◌&&◌, List, [], ◌∷◌, length, Option, Some, None, refl, sym, ap, subst, slice_get, inl}
use Rattle.std.proofs.lemmas.Bool.{and_parts, or_left, or_right, false_from_ne_true}
use Rattle.qbs_base.specs.declared.span.Span.{Span}
use Rattle.java_ast.specs.Tree as tree
use Rattle.java_ast.specs.Tree.{Spelled, Expression, Statement, Statements, Nothing, Then}
use Rattle.java_mean.specs.declared.types.JavaType.{JavaType}
use Rattle.java_mean.specs.declared.types.JavaType.TheVariants.{Of}
use Rattle.java_mean.specs.declared.types.Single.{Single}
use Rattle.java_mean.specs.Types.{Types, with_type}
use Rattle.java_mean.specs.Typing.{Frame, IsNew, is_new_list, is_new_set, TypedStatement, TypedStatements}
use Rattle.java_mean.proofs.Puts.{name_same}
use Rattle.java_loops.specs.Walks.Effects.{all_set}
use Rattle.java_loops.specs.Walks.Nests.{with_name, accumulators_here, fixed_here, Mark, IsNest, assign, add, when, choose, for_each, AreNest, nothing}
use Rattle.java_loops.specs.Walks.Reads.{Set, Reads}
use Rattle.loop_text.specs.Kernel.KernelLists.{source_of}
use Rattle.loop_text.specs.Kernel.KernelStatements.{is_allowed, is_declaration, is_break}
use Rattle.java_loops.specs.Kernel.Setting.{Setting}
use Rattle.loop_text.specs.Statements.Setting.{is_found}
use Rattle.loop_text.specs.declared.sites.bindings.Binding.TheVariants.{Row}
use Rattle.loop_text.specs.Sites.Sites.{Round, binding_at, in_loop, in_branch, depth}
use Rattle.java_loops.proofs.Typing.BoundSteps.{bound_next, bound_other}
use Rattle.java_loops.proofs.Typing.BoundTyping.{typed_next, typed_if, typed_choice, over, over_new, typed_each, typed_assign, typed_add}
use Rattle.java_loops.proofs.Nested.NestBlocks.{breaks_last, all_breaks_last, ends_there, starts_break, Place, branch_place, loop_place, SetsIn, SetsOf, unfollowed, plain_step, declare_step, new_unset}
use Rattle.java_loops.proofs.Nested.NestForms.{assign_reads, add_reads, list_reads}
use Rattle.java_loops.proofs.Nested.NestGuards.{if_guards, choice_guards}
use Rattle.java_loops.proofs.Nested.NestMarks.{Sound, MarkFits, mark_branch, InnerMark, inner_mark, allows, no_mark}
use Rattle.java_loops.proofs.Nested.NestRules.{allowed_at, inner_at, row_unset, listed_at}
use Rattle.java_loops.proofs.Nested.NestSight.{Sight, inner_level, BlockSight, Binds, is_new, is_old, new_or, block_sight, row_sight}
use Rattle.java_loops.proofs.Standing.Standing.{is_single, site_of, Stands, AllStand, single, when as when_stands, choose as choose_stands, walks, repeats, nothing as no_statement, next as next_statement}
use Rattle.java_loops.proofs.Standing.StandingWithin.{under_self, all_set_in}

-- ---- A for-each

-- a row that a name is bound to is no variable that the loop sets
row_step : (w : Setting) → Sound w → (c : Frame) (r : Round) (p : Statements) (n m o : ℕ) → AllStand w.sites r None p m o → (l : Option Types) (g z : Types) (x : List ℕ) (e : Single) (a : Set) → TypedStatements c l (with_type x (Some (Of e)) g) p z → Binds w n m x (Row n) → (y : List ℕ) (k : JavaType) → with_type x (Some (Of e)) g y ≡ Some k → all_set p y ≡ true → (g y ≡ Some k → a y ≡ true) → a y ≡ true
row_step w u c r p n m o all l g z x e a t binds y k i h f =
    elim (new_or w n m g x (Of e) (Row n) y k binds i) [
      | is_new same q b ↦ absurd (row_unset w u.unbroken r m n y (all_set_in c w.sites r None p m o all l (with_type x (Some (Of e)) g) z t y k i h) b)
      | is_old same q b ↦ f q
    ]

-- what the body sets is set by the loop
pub row_sets : (w : Setting) → Sound w → (c : Frame) (r : Round) (p : Statements) (n m o : ℕ) → AllStand w.sites r None p m o → (l : Option Types) (g z : Types) (x : List ℕ) (e : Single) (a : Set) → TypedStatements c l (with_type x (Some (Of e)) g) p z → Binds w n m x (Row n) → ((y : List ℕ) (k : JavaType) → g y ≡ Some k → all_set p y ≡ true → a y ≡ true) → SetsOf (with_type x (Some (Of e)) g) p a []
row_sets w u c r p n m o all l g z x e a t binds f =
    record { by = λ y k i h. inl (row_step w u c r p n m o all l g z x e a t binds y k i h (λ j. f y k j h)) }

-- a new list isn't fetched
pub new_unlisted : (w : Setting) (e : Expression) → IsNew e → is_found (source_of w.fragment.run e) ≡ true → ⊥
new_unlisted w _ (is_new_list at) h = absurd cc
new_unlisted w _ (is_new_set at) h = absurd cc

pub each_binds : (w : Setting) (r : Round) (previous : Option Statement) (at : Span) (ty : Spelled) (x : List ℕ) (e : Expression) (p : Statements) (n : ℕ) → slice_get w.sites n ≡ Some (site_of r previous (tree.ForEach at ty x e p)) → Binds w n (suc n) x (Row n)
each_binds w r previous at ty x e p n get = record { by = λ y. bound_next w.sites n (site_of r previous (tree.ForEach at ty x e p)) y get }

-- ---- Statements without statements in them

add_nest : (a f : Set) (mark : Option Mark) (at : Span) (x : List ℕ) (e : Expression) → mark ≡ None → a x ≡ true → Reads (with_name x f) e → IsNest (tree.Add at x e) a f mark
add_nest a f mark at x e none ax r = subst (λ o. IsNest (tree.Add at x e) a f o) (sym none) (add a f at x e ax r)

module _ (w : Setting) (u : Sound w) (c : Frame) where
  single_nest : (r : Round) (previous : Option Statement) (s : Statement) (n : ℕ) → is_single s ≡ true → slice_get w.sites n ≡ Some (site_of r previous s) → (l : Option Types) (g h : Types) → TypedStatement c l g s h → (a f : Set) (mark : Option Mark) → Sight w n (inner_level r s) g a f → SetsIn g s a → MarkFits w r mark → is_declaration s ≡ false → is_break s ≡ false → IsNest s a f mark
  single_nest r previous (tree.Declare at ty x e) n one get l g h t a f mark sight sets_it fits d b = absurd cc
  single_nest r previous (tree.Assign at x e) n one get l g h t a f mark sight sets_it fits d b =
      let k = typed_assign c l g h at x e t in
      assign a f mark at x e (sets_it.by x k.type k.seen (name_same x)) (assign_reads w u.unbroken c n (inner_level r (tree.Assign at x e)) g a f sight r previous at x e k.type get k.value) (allows mark at x e (fits.updates n (site_of r previous (tree.Assign at x e)) get refl (under_self r)))
  single_nest r previous (tree.Add at x e) n one get l g h t a f mark sight sets_it fits d b =
      let k = typed_add c l g h at x e t in
      add_nest a f mark at x e (no_mark mark at x e (fits.updates n (site_of r previous (tree.Add at x e)) get refl (under_self r))) (sets_it.by x k.type k.seen (name_same x)) (add_reads w u.unbroken c n (inner_level r (tree.Add at x e)) g a f sight r previous at x e (Of k.member) get k.value)
  single_nest r previous (tree.Sort at x keys downs) n one get l g h t a f mark sight sets_it fits d b = let i : is_allowed w.sites (site_of r previous (tree.Sort at x keys downs)) (tree.Sort at x keys downs) ≡ true = allowed_at w u.unbroken n (site_of r previous (tree.Sort at x keys downs)) get in absurd cc
  single_nest r previous (tree.If at e p) n one get l g h t a f mark sight sets_it fits d b = absurd cc
  single_nest r previous (tree.IfElse at e p q) n one get l g h t a f mark sight sets_it fits d b = absurd cc
  single_nest r previous (tree.ForEach at ty x e p) n one get l g h t a f mark sight sets_it fits d b = absurd cc
  single_nest r previous (tree.While at e p) n one get l g h t a f mark sight sets_it fits d b = absurd cc
  single_nest r previous (tree.Print at e) n one get l g h t a f mark sight sets_it fits d b = let i : is_allowed w.sites (site_of r previous (tree.Print at e)) (tree.Print at e) ≡ true = allowed_at w u.unbroken n (site_of r previous (tree.Print at e)) get in absurd cc
  single_nest r previous (tree.Return at e) n one get l g h t a f mark sight sets_it fits d b = let i : is_allowed w.sites (site_of r previous (tree.Return at e)) (tree.Return at e) ≡ true = allowed_at w u.unbroken n (site_of r previous (tree.Return at e)) get in absurd cc
  single_nest r previous (tree.Break at) n one get l g h t a f mark sight sets_it fits d b = absurd cc

  -- ---- Branches

  branch_sight : (r : Round) (previous : Option Statement) (s : Statement) (n : ℕ) (e : Expression) (holds : Bool) (g : Types) (a f : Set) → ((y : List ℕ) → binding_at w.sites (suc n) y ≡ binding_at w.sites n y) → Sight w n (length r.loops) g a f → BlockSight w (suc n) (in_branch r n e holds) g a f []
  branch_sight r previous s n e holds g a f same sight = block_sight w n (suc n) (length r.loops) (in_branch r n e holds) g a f (record { by = λ y k i. same y }) refl sight

  -- ---- A block

  -- a `break` stands behind a statement
  pub first_no_break : (p : Statements) (r : Round) (n m : ℕ) (mark : Option Mark) → AllStand w.sites r None p n m → MarkFits w r mark → starts_break p ≡ false
  first_no_break p r n m mark all fits = false_from_ne_true (starts_break p) (λ h. unfollowed w r p n m mark all fits h)

  statement_step : (r : Round) (previous : Option Statement) (s : Statement) (p : Statements) (n m o : ℕ) → Stands w.sites r previous s n m → AllStand w.sites r (Some s) p m o → (l : Option Types) (g h : Types) → TypedStatement c l g s h → (a f : Set) (bs : List (List ℕ)) (mark : Option Mark) → BlockSight w n r g a f bs → SetsOf g (Then s p) a bs → Place r → MarkFits w r mark → all_breaks_last p ≡ true → is_break s ≡ false → ((d q : Set) → Sight w n (inner_level r s) g d q → SetsIn g s d → is_declaration s ≡ false → IsNest s d q mark) → ((ds : List (List ℕ)) → BlockSight w m r h a f ds → SetsOf h p a ds → starts_break p ≡ false → AreNest p a f ds mark) → AreNest (Then s p) a f bs mark
  statement_step r previous (tree.Declare at ty x e) p n m o first rest l g h t a f bs mark sight sets_of place fits last b nest_s nests_p = declare_step w u c r previous at ty x e p n m o first rest l g h t a f bs mark sight sets_of fits last (λ v z i. nests_p (x ∷ bs) v z i)
  statement_step r previous (tree.Assign at x e) p n m o first rest l g h t a f bs mark sight sets_of place fits last b nest_s nests_p = plain_step w u c r previous (tree.Assign at x e) p n m o first rest place l g h t a f bs mark sight sets_of fits last refl (λ v z. nest_s (accumulators_here a bs (tree.Assign at x e)) (fixed_here f bs (tree.Assign at x e)) v z refl) (λ v z i. nests_p bs v z i)
  statement_step r previous (tree.Add at x e) p n m o first rest l g h t a f bs mark sight sets_of place fits last b nest_s nests_p = plain_step w u c r previous (tree.Add at x e) p n m o first rest place l g h t a f bs mark sight sets_of fits last refl (λ v z. nest_s (accumulators_here a bs (tree.Add at x e)) (fixed_here f bs (tree.Add at x e)) v z refl) (λ v z i. nests_p bs v z i)
  statement_step r previous (tree.Sort at x keys downs) p n m o first rest l g h t a f bs mark sight sets_of place fits last b nest_s nests_p = plain_step w u c r previous (tree.Sort at x keys downs) p n m o first rest place l g h t a f bs mark sight sets_of fits last refl (λ v z. nest_s (accumulators_here a bs (tree.Sort at x keys downs)) (fixed_here f bs (tree.Sort at x keys downs)) v z refl) (λ v z i. nests_p bs v z i)
  statement_step r previous (tree.If at e q) p n m o first rest l g h t a f bs mark sight sets_of place fits last b nest_s nests_p = plain_step w u c r previous (tree.If at e q) p n m o first rest place l g h t a f bs mark sight sets_of fits last refl (λ v z. nest_s (accumulators_here a bs (tree.If at e q)) (fixed_here f bs (tree.If at e q)) v z refl) (λ v z i. nests_p bs v z i)
  statement_step r previous (tree.IfElse at e q q') p n m o first rest l g h t a f bs mark sight sets_of place fits last b nest_s nests_p = plain_step w u c r previous (tree.IfElse at e q q') p n m o first rest place l g h t a f bs mark sight sets_of fits last refl (λ v z. nest_s (accumulators_here a bs (tree.IfElse at e q q')) (fixed_here f bs (tree.IfElse at e q q')) v z refl) (λ v z i. nests_p bs v z i)
  statement_step r previous (tree.ForEach at ty x e q) p n m o first rest l g h t a f bs mark sight sets_of place fits last b nest_s nests_p = plain_step w u c r previous (tree.ForEach at ty x e q) p n m o first rest place l g h t a f bs mark sight sets_of fits last refl (λ v z. nest_s (accumulators_here a bs (tree.ForEach at ty x e q)) (fixed_here f bs (tree.ForEach at ty x e q)) v z refl) (λ v z i. nests_p bs v z i)
  statement_step r previous (tree.While at e q) p n m o first rest l g h t a f bs mark sight sets_of place fits last b nest_s nests_p = plain_step w u c r previous (tree.While at e q) p n m o first rest place l g h t a f bs mark sight sets_of fits last refl (λ v z. nest_s (accumulators_here a bs (tree.While at e q)) (fixed_here f bs (tree.While at e q)) v z refl) (λ v z i. nests_p bs v z i)
  statement_step r previous (tree.Print at e) p n m o first rest l g h t a f bs mark sight sets_of place fits last b nest_s nests_p = plain_step w u c r previous (tree.Print at e) p n m o first rest place l g h t a f bs mark sight sets_of fits last refl (λ v z. nest_s (accumulators_here a bs (tree.Print at e)) (fixed_here f bs (tree.Print at e)) v z refl) (λ v z i. nests_p bs v z i)
  statement_step r previous (tree.Return at e) p n m o first rest l g h t a f bs mark sight sets_of place fits last b nest_s nests_p = plain_step w u c r previous (tree.Return at e) p n m o first rest place l g h t a f bs mark sight sets_of fits last refl (λ v z. nest_s (accumulators_here a bs (tree.Return at e)) (fixed_here f bs (tree.Return at e)) v z refl) (λ v z i. nests_p bs v z i)
  statement_step r previous (tree.Break at) p n m o first rest l g h t a f bs mark sight sets_of place fits last b nest_s nests_p = absurd cc

  -- ---- All statements

  mutual
    pub nest_of : (r : Round) (previous : Option Statement) (s : Statement) (n m : ℕ) → Stands w.sites r previous s n m → (l : Option Types) (g h : Types) → TypedStatement c l g s h → (a f : Set) (mark : Option Mark) → Sight w n (inner_level r s) g a f → SetsIn g s a → Place r → MarkFits w r mark → breaks_last s ≡ true → is_declaration s ≡ false → is_break s ≡ false → IsNest s a f mark
    nest_of _ _ _ _ _ (single r previous s n one get) l g h t a f mark sight sets_it place fits last d b = single_nest r previous s n one get l g h t a f mark sight sets_it fits d b
    nest_of _ _ _ _ _ (when_stands r previous at e p n m get all) l g h t a f mark sight sets_it place fits last d b =
        let k = typed_if c l g h at e p t in
        when a f mark at e p (if_guards w u c r previous at e p n m l g k.branch.last a f sight get all k.test k.branch.body) (nests_of _ _ p (suc n) m all l g k.branch.last k.branch.body a f [] mark (branch_sight r previous (tree.If at e p) n e true g a f (λ y. bound_next w.sites n (site_of r previous (tree.If at e p)) y get) sight) (record { by = λ y i j q. inl (sets_it.by y i j q) }) (branch_place r n e true place) (mark_branch w r n e true mark fits) last (first_no_break p (in_branch r n e true) (suc n) m mark all (mark_branch w r n e true mark fits)))
    nest_of _ _ _ _ _ (choose_stands r previous at e p q n m o get all other) l g h t a f mark sight sets_it place fits last d b =
        let k = typed_choice c l g h at e p q t in
        let both = and_parts (all_breaks_last p) (all_breaks_last q) last in
        choose a f mark at e p q (choice_guards w u c r previous at e p q n m o l g k.branch.last k.other.last a f sight get all other k.test k.branch.body k.other.body) (nests_of _ _ p (suc n) m all l g k.branch.last k.branch.body a f [] mark (branch_sight r previous (tree.IfElse at e p q) n e true g a f (λ y. bound_next w.sites n (site_of r previous (tree.IfElse at e p q)) y get) sight) (record { by = λ y i j v. inl (sets_it.by y i j (or_left (all_set p y) (all_set q y) v)) }) (branch_place r n e true place) (mark_branch w r n e true mark fits) both.0 (first_no_break p (in_branch r n e true) (suc n) m mark all (mark_branch w r n e true mark fits))) (nests_of _ _ q m o other l g k.other.last k.other.body a f [] mark (block_sight w n m (length r.loops) (in_branch r n e false) g a f (record { by = λ y i j. bound_other c w.sites r previous at e p q n m get all l g k.branch.last k.branch.body y i j }) refl sight) (record { by = λ y i j v. inl (sets_it.by y i j (or_right (all_set p y) (all_set q y) v)) }) (branch_place r n e false place) (mark_branch w r n e false mark fits) both.1 (first_no_break q (in_branch r n e false) m o mark other (mark_branch w r n e false mark fits)))
    nest_of _ _ _ _ _ (walks r previous at ty x e p n m get all) l g h t a f mark sight sets_it place fits last d b =
        elim (typed_each c l g h at ty x e p t) [
          | over z j k new v has body ↦
              let inner : Types = with_type x (Some (Of k)) g in
              let i : InnerMark w r n mark = inner_mark w u r n mark fits in
              let q = new_unset w n (suc (length r.loops)) g a f x sight new in
              let binds : Binds w n (suc n) x (Row n) = each_binds w r previous at ty x e p n get in
              for_each a f mark i.mark at ty x e p q.0 q.1 (list_reads w u.unbroken c n (suc (length r.loops)) g a f sight r previous at ty x e p j k get v has) i.holds (nests_of _ _ p (suc n) m all (Some inner) inner z body a (with_name x f) [] i.mark (row_sight w n (suc n) r g a f x k binds sight) (row_sets w u c (in_loop r n) p n (suc n) m all (Some inner) g z x k a body binds (λ y y_type y_is y_set. sets_it.by y y_type y_is y_set)) (loop_place r n place.leveled) i.fits last (first_no_break p (in_loop r n) (suc n) m i.mark all i.fits))
          | over_new z j new is body ↦ absurd (new_unlisted w e is (listed_at w u.unbroken n (site_of r previous (tree.ForEach at ty x e p)) get refl))
        ]
    nest_of _ _ _ _ _ (repeats r previous at e p n m get all) l g h t a f mark sight sets_it place fits last d b =
        let flat : depth u.first ≡ 0 = ap length u.first_flat in
        let i = inner_at w u.unbroken u.first u.first_there flat n (site_of r previous (tree.While at e p)) get place.deep in
        absurd cc

    pub nests_of : (r : Round) (previous : Option Statement) (p : Statements) (n m : ℕ) → AllStand w.sites r previous p n m → (l : Option Types) (g h : Types) → TypedStatements c l g p h → (a f : Set) (bs : List (List ℕ)) (mark : Option Mark) → BlockSight w n r g a f bs → SetsOf g p a bs → Place r → MarkFits w r mark → all_breaks_last p ≡ true → starts_break p ≡ false → AreNest p a f bs mark
    nests_of _ _ _ _ _ (no_statement r previous n) l g h t a f bs mark sight sets_of place fits last b = nothing a f bs mark
    nests_of _ _ _ _ _ (next_statement r previous s p n m o first rest) l g h t a f bs mark sight sets_of place fits last b =
        let k = typed_next c l g h s p t in
        let one = and_parts (breaks_last s) (ends_there (is_break s) p && all_breaks_last p) last in
        let two = and_parts (ends_there (is_break s) p) (all_breaks_last p) one.1 in
        statement_step r previous s p n m o first rest l g k.middle k.first a f bs mark sight sets_of place fits two.1 b
        (λ d q v z i. nest_of _ _ s n m first l g k.middle k.first d q mark v z place fits one.0 i b)
        (λ ds v z i. nests_of _ _ p m o rest l k.middle k.last k.rest a f ds mark v z place fits two.1 i)
