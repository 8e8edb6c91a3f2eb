-- Names without a number: those that aren't visible at the loop, and those that the loop sets.
use Rattle.std.proofs.Common.{◌≡◌, ℕ, zero, suc, Bool, true, false, not, ◌||◌, List, [], ◌∷◌, ◌++◌, Option, Some, None, refl, sym, ap, ◌∙◌, subst, cond, bytes_eq, slice_get, length}
use Rattle.std.specs.List.{filter, list_any, AllByRecursion}
use Rattle.std.proofs.lemmas.Bool.{or_from, or_left, or_right, and_from, false_from_ne_true}
use Rattle.qbs_base.proofs.Order.{all_more}
use Rattle.qbs_base.specs.Values.{Schema}
use Rattle.sql_ast.specs.Tree.{PlainQuery}
use Rattle.qbs_base.specs.declared.scalar.Ty.{Ty}
use Rattle.qbs_base.specs.declared.scalar.Ty.TheVariants as tys
use Rattle.qbs_base.specs.declared.span.Span.{Span}
use Rattle.sql_ast.proofs.Tools.{all_joined}
use Rattle.java_ast.specs.declared.tree.Op.TheVariants as ops
use Rattle.java_ast.specs.Tree as tree
use Rattle.java_ast.specs.Tree.{Spelled, Expression, Statement, Statements}
use Rattle.java_mean.proofs.Puts.{names_equal}
use Rattle.java_mean.specs.declared.types.JavaType.{JavaType}
use Rattle.java_mean.specs.declared.types.JavaType.TheVariants.{Of}
use Rattle.java_mean.specs.declared.types.Single.TheVariants.{ScalarOf}
use Rattle.java_mean.specs.Types.{Types}
use Rattle.java_mean.specs.Typing.{Frame, HasType, IsNew, bool, TypedStatement}
use Rattle.java_loops.specs.Walks.Chains.{IsList, fetch, variable}
use Rattle.java_loops.specs.Walks.Numbering.{FromVariable, IsApart, with_loops}
use Rattle.loop_text.specs.Kernel.KernelConditions.{leaves, is_excepted, condition_of}
use Rattle.java_loops.specs.Kernel.KernelConditions.{is_known}
use Rattle.loop_text.specs.Kernel.KernelLists.{source_of, source_in}
use Rattle.loop_text.specs.Statements.Loops.{is_loop}
use Rattle.java_ast.specs.Names.{Names, is_among, updated_in}
use Rattle.java_loops.specs.Lowering.Numbering.{Leaf, leaves_kept, leaves_of, all_leaves, loop_number, same_entry, number_where, known_with, known_among, known_of, entries_of}
use Rattle.java_loops.specs.Kernel.Setting.{Setting, setting_of}
use Rattle.loop_text.specs.Statements.Setting.{is_found}
use Rattle.loop_text.specs.Sites.Sites.{Site, binding_at, sites_of, is_some, in_loop, outside, kernel_body}
use Rattle.loop_text.specs.Statements.Fragment.{Fragment, accumulators, declared_in_run, counter, is_name, is_outer}
use Rattle.java_loops.proofs.Typing.BoundTyping.{typed_if, typed_choice, over, over_new, typed_each}
use Rattle.java_loops.proofs.Formed.FormAtoms.{list_outer}
use Rattle.java_loops.proofs.Formed.FormSites.{TypedSite, site_typed}
use Rattle.java_loops.proofs.Formed.FormSpelled.{rows_spelled}
use Rattle.java_loops.proofs.Formed.FormTyping.{BinaryTyped, binary_typed, and_truths, or_truths, not_typed, MemberTyped, member_typed, variable_typed}
use Rattle.java_loops.proofs.Known.KnownNumbers.{IsGoodEntry, IsGoodKnown, known_lists_good, entries_good}
use Rattle.java_loops.proofs.Listed.ListedRows.{IsSeenFragment}
use Rattle.java_loops.proofs.Nested.Nest.{SeesFragment}
use Rattle.java_loops.proofs.Nested.NestCounter.{loop_kind, source_outside, known_outside}
use Rattle.java_loops.proofs.Nested.NestNames.{among_filter, among_filtered}
use Rattle.java_loops.proofs.Nested.NestRules.{Unbroken, listed_at}
use Rattle.java_loops.proofs.Nested.NestSight.{is_set_outside}
use Rattle.java_loops.proofs.Nested.NestUpdates.{all_set_updated, updated_accumulates}
use Rattle.java_loops.proofs.Standing.StandingSites.{body_stands}
use Rattle.java_loops.specs.Walks.Effects.{all_set}
use Rattle.java_loops.proofs.Numbers.NumberEntries.{IsEntryFrom, from_variable, from_field, entry_from, all_leaves_by}
use Rattle.java_loops.proofs.Numbers.NumberLists.{found_where, filtered_at}
use Rattle.java_loops.proofs.Numbers.NumberSame.{NamesVariable, named, entry_variable, NamesField, named_field, entry_field_named}
use Rattle.java_mean.proofs.Sets.{among_set}
use Rattle.java_loops.proofs.Numbers.Numberings.{loop_sites, source_of_list, source_of_loop, source_of_site, nowhere, entry_named, numbering, Sighted}

-- ---- None of a list

none_found : {A : Type 0} (test : A → Bool) (xs : List A) → list_any test xs ≡ false → found_where test xs ≡ None
none_found test xs h = ap (λ b. cond b (Some (number_where test xs)) None) h

all_fail : {A : Type 0} (P : A → Type 0) (test : A → Bool) (xs : List A) → AllByRecursion P xs → ((x : A) → P x → test x ≡ false) → list_any test xs ≡ false
all_fail P test [] h f = refl
all_fail P test (x ∷ xs) h f = or_from (test x) (list_any test xs) (f x h.0) (all_fail P test xs h.1 f)

-- ---- Entry values

differs : (w : Setting) (x y : List ℕ) (k : JavaType) → w.types x ≡ None → w.types y ≡ Some k → x ≡ y → ⊥
differs w x y k none some e = let two : w.types x ≡ w.types y = ap w.types e in absurd cc

updated_differs : (w : Setting) (x y : List ℕ) → is_among (updated_in w.fragment.loop) x ≡ true → is_among (updated_in w.fragment.loop) y ≡ false → x ≡ y → ⊥
updated_differs w x y some none e = let two : is_among (updated_in w.fragment.loop) x ≡ is_among (updated_in w.fragment.loop) y = ap (is_among (updated_in w.fragment.loop)) e in absurd cc

-- no entry value is of a name that differs from all that entry values have
abbrev DiffersFromEntries : Setting → List ℕ → Type 0
DiffersFromEntries w x = (y : List ℕ) (k : JavaType) → w.types y ≡ Some k → is_among (updated_in w.fragment.loop) y ≡ false → x ≡ y → ⊥

same_variable : (x : List ℕ) (at : Span) (y : List ℕ) → NamesVariable x (tree.Var at y) → x ≡ y
same_variable x _ _ (named at) = refl

same_field : (x f : List ℕ) (at at' : Span) (y h : List ℕ) → NamesField x f (tree.Field at (tree.Var at' y) h) → x ≡ y
same_field x f _ _ _ _ (named_field at at') = refl

no_field_named : (x : List ℕ) (at : Span) (e : Expression) (h : List ℕ) → NamesVariable x (tree.Field at e h) → ⊥
no_field_named x at e h n = elim n [ ]

no_variable_named : (x f : List ℕ) (at : Span) (y : List ℕ) → NamesField x f (tree.Var at y) → ⊥
no_variable_named x f at y n = elim n [ ]

entry_fails : (w : Setting) (x : List ℕ) (f : Option (List ℕ)) → DiffersFromEntries w x → (e : Expression) → IsEntryFrom w e → same_entry (entry_named x f) e ≡ false
entry_fails w x None d _ (from_variable at y ty i u) = false_from_ne_true (same_entry (tree.Var nowhere x) (tree.Var at y)) (λ h. d y (Of (ScalarOf ty)) i u (same_variable x at y (entry_variable nowhere x (tree.Var at y) h)))
entry_fails w x None d _ (from_field at at' y g table i u) = false_from_ne_true (same_entry (tree.Var nowhere x) (tree.Field at (tree.Var at' y) g)) (λ h. no_field_named x at (tree.Var at' y) g (entry_variable nowhere x (tree.Field at (tree.Var at' y) g) h))
entry_fails w x (Some f) d _ (from_variable at y ty i u) = false_from_ne_true (same_entry (tree.Field nowhere (tree.Var nowhere x) f) (tree.Var at y)) (λ h. no_variable_named x f at y (entry_field_named nowhere nowhere x f (tree.Var at y) h))
entry_fails w x (Some f) d _ (from_field at at' y g table i u) = false_from_ne_true (same_entry (tree.Field nowhere (tree.Var nowhere x) f) (tree.Field at (tree.Var at' y) g)) (λ h. d y _ i u (same_field x f at at' y g (entry_field_named nowhere nowhere x f (tree.Field at (tree.Var at' y) g) h)))

no_entry : (w : Setting) → AllByRecursion (IsEntryFrom w) (entries_of w) → (x : List ℕ) (f : Option (List ℕ)) → DiffersFromEntries w x → (numbering w).entries x f ≡ None
no_entry w all x f d = none_found (same_entry (entry_named x f)) (entries_of w) (all_fail (IsEntryFrom w) (same_entry (entry_named x f)) (entries_of w) all (λ e h. entry_fails w x f d e h))

-- ---- Known lists and their types

-- a list of a leaf is visible at the loop
abbrev SeenIn : Setting → Expression → Type 0
SeenIn w (tree.Contains at x e) = (k : JavaType) × (w.types x ≡ Some k)
SeenIn w _ = Unit {0}

abbrev SeenLeaf : Setting → Leaf → Type 0
SeenLeaf w l = SeenIn w l.expression

kept_step : (w : Setting) (n : ℕ) (e : Expression) (ls : List Leaf) (b : Bool) → SeenIn w e → AllByRecursion (SeenLeaf w) ls → AllByRecursion (SeenLeaf w) (cond b ls (record { number = n; expression = e } ∷ ls))
kept_step w n e ls true h k = k
kept_step w n e ls false h k = (h, k)

kept_seen : (w : Setting) (n : ℕ) (es : List Expression) → AllByRecursion (SeenIn w) es → AllByRecursion (SeenLeaf w) (leaves_kept w.sites n es)
kept_seen w n [] h = tt
kept_seen w n (e ∷ es) h = kept_step w n e (leaves_kept w.sites n es) (is_excepted w.sites n e) h.0 (kept_seen w n es h.1)

module _ (w : Setting) (c : Frame) (same : c.schema ≡ w.schema) (n : ℕ) (g : Types) (loops : List ℕ → Option ℕ) (s : Sighted w n g loops) where
  truths : (e : Expression) (ty : Ty) → ty ≡ tys.Bool → HasType c g e (Of (ScalarOf ty)) → HasType c g e bool
  truths e ty is t = subst (λ z. HasType c g e (Of (ScalarOf z))) is t

  leaves_seen : (e : Expression) → HasType c g e bool → AllByRecursion (SeenIn w) (leaves e)
  leaves_seen (tree.Binary at ops.And a b) t =
      let u : BinaryTyped c g ops.And a b = binary_typed c g at ops.And a b bool t in
      all_joined (SeenIn w) (leaves a) (leaves b) (leaves_seen a (truths a u.from (and_truths u.from u.to u.takes) u.left)) (leaves_seen b (truths b u.from (and_truths u.from u.to u.takes) u.right))
  leaves_seen (tree.Binary at ops.Or a b) t =
      let u : BinaryTyped c g ops.Or a b = binary_typed c g at ops.Or a b bool t in
      all_joined (SeenIn w) (leaves a) (leaves b) (leaves_seen a (truths a u.from (or_truths u.from u.to u.takes) u.left)) (leaves_seen b (truths b u.from (or_truths u.from u.to u.takes) u.right))
  leaves_seen (tree.Binary at ops.Eq a b) t = (tt, tt)
  leaves_seen (tree.Binary at ops.Ne a b) t = (tt, tt)
  leaves_seen (tree.Binary at ops.Lt a b) t = (tt, tt)
  leaves_seen (tree.Binary at ops.Le a b) t = (tt, tt)
  leaves_seen (tree.Binary at ops.Gt a b) t = (tt, tt)
  leaves_seen (tree.Binary at ops.Ge a b) t = (tt, tt)
  leaves_seen (tree.Binary at ops.Add a b) t = (tt, tt)
  leaves_seen (tree.Binary at ops.Sub a b) t = (tt, tt)
  leaves_seen (tree.Binary at ops.Mul a b) t = (tt, tt)
  leaves_seen (tree.Not at e) t = leaves_seen e (not_typed c g at e bool t)
  leaves_seen (tree.Contains at x e) t =
      let u : MemberTyped c g x e = member_typed c g at x e bool t in
      ((u.list, list_outer w c same n g loops s x u.list (ScalarOf u.ty) (binding_at w.sites n x) refl u.seen u.has), tt)
  leaves_seen (tree.Lit at v) u = (tt, tt)
  leaves_seen (tree.Var at y) u = (tt, tt)
  leaves_seen (tree.Field at a name) u = (tt, tt)
  leaves_seen (tree.Equals at p q) u = (tt, tt)
  leaves_seen (tree.Size at y) u = (tt, tt)
  leaves_seen (tree.Get at y a) u = (tt, tt)
  leaves_seen (tree.Fetch at t) u = (tt, tt)
  leaves_seen (tree.Query at ty text es) u = (tt, tt)
  leaves_seen (tree.QueryLong at text es) u = (tt, tt)
  leaves_seen (tree.QueryBoolean at text es) u = (tt, tt)
  leaves_seen (tree.NewList at) u = (tt, tt)
  leaves_seen (tree.NewSet at) u = (tt, tt)
  leaves_seen (tree.NewSetOf at a) u = (tt, tt)

  condition_seen : (q : Statement) (l : Option Types) (h : Types) → TypedStatement c l g q h → AllByRecursion (SeenLeaf w) (leaves_of w.sites n (condition_of q))
  condition_seen (tree.If at e p) l h t = kept_seen w n (leaves e) (leaves_seen e (typed_if c l g h at e p t).test)
  condition_seen (tree.IfElse at e p q) l h t = kept_seen w n (leaves e) (leaves_seen e (typed_choice c l g h at e p q t).test)
  condition_seen (tree.Declare at ty x e) l h t = tt
  condition_seen (tree.Assign at x e) l h t = tt
  condition_seen (tree.Add at x e) l h t = tt
  condition_seen (tree.Sort at x keys downs) l h t = tt
  condition_seen (tree.ForEach at ty x e p) l h t = tt
  condition_seen (tree.While at e p) l h t = tt
  condition_seen (tree.Print at e) l h t = tt
  condition_seen (tree.Return at e) l h t = tt
  condition_seen (tree.Break at) l h t = tt

-- a visible variable
abbrev IsSeen : Setting → List ℕ → Type 0
IsSeen w x = (k : JavaType) × (w.types x ≡ Some k)

seen_step : (w : Setting) (ids : Names) (x : List ℕ) (b : Bool) → AllByRecursion (IsSeen w) ids → IsSeen w x → AllByRecursion (IsSeen w) (cond b ids (ids ++ x ∷ []))
seen_step w ids x true h k = h
seen_step w ids x false h k = all_joined (IsSeen w) ids (x ∷ []) h (k, tt)

seen_new : (w : Setting) (ids : Names) (e : Expression) → SeenIn w e → AllByRecursion (IsSeen w) ids → AllByRecursion (IsSeen w) (known_with ids e)
seen_new w ids (tree.Contains at x e) h k = seen_step w ids x (is_among ids x) k h
seen_new w ids (tree.Lit at v) h k = k
seen_new w ids (tree.Var at y) h k = k
seen_new w ids (tree.Field at a name) h k = k
seen_new w ids (tree.Binary at op p q) h k = k
seen_new w ids (tree.Not at a) h k = k
seen_new w ids (tree.Equals at p q) h k = k
seen_new w ids (tree.Size at y) h k = k
seen_new w ids (tree.Get at y a) h k = k
seen_new w ids (tree.Fetch at t) h k = k
seen_new w ids (tree.Query at ty text es) h k = k
seen_new w ids (tree.QueryLong at text es) h k = k
seen_new w ids (tree.QueryBoolean at text es) h k = k
seen_new w ids (tree.NewList at) h k = k
seen_new w ids (tree.NewSet at) h k = k
seen_new w ids (tree.NewSetOf at a) h k = k

seen_all : (w : Setting) (ids : Names) (ls : List Leaf) → AllByRecursion (SeenLeaf w) ls → AllByRecursion (IsSeen w) ids → AllByRecursion (IsSeen w) (known_among ids ls)
seen_all w ids [] h k = k
seen_all w ids (l ∷ ls) h k = seen_all w (known_with ids l.expression) ls h.1 (seen_new w ids l.expression h.0 k)

-- ---- Lists of loops

record Back {A : Type 0} (xs : List A) (p : A → Bool) (x : A) : Type 0 where
  number : ℕ
  there : slice_get xs number ≡ Some x
  passes : p x ≡ true

back_step : {A : Type 0} (p : A → Bool) (y : A) (ys : List A) (k : ℕ) (x : A) (b : Bool) → p y ≡ b → slice_get (cond b (y ∷ filter p ys) (filter p ys)) k ≡ Some x → ((j : ℕ) → slice_get (filter p ys) j ≡ Some x → Back ys p x) → Back (y ∷ ys) p x
back_step p y ys zero x true e h more = let same : y ≡ x = cc in record { number = 0; there = h; passes = ap p (sym same) ∙ e }
back_step p y ys (suc k) x true e h more = let r = more k h in record { number = suc r.number; there = r.there; passes = r.passes }
back_step p y ys k x false e h more = let r = more k h in record { number = suc r.number; there = r.there; passes = r.passes }

-- a member of the filtered list is one of the list
filtered_back : {A : Type 0} (p : A → Bool) (xs : List A) (k : ℕ) (x : A) → slice_get (filter p xs) k ≡ Some x → Back xs p x
filtered_back p [] k x h = absurd cc
filtered_back p (y ∷ ys) k x h = back_step p y ys k x (p y) refl h (λ j i. filtered_back p ys j x i)

-- a for-each over a variable
data IsOver (x : List ℕ) : Statement → Type 0 where
  each_over : (at at' : Span) (ty : Spelled) (y : List ℕ) (b : Statements) → IsOver x (tree.ForEach at ty y (tree.Var at' x) b)

list_variable : (at : Span) (ty : Spelled) (y : List ℕ) (e : Expression) (b : Statements) (x : List ℕ) → source_of_list e ≡ Some (FromVariable x) → IsOver x (tree.ForEach at ty y e b)
list_variable at ty y (tree.Var at' z) b x h = let two : Some (FromVariable z) ≡ Some (FromVariable x) = h in let same : z ≡ x = cc in subst (λ v. IsOver x (tree.ForEach at ty y (tree.Var at' v) b)) (sym same) (each_over at at' ty y b)
list_variable at ty y (tree.Fetch at' t) b x h = absurd cc
list_variable at ty i (tree.Lit at' v) b x h = absurd cc
list_variable at ty i (tree.Field at' a name) b x h = absurd cc
list_variable at ty i (tree.Binary at' op p q) b x h = absurd cc
list_variable at ty i (tree.Not at' a) b x h = absurd cc
list_variable at ty i (tree.Equals at' p q) b x h = absurd cc
list_variable at ty i (tree.Size at' y) b x h = absurd cc
list_variable at ty i (tree.Get at' y a) b x h = absurd cc
list_variable at ty i (tree.Contains at' y a) b x h = absurd cc
list_variable at ty i (tree.Query at' el text es) b x h = absurd cc
list_variable at ty i (tree.QueryLong at' text es) b x h = absurd cc
list_variable at ty i (tree.QueryBoolean at' text es) b x h = absurd cc
list_variable at ty i (tree.NewList at') b x h = absurd cc
list_variable at ty i (tree.NewSet at') b x h = absurd cc
list_variable at ty i (tree.NewSetOf at' a) b x h = absurd cc

loop_variable : (s : Statement) (x : List ℕ) → source_of_loop s ≡ Some (FromVariable x) → IsOver x s
loop_variable (tree.ForEach at ty y e b) x h = list_variable at ty y e b x h
loop_variable (tree.Declare at ty x e) z h = absurd cc
loop_variable (tree.Assign at x e) z h = absurd cc
loop_variable (tree.Add at x e) z h = absurd cc
loop_variable (tree.Sort at x keys downs) z h = absurd cc
loop_variable (tree.If at e p) z h = absurd cc
loop_variable (tree.IfElse at e p q) z h = absurd cc
loop_variable (tree.While at e p) z h = absurd cc
loop_variable (tree.Print at e) z h = absurd cc
loop_variable (tree.Return at e) z h = absurd cc
loop_variable (tree.Break at) z h = absurd cc

record SourceSite (w : Setting) (x : List ℕ) : Type 0 where
  number : ℕ
  site : Site
  there : slice_get w.sites number ≡ Some site
  is_over : IsOver x site.statement

source_found : (w : Setting) (x : List ℕ) (j : ℕ) (o : Option Site) → slice_get (loop_sites w.sites) j ≡ o → source_of_site o ≡ Some (FromVariable x) → SourceSite w x
source_found w x j (Some s) e h = let r : Back w.sites (λ (z : Site). is_loop z.statement) s = filtered_back (λ (z : Site). is_loop z.statement) w.sites j s e in record { number = r.number; site = s; there = r.there; is_over = loop_variable s.statement x h }
source_found w x j None e h = absurd cc

new_variable : (at : Span) (x : List ℕ) → IsNew (tree.Var at x) → ⊥
new_variable at x n = elim n [ ]

over_seen : (w : Setting) (c : Frame) → c.schema ≡ w.schema → (n : ℕ) (g : Types) (loops : List ℕ → Option ℕ) → Sighted w n g loops → (x : List ℕ) (q : Statement) (l : Option Types) (h : Types) → IsOver x q → TypedStatement c l g q h → IsSeen w x
over_seen w c same n g loops s x _ l h (each_over at at' ty y b) t =
    elim (typed_each c l g h at ty y (tree.Var at' x) b t) [
      | over z k a new v has u ↦ (k, list_outer w c same n g loops s x k a (binding_at w.sites n x) refl (variable_typed c g at' x k v) has)
      | over_new z k new isnew u ↦ absurd (new_variable at' x isnew)
    ]

over_found : (w : Setting) (u : Unbroken w) (n : ℕ) (s : Site) (x : List ℕ) (q : Statement) → slice_get w.sites n ≡ Some s → s.statement ≡ q → IsOver x q → (at : Span) × (is_found (source_of w.fragment.run (tree.Var at x)) ≡ true)
over_found w u n s x _ get is (each_over at at' ty y b) =
    let h : is_found (source_in w.fragment.run s.statement) ≡ true = listed_at w u n s get (ap is_loop is) in
    (at', ap (λ z. is_found (source_in w.fragment.run z)) (sym is) ∙ h)

-- the list of a for-each is that of its number
list_is : (w : Setting) (loops : List ℕ → Option ℕ) (e : Expression) (j : ℕ) → is_found (source_of w.fragment.run e) ≡ true → (numbering w).sources j ≡ source_of_list e → IsList (with_loops loops (numbering w)) e j
list_is w loops (tree.Fetch at t) j h k = fetch at t j k
list_is w loops (tree.Var at x) j h k = variable at x j k
list_is w loops (tree.Lit at v) j h k = absurd cc
list_is w loops (tree.Field at a name) j h k = absurd cc
list_is w loops (tree.Binary at op p q) j h k = absurd cc
list_is w loops (tree.Not at a) j h k = absurd cc
list_is w loops (tree.Equals at p q) j h k = absurd cc
list_is w loops (tree.Size at y) j h k = absurd cc
list_is w loops (tree.Get at y a) j h k = absurd cc
list_is w loops (tree.Contains at y a) j h k = absurd cc
list_is w loops (tree.Query at ty text es) j h k = absurd cc
list_is w loops (tree.QueryLong at text es) j h k = absurd cc
list_is w loops (tree.QueryBoolean at text es) j h k = absurd cc
list_is w loops (tree.NewList at) j h k = absurd cc
list_is w loops (tree.NewSet at) j h k = absurd cc
list_is w loops (tree.NewSetOf at a) j h k = absurd cc

pub list_numbered : (w : Setting) → Unbroken w → (n : ℕ) (s : Site) (at : Span) (ty : Spelled) (x : List ℕ) (e : Expression) (b : Statements) (loops : List ℕ → Option ℕ) → slice_get w.sites n ≡ Some s → s.statement ≡ tree.ForEach at ty x e b → IsList (with_loops loops (numbering w)) e (loop_number w.sites n)
list_numbered w u n s at ty x e b loops get is =
    let loop : is_loop s.statement ≡ true = ap is_loop is in
    let found : is_found (source_in w.fragment.run s.statement) ≡ true = listed_at w u n s get loop in
    list_is w loops e (loop_number w.sites n) (ap (λ z. is_found (source_in w.fragment.run z)) (sym is) ∙ found) (ap source_of_site (filtered_at (λ (z : Site). is_loop z.statement) w.sites n s get loop) ∙ ap source_of_loop is)

-- ---- Names without a number

-- what the loop updates is set by it, where it is visible at the loop
set_outside : (w : Setting) → SeesFragment w.fragment w.types → (x : List ℕ) → is_among (updated_in w.fragment.loop) x ≡ true → is_some (w.types x) ≡ true → is_set_outside w x ≡ true
set_outside w sees x updated seen = by_counter (is_name (counter w.fragment.loop) x) refl
  where
    by_counter : (b : Bool) → is_name (counter w.fragment.loop) x ≡ b → is_set_outside w x ≡ true
    by_counter true e = or_right (is_among (accumulators w.fragment) x) (is_name (counter w.fragment.loop) x) e
    by_counter false e =
        let test : List ℕ → Bool = is_outer w.fragment.visible (declared_in_run w.fragment) (counter w.fragment.loop) in
        let outer : is_outer w.fragment.visible (declared_in_run w.fragment) (counter w.fragment.loop) x ≡ true = and_from (is_among w.fragment.visible x || is_among (declared_in_run w.fragment) x) (not (is_name (counter w.fragment.loop) x)) (sym (sees.by x) ∙ seen) (ap not e) in
        or_left (is_among (accumulators w.fragment) x) (is_name (counter w.fragment.loop) x) (among_set (filter test (updated_in w.fragment.loop)) x ∙ among_filter test (updated_in w.fragment.loop) x updated outer)

module _ (schema : Schema) (read : List ℕ → Option PlainQuery) (f : Fragment) (g : Types) (k : IsSeenFragment schema read f g) (u : Unbroken (setting_of schema read g f)) (c : Frame) (same : c.schema ≡ schema) (l : Option Types) (h : Types) (typed : TypedStatement c l g f.loop h) where
  abbrev at_loop : Setting
  at_loop = setting_of schema read g f

  typed_at : (n : ℕ) (s : Site) → slice_get (sites_of f.loop) n ≡ Some s → TypedSite at_loop c n s
  typed_at n s get = site_typed at_loop c same u (rows_spelled schema read f g k u) l h refl typed n s get

  -- a known list is visible at the loop
  known_seen : AllByRecursion (IsSeen (setting_of schema read g f)) (known_of (setting_of schema read g f))
  known_seen = seen_all at_loop [] (all_leaves (sites_of f.loop)) (all_leaves_by (SeenLeaf at_loop) (sites_of f.loop) (λ j s get. let t : TypedSite at_loop c j s = typed_at j s get in condition_seen at_loop c same j t.types t.loops t.sighted s.statement t.body t.after t.typed)) tt

  source_seen : (x : List ℕ) → SourceSite at_loop x → IsSeen at_loop x
  source_seen x r = let t : TypedSite at_loop c r.number r.site = typed_at r.number r.site r.there in over_seen at_loop c same r.number t.types t.loops t.sighted x r.site.statement t.body t.after r.is_over t.typed

  entries_are : AllByRecursion (IsEntryFrom (setting_of schema read g f)) (entries_of (setting_of schema read g f))
  entries_are = all_more (IsGoodEntry at_loop) (IsEntryFrom at_loop) (λ e i. entry_from at_loop i.number e i.entry) (entries_of at_loop) (entries_good schema read f g k u.conditions)

  -- A name that isn't visible at the loop has no number.
  pub new_apart : (x : List ℕ) → g x ≡ None → IsApart (numbering (setting_of schema read g f)) x
  new_apart x none =
      record {
        loops = refl;
        entries = λ o. no_entry at_loop entries_are x o (λ y j i steady e. differs at_loop x y j none i e);
        known = none_found (bytes_eq x) (known_of at_loop) (all_fail (IsSeen at_loop) (bytes_eq x) (known_of at_loop) known_seen (λ y seen. false_from_ne_true (bytes_eq x y) (λ e. differs at_loop x y seen.0 none seen.1 (names_equal x y e))));
        sources = λ j y i. let seen = source_seen y (source_found at_loop y j (slice_get (loop_sites (sites_of f.loop)) j) refl i) in false_from_ne_true (bytes_eq x y) (λ e. differs at_loop x y seen.0 none seen.1 (names_equal x y e));
      }

  set_apart : (x : List ℕ) → is_among (updated_in f.loop) x ≡ true → is_set_outside at_loop x ≡ true → IsApart (numbering at_loop) x
  set_apart x updated set =
      record {
        loops = refl;
        entries = λ o. no_entry at_loop entries_are x o (λ y j i steady e. updated_differs at_loop x y updated steady e);
        known = none_found (bytes_eq x) (known_of at_loop) (all_fail (IsGoodKnown at_loop) (bytes_eq x) (known_of at_loop) (known_lists_good schema read f g k u.conditions) (λ y i. false_from_ne_true (bytes_eq x y) (λ e. not_set (known_outside at_loop u i.number x (subst (λ z. is_known at_loop i.number z ≡ true) (sym (names_equal x y e)) i.known)))));
        sources = λ j y i. let r : SourceSite at_loop y = source_found at_loop y j (slice_get (loop_sites (sites_of f.loop)) j) refl i in let q = over_found at_loop u r.number r.site y r.site.statement r.there refl r.is_over in false_from_ne_true (bytes_eq x y) (λ e. not_set (source_outside at_loop u q.0 x (subst (λ z. is_found (source_of f.run (tree.Var q.0 z)) ≡ true) (sym (names_equal x y e)) q.1)));
      }
    where
      not_set : is_set_outside at_loop x ≡ false → ⊥
      not_set e = let two : is_set_outside at_loop x ≡ true = set in absurd cc

  updated_by : (x : List ℕ) (o : Option JavaType) → g x ≡ o → SeesFragment f g → is_among (updated_in f.loop) x ≡ true → IsApart (numbering at_loop) x
  updated_by x (Some j) e sees updated = set_apart x updated (set_outside at_loop sees x updated (ap is_some e))
  updated_by x None e sees updated = new_apart x e

  -- A name that the loop updates has no number.
  pub updated_apart : SeesFragment f g → (x : List ℕ) → is_among (updated_in f.loop) x ≡ true → IsApart (numbering (setting_of schema read g f)) x
  updated_apart sees x updated = updated_by x (g x) refl sees updated

  body_by : (x : List ℕ) (o : Option JavaType) → g x ≡ o → SeesFragment f g → all_set (kernel_body f.loop) x ≡ true → IsApart (numbering at_loop) x
  body_by x (Some j) e sees set =
      let test : List ℕ → Bool = is_outer f.visible (declared_in_run f) (counter f.loop) in
      let kept : is_among (accumulators f) x ≡ true = updated_accumulates f (loop_kind at_loop u) x (sym (sees.by x) ∙ ap is_some e) (all_set_updated at_loop u x (in_loop outside 0) None (kernel_body f.loop) 1 (length (sites_of f.loop)) (body_stands f.loop) set) in
      let updated : is_among (updated_in f.loop) x ≡ true = (among_filtered test (updated_in f.loop) x (sym (among_set (filter test (updated_in f.loop)) x) ∙ kept)).0 in
      set_apart x updated (or_left (is_among (accumulators f) x) (is_name (counter f.loop) x) kept)
  body_by x None e sees set = new_apart x e

  -- A name that the body of the loop sets has no number.
  pub body_set_apart : SeesFragment f g → (x : List ℕ) → all_set (kernel_body f.loop) x ≡ true → IsApart (numbering (setting_of schema read g f)) x
  body_set_apart sees x set = body_by x (g x) refl sees set
