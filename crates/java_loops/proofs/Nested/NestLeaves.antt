-- The leaves of a condition, and the conjuncts that a condition claims.
use Rattle.std.proofs.Common.{◌≡◌, ℕ, Bool, true, false, not, ◌||◌, List, [], ◌∷◌, ◌++◌, None, refl, sym, ap, ◌∙◌, subst, cond, ◌⊎◌, inl, inr, ⊎_elim}
use Rattle.std.specs.List.{filter, flat_map, list_any, AllByRecursion}
use Rattle.std.proofs.lemmas.Bool.{or_left, or_right}
use Rattle.qbs_base.specs.declared.span.Span.{Span}
use Rattle.java_ast.specs.declared.tree.Op.{Op}
use Rattle.java_ast.specs.Tree as tree
use Rattle.java_ast.specs.Tree.{Expression}
use Rattle.java_mean.specs.declared.types.JavaType.{JavaType}
use Rattle.java_mean.specs.Types.{Types}
use Rattle.java_mean.specs.Typing.{Frame, HasType}
use Rattle.java_loops.specs.Walks.Reads.{Set, Reads}
use Rattle.loop_text.specs.Kernel.Counting.{is_and}
use Rattle.loop_text.specs.Kernel.KernelConditions.{leaves}
use Rattle.java_loops.specs.Kernel.KernelConditions.{broken_leaves, broken_unless_excepted}
use Rattle.loop_text.specs.Kernel.KernelForms.{is_or, is_joined, Claim, claim, claims}
use Rattle.java_ast.specs.Names.{is_among, names_in}
use Rattle.java_loops.specs.Kernel.Setting.{Setting}
use Rattle.java_loops.proofs.Nested.NestConditions.{typed_binary, typed_not}
use Rattle.java_loops.proofs.Nested.NestNames.{among_left, among_right}
use Rattle.java_loops.proofs.Standing.StandingRules.{first_none}

-- ---- Members

abbrev pub Member : {A : Type 0} → A → List A → Type 0
Member x [] = ⊥
Member x (y ∷ ys) = (x ≡ y) ⊎ Member x ys

pub member_left : {A : Type 0} (x : A) (xs ys : List A) → Member x xs → Member x (xs ++ ys)
member_left x [] ys m = absurd m
member_left x (y ∷ xs) ys m = ⊎_elim (λ e. inl e) (λ k. inr (member_left x xs ys k)) m

pub member_right : {A : Type 0} (x : A) (xs ys : List A) → Member x ys → Member x (xs ++ ys)
member_right x [] ys m = m
member_right x (y ∷ xs) ys m = inr (member_right x xs ys m)

pub member_either : {A : Type 0} (x : A) (xs ys : List A) → Member x (xs ++ ys) → Member x xs ⊎ Member x ys
member_either x [] ys m = inr m
member_either x (y ∷ xs) ys m = ⊎_elim (λ e. inl (inl e)) (λ k. ⊎_elim (λ l. inl (inr l)) (λ r. inr r) (member_either x xs ys k)) m

filter_step : {A : Type 0} (p : A → Bool) (x y : A) (ys : List A) (b : Bool) → p y ≡ b → (x ≡ y) ⊎ Member x (filter p ys) → p x ≡ true → Member x (cond b (y ∷ filter p ys) (filter p ys))
filter_step p x y ys true e m h = m
filter_step p x y ys false e m h = ⊎_elim (λ same. let k : p x ≡ p y = ap p same in absurd cc) (λ k. k) m

pub member_filter : {A : Type 0} (p : A → Bool) (x : A) (xs : List A) → Member x xs → p x ≡ true → Member x (filter p xs)
member_filter p x [] m h = absurd m
member_filter p x (y ∷ ys) m h = filter_step p x y ys (p y) refl (⊎_elim (λ e. inl e) (λ k. inr (member_filter p x ys k h)) m) h

filtered_step : {A : Type 0} (p : A → Bool) (x y : A) (ys : List A) (b : Bool) → (Member x (filter p ys) → Member x ys) → Member x (cond b (y ∷ filter p ys) (filter p ys)) → (x ≡ y) ⊎ Member x ys
filtered_step p x y ys true f m = ⊎_elim (λ e. inl e) (λ k. inr (f k)) m
filtered_step p x y ys false f m = inr (f m)

pub member_filtered : {A : Type 0} (p : A → Bool) (x : A) (xs : List A) → Member x (filter p xs) → Member x xs
member_filtered p x [] m = m
member_filtered p x (y ∷ ys) m = filtered_step p x y ys (p y) (λ k. member_filtered p x ys k) m

pub member_flat : {A B : Type 0} (f : A → List B) (x : A) (y : B) (xs : List A) → Member x xs → Member y (f x) → Member y (flat_map f xs)
member_flat f x y [] m k = absurd m
member_flat f x y (z ∷ xs) m k = ⊎_elim (λ e. member_left y (f z) (flat_map f xs) (subst (λ v. Member y (f v)) e k)) (λ l. member_right y (f z) (flat_map f xs) (member_flat f x y xs l k)) m

pub member_holds : {A : Type 0} (P : A → Type 0) (x : A) (xs : List A) → AllByRecursion P xs → Member x xs → P x
member_holds P x [] all m = absurd m
member_holds P x (y ∷ ys) all m = ⊎_elim (λ e. subst P (sym e) all.0) (λ k. member_holds P x ys all.1 k) m

-- a member that passes a test
pub record Passing {A : Type 0} (p : A → Bool) (xs : List A) : Type 0 where
  pub item : A
  pub member : Member item xs
  pub passes : p item ≡ true

passing_step : {A : Type 0} (p : A → Bool) (x : A) (xs : List A) (b : Bool) → p x ≡ b → (b || list_any p xs) ≡ true → (list_any p xs ≡ true → Passing p xs) → Passing p (x ∷ xs)
passing_step p x xs true e h f = record { item = x; member = inl refl; passes = e }
passing_step p x xs false e h f = let k = f h in record { item = k.item; member = inr k.member; passes = k.passes }

pub passing : {A : Type 0} (p : A → Bool) (xs : List A) → list_any p xs ≡ true → Passing p xs
passing p [] h = absurd cc
passing p (x ∷ xs) h = passing_step p x xs (p x) refl h (λ k. passing p xs k)

-- ---- Leaves

pub leaf_unbroken : (w : Setting) (n : ℕ) (e : Expression) (es : List Expression) → broken_leaves w n es ≡ None → Member e es → broken_unless_excepted w n e ≡ None
leaf_unbroken w n e [] h m = absurd m
leaf_unbroken w n e (x ∷ xs) h m =
    let two = first_none (broken_unless_excepted w n x) (broken_leaves w n xs) h in
    ⊎_elim (λ same. ap (broken_unless_excepted w n) same ∙ two.0) (λ k. leaf_unbroken w n e xs two.1 k) m

-- what each leaf reads
pub record LeavesRead (c : Frame) (g : Types) (h : Set) (es : List Expression) : Type 0 where
  pub by : (e : Expression) (k : JavaType) → Member e es → HasType c g e k → Reads h e

two_read : (c : Frame) (g : Types) (h : Set) (q : Bool) (at : Span) (op : Op) (a b : Expression) (k : JavaType) → HasType c g (tree.Binary at op a b) k → LeavesRead c g h (cond q (leaves a ++ leaves b) (tree.Binary at op a b ∷ [])) → (LeavesRead c g h (leaves a) → Reads h a) → (LeavesRead c g h (leaves b) → Reads h b) → Reads h a × Reads h b
two_read c g h true at op a b k t r f i = (f (record { by = λ e j m s. r.by e j (member_left e (leaves a) (leaves b) m) s }), i (record { by = λ e j m s. r.by e j (member_right e (leaves a) (leaves b) m) s }))
two_read c g h false at op a b k t r f i = r.by (tree.Binary at op a b) k (inl refl) t

-- a condition reads what its leaves read
pub condition_reads : (c : Frame) (g : Types) (h : Set) (e : Expression) (k : JavaType) → HasType c g e k → LeavesRead c g h (leaves e) → Reads h e
condition_reads c g h (tree.Lit at x) k t r = r.by (tree.Lit at x) k (inl refl) t
condition_reads c g h (tree.Var at x) k t r = r.by (tree.Var at x) k (inl refl) t
condition_reads c g h (tree.Field at e f) k t r = r.by (tree.Field at e f) k (inl refl) t
condition_reads c g h (tree.Binary at op a b) k t r = let two = typed_binary c g at op a b k t in two_read c g h (is_and op || is_or op) at op a b k t r (λ l. condition_reads c g h a two.type two.left l) (λ l. condition_reads c g h b two.type two.right l)
condition_reads c g h (tree.Not at e) k t r = let one = typed_not c g at e k t in condition_reads c g h e one.type one.typed r
condition_reads c g h (tree.Equals at a b) k t r = r.by (tree.Equals at a b) k (inl refl) t
condition_reads c g h (tree.Size at x) k t r = r.by (tree.Size at x) k (inl refl) t
condition_reads c g h (tree.Get at x e) k t r = r.by (tree.Get at x e) k (inl refl) t
condition_reads c g h (tree.Contains at x e) k t r = r.by (tree.Contains at x e) k (inl refl) t
condition_reads c g h (tree.Fetch at table) k t r = r.by (tree.Fetch at table) k (inl refl) t
condition_reads c g h (tree.Query at ty text es) k t r = r.by (tree.Query at ty text es) k (inl refl) t
condition_reads c g h (tree.QueryLong at text es) k t r = r.by (tree.QueryLong at text es) k (inl refl) t
condition_reads c g h (tree.QueryBoolean at text es) k t r = r.by (tree.QueryBoolean at text es) k (inl refl) t
condition_reads c g h (tree.NewList at) k t r = r.by (tree.NewList at) k (inl refl) t
condition_reads c g h (tree.NewSet at) k t r = r.by (tree.NewSet at) k (inl refl) t
condition_reads c g h (tree.NewSetOf at e) k t r = r.by (tree.NewSetOf at e) k (inl refl) t

-- ---- Claims

-- a conjunct in which a leaf stands
pub record Claimed (holds : Bool) (c e : Expression) : Type 0 where
  pub claim : Claim
  pub member : Member claim (claims holds c)
  pub leaf : Member e (leaves claim.condition)

joined_parts : (op : Op) (holds : Bool) → is_joined op holds ≡ true → (is_and op || is_or op) ≡ true
joined_parts op true h = or_left (is_and op) (is_or op) h
joined_parts op false h = or_right (is_and op) (is_or op) h

two_claim : (holds : Bool) (at : Span) (op : Op) (a b e : Expression) (p : Bool) → is_joined op holds ≡ p → Member e (leaves (tree.Binary at op a b)) → (Member e (leaves a) → Claimed holds a e) → (Member e (leaves b) → Claimed holds b e) → (x : Claim) × Member x (cond p (claims holds a ++ claims holds b) (claim (tree.Binary at op a b) holds ∷ [])) × Member e (leaves x.condition)
two_claim holds at op a b e true i m f g =
    let l : Member e (leaves a ++ leaves b) = subst (λ q. Member e (cond q (leaves a ++ leaves b) (tree.Binary at op a b ∷ []))) (joined_parts op holds i) m in
    ⊎_elim (λ k. let r = f k in (r.claim, member_left r.claim (claims holds a) (claims holds b) r.member, r.leaf)) (λ k. let r = g k in (r.claim, member_right r.claim (claims holds a) (claims holds b) r.member, r.leaf)) (member_either e (leaves a) (leaves b) l)
two_claim holds at op a b e false i m f g = (claim (tree.Binary at op a b) holds, inl refl, m)

pub leaf_claimed : (holds : Bool) (c e : Expression) → Member e (leaves c) → Claimed holds c e
leaf_claimed holds (tree.Lit at x) l m = record { claim = claim (tree.Lit at x) holds; member = inl refl; leaf = m }
leaf_claimed holds (tree.Var at x) l m = record { claim = claim (tree.Var at x) holds; member = inl refl; leaf = m }
leaf_claimed holds (tree.Field at e f) l m = record { claim = claim (tree.Field at e f) holds; member = inl refl; leaf = m }
leaf_claimed holds (tree.Binary at op a b) l m = let r = two_claim holds at op a b l (is_joined op holds) refl m (λ k. leaf_claimed holds a l k) (λ k. leaf_claimed holds b l k) in record { claim = r.0; member = r.1; leaf = r.2 }
leaf_claimed holds (tree.Not at e) l m = let r = leaf_claimed (not holds) e l m in record { claim = r.claim; member = r.member; leaf = r.leaf }
leaf_claimed holds (tree.Equals at a b) l m = record { claim = claim (tree.Equals at a b) holds; member = inl refl; leaf = m }
leaf_claimed holds (tree.Size at x) l m = record { claim = claim (tree.Size at x) holds; member = inl refl; leaf = m }
leaf_claimed holds (tree.Get at x e) l m = record { claim = claim (tree.Get at x e) holds; member = inl refl; leaf = m }
leaf_claimed holds (tree.Contains at x e) l m = record { claim = claim (tree.Contains at x e) holds; member = inl refl; leaf = m }
leaf_claimed holds (tree.Fetch at t) l m = record { claim = claim (tree.Fetch at t) holds; member = inl refl; leaf = m }
leaf_claimed holds (tree.Query at ty text es) l m = record { claim = claim (tree.Query at ty text es) holds; member = inl refl; leaf = m }
leaf_claimed holds (tree.QueryLong at text es) l m = record { claim = claim (tree.QueryLong at text es) holds; member = inl refl; leaf = m }
leaf_claimed holds (tree.QueryBoolean at text es) l m = record { claim = claim (tree.QueryBoolean at text es) holds; member = inl refl; leaf = m }
leaf_claimed holds (tree.NewList at) l m = record { claim = claim (tree.NewList at) holds; member = inl refl; leaf = m }
leaf_claimed holds (tree.NewSet at) l m = record { claim = claim (tree.NewSet at) holds; member = inl refl; leaf = m }
leaf_claimed holds (tree.NewSetOf at e) l m = record { claim = claim (tree.NewSetOf at e) holds; member = inl refl; leaf = m }

-- ---- Names

only_name : (c l : Expression) (x : List ℕ) → Member l (c ∷ []) → is_among (names_in l) x ≡ true → is_among (names_in c) x ≡ true
only_name c l x m h = ⊎_elim (λ e. subst (λ z. is_among (names_in z) x ≡ true) e h) (λ k. absurd k) m

two_names : (at : Span) (op : Op) (a b l : Expression) (x : List ℕ) (q : Bool) → Member l (cond q (leaves a ++ leaves b) (tree.Binary at op a b ∷ [])) → is_among (names_in l) x ≡ true → (Member l (leaves a) → is_among (names_in a) x ≡ true) → (Member l (leaves b) → is_among (names_in b) x ≡ true) → is_among (names_in a ++ names_in b) x ≡ true
two_names at op a b l x true m h f g =
    ⊎_elim (λ k. among_left (names_in a) (names_in b) x (f k)) (λ k. among_right (names_in a) (names_in b) x (g k)) (member_either l (leaves a) (leaves b) m)
two_names at op a b l x false m h f g = only_name (tree.Binary at op a b) l x m h

-- what a leaf mentions the condition mentions
pub leaf_mentions : (c l : Expression) (x : List ℕ) → Member l (leaves c) → is_among (names_in l) x ≡ true → is_among (names_in c) x ≡ true
leaf_mentions (tree.Lit at x) l y m h = only_name (tree.Lit at x) l y m h
leaf_mentions (tree.Var at x) l y m h = only_name (tree.Var at x) l y m h
leaf_mentions (tree.Field at e f) l y m h = only_name (tree.Field at e f) l y m h
leaf_mentions (tree.Binary at op a b) l y m h = two_names at op a b l y (is_and op || is_or op) m h (λ k. leaf_mentions a l y k h) (λ k. leaf_mentions b l y k h)
leaf_mentions (tree.Not at e) l y m h = leaf_mentions e l y m h
leaf_mentions (tree.Equals at a b) l y m h = only_name (tree.Equals at a b) l y m h
leaf_mentions (tree.Size at x) l y m h = only_name (tree.Size at x) l y m h
leaf_mentions (tree.Get at x e) l y m h = only_name (tree.Get at x e) l y m h
leaf_mentions (tree.Contains at x e) l y m h = only_name (tree.Contains at x e) l y m h
leaf_mentions (tree.Fetch at t) l y m h = only_name (tree.Fetch at t) l y m h
leaf_mentions (tree.Query at ty text es) l y m h = only_name (tree.Query at ty text es) l y m h
leaf_mentions (tree.QueryLong at text es) l y m h = only_name (tree.QueryLong at text es) l y m h
leaf_mentions (tree.QueryBoolean at text es) l y m h = only_name (tree.QueryBoolean at text es) l y m h
leaf_mentions (tree.NewList at) l y m h = only_name (tree.NewList at) l y m h
leaf_mentions (tree.NewSet at) l y m h = only_name (tree.NewSet at) l y m h
leaf_mentions (tree.NewSetOf at e) l y m h = only_name (tree.NewSetOf at e) l y m h
