-- What mentions a variable: the conjuncts and the leaves of conditions.
use Rattle.std.proofs.Common.{◌≡◌, ℕ, Bool, true, false, not, ◌&&◌, ◌||◌, List, [], ◌∷◌, ◌++◌, refl, sym, ap, ◌∙◌, cond, bytes_eq}
use Rattle.std.specs.List.{filter, list_any}
use Rattle.std.proofs.lemmas.Bool.{or_parts, or_from}
use Rattle.std.proofs.lemmas.List.Elements.{filter-append}
use Rattle.std.proofs.lemmas.List.Folds.{list_any-append}
use Rattle.qbs_base.specs.declared.span.Span.{Span}
use Rattle.java_ast.specs.declared.tree.Op.{Op}
use Rattle.java_ast.specs.Tree as tree
use Rattle.java_ast.specs.Tree.{Expression}
use Rattle.loop_text.specs.Kernel.Counting.{is_and}
use Rattle.loop_text.specs.Kernel.KernelConditions.{leaves, compares, all_best_under, is_excepted}
use Rattle.loop_text.specs.Kernel.KernelForms.{is_or, is_joined, Claim, claim, claims, mentions}
use Rattle.java_ast.specs.Names.{is_among, names_in}
use Rattle.loop_text.specs.Sites.Sites.{Site}

-- ---- Conjuncts and leaves

filtered_none : (m : List ℕ) (k : Claim) (b : Bool) → mentions m k ≡ b → cond b (k ∷ []) [] ≡ [] → mentions m k ≡ false
filtered_none m k true e h = absurd cc
filtered_none m k false e h = e

empty_parts : (xs ys : List Claim) → xs ++ ys ≡ [] → (xs ≡ []) × (ys ≡ [])
empty_parts [] ys h = (refl, h)
empty_parts (x ∷ xs) ys h = absurd cc

none_joined : (m : List ℕ) (xs ys : List Claim) → filter (mentions m) (xs ++ ys) ≡ [] → (filter (mentions m) xs ≡ []) × (filter (mentions m) ys ≡ [])
none_joined m xs ys h = empty_parts (filter (mentions m) xs) (filter (mentions m) ys) (sym (filter-append (mentions m) xs ys) ∙ h)

names_joined : (m : List ℕ) (a b : Expression) → is_among (names_in a) m ≡ false → is_among (names_in b) m ≡ false → is_among (names_in a ++ names_in b) m ≡ false
names_joined m a b h k = list_any-append (bytes_eq m) (names_in a) (names_in b) ∙ or_from (is_among (names_in a) m) (is_among (names_in b) m) h k

names_step : (m : List ℕ) (holds : Bool) (at : Span) (op : Op) (a b : Expression) (q : Bool) → filter (mentions m) (cond q (claims holds a ++ claims holds b) (claim (tree.Binary at op a b) holds ∷ [])) ≡ [] → (filter (mentions m) (claims holds a) ≡ [] → is_among (names_in a) m ≡ false) → (filter (mentions m) (claims holds b) ≡ [] → is_among (names_in b) m ≡ false) → is_among (names_in a ++ names_in b) m ≡ false
names_step m holds at op a b true h f i = let two = none_joined m (claims holds a) (claims holds b) h in names_joined m a b (f two.0) (i two.1)
names_step m holds at op a b false h f i = filtered_none m (claim (tree.Binary at op a b) holds) (mentions m (claim (tree.Binary at op a b) holds)) refl h

-- a condition of which no conjunct mentions the variable doesn't mention it
pub unmentioned : (m : List ℕ) (holds : Bool) (e : Expression) → filter (mentions m) (claims holds e) ≡ [] → is_among (names_in e) m ≡ false
unmentioned m holds (tree.Binary at op a b) h = names_step m holds at op a b (is_joined op holds) h (λ k. unmentioned m holds a k) (λ k. unmentioned m holds b k)
unmentioned m holds (tree.Not at e) h = unmentioned m (not holds) e h
unmentioned m holds (tree.Lit at v) h = filtered_none m (claim (tree.Lit at v) holds) (mentions m (claim (tree.Lit at v) holds)) refl h
unmentioned m holds (tree.Var at y) h = filtered_none m (claim (tree.Var at y) holds) (mentions m (claim (tree.Var at y) holds)) refl h
unmentioned m holds (tree.Field at a name) h = filtered_none m (claim (tree.Field at a name) holds) (mentions m (claim (tree.Field at a name) holds)) refl h
unmentioned m holds (tree.Equals at p q) h = filtered_none m (claim (tree.Equals at p q) holds) (mentions m (claim (tree.Equals at p q) holds)) refl h
unmentioned m holds (tree.Size at y) h = filtered_none m (claim (tree.Size at y) holds) (mentions m (claim (tree.Size at y) holds)) refl h
unmentioned m holds (tree.Get at y a) h = filtered_none m (claim (tree.Get at y a) holds) (mentions m (claim (tree.Get at y a) holds)) refl h
unmentioned m holds (tree.Contains at y a) h = filtered_none m (claim (tree.Contains at y a) holds) (mentions m (claim (tree.Contains at y a) holds)) refl h
unmentioned m holds (tree.Fetch at t) h = filtered_none m (claim (tree.Fetch at t) holds) (mentions m (claim (tree.Fetch at t) holds)) refl h
unmentioned m holds (tree.Query at ty text es) h = filtered_none m (claim (tree.Query at ty text es) holds) (mentions m (claim (tree.Query at ty text es) holds)) refl h
unmentioned m holds (tree.QueryLong at text es) h = filtered_none m (claim (tree.QueryLong at text es) holds) (mentions m (claim (tree.QueryLong at text es) holds)) refl h
unmentioned m holds (tree.QueryBoolean at text es) h = filtered_none m (claim (tree.QueryBoolean at text es) holds) (mentions m (claim (tree.QueryBoolean at text es) holds)) refl h
unmentioned m holds (tree.NewList at) h = filtered_none m (claim (tree.NewList at) holds) (mentions m (claim (tree.NewList at) holds)) refl h
unmentioned m holds (tree.NewSet at) h = filtered_none m (claim (tree.NewSet at) holds) (mentions m (claim (tree.NewSet at) holds)) refl h
unmentioned m holds (tree.NewSetOf at a) h = filtered_none m (claim (tree.NewSetOf at a) holds) (mentions m (claim (tree.NewSetOf at a) holds)) refl h

among_parts : (m : List ℕ) (a b : Expression) → is_among (names_in a ++ names_in b) m ≡ false → (is_among (names_in a) m ≡ false) × (is_among (names_in b) m ≡ false)
among_parts m a b h = or_parts (is_among (names_in a) m) (is_among (names_in b) m) (sym (list_any-append (bytes_eq m) (names_in a) (names_in b)) ∙ h)

-- a test that no expression passes that doesn't mention the variable
abbrev pub FailsUnmentioned : (Expression → Bool) → List ℕ → Type 0
FailsUnmentioned test m = (e : Expression) → is_among (names_in e) m ≡ false → test e ≡ false

-- the leaves of this `if` that compare and mention the variable are the excepted ones
pub excepted_is : (sites : List Site) (n : ℕ) (m : List ℕ) (e : Expression) → all_best_under sites n 0 sites ≡ m ∷ [] → is_excepted sites n e ≡ (compares e && (is_among (names_in e) m || false))
excepted_is sites n m e best = ap (λ xs. compares e && list_any (λ x. is_among (names_in e) x) xs) best

not_excepted : (sites : List Site) (n : ℕ) (m : List ℕ) (e : Expression) → all_best_under sites n 0 sites ≡ m ∷ [] → is_among (names_in e) m ≡ false → is_excepted sites n e ≡ false
not_excepted sites n m e best h = excepted_is sites n m e best ∙ ap (λ b. compares e && (b || false)) h ∙ and_false (compares e)
  where
    and_false : (b : Bool) → (b && false) ≡ false
    and_false true = refl
    and_false false = refl

leaves_step : (test : Expression → Bool) (m : List ℕ) (at : Span) (op : Op) (a b : Expression) (q : Bool) → FailsUnmentioned test m → is_among (names_in a ++ names_in b) m ≡ false → (is_among (names_in a) m ≡ false → list_any test (leaves a) ≡ false) → (is_among (names_in b) m ≡ false → list_any test (leaves b) ≡ false) → list_any test (cond q (leaves a ++ leaves b) (tree.Binary at op a b ∷ [])) ≡ false
leaves_step test m at op a b true fails h f i =
    let two = among_parts m a b h in
    list_any-append test (leaves a) (leaves b) ∙ or_from (list_any test (leaves a)) (list_any test (leaves b)) (f two.0) (i two.1)
leaves_step test m at op a b false fails h f i = or_from (test (tree.Binary at op a b)) false (fails (tree.Binary at op a b) h) refl

-- no leaf of a condition that doesn't mention the variable passes such a test
pub leaves_fail : (test : Expression → Bool) (m : List ℕ) (e : Expression) → FailsUnmentioned test m → is_among (names_in e) m ≡ false → list_any test (leaves e) ≡ false
leaves_fail test m (tree.Binary at op a b) fails h = leaves_step test m at op a b (is_and op || is_or op) fails h (λ k. leaves_fail test m a fails k) (λ k. leaves_fail test m b fails k)
leaves_fail test m (tree.Not at e) fails h = leaves_fail test m e fails h
leaves_fail test m (tree.Lit at v) fails h = or_from (test (tree.Lit at v)) false (fails (tree.Lit at v) h) refl
leaves_fail test m (tree.Var at y) fails h = or_from (test (tree.Var at y)) false (fails (tree.Var at y) h) refl
leaves_fail test m (tree.Field at a name) fails h = or_from (test (tree.Field at a name)) false (fails (tree.Field at a name) h) refl
leaves_fail test m (tree.Equals at p q) fails h = or_from (test (tree.Equals at p q)) false (fails (tree.Equals at p q) h) refl
leaves_fail test m (tree.Size at y) fails h = or_from (test (tree.Size at y)) false (fails (tree.Size at y) h) refl
leaves_fail test m (tree.Get at y a) fails h = or_from (test (tree.Get at y a)) false (fails (tree.Get at y a) h) refl
leaves_fail test m (tree.Contains at y a) fails h = or_from (test (tree.Contains at y a)) false (fails (tree.Contains at y a) h) refl
leaves_fail test m (tree.Fetch at t) fails h = or_from (test (tree.Fetch at t)) false (fails (tree.Fetch at t) h) refl
leaves_fail test m (tree.Query at ty text es) fails h = or_from (test (tree.Query at ty text es)) false (fails (tree.Query at ty text es) h) refl
leaves_fail test m (tree.QueryLong at text es) fails h = or_from (test (tree.QueryLong at text es)) false (fails (tree.QueryLong at text es) h) refl
leaves_fail test m (tree.QueryBoolean at text es) fails h = or_from (test (tree.QueryBoolean at text es)) false (fails (tree.QueryBoolean at text es) h) refl
leaves_fail test m (tree.NewList at) fails h = or_from (test (tree.NewList at)) false (fails (tree.NewList at) h) refl
leaves_fail test m (tree.NewSet at) fails h = or_from (test (tree.NewSet at)) false (fails (tree.NewSet at) h) refl
leaves_fail test m (tree.NewSetOf at a) fails h = or_from (test (tree.NewSetOf at a)) false (fails (tree.NewSetOf at a) h) refl

-- no leaf of a condition that doesn't mention the variable is excepted
pub none_excepted : (sites : List Site) (n : ℕ) (m : List ℕ) (e : Expression) → all_best_under sites n 0 sites ≡ m ∷ [] → is_among (names_in e) m ≡ false → list_any (is_excepted sites n) (leaves e) ≡ false
none_excepted sites n m e best h = leaves_fail (is_excepted sites n) m e (λ l k. not_excepted sites n m l best k) h

-- ---- The one conjunct

-- a conjunct stands on one side alone
pub data OneSide (m : List ℕ) (xs ys : List Claim) (k : Claim) : Type 0 where
  in_first : filter (mentions m) xs ≡ k ∷ [] → filter (mentions m) ys ≡ [] → OneSide m xs ys k
  in_second : filter (mentions m) xs ≡ [] → filter (mentions m) ys ≡ k ∷ [] → OneSide m xs ys k

side_of : (m : List ℕ) (xs ys : List Claim) (k : Claim) (us vs : List Claim) → filter (mentions m) xs ≡ us → filter (mentions m) ys ≡ vs → us ++ vs ≡ k ∷ [] → OneSide m xs ys k
side_of m xs ys k [] vs p q h = in_second p (q ∙ h)
side_of m xs ys k (a ∷ []) [] p q h = in_first (p ∙ h) q
side_of m xs ys k (a ∷ []) (b ∷ vs) p q h = absurd cc
side_of m xs ys k (a ∷ c ∷ us) vs p q h = absurd cc

pub one_side : (m : List ℕ) (xs ys : List Claim) (k : Claim) → filter (mentions m) (xs ++ ys) ≡ k ∷ [] → OneSide m xs ys k
one_side m xs ys k h = side_of m xs ys k (filter (mentions m) xs) (filter (mentions m) ys) refl refl (sym (filter-append (mentions m) xs ys) ∙ h)

pub record OnlyClaim (m : List ℕ) (e : Expression) (holds : Bool) (k : Claim) : Type 0 where
  pub same : claim e holds ≡ k
  pub mentioned : is_among (names_in e) m ≡ true

only_by : (m : List ℕ) (e : Expression) (holds : Bool) (k : Claim) (b : Bool) → is_among (names_in e) m ≡ b → cond b (claim e holds ∷ []) [] ≡ k ∷ [] → OnlyClaim m e holds k
only_by m e holds k true i h = record { same = cc; mentioned = i }
only_by m e holds k false i h = absurd cc

-- the whole condition is the conjunct
pub only_claim : (m : List ℕ) (e : Expression) (holds : Bool) (k : Claim) → filter (mentions m) (claim e holds ∷ []) ≡ k ∷ [] → OnlyClaim m e holds k
only_claim m e holds k h = only_by m e holds k (is_among (names_in e) m) refl h
