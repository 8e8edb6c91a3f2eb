-- What holds of the names that statements mention or declare: by the list of the mentioned ones, and by the rule that no visible
-- variable is declared again.
use Rattle.std.proofs.Common.{◌≡◌, ℕ, Bool, true, false, List, [], ◌∷◌, ◌++◌, Option, Some, None, refl, sym, ap, ◌∙◌, bytes_eq}
use Rattle.std.specs.Prelude.{if◌then◌else◌}
use Rattle.std.proofs.lemmas.Bool.{or_left}
use Rattle.qbs_base.specs.Values.{Schema}
use Rattle.sql_ast.specs.Tree.{PlainQuery}
use Rattle.java_ast.specs.Tree as tree
use Rattle.java_ast.specs.Tree.{Spelled, Expression, Expressions, NoMore, And, Statement, Statements, Nothing, Then}
use Rattle.java_mean.specs.declared.types.JavaType.{JavaType}
use Rattle.java_mean.specs.Mentions.{EachIn, EachAmong, EachReturned, EachMentionedIn, EachMentioned, EachDeclaredIn, EachDeclared}
use Rattle.java_mean.specs.Places.{Around, step, is_nothing, in_expression, in_parts, in_statements, in_for_each, in_while, in_branch}
use Rattle.java_mean.specs.Rules.{taken}
use Rattle.java_mean.specs.Types.{type_spelled}
use Rattle.java_mean.specs.Visible.{Visible, is_visible, declared_in, after}
use Rattle.java_mean.specs.WellTyped.{faults_at, faults_in}
use Rattle.java_mean.proofs.Faultless.{none_both, none_in, fine, only_none, neither, new_visible}
use Rattle.java_mean.proofs.Puts.{name_same}
use Rattle.java_ast.specs.Names.{Names, is_among, names_in, names_among, names_of_returned, mentioned_in, mentioned_among}
use Rattle.java_loops.proofs.Nested.NestNames.{among_left, among_right}

-- ---- Mentioned names

module _ (P : List ℕ → Type 0) where
  -- each of these names is so
  abbrev AllAmong : Names → Type 0
  AllAmong xs = (x : List ℕ) → is_among xs x ≡ true → P x

  first_among : (x : List ℕ) (xs : Names) → AllAmong (x ∷ xs) → P x
  first_among x xs h = h x (or_left (bytes_eq x x) (is_among xs x) (name_same x))

  rest_among : (x : List ℕ) (xs : Names) → AllAmong (x ∷ xs) → AllAmong xs
  rest_among x xs h = λ y i. h y (among_right (x ∷ []) xs y i)

  left_among : (xs ys : Names) → AllAmong (xs ++ ys) → AllAmong xs
  left_among xs ys h = λ y i. h y (among_left xs ys y i)

  right_among : (xs ys : Names) → AllAmong (xs ++ ys) → AllAmong ys
  right_among xs ys h = λ y i. h y (among_right xs ys y i)

  mutual
    each_in : (e : Expression) → AllAmong (names_in e) → EachIn P e
    each_in (tree.Lit at x) h = tt
    each_in (tree.Var at x) h = first_among x [] h
    each_in (tree.Field at e name) h = each_in e h
    each_in (tree.Binary at op a b) h = (each_in a (left_among (names_in a) (names_in b) h), each_in b (right_among (names_in a) (names_in b) h))
    each_in (tree.Not at e) h = each_in e h
    each_in (tree.Equals at a b) h = (each_in a (left_among (names_in a) (names_in b) h), each_in b (right_among (names_in a) (names_in b) h))
    each_in (tree.Size at x) h = first_among x [] h
    each_in (tree.Get at x e) h = (first_among x (names_in e) h, each_in e (rest_among x (names_in e) h))
    each_in (tree.Contains at x e) h = (first_among x (names_in e) h, each_in e (rest_among x (names_in e) h))
    each_in (tree.Fetch at t) h = tt
    each_in (tree.Query at ty text es) h = each_among es h
    each_in (tree.QueryLong at text es) h = each_among es h
    each_in (tree.QueryBoolean at text es) h = each_among es h
    each_in (tree.NewList at) h = tt
    each_in (tree.NewSet at) h = tt
    each_in (tree.NewSetOf at e) h = each_in e h

    each_among : (es : Expressions) → AllAmong (names_among es) → EachAmong P es
    each_among NoMore h = tt
    each_among (And e es) h = (each_in e (left_among (names_in e) (names_among es) h), each_among es (right_among (names_in e) (names_among es) h))

  each_returned : (o : Option Expression) → AllAmong (names_of_returned o) → EachReturned P o
  each_returned None h = tt
  each_returned (Some e) h = each_in e h

  mutual
    each_mentioned_in : (a : Statement) → AllAmong (mentioned_in a) → EachMentionedIn P a
    each_mentioned_in (tree.Declare at ty x e) h = each_in e h
    each_mentioned_in (tree.Assign at x e) h = (first_among x (names_in e) h, each_in e (rest_among x (names_in e) h))
    each_mentioned_in (tree.Add at x e) h = (first_among x (names_in e) h, each_in e (rest_among x (names_in e) h))
    each_mentioned_in (tree.Sort at x keys down) h = first_among x [] h
    each_mentioned_in (tree.If at c a) h = (each_in c (left_among (names_in c) (mentioned_among a) h), each_mentioned a (right_among (names_in c) (mentioned_among a) h))
    each_mentioned_in (tree.IfElse at c a b) h =
        let branches : AllAmong (mentioned_among a ++ mentioned_among b) = right_among (names_in c) (mentioned_among a ++ mentioned_among b) h in
        (each_in c (left_among (names_in c) (mentioned_among a ++ mentioned_among b) h), (each_mentioned a (left_among (mentioned_among a) (mentioned_among b) branches), each_mentioned b (right_among (mentioned_among a) (mentioned_among b) branches)))
    each_mentioned_in (tree.ForEach at ty x e b) h = (each_in e (left_among (names_in e) (mentioned_among b) h), each_mentioned b (right_among (names_in e) (mentioned_among b) h))
    each_mentioned_in (tree.While at c b) h = (each_in c (left_among (names_in c) (mentioned_among b) h), each_mentioned b (right_among (names_in c) (mentioned_among b) h))
    each_mentioned_in (tree.Print at e) h = each_in e h
    each_mentioned_in (tree.Return at o) h = each_returned o h
    each_mentioned_in (tree.Break at) h = tt

    -- what holds of each name among those that statements mention
    pub each_mentioned : (p : Statements) → ((x : List ℕ) → is_among (mentioned_among p) x ≡ true → P x) → EachMentioned P p
    each_mentioned Nothing h = tt
    each_mentioned (Then a p) h = (each_mentioned_in a (left_among (mentioned_in a) (mentioned_among p) h), each_mentioned p (right_among (mentioned_in a) (mentioned_among p) h))

-- ---- Declared names

still_unseen : (vs : Visible) (x y : List ℕ) (o : Option JavaType) (b : Bool) → is_visible vs x ≡ b → is_visible (declared_in vs x o) y ≡ false → is_visible vs y ≡ false
still_unseen vs x y o true e h = sym (ap (λ (c : Bool). is_visible (if c then vs else (vs ++ (x, o) ∷ [])) y) e) ∙ h
still_unseen vs x y o false e h = (neither (is_visible vs y) (bytes_eq x y) (sym (new_visible vs x y o e) ∙ h)).left

-- what isn't visible after a declaration wasn't before it
pub unseen_before : (vs : Visible) (x y : List ℕ) (o : Option JavaType) → is_visible (declared_in vs x o) y ≡ false → is_visible vs y ≡ false
unseen_before vs x y o h = still_unseen vs x y o (is_visible vs x) refl h

-- nor before a statement
pub unseen_earlier : (schema : Schema) (vs : Visible) (a : Statement) (y : List ℕ) → is_visible (after schema vs a) y ≡ false → is_visible vs y ≡ false
unseen_earlier schema vs (tree.Declare at ty x e) y h = unseen_before vs x y (type_spelled schema ty) h
unseen_earlier schema vs (tree.Assign at x e) y h = h
unseen_earlier schema vs (tree.Add at x e) y h = h
unseen_earlier schema vs (tree.Sort at x keys down) y h = h
unseen_earlier schema vs (tree.If at c a) y h = h
unseen_earlier schema vs (tree.IfElse at c a b) y h = h
unseen_earlier schema vs (tree.ForEach at ty x e b) y h = h
unseen_earlier schema vs (tree.While at c b) y h = h
unseen_earlier schema vs (tree.Print at e) y h = h
unseen_earlier schema vs (tree.Return at e) y h = h
unseen_earlier schema vs (tree.Break at) y h = h

module _ (schema : Schema) (read : List ℕ → Option PlainQuery) (r : Option Spelled) (P : List ℕ → Type 0) where
  -- each name that isn't visible is so
  abbrev UnseenAre : Visible → Type 0
  UnseenAre vs = (x : List ℕ) → is_visible vs x ≡ false → P x

  mutual
    -- Where statements break no rule, what they declare at any depth isn't visible before them.
    pub each_declared : (p : Statements) (vs : Visible) (w : Around) → ((x : List ℕ) → is_visible vs x ≡ false → P x) → faults_in schema read r (in_statements schema vs w p) ≡ [] → EachDeclared P p
    each_declared Nothing vs w h n = tt
    each_declared (Then a p) vs w h n =
        let two = none_in schema read r (step vs w (is_nothing p) a ∷ in_parts schema vs w a) (in_statements schema (after schema vs a) w p) n in
        (one_declares a vs w (is_nothing p) h two.left, each_declared p (after schema vs a) w (λ x e. h x (unseen_earlier schema vs a x e)) two.right)

    one_declares : (a : Statement) (vs : Visible) (w : Around) (last : Bool) → UnseenAre vs → faults_at schema read r (step vs w last a) ++ faults_in schema read r (in_parts schema vs w a) ≡ [] → EachDeclaredIn P a
    one_declares (tree.Declare at ty x e) vs w last h n =
        let one = (none_both (faults_at schema read r (step vs w last (tree.Declare at ty x e))) (faults_in schema read r (in_parts schema vs w (tree.Declare at ty x e))) n).left in
        let k = fine schema read r (step vs w last (tree.Declare at ty x e)) one in
        h x (neither (is_visible vs x) _ (only_none (taken vs x) at k.single)).left
    one_declares (tree.If at c a) vs w last h n =
        let parts = (none_both (faults_at schema read r (step vs w last (tree.If at c a))) (faults_in schema read r (in_parts schema vs w (tree.If at c a))) n).right in
        each_declared a vs (in_branch w) h (none_in schema read r (in_expression vs c) (in_statements schema vs (in_branch w) a) parts).right
    one_declares (tree.IfElse at c a b) vs w last h n =
        let parts = (none_both (faults_at schema read r (step vs w last (tree.IfElse at c a b))) (faults_in schema read r (in_parts schema vs w (tree.IfElse at c a b))) n).right in
        let two = none_in schema read r (in_statements schema vs (in_branch w) a) (in_statements schema vs (in_branch w) b) (none_in schema read r (in_expression vs c) (in_statements schema vs (in_branch w) a ++ in_statements schema vs (in_branch w) b) parts).right in
        (each_declared a vs (in_branch w) h two.left, each_declared b vs (in_branch w) h two.right)
    one_declares (tree.ForEach at ty x e b) vs w last h n =
        let both = none_both (faults_at schema read r (step vs w last (tree.ForEach at ty x e b))) (faults_in schema read r (in_parts schema vs w (tree.ForEach at ty x e b))) n in
        let k = fine schema read r (step vs w last (tree.ForEach at ty x e b)) both.left in
        let inner = (none_in schema read r (in_expression vs e) (in_statements schema (declared_in vs x (type_spelled schema ty)) (in_for_each e w) b) both.right).right in (
          h x (neither (is_visible vs x) _ (only_none (taken vs x) at k.single)).left,
          each_declared b (declared_in vs x (type_spelled schema ty)) (in_for_each e w) (λ y u. h y (unseen_before vs x y (type_spelled schema ty) u)) inner,
        )
    one_declares (tree.While at c b) vs w last h n =
        let parts = (none_both (faults_at schema read r (step vs w last (tree.While at c b))) (faults_in schema read r (in_parts schema vs w (tree.While at c b))) n).right in
        each_declared b vs (in_while w) h (none_in schema read r (in_expression vs c) (in_statements schema vs (in_while w) b) parts).right
    one_declares (tree.Assign at x e) vs w last h n = tt
    one_declares (tree.Add at x e) vs w last h n = tt
    one_declares (tree.Sort at x keys down) vs w last h n = tt
    one_declares (tree.Print at e) vs w last h n = tt
    one_declares (tree.Return at e) vs w last h n = tt
    one_declares (tree.Break at) vs w last h n = tt
