-- Texts that are written part by part.
use Rattle.std.specs.Prelude.{ℕ, List, [], ◌∷◌, ◌++◌}
use Rattle.std.proofs.Common.{◌≡◌, ap, ◌∙◌, append_assoc, codes}
use Rattle.java_ast.specs.declared.tree.Expr.{Expr}
use Rattle.java_ast.specs.declared.tree.Stmt.{Stmt}
use Rattle.java_ast.specs.Reading.{expressions, expression, statements}
use Rattle.java_text.specs.Canonical.{line_end, indent, braced, canonical_arguments, canonical_expression, canonical_statements}

-- what is written in two parts, and in three
pub in_two : (old a new x y : List ℕ) → a ≡ old ++ x → new ≡ a ++ y → new ≡ old ++ (x ++ y)
in_two old a new x y first second = second ∙ ap (λ (w : List ℕ). w ++ y) first ∙ append_assoc old x y

pub in_three : (old a b new x y z : List ℕ) → a ≡ old ++ x → b ≡ a ++ y → new ≡ b ++ z → new ≡ old ++ ((x ++ y) ++ z)
in_three old a b new x y z first second third = third ∙ ap (λ (w : List ℕ). w ++ z) (second ∙ ap (λ (w : List ℕ). w ++ y) first ∙ append_assoc old x y) ∙ append_assoc old (x ++ y) z

-- a call's head, its arguments and the closing parenthesis
pub with_arguments : (old a b new head : List ℕ) (lent items : List Expr) → lent ≡ items → a ≡ old ++ head → b ≡ a ++ canonical_arguments (expressions lent) → new ≡ b ++ 41 ∷ [] → new ≡ old ++ ((head ++ canonical_arguments (expressions items)) ++ 41 ∷ [])
with_arguments old a b new head lent items same first second third = in_three old a b new head (canonical_arguments (expressions lent)) (41 ∷ []) first second third ∙ ap (λ (es : List Expr). old ++ ((head ++ canonical_arguments (expressions es)) ++ 41 ∷ [])) same

pub with_query : (old a b new head : List ℕ) (lent query : Expr) → lent ≡ query → a ≡ old ++ head → b ≡ a ++ canonical_expression 8 (expression lent) → new ≡ b ++ 41 ∷ [] → new ≡ old ++ ((head ++ canonical_expression 8 (expression query)) ++ 41 ∷ [])
with_query old a b new head lent query same first second third = in_three old a b new head (canonical_expression 8 (expression lent)) (41 ∷ []) first second third ∙ ap (λ (e : Expr). old ++ ((head ++ canonical_expression 8 (expression e)) ++ 41 ∷ [])) same

-- a head with a body
abbrev body_text : List ℕ → List Stmt → List ℕ
body_text margin ss = braced margin (canonical_statements (margin ++ indent) (statements ss))

pub with_body : (old margin a b d new head : List ℕ) (lent items : List Stmt) → lent ≡ items → a ≡ old ++ margin → b ≡ a ++ head → d ≡ b ++ body_text margin lent → new ≡ d ++ line_end → new ≡ old ++ (((margin ++ head) ++ body_text margin items) ++ line_end)
with_body old margin a b d new head lent items same first second third last =
    in_three old b d new (margin ++ head) (body_text margin lent) line_end (second ∙ ap (λ (w : List ℕ). w ++ head) first ∙ append_assoc old margin head) third last
    ∙ ap (λ (ss : List Stmt). old ++ (((margin ++ head) ++ body_text margin ss) ++ line_end)) same

pub with_bodies : (old margin a b d e f new head : List ℕ) (lent items lent' items' : List Stmt) → lent ≡ items → lent' ≡ items' → a ≡ old ++ margin → b ≡ a ++ head → d ≡ b ++ body_text margin lent → e ≡ d ++ codes " else" → f ≡ e ++ body_text margin lent' → new ≡ f ++ line_end
    → new ≡ old ++ (((((margin ++ head) ++ body_text margin items) ++ codes " else") ++ body_text margin items') ++ line_end)
with_bodies old margin a b d e f new head lent items lent' items' same same' first second third fourth fifth last =
    let up_to_else : e ≡ old ++ (((margin ++ head) ++ body_text margin lent) ++ codes " else") =
    in_three old b d e (margin ++ head) (body_text margin lent) (codes " else") (second ∙ ap (λ (w : List ℕ). w ++ head) first ∙ append_assoc old margin head) third fourth in
    in_three old e f new (((margin ++ head) ++ body_text margin lent) ++ codes " else") (body_text margin lent') line_end up_to_else fifth last
    ∙ ap (λ (ss : List Stmt). old ++ (((((margin ++ head) ++ body_text margin ss) ++ codes " else") ++ body_text margin lent') ++ line_end)) same
    ∙ ap (λ (ss : List Stmt). old ++ (((((margin ++ head) ++ body_text margin items) ++ codes " else") ++ body_text margin ss) ++ line_end)) same'
