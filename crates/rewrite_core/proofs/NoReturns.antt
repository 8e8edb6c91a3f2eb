-- Statements that break no rule in a loop never return, and neither do simple statements before a loop.
use Rattle.std.proofs.Common.{◌≡◌, ℕ, Bool, true, false, not, ◌&&◌, ◌||◌, List, [], ◌∷◌, ◌++◌, Option, refl, sym, ap, ◌∙◌}
use Rattle.std.proofs.lemmas.Bool.{and_parts}
use Rattle.qbs_base.specs.declared.span.Span.{Span}
use Rattle.qbs_base.specs.Values.{Schema}
use Rattle.sql_ast.specs.Tree.{PlainQuery}
use Rattle.java_ast.specs.Tree as tree
use Rattle.java_ast.specs.Tree.{Spelled, Expression, Statement, Statements, Nothing, Then}
use Rattle.java_mean.specs.declared.rule.TypeRule.TheVariants as rules
use Rattle.java_mean.specs.Places.{Around, step, is_nothing, in_expression, in_parts, in_statements, in_for_each, in_while, in_branch}
use Rattle.java_mean.specs.Refines.{followed_by}
use Rattle.java_mean.specs.Rules.{only_if, returns, returns_in}
use Rattle.java_mean.specs.Types.{type_spelled}
use Rattle.java_mean.specs.Visible.{Visible, after, declared_in}
use Rattle.java_mean.specs.WellTyped.{marked, faults_at, faults_in}
use Rattle.java_mean.proofs.Faultless.{Both, none_both, none_in}
use Rattle.loop_text.specs.Statements.Fragment.{is_simple, are_simple}
use Rattle.loop_text.specs.Statements.Loops.{is_loop}

module _ (schema : Schema) (read : List ℕ → Option PlainQuery) (r : Option Spelled) where
  no_return : (b : Bool) (at : Span) → marked rules.ReturnPlace (only_if (not (false && b)) at) ++ [] ≡ [] → ⊥
  no_return b at h = absurd cc

  -- a `return` that isn't at the end of its method is misplaced
  returned_late : (vs : Visible) (w : Around) (last : Bool) (at : Span) (e : Option Expression) → w.final ≡ false → faults_at schema read r (step vs w last (tree.Return at e)) ≡ [] → ⊥
  returned_late vs w last at e f h =
      let k : Both _ (marked rules.ReturnPlace (only_if (not (w.final && last)) at) ++ [] ≡ []) = none_both (marked rules.Mismatch _) _ h in
      no_return last at (sym (ap (λ b. marked rules.ReturnPlace (only_if (not (b && last)) at) ++ []) f) ∙ k.right)

  none_or : (a b : Bool) → a ≡ false → b ≡ false → (a || b) ≡ false
  none_or a b e h = ap (λ z. z || b) e ∙ h

  mutual
    pub none_return : (p : Statements) (vs : Visible) (w : Around) → w.final ≡ false → faults_in schema read r (in_statements schema vs w p) ≡ [] → returns p ≡ false
    none_return Nothing vs w f h = refl
    none_return (Then a p) vs w f h =
        let two = none_in schema read r (step vs w (is_nothing p) a ∷ in_parts schema vs w a) (in_statements schema (after schema vs a) w p) h in
        none_or (returns_in a) (returns p) (one_returns a vs w (is_nothing p) f two.left) (none_return p (after schema vs a) w f two.right)

    one_returns : (a : Statement) (vs : Visible) (w : Around) (last : Bool) → w.final ≡ false → faults_at schema read r (step vs w last a) ++ faults_in schema read r (in_parts schema vs w a) ≡ [] → returns_in a ≡ false
    one_returns (tree.Return at e) vs w last f h = absurd (returned_late vs w last at e f (none_both (faults_at schema read r (step vs w last (tree.Return at e))) (faults_in schema read r (in_parts schema vs w (tree.Return at e))) h).left)
    one_returns (tree.If at c a) vs w last f h =
        let parts = (none_both (faults_at schema read r (step vs w last (tree.If at c a))) (faults_in schema read r (in_parts schema vs w (tree.If at c a))) h).right in
        none_return a vs (in_branch w) refl (none_in schema read r (in_expression vs c) (in_statements schema vs (in_branch w) a) parts).right
    one_returns (tree.IfElse at c a b) vs w last f h =
        let parts = (none_both (faults_at schema read r (step vs w last (tree.IfElse at c a b))) (faults_in schema read r (in_parts schema vs w (tree.IfElse at c a b))) h).right in
        let two = none_in schema read r (in_statements schema vs (in_branch w) a) (in_statements schema vs (in_branch w) b) (none_in schema read r (in_expression vs c) (in_statements schema vs (in_branch w) a ++ in_statements schema vs (in_branch w) b) parts).right in
        none_or (returns a) (returns b) (none_return a vs (in_branch w) refl two.left) (none_return b vs (in_branch w) refl two.right)
    one_returns (tree.ForEach at ty x e b) vs w last f h =
        let parts = (none_both (faults_at schema read r (step vs w last (tree.ForEach at ty x e b))) (faults_in schema read r (in_parts schema vs w (tree.ForEach at ty x e b))) h).right in
        none_return b (declared_in vs x (type_spelled schema ty)) (in_for_each e w) refl (none_in schema read r (in_expression vs e) (in_statements schema (declared_in vs x (type_spelled schema ty)) (in_for_each e w) b) parts).right
    one_returns (tree.While at c b) vs w last f h =
        let parts = (none_both (faults_at schema read r (step vs w last (tree.While at c b))) (faults_in schema read r (in_parts schema vs w (tree.While at c b))) h).right in
        none_return b vs (in_while w) refl (none_in schema read r (in_expression vs c) (in_statements schema vs (in_while w) b) parts).right
    one_returns (tree.Declare at ty x e) vs w last f h = refl
    one_returns (tree.Assign at x e) vs w last f h = refl
    one_returns (tree.Add at x e) vs w last f h = refl
    one_returns (tree.Sort at x keys down) vs w last f h = refl
    one_returns (tree.Print at e) vs w last f h = refl
    one_returns (tree.Break at) vs w last f h = refl

  each_returns : (at : Span) (ty : Spelled) (x : List ℕ) (e : Expression) (b : Statements) (vs : Visible) (w : Around) (last : Bool) → faults_at schema read r (step vs w last (tree.ForEach at ty x e b)) ++ faults_in schema read r (in_parts schema vs w (tree.ForEach at ty x e b)) ≡ [] → returns b ≡ false
  each_returns at ty x e b vs w last h =
      let parts = (none_both (faults_at schema read r (step vs w last (tree.ForEach at ty x e b))) (faults_in schema read r (in_parts schema vs w (tree.ForEach at ty x e b))) h).right in
      none_return b (declared_in vs x (type_spelled schema ty)) (in_for_each e w) refl (none_in schema read r (in_expression vs e) (in_statements schema (declared_in vs x (type_spelled schema ty)) (in_for_each e w) b) parts).right

  while_returns : (at : Span) (c : Expression) (b : Statements) (vs : Visible) (w : Around) (last : Bool) → faults_at schema read r (step vs w last (tree.While at c b)) ++ faults_in schema read r (in_parts schema vs w (tree.While at c b)) ≡ [] → returns b ≡ false
  while_returns at c b vs w last h =
      let parts = (none_both (faults_at schema read r (step vs w last (tree.While at c b))) (faults_in schema read r (in_parts schema vs w (tree.While at c b))) h).right in
      none_return b vs (in_while w) refl (none_in schema read r (in_expression vs c) (in_statements schema vs (in_while w) b) parts).right

  -- a loop that breaks no rule doesn't return
  loop_returns : (a : Statement) (vs : Visible) (w : Around) (last : Bool) → is_loop a ≡ true → faults_at schema read r (step vs w last a) ++ faults_in schema read r (in_parts schema vs w a) ≡ [] → returns_in a ≡ false
  loop_returns (tree.ForEach at ty x e b) vs w last l h = each_returns at ty x e b vs w last h
  loop_returns (tree.While at c b) vs w last l h = while_returns at c b vs w last h
  loop_returns (tree.Declare at ty x e) vs w last l h = refl
  loop_returns (tree.Assign at x e) vs w last l h = refl
  loop_returns (tree.Add at x e) vs w last l h = refl
  loop_returns (tree.Sort at x keys down) vs w last l h = refl
  loop_returns (tree.Print at e) vs w last l h = refl
  loop_returns (tree.Break at) vs w last l h = refl
  loop_returns (tree.If at c a) vs w last l h = absurd cc
  loop_returns (tree.IfElse at c a b) vs w last l h = absurd cc
  loop_returns (tree.Return at e) vs w last l h = absurd cc

  simple_returns : (a : Statement) → is_simple a ≡ true → returns_in a ≡ false
  simple_returns (tree.Declare at ty x e) s = refl
  simple_returns (tree.Assign at x e) s = refl
  simple_returns (tree.Sort at x keys down) s = refl
  simple_returns (tree.Add at x e) s = refl
  simple_returns (tree.Print at e) s = refl
  simple_returns (tree.Break at) s = refl
  simple_returns (tree.If at c a) s = absurd cc
  simple_returns (tree.IfElse at c a b) s = absurd cc
  simple_returns (tree.ForEach at ty x e b) s = absurd cc
  simple_returns (tree.While at c b) s = absurd cc
  simple_returns (tree.Return at e) s = absurd cc

  -- A run and its loop don't return, where the loop breaks no rule.
  pub run_returns : (run : Statements) (loop : Statement) (vs : Visible) (w : Around) (last : Bool) → are_simple run ≡ true → is_loop loop ≡ true → faults_at schema read r (step vs w last loop) ++ faults_in schema read r (in_parts schema vs w loop) ≡ [] → returns (followed_by run (Then loop Nothing)) ≡ false
  run_returns Nothing loop vs w last s l h = none_or (returns_in loop) false (loop_returns loop vs w last l h) refl
  run_returns (Then a p) loop vs w last s l h =
      let two = and_parts (is_simple a) (are_simple p) s in
      none_or (returns_in a) (returns (followed_by p (Then loop Nothing))) (simple_returns a two.0) (run_returns p loop vs w last two.1 l h)
