-- The literals of a select's condition in the source language have 64 bits, and a place in a program may be filled with others that have.
use Rattle.std.proofs.Common.{◌≡◌, ℕ, zero, suc, Bool, true, false, ◌&&◌, List, [], ◌∷◌, ◌++◌, refl, ap, ◌∙◌}
use Rattle.qbs_base.specs.declared.scalar.Scalar.{Scalar}
use Rattle.qbs_base.specs.declared.scalar.Scalar.TheVariants as scalars
use Rattle.qbs_base.specs.declared.span.Span.{Span}
use Rattle.qbs_base.specs.Values.{Schema}
use Rattle.sql_ast.specs.declared.tree.Cmp.{Cmp}
use Rattle.sql_ast.specs.declared.tree.Cmp.TheVariants as tests
use Rattle.sql_ast.specs.declared.tree.FromItem.{FromItem}
use Rattle.sql_ast.specs.declared.tree.SqlOpnd.{SqlOpnd}
use Rattle.sql_ast.specs.declared.tree.SqlOpnd.TheVariants as opnds
use Rattle.sql_ast.specs.Tree.{Condition, Both, Either, Not, Compare, Bare, Exists, Within, Filter, Everything, Where, PlainListing}
use Rattle.sql_ast.specs.Valid.{FitsScalar, IsOpndOf}
use Rattle.java_ast.specs.Names.{Names}
use Rattle.java_ast.specs.Path.{with_body}
use Rattle.java_ast.specs.Placed.{placed}
use Rattle.java_ast.specs.Tree as tree
use Rattle.java_ast.specs.Tree.{Expression, Expressions, NoMore, And, Statements, Nothing, Then, PlainMethod}
use Rattle.java_mean.specs.Numbers.{literal_fits, expression_fits, expressions_fit, statement_fits, statements_fit, methods_fit}
use Rattle.java_mean.specs.Refines.{Hole, Here, Past, InIf, InThen, InElse, InEach, InWhile, fill, followed_by}
use Rattle.select_parts.specs.Selects.{is_text_operand}
use Rattle.spreads.specs.Conditions.{argument, argument_at, operand_in, compared_in, condition_in}
use Rattle.spreads.specs.Spread.{Select, tested}
use Rattle.spreads.specs.Staying.{stays, all_stay}
use Rattle.spreads.proofs.Chosen.{both_so}
use Rattle.spreads.proofs.Known.{HasColumns, FilterHas}

pub both_true : (a b : Bool) → a ≡ true → b ≡ true → (a && b) ≡ true
both_true true b e h = h
both_true false b e h = absurd cc

-- ---- Conditions

scalar_fits : (y : Scalar) → FitsScalar y → literal_fits y ≡ true
scalar_fits (scalars.Long i) h = h
scalar_fits (scalars.Bool b) h = refl
scalar_fits (scalars.Text t) h = refl

module _ (assigned : Names) (at : Span) where
  placed_fits : (e : Expression) → stays assigned e ≡ true → expression_fits e ≡ true → expression_fits (placed at e) ≡ true
  placed_fits (tree.Lit at' y) n h = h
  placed_fits (tree.Var at' y) n h = refl
  placed_fits (tree.Field at' (tree.Var at2 y) f) n h = refl
  placed_fits e n h = absurd cc

  argument_fits : (es : Expressions) (k : ℕ) → all_stay assigned es ≡ true → expressions_fit es ≡ true → expression_fits (argument_at at (argument es k)) ≡ true
  argument_fits NoMore k n h = refl
  argument_fits (And e es) zero n h = refl
  argument_fits (And e es) (suc zero) n h = placed_fits e (both_so (stays assigned e) (all_stay assigned es) n).0 (both_so (expression_fits e) (expressions_fit es) h).0
  argument_fits (And e es) (suc (suc k)) n h = argument_fits es (suc k) (both_so (stays assigned e) (all_stay assigned es) n).1 (both_so (expression_fits e) (expressions_fit es) h).1

  compared_fits : (text : Bool) (cmp : Cmp) (a b : Expression) → expression_fits a ≡ true → expression_fits b ≡ true → expression_fits (compared_in text at cmp a b) ≡ true
  compared_fits true tests.Eq a b h k = both_true (expression_fits a) (expression_fits b) h k
  compared_fits true tests.Ne a b h k = both_true (expression_fits a) (expression_fits b) h k
  compared_fits true tests.Lt a b h k = both_true (expression_fits a) (expression_fits b) h k
  compared_fits true tests.Le a b h k = both_true (expression_fits a) (expression_fits b) h k
  compared_fits true tests.Gt a b h k = both_true (expression_fits a) (expression_fits b) h k
  compared_fits true tests.Ge a b h k = both_true (expression_fits a) (expression_fits b) h k
  compared_fits false tests.Eq a b h k = both_true (expression_fits a) (expression_fits b) h k
  compared_fits false tests.Ne a b h k = both_true (expression_fits a) (expression_fits b) h k
  compared_fits false tests.Lt a b h k = both_true (expression_fits a) (expression_fits b) h k
  compared_fits false tests.Le a b h k = both_true (expression_fits a) (expression_fits b) h k
  compared_fits false tests.Gt a b h k = both_true (expression_fits a) (expression_fits b) h k
  compared_fits false tests.Ge a b h k = both_true (expression_fits a) (expression_fits b) h k

  module _ (schema : Schema) (froms : List FromItem) (q : PlainListing) (x : List ℕ) (es : Expressions) (stay : all_stay assigned es ≡ true) (fit : expressions_fit es ≡ true) where
    operand_fits : (o : SqlOpnd) → IsOpndOf schema froms o → expression_fits (operand_in at x es o) ≡ true
    operand_fits (opnds.Column col) h = refl
    operand_fits (opnds.Lit y) h = scalar_fits y h
    operand_fits (opnds.Param k) h = argument_fits es k stay fit

    condition_fits : (c : Condition) → HasColumns schema froms c → expression_fits (condition_in schema q at x es c) ≡ true
    condition_fits (Both a b) h = both_true (expression_fits (condition_in schema q at x es a)) (expression_fits (condition_in schema q at x es b)) (condition_fits a h.0) (condition_fits b h.1)
    condition_fits (Either a b) h = both_true (expression_fits (condition_in schema q at x es a)) (expression_fits (condition_in schema q at x es b)) (condition_fits a h.0) (condition_fits b h.1)
    condition_fits (Not a) h = condition_fits a h
    condition_fits (Compare cmp a b) h = compared_fits (is_text_operand schema q a) cmp (operand_in at x es a) (operand_in at x es b) (operand_fits a h.0) (operand_fits b h.1)
    condition_fits (Bare col) h = refl
    condition_fits (Exists from filter_) h = refl
    condition_fits (Within opnd negated col from filter_) h = refl

  pub tested_fits : (schema : Schema) (froms : List FromItem) (x : List ℕ) (s : Select) (f : Filter) (body : Statements) → all_stay assigned s.arguments ≡ true → expressions_fit s.arguments ≡ true → FilterHas schema froms f → statements_fit body ≡ true → statements_fit (tested schema at x s f body) ≡ true
  tested_fits schema froms x s Everything body stay fit has h = h
  tested_fits schema froms x s (Where c) body stay fit has h =
      let test : Expression = condition_in schema s.query at x s.arguments c in
      both_true (expression_fits test && statements_fit body) true (both_true (expression_fits test) (statements_fit body) (condition_fits schema froms s.query x s.arguments stay fit c has) h) refl

-- ---- Places

and_more : (a b c : Bool) → (b ≡ true → c ≡ true) → (a && b) ≡ true → (a && c) ≡ true
and_more true b c f h = f h
and_more false b c f h = absurd cc

and_less : (b c d : Bool) → (b ≡ true → c ≡ true) → (b && d) ≡ true → (c && d) ≡ true
and_less true c d f h = ap (λ z. z && d) (f refl) ∙ h
and_less false c d f h = absurd cc

first_fits : (p q : Statements) → statements_fit (followed_by p q) ≡ true → statements_fit p ≡ true
first_fits Nothing q h = refl
first_fits (Then a p) q h = and_more (statement_fits a) (statements_fit (followed_by p q)) (statements_fit p) (first_fits p q) h

rest_fits : (p q : Statements) → statements_fit (followed_by p q) ≡ true → statements_fit q ≡ true
rest_fits Nothing q h = h
rest_fits (Then a p) q h = rest_fits p q (both_so (statement_fits a) (statements_fit (followed_by p q)) h).1

followed_fits : (p q : Statements) → statements_fit p ≡ true → statements_fit q ≡ true → statements_fit (followed_by p q) ≡ true
followed_fits Nothing q h k = k
followed_fits (Then a p) q h k = and_more (statement_fits a) (statements_fit p) (statements_fit (followed_by p q)) (λ i. followed_fits p q i k) h

pub fill_fits : (hole : Hole) (old new : Statements) → (statements_fit old ≡ true → statements_fit new ≡ true) → statements_fit (fill hole old) ≡ true → statements_fit (fill hole new) ≡ true
fill_fits (Here q) old new f h = followed_fits new q (f (first_fits old q h)) (rest_fits old q h)
fill_fits (Past a k) old new f h = and_more (statement_fits a) (statements_fit (fill k old)) (statements_fit (fill k new)) (fill_fits k old new f) h
fill_fits (InIf at e k q) old new f h =
    and_less (expression_fits e && statements_fit (fill k old)) (expression_fits e && statements_fit (fill k new)) (statements_fit q)
    (and_more (expression_fits e) (statements_fit (fill k old)) (statements_fit (fill k new)) (fill_fits k old new f)) h
fill_fits (InThen at e k b q) old new f h =
    and_less (expression_fits e && (statements_fit (fill k old) && statements_fit b)) (expression_fits e && (statements_fit (fill k new) && statements_fit b)) (statements_fit q)
    (and_more (expression_fits e) (statements_fit (fill k old) && statements_fit b) (statements_fit (fill k new) && statements_fit b) (and_less (statements_fit (fill k old)) (statements_fit (fill k new)) (statements_fit b) (fill_fits k old new f))) h
fill_fits (InElse at e a k q) old new f h =
    and_less (expression_fits e && (statements_fit a && statements_fit (fill k old))) (expression_fits e && (statements_fit a && statements_fit (fill k new))) (statements_fit q)
    (and_more (expression_fits e) (statements_fit a && statements_fit (fill k old)) (statements_fit a && statements_fit (fill k new)) (and_more (statements_fit a) (statements_fit (fill k old)) (statements_fit (fill k new)) (fill_fits k old new f))) h
fill_fits (InEach at ty x e k q) old new f h =
    and_less (expression_fits e && statements_fit (fill k old)) (expression_fits e && statements_fit (fill k new)) (statements_fit q)
    (and_more (expression_fits e) (statements_fit (fill k old)) (statements_fit (fill k new)) (fill_fits k old new f)) h
fill_fits (InWhile at e k q) old new f h =
    and_less (expression_fits e && statements_fit (fill k old)) (expression_fits e && statements_fit (fill k new)) (statements_fit q)
    (and_more (expression_fits e) (statements_fit (fill k old)) (statements_fit (fill k new)) (fill_fits k old new f)) h

pub methods_still_fit : (before after : List PlainMethod) (m : PlainMethod) (old new : Statements) → (statements_fit old ≡ true → statements_fit new ≡ true) → methods_fit (before ++ with_body m old ∷ after) ≡ true → methods_fit (before ++ with_body m new ∷ after) ≡ true
methods_still_fit [] after m old new f h = and_less (statements_fit old) (statements_fit new) (methods_fit after) f h
methods_still_fit (k ∷ before) after m old new f h =
    and_more (statements_fit k.body) (methods_fit (before ++ with_body m old ∷ after)) (methods_fit (before ++ with_body m new ∷ after)) (methods_still_fit before after m old new f) h
