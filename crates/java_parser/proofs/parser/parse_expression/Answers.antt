use Rattle.std.proofs.Common.{◌≡◌, List, Ok, refl, subst}
use Rattle.java_lex.specs.declared.token.Token.{Token}
use Rattle.readers.specs.Reading.{Fails, whole}
use Rattle.java_ast.specs.Reading.{expression}
use Rattle.java_grammar.specs.Marks.{all_strict}
use Rattle.java_grammar.specs.Expressions.{ranks, HasExpression}
use Rattle.java_grammar.specs.ReadingExpressions.{expression_at}
use Rattle.java_grammar.proofs.ExpressionLaws.{Follow}
use Rattle.java_grammar.proofs.NestLaws.{expression_reads}
use Rattle.java_grammar.proofs.Whole.{whole_found}
use Rattle.java_parser.proofs.KeptLaws.{is_only, is_refused, is_kept}
use Rattle.java_parser.proofs.parser.parse_expression.Goals as goal

pub returns-in-Ok-clause-found : goal.returns-in-Ok-clause-found
returns-in-Ok-clause-found c = whole_found (HasExpression 64) (Follow ranks) (expression_at 64) (expression_reads 64) refl (all_strict c.args.tokens.now.list) (expression c.in-Ok.expression) (subst (λ (ts : List Token). whole (expression_at 64) (all_strict ts) ≡ Ok (expression c.in-Ok.expression)) c.as_slice.ensures c.in-Ok.ensures)

pub returns-in-Ok-clause-only : goal.returns-in-Ok-clause-only
returns-in-Ok-clause-only c x has = is_only (HasExpression 64) (Follow ranks) (expression_at 64) (expression_reads 64) refl c.args.tokens.now.list (expression c.in-Ok.expression) x (subst (λ (ts : List Token). whole (expression_at 64) (all_strict ts) ≡ Ok (expression c.in-Ok.expression)) c.as_slice.ensures c.in-Ok.ensures) has

pub returns-in-Err-clause-only : goal.returns-in-Err-clause-only
returns-in-Err-clause-only c x has = rw c.fail.ensures (is_refused (HasExpression 64) (Follow ranks) (expression_at 64) (expression_reads 64) refl c.args.tokens.now c.in-Err.error x (subst (λ (ts : List Token). Fails c.in-Err.error (whole (expression_at 64) (all_strict ts))) c.as_slice.ensures c.in-Err.ensures) has)

pub returns-in-Err-clause-fault : goal.returns-in-Err-clause-fault
returns-in-Err-clause-fault c = rw c.fail.ensures (is_kept (HasExpression 64) (Follow ranks) (expression_at 64) (expression_reads 64) refl c.args.tokens.now c.in-Err.error (subst (λ (ts : List Token). Fails c.in-Err.error (whole (expression_at 64) (all_strict ts))) c.as_slice.ensures c.in-Err.ensures))
