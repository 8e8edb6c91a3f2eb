use Rattle.std.proofs.Common.{◌+◌, List, drop, sym, ap, ◌∙◌}
use Rattle.java_ast.specs.declared.tree.Stmt.{Stmt}
use Rattle.java_ast.specs.Reading.{spelled, statement, statements}
use Rattle.java_calls.specs.Inlining.{declared_type}
use Rattle.call_rules.proofs.Numbers.{drop_item}
use Rattle.inlining.proofs.Arguments.{declared_here, declared_step}
use Rattle.inlining.proofs.helper.declared_type.Goals as goal

pub returns-in-Some : goal.returns-in-Some
returns-in-Some c =
    sym (declared_here c.args.x.now (statement c.s-item.result) (statements (drop (c.loop-s.s-index + 1) c.args.body.now)) (spelled c.in-Some.ty.now) (sym c.in-Some.ensures))
    ∙ ap (λ (l : List Stmt). declared_type c.args.x.now (statements l)) (sym (drop_item c.args.body.now c.loop-s.s-index c.s-item.result c.loop-s-test.true c.s-item.is))
    ∙ c.loop-s.invariant

pub loop-s-preserved : goal.loop-s-preserved
loop-s-preserved c = declared_step c.args.x.now c.args.body.now c.loop-s.s-index c.s-item.result (declared_type c.args.x.now (statements c.args.body.now)) c.loop-s-test.true c.s-item.is (sym c.in_default.ensures) c.loop-s.invariant
