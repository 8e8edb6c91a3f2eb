use Rattle.std.proofs.Common.{arith}
use Rattle.java_ast.specs.Reading.{statements}
use Rattle.narrowing.proofs.Reasoned.{none_before, one_before}
use Rattle.narrowing.proofs.reasons.is_declared_before.Goals as goal

pub returns-then-number-eq0 : goal.returns-then-number-eq0
returns-then-number-eq0 c = none_before c.args.number (statements c.args.block.now) c.if-number-eq0.true

pub returns-else-number-eq0 : goal.returns-else-number-eq0
returns-else-number-eq0 c = one_before c.args.number (statements c.args.block.now) (statements c.behind.result.now) c.declares_fetch.result (omega arith) c.behind.ensures c.declares_fetch.ensures
