use Rattle.std.proofs.Common.{length}
use Rattle.qbs.proofs.Leaving.{answers_fewer, apart_fewer}
use Rattle.qbs.proofs.written.settle.Goals as goal

pub returns-clause-left : goal.returns-clause-left
returns-clause-left c = λ seen k ss ps. answers_fewer c.settle_fewer.result c.args.spelled seen k ss ps c.settle_fewer.ensures.fewer

pub returns-clause-apart : goal.returns-clause-apart
returns-clause-apart c = apart_fewer c.settle_fewer.result c.args.spelled (length c.args.source.now.bytes.now) c.settle_fewer.ensures.fewer
