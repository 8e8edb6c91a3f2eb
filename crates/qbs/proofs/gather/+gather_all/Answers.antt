use Rattle.qbs.proofs.Gathering.{parts_joined}
use Rattle.qbs.proofs.gather.+gather_all.Goals as goal

pub returns-clause-gathers : goal.returns-clause-gathers
returns-clause-gathers t c =
    parts_joined c.args.schema.now c.args.size c.args.searches.now c.split_at.result.0.now c.split_at.result.1.now _ c.args.bank.now c.gather_all.new.bank c.gather_all-2.new.bank c.gather_all-2.result c.split_at.ensures.front c.split_at.ensures.back
    c.in_ok-gather_all.ensures.gathers c.gather_all-2.ensures.gathers
