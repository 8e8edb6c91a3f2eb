use Rattle.java_ast.specs.Reading.{program as plain_program}
use Rattle.qbs.proofs.Readable.{is_read_again}
use Rattle.qbs.proofs.Rewrote.{is_source, rewrote_as}
use Rattle.qbs.proofs.rewrite.plan_program.Goals as goal

pub rewrite_past_store-requires-clause-source : goal.rewrite_past_store-requires-clause-source
rewrite_past_store-requires-clause-source g c = is_source c.args.schema.now c.args.source.now (plain_program c.args.typed.now.program) c.requires.program

pub returns : goal.returns
returns g c =
    let r = c.in_ok-rewritten.ensures in
    let done = c.in_ok-rewritten.rewritten in
    rewrote_as _ c.args.schema.now c.size_of-size.result _ c.budget_of-budget.result _ c.args.source.now (plain_program c.args.typed.now.program) (plain_program done.program) done.text done.verdicts done.dropped _
    c.size_of-size.ensures.is c.budget_of-budget.ensures.is
    r.exact r.verdicts r.dropped r.typed r.keeps r.standing r.text
    (is_read_again c.args.schema.now done.text c.as_slice.result.now (plain_program done.program) r.read_back c.as_slice.ensures c.in_ok-read_again.ensures) c.in_ok-plan_left.ensures
