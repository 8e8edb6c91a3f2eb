use Rattle.java_ast.specs.Reading.{program as plain_program}
use Rattle.qbs.proofs.Readable.{is_read_again}
use Rattle.qbs.proofs.Rewrote.{is_source}
use Rattle.qbs.proofs.Unnesting.{unnests_found}
use Rattle.qbs.proofs.unnest.plan_program.Goals as goal

pub unnest_loops-requires-clause-source : goal.unnest_loops-requires-clause-source
unnest_loops-requires-clause-source c = is_source c.args.schema.now c.args.source.now (plain_program c.args.typed.now.program) c.requires.program

pub returns : goal.returns
returns c =
    let r = c.in_ok-unnesting.ensures in
    let done = c.in_ok-unnesting.unnesting in
    unnests_found c.args.schema.now c.size_of-size.result _ c.budget_of-budget.result _ c.args.source.now (plain_program c.args.typed.now.program) (plain_program done.program) done.text done.verdicts c.plan_left.result
    c.size_of-size.ensures.is c.budget_of-budget.ensures.is
    r.exact r.verdicts r.typed r.keeps r.text
    (is_read_again c.args.schema.now done.text c.as_slice.result.now (plain_program done.program) r.read_back c.as_slice.ensures c.in_ok-read_again.ensures) c.plan_left.ensures
