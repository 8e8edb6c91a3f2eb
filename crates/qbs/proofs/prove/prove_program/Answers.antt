use Rattle.java_ast.specs.Reading.{program as plain_program}
use Rattle.deriv_check.specs.Bundles.{entries_of}
use Rattle.qbs.proofs.Proved.{proven_as}
use Rattle.qbs.proofs.Rewrote.{is_source}
use Rattle.qbs.proofs.prove.prove_program.Goals as goal

pub rewrite_past_store-requires-clause-source : goal.rewrite_past_store-requires-clause-source
rewrite_past_store-requires-clause-source g c = is_source c.args.schema.now c.args.source.now (plain_program c.args.typed.now.program) c.requires.program

pub returns : goal.returns
returns g c =
    let r = c.in_ok-rewritten.ensures in
    let done = c.in_ok-rewritten.rewritten in
    proven_as _ c.args.schema.now c.size_of-size.result c.budget_of-budget.result c.args.source.now (plain_program c.args.typed.now.program) (plain_program done.program) (entries_of done.bundle) done.verdicts done.dropped _ _ _
    c.size_of-size.ensures.is c.budget_of-budget.ensures.is c.size_of-size.ensures.within c.budget_of-budget.ensures.within
    c.requires.short c.requires.program
    r.exact r.verdicts r.bundle r.dropped r.typed r.keeps r.standing c.in_ok-bundle.ensures
