use Rattle.std.proofs.Common.{ap, ◌∙◌}
use Rattle.java_ast.specs.Reading.{program as plain_program}
use Rattle.qbs.proofs.Made.{sample_plain, sample_typed, sample_made}
use Rattle.qbs.proofs.make.plan_make.Goals as goal

pub plan_program-requires-clause-typed : goal.plan_program-requires-clause-typed
plan_program-requires-clause-typed c = sample_typed c.in_ok-schema.schema (plain_program c.of-typed.result.program) c.in_ok-schema.ensures (ap plain_program c.of-typed.ensures ∙ c.in_ok-class.ensures)

pub plan_program-requires-clause-plain : goal.plan_program-requires-clause-plain
plan_program-requires-clause-plain c = sample_plain (plain_program c.of-typed.result.program) (ap plain_program c.of-typed.ensures ∙ c.in_ok-class.ensures)

pub returns : goal.returns
returns c =
    sample_made c.in_ok-schema.schema c.in_ok-db.db (plain_program c.of-typed.result.program) c.args.n c.plan_program.result
    c.in_ok-schema.ensures c.in_ok-db.ensures.exact (ap plain_program c.of-typed.ensures ∙ c.in_ok-class.ensures) c.plan_program.ensures
