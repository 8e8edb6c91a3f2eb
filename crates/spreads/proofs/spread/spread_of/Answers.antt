use Rattle.std.specs.Option.{option_map}
use Rattle.std.proofs.lemmas.Result.{IfOk-weaker}
use Rattle.java_ast.specs.Reading.{statement}
use Rattle.java_types.specs.Texts.{read_by}
use Rattle.spreads.proofs.Walked.{spread_of_code}
use Rattle.spreads.proofs.spread.spread_of.Goals as goal

pub returns-in-ForEach : goal.returns-in-ForEach
returns-in-ForEach c =
    IfOk-weaker c.walk_spread.result _ _
    (λ o h.
    spread_of_code c.args.schema.now (read_by c.args.schema.now) c.args.loop_statement.now c.in-ForEach.ty c.in-ForEach.name c.in-ForEach.list c.in-ForEach.body c.deref.result.now (option_map (λ b. statement b.value) o)
    c.in-ForEach.is c.deref.ensures.value h)
    c.walk_spread.ensures
