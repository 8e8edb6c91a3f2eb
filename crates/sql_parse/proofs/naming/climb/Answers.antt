use Rattle.std.proofs.Common.{sym, ap, ◌∙◌, arith}
use Rattle.sql_ast.specs.Reading.{condition}
use Rattle.sql_parse.specs.Steps.{climbed}
use Rattle.sql_parse.proofs.Climbing.{climbed_last, climbed_empty}
use Rattle.sql_parse.proofs.naming.climb.Goals as goal

pub loop-last-preserved : goal.loop-last-preserved
loop-last-preserved c =
    ap (climbed c.pop.new.self.items) c.in_ok-a.ensures
    ∙ sym (climbed_last c.pop.new.self.items c.loop-last.steps.items c.in-Some.last (condition c.loop-last.a.value) c.in-Some.ensures.items)
    ∙ c.loop-last.invariant

pub returns : goal.returns
returns c =
    sym (climbed_empty c.loop-last.steps.items (condition c.loop-last.a.value) (omega (arith, c.in_default.ensures.cases.0, c.loop-last.steps.ok.0)))
    ∙ c.loop-last.invariant
