use Rattle.std.proofs.Common.{Option, subst}
use Rattle.java_ast.specs.Reading.{program as plain_program}
use Rattle.java_mean.specs.Numbers.{NumbersFit}
use Rattle.rewrite_core.specs.declared.outcome.GivesWay.{GivesWay}
use Rattle.rewrite_core.specs.Outcome.{program_with}
use Rattle.rewrite_core.proofs.unnesting.pass.Goals as goal

pub put_others-requires-clause-numbers : goal.put_others-requires-clause-numbers
put_others-requires-clause-numbers c q next = subst (λ (x : Option GivesWay). NumbersFit (program_with x q (plain_program c.args.stage.value.typed.program))) c.in-Some.is (c.requires.numbers q next)
