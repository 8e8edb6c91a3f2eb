use Rattle.kept_texts.proofs.Readings.{some_program, one_program}
use Rattle.kept_texts.proofs.reading.has_program.Goals as goal

pub returns-clause-some : goal.returns-clause-some
returns-clause-some c = some_program c.args.text.now c.in_ok-program.program c.is_some.result c.in_ok-program.ensures.only c.is_some.ensures

pub returns-clause-one : goal.returns-clause-one
returns-clause-one c = one_program c.args.text.now c.in_ok-program.program c.in_ok-program.ensures.only
