use Rattle.view_spell.proofs.Apart.{apart_without}
use Rattle.view_spell.proofs.spelled.leave_out.Goals as goal

pub returns-clause-apart : goal.returns-clause-apart
returns-clause-apart c = λ from to h. apart_without c.args.spelled.now.items c.args.number from to c.requires h
