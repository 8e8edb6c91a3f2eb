use Rattle.dump_schema.proofs.Sound.{all_declare, all_sound}
use Rattle.dump_schema.proofs.drawn.drawn_of.Goals as goal

pub returns-clause-declared : goal.returns-clause-declared
returns-clause-declared c = all_declare c.exactly_drawn.result (λ d. d.value.text) c.args.choice.now c.args.tables.now c.exactly_drawn.ensures.text

pub returns-clause-sound : goal.returns-clause-sound
returns-clause-sound c = all_sound c.exactly_drawn.result c.args.choice.now c.args.tables.now
