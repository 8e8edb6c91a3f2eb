use Rattle.java_steps.proofs.Numbering.{names_again, noted_again}
use Rattle.java_steps.proofs.numbers.Numbers.note_name.Goals as goal

pub returns-in-Ok-clause-names : goal.returns-in-Ok-clause-names
returns-in-Ok-clause-names c =
    names_again c.note.result c.self.inside.names.keys c.insert_full.new.self.keys c.self.inside.places.items c.args.self.now c.as_slice.result c.args.name.now c.self.view_is c.as_slice.ensures c.note.new.self.names c.in-Ok.ensures.keys c.note.ensures.names

pub returns-in-Ok-clause-at : goal.returns-in-Ok-clause-at
returns-in-Ok-clause-at c =
    noted_again c.note.result c.self.inside.names.keys c.insert_full.new.self.keys c.self.inside.places.items c.args.self.now c.as_slice.result c.args.name.now c.self.view_is c.as_slice.ensures c.note.new.self c.args.at.start c.in-Ok.number c.in-Ok.ensures.index c.note.ensures.at
