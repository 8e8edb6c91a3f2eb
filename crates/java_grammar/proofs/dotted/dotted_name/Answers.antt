use Rattle.java_grammar.specs.Marks.{all_strict}
use Rattle.java_grammar.proofs.Dots.{same_line}
use Rattle.java_grammar.proofs.dotted.dotted_name.Goals as goal

pub returns : goal.returns
returns c = rw (same_line c.args.text.now c.args.star (all_strict c.args.tokens.now)) c.dotted_line.ensures
