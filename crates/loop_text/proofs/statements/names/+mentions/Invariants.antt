use Rattle.std.proofs.Common.{◌≡◌, drop}
use Rattle.java_ast.specs.Reading.{expressions}
use Rattle.java_ast.specs.Names.{is_among, names_among}
use Rattle.loop_text.proofs.statements.names.+mentions.Given as goal

abbrev pub invariant-some_mentions-loop-e : goal.invariant-some_mentions-loop-e
invariant-some_mentions-loop-e l = is_among (names_among (expressions (drop l.e-index l.es))) l.x ≡ is_among (names_among (expressions l.es)) l.x
