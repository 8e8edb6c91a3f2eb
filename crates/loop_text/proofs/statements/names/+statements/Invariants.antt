use Rattle.std.proofs.Common.{◌≡◌, drop}
use Rattle.java_ast.specs.Reading.{statements}
use Rattle.java_ast.specs.Names.{is_among, mentioned_among}
use Rattle.loop_text.proofs.statements.names.+statements.Given as goal

abbrev pub invariant-block_mentions-loop-s : goal.invariant-block_mentions-loop-s
invariant-block_mentions-loop-s l = is_among (mentioned_among (statements (drop l.s-index l.block))) l.x ≡ is_among (mentioned_among (statements l.block)) l.x
