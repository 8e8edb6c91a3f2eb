use Rattle.std.proofs.Common.{◌≡◌, drop}
use Rattle.java_ast.specs.Reading.{statements}
use Rattle.java_ast.specs.Names.{is_among, updated_among}
use Rattle.loop_text.proofs.conditions.operands.+updates.Given as goal

abbrev pub invariant-block_updates-loop-s : goal.invariant-block_updates-loop-s
invariant-block_updates-loop-s l = is_among (updated_among (statements (drop l.s-index l.block))) l.x ≡ is_among (updated_among (statements l.block)) l.x
