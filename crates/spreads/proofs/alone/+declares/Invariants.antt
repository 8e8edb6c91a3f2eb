use Rattle.std.proofs.Common.{◌≡◌, drop}
use Rattle.java_ast.specs.Reading.{statements}
use Rattle.java_ast.specs.Names.{is_among}
use Rattle.spreads.specs.Alone.{all_declared_within}
use Rattle.spreads.proofs.alone.+declares.Given as goal

abbrev pub invariant-block_declares-loop-s : goal.invariant-block_declares-loop-s
invariant-block_declares-loop-s l = is_among (all_declared_within (statements (drop l.s-index l.block))) l.x ≡ is_among (all_declared_within (statements l.block)) l.x
