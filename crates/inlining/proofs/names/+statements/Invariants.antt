use Rattle.std.proofs.Common.{◌≡◌, drop}
use Rattle.java_ast.specs.Reading.{statements}
use Rattle.java_calls.specs.ProgramNames.{block_names}
use Rattle.inlining.specs.Endings.{all_noted}
use Rattle.inlining.proofs.names.+statements.Given as goal

abbrev pub invariant-note_block-loop-s : goal.invariant-note_block-loop-s
invariant-note_block-loop-s l = all_noted l.tails (block_names (statements (drop l.s-index l.block))) ≡ all_noted l.fn.tails (block_names (statements l.block))
