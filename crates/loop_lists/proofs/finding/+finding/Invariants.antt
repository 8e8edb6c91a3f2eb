use Rattle.std.proofs.Common.{◌≡◌, drop}
use Rattle.java_ast.specs.Reading.{statements}
use Rattle.loop_lists.specs.Finding.{first_among}
use Rattle.loop_lists.proofs.finding.+finding.Given as goal

abbrev pub invariant-find_in_block-loop-i : goal.invariant-find_in_block-loop-i
invariant-find_in_block-loop-i l = first_among l.line l.column l.i (statements (drop l.i l.block)) ≡ first_among l.line l.column 0 (statements l.block)
