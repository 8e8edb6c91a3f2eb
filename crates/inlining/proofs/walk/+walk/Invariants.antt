use Rattle.std.proofs.Common.{◌+◌, ◌*◌, drop}
use Rattle.java_ast.specs.Reading.{statements, program}
use Rattle.renamed_copies.specs.Renamings.{renaming_of}
use Rattle.inlining.proofs.Pushing.{IsSoFar}
use Rattle.inlining.proofs.walk.+walk.Given as goal

abbrev pub decreases-walk_alone : goal.decreases-walk_alone
decreases-walk_alone l = l.room * 1048576 + l.counts.now.left * 8 + 5

abbrev pub decreases-walk_body : goal.decreases-walk_body
decreases-walk_body l = l.room * 1048576 + l.counts.now.left * 8

abbrev pub decreases-walk_block : goal.decreases-walk_block
decreases-walk_block l = l.room * 1048576 + l.counts.now.left * 8 + 4

abbrev pub decreases-walk_statement : goal.decreases-walk_statement
decreases-walk_statement l = l.room * 1048576 + l.counts.now.left * 8 + 2

abbrev pub decreases-walk_if : goal.decreases-walk_if
decreases-walk_if l = l.room * 1048576 + l.counts.now.left * 8 + 1

abbrev pub decreases-walk_if_else : goal.decreases-walk_if_else
decreases-walk_if_else l = l.room * 1048576 + l.counts.now.left * 8 + 1

abbrev pub decreases-walk_for_each : goal.decreases-walk_for_each
decreases-walk_for_each l = l.room * 1048576 + l.counts.now.left * 8 + 1

abbrev pub decreases-walk_while : goal.decreases-walk_while
decreases-walk_while l = l.room * 1048576 + l.counts.now.left * 8 + 1

abbrev pub decreases-walk_giving : goal.decreases-walk_giving
decreases-walk_giving l = l.room * 1048576 + l.counts.now.left * 8 + 1

abbrev pub decreases-walk_call : goal.decreases-walk_call
decreases-walk_call l = l.room * 1048576 + l.counts.now.left * 8

abbrev pub decreases-walk_helper : goal.decreases-walk_helper
decreases-walk_helper l = l.room * 1048576 + l.counts.now.left * 8 + 5

abbrev pub invariant-walk_block-loop-s : goal.invariant-walk_block-loop-s
invariant-walk_block-loop-s l = IsSoFar l.room (program l.class) (renaming_of l.f) (statements l.block) (statements (drop l.s-index l.block)) l.fn.counts l.counts (statements l.fn.out.items) (statements l.out.items)
