use Rattle.std.proofs.Common.{◌≡◌}
use Rattle.java_steps.proofs.gather.+gather_block.Given as goal

abbrev pub invariant-gather-loop-s : goal.invariant-gather-loop-s
invariant-gather-loop-s l = l.queries.schema ≡ l.initial.queries.schema
