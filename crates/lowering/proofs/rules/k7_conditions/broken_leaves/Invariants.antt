use Rattle.std.proofs.Common.{◌≡◌, drop}
use Rattle.java_loops.specs.Kernel.KernelConditions.{broken_leaves}
use Rattle.loop_text.specs.Sites.Reading.{exprs_lent}
use Rattle.lowering.specs.InCode.Reading.{setting_in_code}
use Rattle.lowering.proofs.rules.k7_conditions.broken_leaves.Given as goal

abbrev pub invariant-loop-e : goal.invariant-loop-e
invariant-loop-e l = broken_leaves (setting_in_code l.w) l.n (exprs_lent (drop l.e-index l.leaves)) ≡ broken_leaves (setting_in_code l.w) l.n (exprs_lent l.leaves)
