use Rattle.std.proofs.Common.{◌≡◌, drop}
use Rattle.java_ast.specs.Reading.{expressions}
use Rattle.java_loops.specs.Kernel.KernelConditions.{are_entries}
use Rattle.lowering.specs.InCode.Reading.{setting_in_code}
use Rattle.lowering.proofs.rules.k7_operands.are_entries.Given as goal

abbrev pub invariant-loop-e : goal.invariant-loop-e
invariant-loop-e l = are_entries (setting_in_code l.w) l.n (expressions (drop l.e-index l.es)) ≡ are_entries (setting_in_code l.w) l.n (expressions l.es)
