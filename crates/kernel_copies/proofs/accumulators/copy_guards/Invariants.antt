use Rattle.std.proofs.Common.{◌≡◌, map, take}
use Rattle.kernel_lang.specs.Plain.{guard_of}
use Rattle.kernel_copies.proofs.accumulators.copy_guards.Given as goal

abbrev pub invariant-loop-guard : goal.invariant-loop-guard
invariant-loop-guard l = map guard_of l.copies ≡ map guard_of (take l.guard-index l.guards)
