use Rattle.std.proofs.Common.{◌≡◌, map, take}
use Rattle.kernel_lang.specs.Plain.{accumulator}
use Rattle.kernel_copies.proofs.accumulators.copy_accumulators.Given as goal

abbrev pub invariant-loop-acc : goal.invariant-loop-acc
invariant-loop-acc l = map accumulator l.copies ≡ map accumulator (take l.acc-index l.accs)
