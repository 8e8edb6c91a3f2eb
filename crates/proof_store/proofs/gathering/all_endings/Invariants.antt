use Rattle.std.proofs.Common.{◌≡◌, map, take}
use Rattle.kernel_lang.specs.Whole.{fragment_of}
use Rattle.small_dbs.specs.Endings.{ending}
use Rattle.proof_store.proofs.gathering.all_endings.Given as goal

abbrev pub invariant-loop-small : goal.invariant-loop-small
invariant-loop-small l = l.all ≡ map (ending (fragment_of l.frag)) (take l.small-index l.smalls)
