use Rattle.std.proofs.Common.{◌≡◌, drop}
use Rattle.kernel_lang.specs.Given.{before}
use Rattle.kernel_interp.proofs.order.order.Given as goal

abbrev pub invariant-loop-key : goal.invariant-loop-key
invariant-loop-key l = before (drop l.key-index l.keys) l.r l.s ≡ before l.keys l.r l.s
