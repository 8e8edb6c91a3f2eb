use Rattle.std.proofs.Common.{◌≡◌, ◌++◌, drop}
use Rattle.kernel_lang.specs.Paths.{each_with}
use Rattle.vc_gen.proofs.paths.each_with.Given as goal

abbrev pub invariant-loop-p : goal.invariant-loop-p
invariant-loop-p l = l.all ++ each_with (drop l.p-index l.ps) l.qs ≡ each_with l.ps l.qs
