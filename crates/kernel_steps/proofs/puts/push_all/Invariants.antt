use Rattle.std.proofs.Common.{◌≡◌, ◌++◌, take}
use Rattle.kernel_steps.proofs.puts.push_all.Given as goal

abbrev pub invariant-loop-x : goal.invariant-loop-x
invariant-loop-x l = l.all ≡ l.initial.all ++ take l.x-index l.values
