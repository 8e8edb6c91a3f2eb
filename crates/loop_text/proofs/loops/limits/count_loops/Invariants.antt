use Rattle.std.proofs.Common.{◌≡◌, ◌+◌, ◌≤◌, drop, map}
use Rattle.loop_text.specs.Kernel.KernelLists as specs
use Rattle.loop_text.specs.Sites.Reading.{site_of}
use Rattle.loop_text.proofs.loops.limits.count_loops.Given as goal

abbrev pub invariant-loop-n : goal.invariant-loop-n
invariant-loop-n l = (l.count ≤ l.n) × (l.count + specs.count_loops (map site_of (drop l.n l.all)) ≡ specs.count_loops (map site_of l.all))
