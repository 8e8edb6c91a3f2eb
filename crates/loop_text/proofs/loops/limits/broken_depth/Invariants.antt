use Rattle.std.proofs.Common.{◌≡◌, drop, map}
use Rattle.loop_text.specs.Kernel.KernelLists.{too_deep}
use Rattle.loop_text.specs.Sites.Reading.{site_of}
use Rattle.loop_text.specs.Sites.Sites.{first_broken}
use Rattle.loop_text.proofs.loops.limits.broken_depth.Given as goal

abbrev pub invariant-loop-n : goal.invariant-loop-n
invariant-loop-n l = first_broken too_deep l.n (map site_of (drop l.n l.all)) ≡ first_broken too_deep 0 (map site_of l.all)
