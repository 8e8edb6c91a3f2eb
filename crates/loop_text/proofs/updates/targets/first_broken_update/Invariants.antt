use Rattle.std.proofs.Common.{◌≡◌, drop, map}
use Rattle.loop_text.specs.Kernel.KernelStatements.{broken_update}
use Rattle.loop_text.specs.Sites.Reading.{site_of}
use Rattle.loop_text.specs.Sites.Sites.{first_broken}
use Rattle.loop_text.proofs.updates.targets.first_broken_update.Given as goal

abbrev pub invariant-loop-n : goal.invariant-loop-n
invariant-loop-n l = first_broken (broken_update (map site_of l.all)) l.n (map site_of (drop l.n l.all)) ≡ first_broken (broken_update (map site_of l.all)) 0 (map site_of l.all)
