use Rattle.std.proofs.Common.{◌≡◌, drop, map}
use Rattle.loop_text.specs.Sites.Reading.{site_of}
use Rattle.loop_text.specs.Kernel.KernelStarts.{broken_flag_start}
use Rattle.loop_text.specs.Sites.Sites.{first_broken}
use Rattle.loop_text.proofs.updates.starts.first_flag_start.Given as goal

abbrev pub invariant-loop-d : goal.invariant-loop-d
invariant-loop-d l = first_broken (broken_flag_start (map site_of l.all)) l.d (map site_of (drop l.d l.all)) ≡ first_broken (broken_flag_start (map site_of l.all)) 0 (map site_of l.all)
