use Rattle.std.proofs.Common.{◌≡◌, drop, map}
use Rattle.loop_text.specs.Kernel.KernelStatements.{is_idle_flag}
use Rattle.loop_text.specs.Sites.Reading.{site_of}
use Rattle.loop_text.specs.Sites.Sites.{any_site}
use Rattle.loop_text.proofs.updates.targets.has_idle_flag.Given as goal

abbrev pub invariant-loop-d : goal.invariant-loop-d
invariant-loop-d l = any_site (is_idle_flag (map site_of l.all)) l.d (map site_of (drop l.d l.all)) ≡ any_site (is_idle_flag (map site_of l.all)) 0 (map site_of l.all)
