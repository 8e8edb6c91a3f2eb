use Rattle.std.proofs.Common.{◌≡◌, drop, map}
use Rattle.loop_text.specs.Sites.Reading.{site_of}
use Rattle.loop_text.specs.Kernel.KernelStarts.{first_site, update_of_flag}
use Rattle.loop_text.specs.Kernel.KernelStatements.{updates_local}
use Rattle.lowering.proofs.lowering.accumulated.update_of_flag.Given as goal

abbrev pub invariant-loop-number : goal.invariant-loop-number
invariant-loop-number l = first_site (updates_local (map site_of l.all) l.d) l.number (map site_of (drop l.number l.all)) ≡ update_of_flag (map site_of l.all) l.d
