use Rattle.std.proofs.Common.{◌≡◌, drop, map}
use Rattle.loop_text.specs.Sites.Reading.{site_of}
use Rattle.loop_text.specs.Kernel.KernelStarts.{first_site, update_of, updates_name}
use Rattle.lowering.proofs.lowering.accumulated.update_of.Given as goal

abbrev pub invariant-loop-number : goal.invariant-loop-number
invariant-loop-number l = first_site (updates_name l.x) l.number (map site_of (drop l.number l.all)) ≡ update_of (map site_of l.all) l.x
