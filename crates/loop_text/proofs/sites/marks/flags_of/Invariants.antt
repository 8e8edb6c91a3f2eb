use Rattle.std.proofs.Common.{◌≡◌, ◌++◌, ℕ, drop, map}
use Rattle.loop_text.specs.Sites.Groups.{under_number}
use Rattle.loop_text.specs.Sites.Indexed.{passing}
use Rattle.loop_text.specs.Kernel.KernelStatements.{updates_local}
use Rattle.loop_text.specs.Sites.Reading.{site_of}
use Rattle.loop_text.proofs.sites.marks.flags_of.Given as goal

abbrev pub invariant-loop-n : goal.invariant-loop-n
invariant-loop-n l = (d : ℕ) → under_number l.found d ++ passing (updates_local (map site_of l.all) d) l.n (map site_of (drop l.n l.all)) ≡ passing (updates_local (map site_of l.all) d) 0 (map site_of l.all)
