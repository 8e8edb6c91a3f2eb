use Rattle.std.proofs.Common.{◌≡◌, ◌++◌, ℕ, List, drop, map}
use Rattle.loop_text.specs.Sites.Groups.{under_name}
use Rattle.loop_text.specs.Sites.Indexed.{passing}
use Rattle.loop_text.specs.Kernel.KernelStarts.{updates_name}
use Rattle.loop_text.specs.Sites.Reading.{site_of}
use Rattle.loop_text.proofs.sites.marks.updates_of.Given as goal

abbrev pub invariant-loop-n : goal.invariant-loop-n
invariant-loop-n l = (x : List ℕ) → under_name l.found x ++ passing (updates_name x) l.n (map site_of (drop l.n l.all)) ≡ passing (updates_name x) 0 (map site_of l.all)
