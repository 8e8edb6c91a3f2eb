use Rattle.std.proofs.Common.{◌≡◌, ◌++◌, ℕ, drop, map}
use Rattle.loop_text.specs.Sites.Groups.{under_number}
use Rattle.loop_text.specs.Sites.Indexed.{passing, ends}
use Rattle.loop_text.specs.Sites.Reading.{site_of}
use Rattle.loop_text.proofs.sites.marks.breaks_of.Given as goal

abbrev pub invariant-loop-n : goal.invariant-loop-n
invariant-loop-n l = (k : ℕ) → under_number l.found k ++ passing (ends k) l.n (map site_of (drop l.n l.all)) ≡ passing (ends k) 0 (map site_of l.all)
