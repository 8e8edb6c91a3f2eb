use Rattle.std.proofs.Common.{◌≡◌, ◌||◌, ℕ, drop, map}
use Rattle.loop_text.specs.Kernel.KernelConditions.{updates_flag_under}
use Rattle.loop_text.specs.Sites.Reading.{site_of}
use Rattle.loop_text.specs.Sites.Sites.{has_number, any_site}
use Rattle.loop_text.proofs.sites.marks.guards_of.Given as goal

abbrev pub invariant-loop-n : goal.invariant-loop-n
invariant-loop-n l = (i : ℕ) → (has_number l.found i || any_site (updates_flag_under (map site_of l.all) i) l.n (map site_of (drop l.n l.all))) ≡ any_site (updates_flag_under (map site_of l.all) i) 0 (map site_of l.all)
