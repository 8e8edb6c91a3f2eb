use Rattle.std.proofs.Common.{◌≡◌, ◌+◌, ◌≤◌, ◌++◌, drop, map, length}
use Rattle.std.specs.List.{filter}
use Rattle.loop_text.specs.Sites.Reading.{site_of}
use Rattle.lowering.specs.InCode.Tallied.{is_flag_site, passed_before}
use Rattle.lowering.proofs.numbering.tally.flags_before.Given as goal

abbrev pub invariant-loop-n : goal.invariant-loop-n
invariant-loop-n l =
    (l.count ≤ l.n)
    × (l.count + length (filter is_flag_site (map site_of (drop l.n l.w.sites.now))) ≡ length (filter is_flag_site (map site_of l.w.sites.now)))
    × (l.before ++ passed_before is_flag_site l.count (map site_of (drop l.n l.w.sites.now)) ≡ passed_before is_flag_site 0 (map site_of l.w.sites.now))
