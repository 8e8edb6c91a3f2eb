use Rattle.std.specs.List.{list_any}
use Rattle.std.proofs.Common.{◌≡◌, drop, map}
use Rattle.loop_text.specs.Sites.Indexed.{ends_elsewhere}
use Rattle.loop_text.specs.Sites.Reading.{site_of}
use Rattle.loop_text.proofs.updates.targets.some_ends_elsewhere.Given as goal

abbrev pub invariant-loop-l : goal.invariant-loop-l
invariant-loop-l l = list_any (ends_elsewhere (map site_of l.all) l.n) (drop l.l-index l.loops) ≡ list_any (ends_elsewhere (map site_of l.all) l.n) l.loops
