use Rattle.std.specs.List.{list_any}
use Rattle.std.proofs.Common.{◌≡◌, drop, map}
use Rattle.loop_text.specs.Sites.Indexed.{takes_at}
use Rattle.loop_text.specs.Sites.Reading.{site_of}
use Rattle.loop_text.proofs.conditions.leaves.some_takes_under.Given as goal

abbrev pub invariant-loop-n : goal.invariant-loop-n
invariant-loop-n l = list_any (takes_at (map site_of l.all) l.number) (drop l.n-index l.updates) ≡ list_any (takes_at (map site_of l.all) l.number) l.updates
