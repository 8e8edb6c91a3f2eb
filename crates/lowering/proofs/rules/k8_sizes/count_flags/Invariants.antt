use Rattle.std.proofs.Common.{◌≡◌, ◌+◌, ◌≤◌, drop, map}
use Rattle.java_loops.specs.Lowering.Numbering as specs
use Rattle.loop_text.specs.Sites.Reading.{site_of}
use Rattle.lowering.proofs.rules.k8_sizes.count_flags.Given as goal

abbrev pub invariant-loop-n : goal.invariant-loop-n
invariant-loop-n l = (l.count ≤ l.n) × (l.count + specs.count_flags (map site_of (drop l.n l.all)) ≡ specs.count_flags (map site_of l.all))
