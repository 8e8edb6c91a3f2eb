use Rattle.std.specs.Prelude.{nat_le}
use Rattle.std.specs.List.{filter}
use Rattle.std.proofs.Common.{◌≡◌, ◌+◌, ◌≤◌, drop, map, length}
use Rattle.loop_text.specs.Sites.Reading.{test_of}
use Rattle.loop_text.specs.Sites.Sites.{Test}
use Rattle.loop_text.proofs.updates.fitting.tests_within.Given as goal

abbrev pub invariant-loop-i : goal.invariant-loop-i
invariant-loop-i l = (l.count ≤ l.i) × (l.count + length (filter (λ (t : Test). nat_le t.level l.level) (map test_of (drop l.i l.tests))) ≡ length (filter (λ (t : Test). nat_le t.level l.level) (map test_of l.tests)))
