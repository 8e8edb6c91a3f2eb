use Rattle.std.specs.Prelude.{nat_eq}
use Rattle.std.specs.List.{filter, list_any}
use Rattle.std.proofs.Common.{◌≡◌, drop, map, length}
use Rattle.loop_text.specs.Sites.Reading.{round_of, test_of}
use Rattle.loop_text.specs.Sites.Sites.{Test, inner_tests}
use Rattle.loop_text.proofs.conditions.leaves.is_inner_test.Given as goal

abbrev pub invariant-loop-t : goal.invariant-loop-t
invariant-loop-t l = list_any (λ (t : Test). nat_eq l.number t.number) (filter (λ (t : Test). nat_eq t.level (length l.r.loops)) (map test_of (drop l.t-index l.r.tests))) ≡ list_any (λ (t : Test). nat_eq l.number t.number) (inner_tests (round_of l.r))
