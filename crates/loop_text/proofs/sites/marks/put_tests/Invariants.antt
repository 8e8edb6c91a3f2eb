use Rattle.std.specs.List.{list_any}
use Rattle.std.proofs.Common.{◌≡◌, ◌||◌, ℕ, drop, map, nat_eq}
use Rattle.loop_text.specs.Sites.Reading.{test_of}
use Rattle.loop_text.specs.Sites.Sites.{Test, has_number}
use Rattle.loop_text.proofs.sites.marks.put_tests.Given as goal

abbrev pub invariant-loop-t : goal.invariant-loop-t
invariant-loop-t l = (i : ℕ) → (has_number l.found i || list_any (λ (t : Test). nat_eq i t.number) (map test_of (drop l.t-index l.tests))) ≡ (has_number l.fn.found i || list_any (λ (t : Test). nat_eq i t.number) (map test_of l.tests))
