use Rattle.std.specs.Prelude.{nat_eq}
use Rattle.std.specs.List.{filter, flat_map}
use Rattle.std.proofs.Common.{◌≡◌, ◌++◌, drop, map, length}
use Rattle.loop_text.specs.Kernel.KernelForms.{best_claims, mentioning}
use Rattle.loop_text.specs.Sites.Reading.{found_in_code, round_of, test_of}
use Rattle.loop_text.specs.Sites.Sites.{Test}
use Rattle.loop_text.proofs.updates.best.best_claims.Given as goal

abbrev pub invariant-loop-t : goal.invariant-loop-t
invariant-loop-t l = map found_in_code l.found ++ flat_map (mentioning l.m) (filter (λ (t : Test). nat_eq t.level (length l.r.loops)) (map test_of (drop l.t-index l.r.tests))) ≡ best_claims l.m (round_of l.r)
