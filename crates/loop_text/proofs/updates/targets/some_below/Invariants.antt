use Rattle.std.specs.List.{list_any}
use Rattle.std.proofs.Common.{◌≡◌, drop, nat_lt}
use Rattle.loop_text.proofs.updates.targets.some_below.Given as goal

abbrev pub invariant-loop-m : goal.invariant-loop-m
invariant-loop-m l = list_any (λ m. nat_lt m l.n) (drop l.m-index l.numbers) ≡ list_any (λ m. nat_lt m l.n) l.numbers
