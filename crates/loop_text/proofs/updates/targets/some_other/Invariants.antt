use Rattle.std.specs.List.{list_any}
use Rattle.std.proofs.Common.{◌≡◌, drop}
use Rattle.loop_text.specs.Sites.Indexed.{is_other}
use Rattle.loop_text.proofs.updates.targets.some_other.Given as goal

abbrev pub invariant-loop-m : goal.invariant-loop-m
invariant-loop-m l = list_any (is_other l.n) (drop l.m-index l.numbers) ≡ list_any (is_other l.n) l.numbers
