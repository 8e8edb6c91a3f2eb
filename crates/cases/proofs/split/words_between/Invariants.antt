use Rattle.std.proofs.Common.{◌≡◌, map}
use Rattle.cases.proofs.split.words_between.Given as goal

abbrev pub invariant-loop-word : goal.invariant-loop-word
invariant-loop-word l = l.words.items ≡ map (λ x. x.now) l.yielded
