use Rattle.std.proofs.Common.{◌≡◌, drop}
use Rattle.words.specs.Plain.{all_bare}
use Rattle.words.proofs.read.all_bare.Given as goal

abbrev pub invariant-loop-word : goal.invariant-loop-word
invariant-loop-word l = all_bare l.words ≡ all_bare (drop l.word-index l.words)
