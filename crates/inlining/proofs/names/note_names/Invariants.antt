use Rattle.std.proofs.Common.{◌≡◌, drop}
use Rattle.inlining.specs.Endings.{all_noted}
use Rattle.inlining.proofs.names.note_names.Given as goal

abbrev pub invariant-loop-name : goal.invariant-loop-name
invariant-loop-name l = all_noted l.tails (drop l.name-index l.names) ≡ all_noted l.fn.tails l.names
