use Rattle.std.proofs.Common.{◌≡◌, ◌++◌, drop, reverse}
use Rattle.view_items.specs.Brackets.{rounds_from, rounds_of}
use Rattle.view_items.proofs.brackets.rounds.Given as goal

abbrev pub invariant-loop-number : goal.invariant-loop-number
invariant-loop-number l = l.numbers ++ rounds_from (reverse l.opened.items) l.number (drop l.number l.items) ≡ rounds_of l.items
