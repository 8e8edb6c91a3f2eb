use Rattle.std.proofs.Common.{◌≡◌, ◌++◌, drop}
use Rattle.std.specs.List.{flat_map}
use Rattle.std.specs.String.{string_bytes}
use Rattle.deriv_check.specs.Texts.{further_text}
use Rattle.deriv_check.proofs.print.push_further.Given as goal

-- what is written and the text of what is left is the text of all
abbrev pub invariant-loop-number : goal.invariant-loop-number
invariant-loop-number l = string_bytes l.out ++ flat_map further_text (drop l.number-index l.numbers) ≡ string_bytes l.fn.out ++ flat_map further_text l.numbers
