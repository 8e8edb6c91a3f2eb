use Rattle.std.proofs.Common.{◌≡◌, ◌++◌, drop}
use Rattle.std.specs.List.{flat_map}
use Rattle.std.specs.String.{string_bytes}
use Rattle.deriv_check.specs.Texts.{right_text}
use Rattle.deriv_check.proofs.print.push_right.Given as goal

-- what is written and the text of what is left is the text of all
abbrev pub invariant-loop-step : goal.invariant-loop-step
invariant-loop-step l = string_bytes l.out ++ flat_map right_text (drop l.step-index l.steps) ≡ string_bytes l.fn.out ++ flat_map right_text l.steps
