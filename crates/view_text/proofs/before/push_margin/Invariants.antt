use Rattle.std.proofs.Common.{◌≡◌, ◌++◌}
use Rattle.view_text.specs.Layout.{margin}
use Rattle.view_text.proofs.before.push_margin.Given as goal

abbrev pub invariant-loop : goal.invariant-loop
invariant-loop l = l.out.items ≡ l.initial.out.items ++ margin l.counter
