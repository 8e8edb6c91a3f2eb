use Rattle.std.proofs.Common.{◌≡◌, drop}
use Rattle.view_rules.specs.Setting.{within_of}
use Rattle.view_slices.specs.Slices.{got_by_some}
use Rattle.view_statements.specs.Reading.{statements}
use Rattle.view_slices.proofs.prints.+got.Given as goal

abbrev pub invariant-got_by_some-loop-st : goal.invariant-got_by_some-loop-st
invariant-got_by_some-loop-st l =
    got_by_some (within_of l.w) l.x (statements (drop l.st-index l.sts)) ≡ got_by_some (within_of l.w) l.x (statements l.sts)
