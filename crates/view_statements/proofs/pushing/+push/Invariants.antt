use Rattle.std.proofs.Common.{◌≡◌, ◌++◌, drop}
use Rattle.view_rules.specs.Setting.{within_of}
use Rattle.view_statements.specs.Cells.{all_cells}
use Rattle.view_statements.specs.Reading.{statements}
use Rattle.view_statements.proofs.pushing.+push.Given as goal

abbrev pub invariant-put_statements-loop-st : goal.invariant-put_statements-loop-st
invariant-put_statements-loop-st l =
    l.cells ++ all_cells (within_of l.w) l.found (statements (drop l.st-index l.sts)) ≡ l.fn.cells ++ all_cells (within_of l.w) l.found (statements l.sts)
