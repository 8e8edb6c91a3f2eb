use Rattle.std.proofs.Common.{◌≡◌, drop}
use Rattle.view_statements.specs.Places.{frame_of}
use Rattle.view_statements.specs.Reading.{statements}
use Rattle.view_statements.specs.Statements.{statements_of}
use Rattle.view_statements.proofs.checking.+check.Given as goal

-- what is left gives what all gave
abbrev pub invariant-check_statements-loop-st : goal.invariant-check_statements-loop-st
invariant-check_statements-loop-st l =
    statements_of (frame_of l.f) l.p l.sight.items (statements (drop l.st-index l.sts)) l.j
    ≡ statements_of (frame_of l.f) l.p l.fn.sight.items (statements l.sts) l.i
