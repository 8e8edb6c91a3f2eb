use Rattle.std.proofs.Common.{length, sym, ◌∙◌}
use Rattle.std.proofs.lemmas.Result.{err_from_is_err_and}
use Rattle.std.proofs.lemmas.List.{length-map}
use Rattle.schema.specs.Marks.{no_marks}
use Rattle.schema.specs.Tokens.{kinds_of}
use Rattle.schema.specs.Reading.{is_no_mark, mark_at, marked, marks_at}
use Rattle.schema_text.proofs.Loops.{fold_begins, fold_goes_on, fold_fails, fold_stops, fold_runs_out}
use Rattle.schema_text.proofs.parsing.marks.Goals as goal
use Rattle.schema_text.proofs.parsing.marks.Goals.{else-loop-test, then-loop-test+then-is_unmarked}

pub loop-init : goal.loop-init
unfolding marks_at
loop-init c = fold_begins is_no_mark mark_at (marked no_marks) (length c.args.tokens.now) (kinds_of c.args.tokens.now) (length-map c.args.tokens.now (λ t. t.kind))

pub returns-in_err-mark-clause-exact : goal.returns-in_err-mark-clause-exact
returns-in_err-mark-clause-exact c =
    let p = err_from_is_err_and c.from_residual.result c.from_residual.ensures.1 in
    rw (p.1, p.2) (fold_fails is_no_mark mark_at (marked c.loop.marks) (length c.args.tokens.now) c.loop.counter (kinds_of c.loop.rest.now) (marks_at (kinds_of c.args.tokens.now)) c.in_err-mark.field-0.0 c.loop-test.true (sym c.is_unmarked.ensures ∙ c.if-is_unmarked.false) c.in_err-mark.ensures.exact c.loop.invariant)

pub loop-preserved : goal.loop-preserved
loop-preserved c =
    rw c.with-marks.ensures
    (fold_goes_on is_no_mark mark_at (marked c.loop.marks) (length c.args.tokens.now) c.loop.counter (kinds_of c.loop.rest.now) (marks_at (kinds_of c.args.tokens.now)) (kinds_of c.in_ok-mark.after.now) c.in_ok-mark.mark c.loop-test.true (sym c.is_unmarked.ensures ∙ c.if-is_unmarked.false) c.in_ok-mark.ensures.exact c.loop.invariant)

pub returns-clause-exact : goal.returns-clause-exact
returns-clause-exact c =
    elim c.loop-test.branch [
      | else-loop-test w ↦ fold_runs_out is_no_mark mark_at (marked c.loop.marks) (length c.args.tokens.now) c.loop.counter (kinds_of c.loop.rest.now) (marks_at (kinds_of c.args.tokens.now)) w.loop-test.false c.loop.invariant
      | then-loop-test+then-is_unmarked w ↦ fold_stops is_no_mark mark_at (marked c.loop.marks) (length c.args.tokens.now) c.loop.counter (kinds_of c.loop.rest.now) (marks_at (kinds_of c.args.tokens.now)) w.loop-test.true (sym w.is_unmarked.ensures ∙ w.if-is_unmarked.true) c.loop.invariant
    ]
