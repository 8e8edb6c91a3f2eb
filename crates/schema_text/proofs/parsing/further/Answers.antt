use Rattle.std.proofs.Common.{length, sym, ◌∙◌}
use Rattle.std.proofs.lemmas.Result.{err_from_is_err_and}
use Rattle.std.proofs.lemmas.List.{length-map}
use Rattle.schema.specs.Tokens.{kinds_of}
use Rattle.schema.specs.Reading.{is_no_comma, next_item_at, columns_at, columns_behind}
use Rattle.schema_text.proofs.Loops.{series_begins, series_goes_on, series_fails, series_stops, series_ends, series_runs_out}
use Rattle.schema_text.proofs.parsing.further.Goals as goal
use Rattle.schema_text.proofs.parsing.further.Goals.{else-loop-test, then-loop-test+then-is_last}

pub loop-init : goal.loop-init
unfolding columns_behind columns_at
loop-init c = series_begins is_no_comma next_item_at c.args.columns.items (length c.args.tokens.now) (kinds_of c.args.tokens.now) (length-map c.args.tokens.now (λ t. t.kind))

pub returns-in_err-item : goal.returns-in_err-item
returns-in_err-item c =
    let p = err_from_is_err_and c.from_residual.result c.from_residual.ensures.1 in
    rw (p.1, p.2) (series_fails is_no_comma next_item_at c.loop.columns.items (length c.args.tokens.now) c.loop.counter (kinds_of c.loop.rest.now) (columns_behind c.args.columns.items (kinds_of c.args.tokens.now)) c.in_err-item.field-0.0 c.loop-test.true (sym c.is_last.ensures ∙ c.if-is_last.false) c.in_err-item.ensures c.loop.invariant)

pub returns-in-Key : goal.returns-in-Key
returns-in-Key c =
    series_ends is_no_comma next_item_at c.loop.columns.items (length c.args.tokens.now) c.loop.counter (kinds_of c.loop.rest.now) (columns_behind c.args.columns.items (kinds_of c.args.tokens.now)) c.in-Key.names (kinds_of c.in_ok-item.after.now) c.loop-test.true (sym c.is_last.ensures ∙ c.if-is_last.false) (rw c.in-Key.is at c.in_ok-item.ensures) c.loop.invariant

pub loop-preserved : goal.loop-preserved
loop-preserved c =
    rw c.in_ok-push-in-Column.ensures.items
    (series_goes_on is_no_comma next_item_at c.loop.columns.items (length c.args.tokens.now) c.loop.counter (kinds_of c.loop.rest.now) (columns_behind c.args.columns.items (kinds_of c.args.tokens.now)) c.in-Column.column (kinds_of c.in_ok-item.after.now) c.loop-test.true (sym c.is_last.ensures ∙ c.if-is_last.false) (rw c.in-Column.is at c.in_ok-item.ensures) c.loop.invariant)

pub returns : goal.returns
returns c =
    rw c.new.ensures (elim c.loop-test.branch [
      | else-loop-test w ↦ series_runs_out is_no_comma next_item_at c.loop.columns.items (length c.args.tokens.now) c.loop.counter (kinds_of c.loop.rest.now) (columns_behind c.args.columns.items (kinds_of c.args.tokens.now)) w.loop-test.false c.loop.invariant
      | then-loop-test+then-is_last w ↦ series_stops is_no_comma next_item_at c.loop.columns.items (length c.args.tokens.now) c.loop.counter (kinds_of c.loop.rest.now) (columns_behind c.args.columns.items (kinds_of c.args.tokens.now)) w.loop-test.true (sym w.is_last.ensures ∙ w.if-is_last.true) c.loop.invariant
    ])
