use Rattle.std.proofs.Common.{length, sym, ◌∙◌}
use Rattle.std.proofs.lemmas.Result.{err_from_is_err_and}
use Rattle.std.proofs.lemmas.List.{length-map}
use Rattle.readers.proofs.Loops.{many_behind, many_go_on, many_fail, many_stop, many_run_out}
use Rattle.schema.specs.Tokens.{kinds_of}
use Rattle.schema.specs.Reading.{is_no_comma, next_name_at, next_names_at, names_behind}
use Rattle.schema_text.proofs.parsing.next_names.Goals as goal
use Rattle.schema_text.proofs.parsing.next_names.Goals.{else-loop-test, then-loop-test+then-is_last}

pub loop-init : goal.loop-init
unfolding names_behind next_names_at
loop-init c = many_behind is_no_comma next_name_at c.args.names.items (length c.args.tokens.now) (kinds_of c.args.tokens.now) (length-map c.args.tokens.now (λ t. t.kind))

pub returns-in_err-name : goal.returns-in_err-name
returns-in_err-name c =
    let p = err_from_is_err_and c.from_residual.result c.from_residual.ensures.1 in
    rw (p.1, p.2) (many_fail is_no_comma next_name_at c.loop.names.items (length c.args.tokens.now) c.loop.counter (kinds_of c.loop.rest.now) (names_behind c.args.names.items (kinds_of c.args.tokens.now)) c.in_err-name.field-0.0 c.loop-test.true (sym c.is_last.ensures ∙ c.if-is_last.false) c.in_err-name.ensures c.loop.invariant)

pub loop-preserved : goal.loop-preserved
loop-preserved c =
    rw c.in_ok-push.ensures.items
    (many_go_on is_no_comma next_name_at c.loop.names.items (length c.args.tokens.now) c.loop.counter (kinds_of c.loop.rest.now) (names_behind c.args.names.items (kinds_of c.args.tokens.now)) c.in_ok-name.name (kinds_of c.in_ok-name.after.now) c.loop-test.true (sym c.is_last.ensures ∙ c.if-is_last.false) c.in_ok-name.ensures c.loop.invariant)

pub returns : goal.returns
returns c =
    elim c.loop-test.branch [
      | else-loop-test w ↦ many_run_out is_no_comma next_name_at c.loop.names.items (length c.args.tokens.now) c.loop.counter (kinds_of c.loop.rest.now) (names_behind c.args.names.items (kinds_of c.args.tokens.now)) w.loop-test.false c.loop.invariant
      | then-loop-test+then-is_last w ↦ many_stop is_no_comma next_name_at c.loop.names.items (length c.args.tokens.now) c.loop.counter (kinds_of c.loop.rest.now) (names_behind c.args.names.items (kinds_of c.args.tokens.now)) w.loop-test.true (sym w.is_last.ensures ∙ w.if-is_last.true) c.loop.invariant
    ]
