use Rattle.std.proofs.Common.{Some, length, sym, ap, ◌∙◌}
use Rattle.std.proofs.lemmas.Result.{err_from_is_err_and}
use Rattle.sql_ast.specs.Reader.{part_at, parts_at}
use Rattle.sql_parse.specs.Said.{part_of, parts_of}
use Rattle.sql_parse.specs.Seen.{tokens_of}
use Rattle.sql_parse.proofs.Loops.{listed_goes_on, listed_stops, listed_fails_by, listed_runs_out}
use Rattle.sql_parse.proofs.operands.parts.Goals as goal

pub returns-in_err-part : goal.returns-in_err-part
returns-in_err-part c =
    let p = err_from_is_err_and c.from_residual.result c.from_residual.ensures.1 in
    rw (p.1, p.2) (listed_fails_by part_at (parts_of c.loop.parts) (length c.args.tokens.now) c.loop.counter (tokens_of c.loop.rest.now) (parts_at (tokens_of c.args.tokens.now)) c.in_err-part.field-0.0 c.loop-test.true c.in_err-part.ensures c.loop.invariant)

pub returns-in-None : goal.returns-in-None
returns-in-None c =
    listed_stops part_of part_at c.loop.parts (length c.args.tokens.now) c.loop.counter (tokens_of c.loop.rest.now) (tokens_of c.in_ok-part.after.now) c.in_ok-part.part (parts_at (tokens_of c.args.tokens.now)) c.loop-test.true c.in_ok-part.ensures (sym c.in-None.ensures) c.loop.invariant
    ∙ ap (λ xs. Some (parts_of xs, tokens_of c.in_ok-part.after.now)) (sym c.in_ok-push.ensures.ok)

pub loop-preserved : goal.loop-preserved
loop-preserved c =
    rw c.in_ok-push.ensures.ok
    (listed_goes_on part_of part_at c.loop.parts (length c.args.tokens.now) c.loop.counter (tokens_of c.loop.rest.now) (tokens_of c.in_ok-part.after.now) (tokens_of c.in-Some.next.now) c.in_ok-part.part (parts_at (tokens_of c.args.tokens.now)) c.loop-test.true c.in_ok-part.ensures (sym c.in-Some.ensures) c.loop.invariant)

pub returns : goal.returns
returns c = listed_runs_out part_at (parts_of c.loop.parts) (length c.args.tokens.now) c.loop.counter (tokens_of c.loop.rest.now) (parts_at (tokens_of c.args.tokens.now)) c.loop-test.false c.loop.invariant
