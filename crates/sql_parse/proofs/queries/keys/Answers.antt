use Rattle.std.proofs.Common.{Some, length, sym, ap, ◌∙◌}
use Rattle.std.proofs.lemmas.Result.{err_from_is_err_and}
use Rattle.sql_ast.specs.Reader.{listed_at, key_at}
use Rattle.sql_parse.specs.Said.{key_of, keys_of}
use Rattle.sql_parse.specs.Seen.{tokens_of}
use Rattle.sql_parse.proofs.Loops.{listed_goes_on, listed_stops, listed_fails_by, listed_runs_out}
use Rattle.sql_parse.proofs.queries.keys.Goals as goal

pub returns-in_err-key : goal.returns-in_err-key
returns-in_err-key c =
    let p = err_from_is_err_and c.from_residual.result c.from_residual.ensures.1 in
    rw (p.1, p.2) (listed_fails_by key_at (keys_of c.loop.keys) (length c.args.tokens.now) c.loop.counter (tokens_of c.loop.rest.now) (listed_at key_at (length (tokens_of c.args.tokens.now)) (tokens_of c.args.tokens.now)) c.in_err-key.field-0.0 c.loop-test.true c.in_err-key.ensures c.loop.invariant)

pub returns-in-None : goal.returns-in-None
returns-in-None c =
    listed_stops key_of key_at c.loop.keys (length c.args.tokens.now) c.loop.counter (tokens_of c.loop.rest.now) (tokens_of c.in_ok-key.after.now) c.in_ok-key.key (listed_at key_at (length (tokens_of c.args.tokens.now)) (tokens_of c.args.tokens.now)) c.loop-test.true c.in_ok-key.ensures (sym c.in-None.ensures) c.loop.invariant
    ∙ ap (λ xs. Some (keys_of xs, tokens_of c.in_ok-key.after.now)) (sym c.in_ok-push.ensures.ok)

pub loop-preserved : goal.loop-preserved
loop-preserved c =
    rw c.in_ok-push.ensures.ok
    (listed_goes_on key_of key_at c.loop.keys (length c.args.tokens.now) c.loop.counter (tokens_of c.loop.rest.now) (tokens_of c.in_ok-key.after.now) (tokens_of c.in-Some.next.now) c.in_ok-key.key (listed_at key_at (length (tokens_of c.args.tokens.now)) (tokens_of c.args.tokens.now)) c.loop-test.true c.in_ok-key.ensures (sym c.in-Some.ensures) c.loop.invariant)

pub returns : goal.returns
returns c = listed_runs_out key_at (keys_of c.loop.keys) (length c.args.tokens.now) c.loop.counter (tokens_of c.loop.rest.now) (listed_at key_at (length (tokens_of c.args.tokens.now)) (tokens_of c.args.tokens.now)) c.loop-test.false c.loop.invariant
