use Rattle.std.proofs.Common.{◌≡◌, Some, suc, length, sym, ap, ◌∙◌, subst, arith}
use Rattle.std.proofs.lemmas.Result.{err_from_is_err_and}
use Rattle.std.proofs.lemmas.List.{length-map}
use Rattle.std.specs.Global.{Box}
use Rattle.std.specs.declared.option.Option.{Option}
use Rattle.sql_ast.specs.Written.{WrittenQuery}
use Rattle.sql_parse.specs.declared.raw.RawQuery.{RawQuery}
use Rattle.sql_parse.specs.Said.{query_of}
use Rattle.sql_parse.specs.Seen.{Gives, token_of, tokens_of}
use Rattle.sql_parse.proofs.Items.{read_ends, read_fails}
use Rattle.sql_parse.proofs.queries.read.Goals as goal

pub returns-in_err-query : goal.returns-in_err-query
returns-in_err-query c =
    let p = err_from_is_err_and c.from_residual.result c.from_residual.ensures.1 in
    let room : c.in-Some.room ≡ suc (length (tokens_of c.args.tokens.now)) = omega (arith, c.in-Some.ensures, length-map c.args.tokens.now token_of) in
    rw (p.1, p.2) (read_fails c.in-Some.room (tokens_of c.args.tokens.now) c.in_err-query.field-0.0 room c.in_err-query.ensures)

pub returns : goal.returns
returns c =
    let room : c.in-Some.room ≡ suc (length (tokens_of c.args.tokens.now)) = omega (arith, c.in-Some.ensures, length-map c.args.tokens.now token_of) in
    let read = c.in_ok-query.ensures ∙ ap (λ (q : RawQuery). Some (query_of q, tokens_of c.in_ok-query.rest.now)) (sym c.in_ok-boxed.ensures.ok) in
    subst (λ (r : Option WrittenQuery). Gives (λ (q : Box RawQuery). query_of q.value) c.whole.result r) (sym (read_ends c.in-Some.room (tokens_of c.args.tokens.now) (tokens_of c.in_ok-query.rest.now) (query_of c.in_ok-boxed.boxed.value) room read)) c.whole.ensures
