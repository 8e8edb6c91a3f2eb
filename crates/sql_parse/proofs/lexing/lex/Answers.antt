use Rattle.std.proofs.Common.{rules, ◌-◌, ◌+◌, List, length, sym, ap, ◌∙◌, subst}
use Rattle.std.proofs.lemmas.Result.{err_from_is_err_and}
use Rattle.sql_ast.specs.Lexer.{tokens_in}
use Rattle.sql_ast.specs.Tokens.{Token}
use Rattle.std.specs.declared.option.Option.{Option}
use Rattle.std.specs.Option.{option_map}
use Rattle.sql_parse.specs.Seen.{Gives, token_of, tokens_of}
use Rattle.sql_parse.proofs.Lexed.{tokens_behind, lex_goes_on, lex_fails_by, lex_stops, lex_runs_out}
use Rattle.sql_parse.proofs.lexing.lex.Goals as goal

pub returns-in_default : goal.returns-in_default
returns-in_default c =
    subst (λ (r : Option (List Token)). Gives (λ v. tokens_of v.items) c.ended.result r)
    (sym (lex_stops (tokens_of c.loop.tokens.items) (length c.args.text.now) c.loop.counter c.loop.rest.now (tokens_in (length c.args.text.now) c.args.text.now) c.loop-test.true (sym c.in_default.ensures) c.loop.invariant.1))
    c.ended.ensures

pub returns-in_err-token : goal.returns-in_err-token
returns-in_err-token c =
    let p = err_from_is_err_and c.from_residual.result c.from_residual.ensures.1 in
    rw (p.1, p.2) (lex_fails_by (tokens_of c.loop.tokens.items) (length c.args.text.now) c.loop.counter c.in-Some.first c.loop.rest.now c.in-Some.after.now (tokens_in (length c.args.text.now) c.args.text.now) c.in_err-token.field-0.0 c.loop-test.true (sym c.in-Some.ensures) c.in_err-token.ensures c.loop.invariant.1)

pub loop-preserved : goal.loop-preserved
loop-preserved c = (
  search rules,
  ap (λ (front : List Token). tokens_behind front (tokens_in (length c.args.text.now - (c.loop.counter + 1)) c.in_ok-token.after.now)) c.in_ok-keep.ensures
      ∙ lex_goes_on (tokens_of c.loop.tokens.items) (length c.args.text.now) c.loop.counter c.in-Some.first c.loop.rest.now c.in-Some.after.now c.in_ok-token.after.now (option_map token_of c.in_ok-token.token) (tokens_in (length c.args.text.now) c.args.text.now) c.loop-test.true (sym c.in-Some.ensures) c.in_ok-token.ensures c.loop.invariant.1,
)

pub returns : goal.returns
returns c =
    subst (λ (r : Option (List Token)). Gives (λ v. tokens_of v.items) c.ended-2.result r)
    (sym (lex_runs_out (tokens_of c.loop.tokens.items) (length c.args.text.now) c.loop.counter c.loop.rest.now (tokens_in (length c.args.text.now) c.args.text.now) c.loop-test.false c.loop.invariant.1))
    c.ended-2.ensures
