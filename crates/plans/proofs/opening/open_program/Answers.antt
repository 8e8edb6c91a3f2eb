use Rattle.std.proofs.lemmas.Result.{err_from_is_err_and}
use Rattle.java_ast.specs.Reading.{program as plain_program}
use Rattle.java_types.specs.declared.checking.Typed.{Typed}
use Rattle.java_grammar.specs.Grammar.{IsReadable}
use Rattle.plans.specs.Opening.{HasTokens, IsProgramOf}
use Rattle.plans.proofs.Opened.{lacks_tokens, lacks_program, is_program}
use Rattle.plans.proofs.opening.open_program.Goals as goal

pub returns-in_err-tokens : goal.returns-in_err-tokens
returns-in_err-tokens c =
    let p = err_from_is_err_and c.from_residual.result c.from_residual.ensures.1 in
    rw (p.1, p.2)
    (lacks_tokens (HasTokens c.args.bytes.now) (λ (t : Typed). IsProgramOf c.args.schema.now c.args.bytes.now (plain_program t.program)) c.args.schema.now c.args.bytes.now c.in_err-tokens.field-0.0 c.in_err-tokens.ensures)

pub returns-in_err-program : goal.returns-in_err-program
returns-in_err-program c =
    let p = err_from_is_err_and c.from_residual-in_err-program.result c.from_residual-in_err-program.ensures.1 in
    rw (p.1, p.2)
    (lacks_program (λ q. IsReadable c.in_ok-tokens.tokens.list (plain_program q)) (λ (t : Typed). IsProgramOf c.args.schema.now c.args.bytes.now (plain_program t.program)) c.args.schema.now c.args.bytes.now c.in_ok-tokens.tokens c.in_err-program.field-0.0 c.in_ok-tokens.ensures c.in_err-program.ensures)

pub returns : goal.returns
returns c =
    is_program (λ (t : Typed). plain_program t.program) c.args.schema.now c.args.bytes.now c.in_ok-tokens.tokens (plain_program c.in_ok-program.program) c.open_typed.result c.in_ok-tokens.ensures c.in_ok-program.ensures c.open_typed.ensures.same c.open_typed.ensures.typed
