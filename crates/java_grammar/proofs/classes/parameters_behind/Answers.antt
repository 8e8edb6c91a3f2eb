use Rattle.std.proofs.Common.{[], ◌∷◌, List, length, map, sym, ◌∙◌}
use Rattle.std.proofs.lemmas.Result.{err_from_is_err_and}
use Rattle.std.proofs.lemmas.List.{length-map, map-append}
use Rattle.readers.specs.Reading.{made}
use Rattle.java_ast.specs.Tree.{PlainParam}
use Rattle.java_ast.specs.Reading.{param}
use Rattle.java_grammar.specs.ReadingExpressions.{is_no_comma}
use Rattle.java_grammar.specs.ReadingPrograms.{next_parameter_at}
use Rattle.java_grammar.specs.Marks.{Tok, strictly, all_strict}
use Rattle.java_grammar.specs.Reading.{many_at}
use Rattle.readers.proofs.Loops.{many_behind, many_go_on, many_fail, many_stop, many_run_out}
use Rattle.java_grammar.proofs.classes.parameters_behind.Goals as goal
use Rattle.java_grammar.proofs.classes.parameters_behind.Goals.{else-loop-test, then-loop-test+then-ends_before}

pub loop-init : goal.loop-init
loop-init c = rw (c.in_ok-push.ensures.items, c.new-params.ensures.items) (many_behind (λ (t : Tok). is_no_comma t.token.node) next_parameter_at (param c.args.first ∷ []) (length c.args.tokens.now) (all_strict c.args.tokens.now) (length-map c.args.tokens.now strictly))

pub returns-in_err-param : goal.returns-in_err-param
returns-in_err-param c =
    let p = err_from_is_err_and c.from_residual-in_err-param.result c.from_residual-in_err-param.ensures.1 in
    rw (p.1, p.2) (many_fail (λ (t : Tok). is_no_comma t.token.node) next_parameter_at (map param c.loop.params.items) (length c.args.tokens.now) c.loop.counter (all_strict c.loop.rest.now) (made (λ (xs : List PlainParam). param c.args.first ∷ xs) (many_at is_no_comma next_parameter_at) (all_strict c.args.tokens.now))
    c.in_err-param.field-0.0 c.loop-test.true (sym c.ends_before.ensures ∙ c.if-ends_before.false) c.in_err-param.ensures c.loop.invariant)

pub loop-preserved : goal.loop-preserved
loop-preserved c =
    rw (c.in_ok-push-2.ensures.items, map-append param c.loop.params.items (c.in_ok-param.param ∷ [])) (many_go_on (λ (t : Tok). is_no_comma t.token.node) next_parameter_at (map param c.loop.params.items) (length c.args.tokens.now) c.loop.counter (all_strict c.loop.rest.now) (made (λ (xs : List PlainParam). param c.args.first ∷ xs) (many_at is_no_comma next_parameter_at) (all_strict c.args.tokens.now))
    (param c.in_ok-param.param) (all_strict c.in_ok-param.after.now) c.loop-test.true (sym c.ends_before.ensures ∙ c.if-ends_before.false) c.in_ok-param.ensures c.loop.invariant)

pub returns : goal.returns
returns c =
    elim c.loop-test.branch [
      | else-loop-test w ↦ many_run_out (λ (t : Tok). is_no_comma t.token.node) next_parameter_at (map param c.loop.params.items) (length c.args.tokens.now) c.loop.counter (all_strict c.loop.rest.now) (made (λ (xs : List PlainParam). param c.args.first ∷ xs) (many_at is_no_comma next_parameter_at) (all_strict c.args.tokens.now)) w.loop-test.false c.loop.invariant
      | then-loop-test+then-ends_before w ↦ many_stop (λ (t : Tok). is_no_comma t.token.node) next_parameter_at (map param c.loop.params.items) (length c.args.tokens.now) c.loop.counter (all_strict c.loop.rest.now) (made (λ (xs : List PlainParam). param c.args.first ∷ xs) (many_at is_no_comma next_parameter_at) (all_strict c.args.tokens.now)) w.loop-test.true (sym w.ends_before.ensures ∙ w.if-ends_before.true) c.loop.invariant
    ]
