use Rattle.std.proofs.Common.{[], ◌∷◌, length, map, sym, ◌∙◌}
use Rattle.std.proofs.lemmas.Result.{err_from_is_err_and}
use Rattle.std.proofs.lemmas.List.{length-map, map-append}
use Rattle.java_ast.specs.Reading.{method}
use Rattle.java_grammar.specs.ReadingBodies.{is_close}
use Rattle.java_grammar.specs.ReadingPrograms.{method_at}
use Rattle.java_grammar.specs.Marks.{Tok, strictly, all_strict}
use Rattle.java_grammar.specs.Reading.{many_at}
use Rattle.readers.proofs.Loops.{many_begin, many_go_on, many_fail, many_stop, many_run_out}
use Rattle.java_grammar.proofs.classes.all_methods.Goals as goal
use Rattle.java_grammar.proofs.classes.all_methods.Goals.{else-loop-test, then-loop-test+then-ends_block}

pub loop-init : goal.loop-init
loop-init c = rw c.new-methods.ensures.items (many_begin (λ (t : Tok). is_close t.token.node) (method_at c.args.room) (length c.args.tokens.now) (all_strict c.args.tokens.now) (length-map c.args.tokens.now strictly))

pub returns-in_err-method : goal.returns-in_err-method
returns-in_err-method c =
    let p = err_from_is_err_and c.from_residual.result c.from_residual.ensures.1 in
    rw (p.1, p.2) (many_fail (λ (t : Tok). is_close t.token.node) (method_at c.args.room) (map method c.loop.methods.items) (length c.args.tokens.now) c.loop.counter (all_strict c.loop.rest.now) (many_at is_close (method_at c.args.room) (all_strict c.args.tokens.now))
    c.in_err-method.field-0.0 c.loop-test.true (sym c.ends_block.ensures ∙ c.if-ends_block.false) c.in_err-method.ensures c.loop.invariant)

pub loop-preserved : goal.loop-preserved
loop-preserved c =
    rw (c.in_ok-push.ensures.items, map-append method c.loop.methods.items (c.in_ok-method.method ∷ [])) (many_go_on (λ (t : Tok). is_close t.token.node) (method_at c.args.room) (map method c.loop.methods.items) (length c.args.tokens.now) c.loop.counter (all_strict c.loop.rest.now) (many_at is_close (method_at c.args.room) (all_strict c.args.tokens.now))
    (method c.in_ok-method.method) (all_strict c.in_ok-method.after.now) c.loop-test.true (sym c.ends_block.ensures ∙ c.if-ends_block.false) c.in_ok-method.ensures c.loop.invariant)

pub returns : goal.returns
returns c =
    elim c.loop-test.branch [
      | else-loop-test w ↦ many_run_out (λ (t : Tok). is_close t.token.node) (method_at c.args.room) (map method c.loop.methods.items) (length c.args.tokens.now) c.loop.counter (all_strict c.loop.rest.now) (many_at is_close (method_at c.args.room) (all_strict c.args.tokens.now)) w.loop-test.false c.loop.invariant
      | then-loop-test+then-ends_block w ↦ many_stop (λ (t : Tok). is_close t.token.node) (method_at c.args.room) (map method c.loop.methods.items) (length c.args.tokens.now) c.loop.counter (all_strict c.loop.rest.now) (many_at is_close (method_at c.args.room) (all_strict c.args.tokens.now)) w.loop-test.true (sym w.ends_block.ensures ∙ w.if-ends_block.true) c.loop.invariant
    ]
