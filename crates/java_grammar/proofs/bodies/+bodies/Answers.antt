use Rattle.std.proofs.Common.{[], ◌∷◌, length, map, sym, ◌∙◌}
use Rattle.std.proofs.lemmas.Result.{err_from_is_err_and}
use Rattle.std.proofs.lemmas.List.{map-append}
use Rattle.java_ast.specs.Reading.{statement}
use Rattle.java_grammar.specs.Marks.{Tok, all_strict}
use Rattle.java_grammar.specs.Reading.{many_at}
use Rattle.java_grammar.specs.ReadingBodies.{is_close, item_at}
use Rattle.java_grammar.proofs.Listed.{items_fail, items_done}
use Rattle.readers.proofs.Loops.{many_go_on, many_fail, many_stop, many_run_out}
use Rattle.java_grammar.proofs.bodies.+bodies.Goals as goal
use Rattle.java_grammar.proofs.bodies.+bodies.Goals.{statements-else-loop-test, statements-then-loop-test+then-ends_block}

pub statements-returns-in_err-statement : goal.statements-returns-in_err-statement
statements-returns-in_err-statement t c =
    let p = err_from_is_err_and c.from_residual.result c.from_residual.ensures.1 in
    rw (p.1, p.2) (items_fail c.in_err-statement.field-0.0 c.args.room (all_strict c.args.tokens.now)
    (many_fail (λ (t : Tok). is_close t.token.node) (item_at c.args.room) (map statement c.loop.statements.items) (length c.args.tokens.now) c.loop.counter (all_strict c.loop.rest.now) (many_at is_close (item_at c.args.room) (all_strict c.args.tokens.now))
    c.in_err-statement.field-0.0 c.loop-test.true (sym c.ends_block.ensures ∙ c.if-ends_block.false) c.in_err-statement.ensures c.loop.invariant))

pub statements-loop-preserved : goal.statements-loop-preserved
statements-loop-preserved t c =
    rw (c.in_ok-push.ensures.items, map-append statement c.loop.statements.items (c.in_ok-statement.statement ∷ [])) (many_go_on (λ (t : Tok). is_close t.token.node) (item_at c.args.room) (map statement c.loop.statements.items) (length c.args.tokens.now) c.loop.counter (all_strict c.loop.rest.now)
    (many_at is_close (item_at c.args.room) (all_strict c.args.tokens.now)) (statement c.in_ok-statement.statement) (all_strict c.in_ok-statement.after.now) c.loop-test.true (sym c.ends_block.ensures ∙ c.if-ends_block.false) c.in_ok-statement.ensures c.loop.invariant)

pub statements-returns : goal.statements-returns
statements-returns t c =
    items_done c.args.room (all_strict c.args.tokens.now) c.loop.statements.items (all_strict c.loop.rest.now)
    (elim c.loop-test.branch [
      | statements-else-loop-test w ↦ many_run_out (λ (t : Tok). is_close t.token.node) (item_at c.args.room) (map statement c.loop.statements.items) (length c.args.tokens.now) c.loop.counter (all_strict c.loop.rest.now) (many_at is_close (item_at c.args.room) (all_strict c.args.tokens.now)) w.loop-test.false c.loop.invariant
      | statements-then-loop-test+then-ends_block w ↦ many_stop (λ (t : Tok). is_close t.token.node) (item_at c.args.room) (map statement c.loop.statements.items) (length c.args.tokens.now) c.loop.counter (all_strict c.loop.rest.now) (many_at is_close (item_at c.args.room) (all_strict c.args.tokens.now)) w.loop-test.true (sym w.ends_block.ensures ∙ w.if-ends_block.true) c.loop.invariant
    ])
