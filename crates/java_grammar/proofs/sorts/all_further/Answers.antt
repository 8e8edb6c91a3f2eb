use Rattle.std.proofs.Common.{length, sym, ◌∙◌}
use Rattle.std.proofs.lemmas.Result.{err_from_is_err_and}
use Rattle.std.proofs.lemmas.List.{length-map}
use Rattle.java_grammar.specs.Marks.{Tok, strictly, all_strict}
use Rattle.java_grammar.specs.ReadingStatements.{is_no_dot, further_at, all_further_at}
use Rattle.readers.proofs.Loops.{many_begin, many_go_on, many_fail, many_stop, many_run_out}
use Rattle.java_grammar.proofs.sorts.all_further.Goals as goal
use Rattle.java_grammar.proofs.sorts.all_further.Goals.{else-loop-test, then-loop-test+then-ends_before}

pub loop-init : goal.loop-init
unfolding all_further_at
loop-init c = rw c.new-parts.ensures.items (many_begin (λ (t : Tok). is_no_dot t.token.node) (further_at c.args.room) (length c.args.tokens.now) (all_strict c.args.tokens.now) (length-map c.args.tokens.now strictly))

pub returns-in_err-part : goal.returns-in_err-part
returns-in_err-part c =
    let p = err_from_is_err_and c.from_residual.result c.from_residual.ensures.1 in
    rw (p.1, p.2) (many_fail (λ (t : Tok). is_no_dot t.token.node) (further_at c.args.room) c.loop.parts.items (length c.args.tokens.now) c.loop.counter (all_strict c.loop.rest.now) (all_further_at c.args.room (all_strict c.args.tokens.now))
    c.in_err-part.field-0.0 c.loop-test.true (sym c.ends_before.ensures ∙ c.if-ends_before.false) c.in_err-part.ensures c.loop.invariant)

pub loop-preserved : goal.loop-preserved
loop-preserved c =
    rw c.in_ok-push.ensures.items (many_go_on (λ (t : Tok). is_no_dot t.token.node) (further_at c.args.room) c.loop.parts.items (length c.args.tokens.now) c.loop.counter (all_strict c.loop.rest.now)
    (all_further_at c.args.room (all_strict c.args.tokens.now)) c.in_ok-part.part (all_strict c.in_ok-part.after.now) c.loop-test.true (sym c.ends_before.ensures ∙ c.if-ends_before.false) c.in_ok-part.ensures c.loop.invariant)

pub returns : goal.returns
returns c =
    elim c.loop-test.branch [
      | else-loop-test w ↦ many_run_out (λ (t : Tok). is_no_dot t.token.node) (further_at c.args.room) c.loop.parts.items (length c.args.tokens.now) c.loop.counter (all_strict c.loop.rest.now) (all_further_at c.args.room (all_strict c.args.tokens.now)) w.loop-test.false c.loop.invariant
      | then-loop-test+then-ends_before w ↦ many_stop (λ (t : Tok). is_no_dot t.token.node) (further_at c.args.room) c.loop.parts.items (length c.args.tokens.now) c.loop.counter (all_strict c.loop.rest.now) (all_further_at c.args.room (all_strict c.args.tokens.now)) w.loop-test.true (sym w.ends_before.ensures ∙ w.if-ends_before.true) c.loop.invariant
    ]
