use Rattle.std.proofs.Common.{◌≡◌, ℕ, suc, ◌-◌, List, [], ◌∷◌, length, map, refl, sym, ap, ◌∙◌, arith}
use Rattle.std.proofs.lemmas.Result.{err_from_is_err_and}
use Rattle.std.proofs.lemmas.List.{length-map, map-append}
use Rattle.std.specs.Option.{option_copied}
use Rattle.java_ast.specs.Reading.{expression, node_expression}
use Rattle.java_grammar.specs.Marks.{Tok, strictly, all_strict}
use Rattle.java_grammar.specs.Expressions.{call_of}
use Rattle.java_grammar.specs.ReadingExpressions.{inside, is_no_comma, next_argument_at, arguments_at, call_at, negation_at, new_at, operand_at, query_of_element_at, query_of_long_at, query_of_truth_at, rank_at}
use Rattle.java_grammar.proofs.Steps.{ranked_on, not_opened, not_known}
use Rattle.readers.proofs.Loops.{many_begin, many_go_on, many_fail, many_stop, many_run_out}
use Rattle.java_grammar.proofs.expressions.+expressions.Goals as goal
use Rattle.java_grammar.proofs.expressions.+expressions.Goals.{arguments-else-loop-test, arguments-then-loop-test+then-ends_before}

pub arguments-loop-init : goal.arguments-loop-init
unfolding arguments_at
arguments-loop-init t c = rw c.new-arguments.ensures.items (many_begin (λ (t : Tok). is_no_comma t.token.node) (next_argument_at (inside c.args.room)) (length c.args.tokens.now) (all_strict c.args.tokens.now) (length-map c.args.tokens.now strictly))

pub arguments-returns-in_err-argument : goal.arguments-returns-in_err-argument
arguments-returns-in_err-argument t c =
    let p = err_from_is_err_and c.from_residual.result c.from_residual.ensures.1 in
    rw (p.1, p.2) (many_fail (λ (t : Tok). is_no_comma t.token.node) (next_argument_at (inside c.args.room)) (map expression c.loop.arguments.items) (length c.args.tokens.now) c.loop.counter (all_strict c.loop.rest.now) (arguments_at (inside c.args.room) (all_strict c.args.tokens.now))
    c.in_err-argument.field-0.0 c.loop-test.true (sym c.ends_before.ensures ∙ c.if-ends_before.false) c.in_err-argument.ensures c.loop.invariant)

pub arguments-loop-preserved : goal.arguments-loop-preserved
arguments-loop-preserved t c =
    rw (c.in_ok-push.ensures.items, map-append expression c.loop.arguments.items (c.in_ok-argument.argument ∷ [])) (many_go_on (λ (t : Tok). is_no_comma t.token.node) (next_argument_at (inside c.args.room)) (map expression c.loop.arguments.items) (length c.args.tokens.now) c.loop.counter (all_strict c.loop.rest.now)
    (arguments_at (inside c.args.room) (all_strict c.args.tokens.now)) (expression c.in_ok-argument.argument) (all_strict c.in_ok-argument.after.now) c.loop-test.true (sym c.ends_before.ensures ∙ c.if-ends_before.false) c.in_ok-argument.ensures c.loop.invariant)

pub arguments-returns : goal.arguments-returns
arguments-returns t c =
    elim c.loop-test.branch [
      | arguments-else-loop-test w ↦ many_run_out (λ (t : Tok). is_no_comma t.token.node) (next_argument_at (inside c.args.room)) (map expression c.loop.arguments.items) (length c.args.tokens.now) c.loop.counter (all_strict c.loop.rest.now) (arguments_at (inside c.args.room) (all_strict c.args.tokens.now)) w.loop-test.false c.loop.invariant
      | arguments-then-loop-test+then-ends_before w ↦ many_stop (λ (t : Tok). is_no_comma t.token.node) (next_argument_at (inside c.args.room)) (map expression c.loop.arguments.items) (length c.args.tokens.now) c.loop.counter (all_strict c.loop.rest.now) (arguments_at (inside c.args.room) (all_strict c.args.tokens.now)) w.loop-test.true (sym w.ends_before.ensures ∙ w.if-ends_before.true) c.loop.invariant
    ]

-- ---- what is made of what is read

pub call_parts-returns-in_ok-other-in-EqualTo : goal.call_parts-returns-in_ok-other-in-EqualTo
unfolding call_at
call_parts-returns-in_ok-other-in-EqualTo t c = rw (c.in-EqualTo.is, c.in_ok-other-in-EqualTo.ensures, c.equals.ensures) refl

pub call_parts-returns-in_ok-index-in-GetFrom : goal.call_parts-returns-in_ok-index-in-GetFrom
unfolding call_at
call_parts-returns-in_ok-index-in-GetFrom t c = rw (c.in-GetFrom.is, c.in_ok-index-in-GetFrom.ensures, c.get.ensures) refl

pub call_parts-returns-in_ok-item-in-ContainedIn : goal.call_parts-returns-in_ok-item-in-ContainedIn
unfolding call_at
call_parts-returns-in_ok-item-in-ContainedIn t c = rw (c.in-ContainedIn.is, c.in_ok-item-in-ContainedIn.ensures, c.contains.ensures) refl

pub negation-returns : goal.negation-returns
unfolding negation_at
negation-returns t c = rw (c.in_ok-rest.ensures.value, c.in_ok-operand.ensures, c.in_ok-whole.ensures.ok, c.negation-node.ensures, c.between-span.ensures) refl

pub new-returns : goal.new-returns
unfolding new_at
new-returns t c = rw (c.in_ok-set.ensures, c.in_ok-query.ensures, c.in_ok-whole.ensures.ok, c.creation-node.ensures, c.between-span.ensures) refl

pub operand-returns : goal.operand-returns
unfolding operand_at
operand-returns t c = rw (c.in_ok-operator.ensures.value, c.in_ok-second.ensures, c.binary-node.ensures) refl

pub query_of_element-returns : goal.query_of_element-returns
unfolding query_of_element_at
query_of_element-returns t c = rw (c.in_ok-ty.ensures, c.in_ok-arguments.ensures, c.in_ok-node.ensures.ok) refl

pub query_of_long-returns : goal.query_of_long-returns
unfolding query_of_long_at
query_of_long-returns t c = rw (c.in_ok-text.ensures.value, c.in_ok-arguments.ensures, c.in_ok-node.ensures.ok) refl

pub query_of_truth-returns : goal.query_of_truth-returns
unfolding query_of_truth_at
query_of_truth-returns t c = rw (c.in_ok-text.ensures.value, c.in_ok-arguments.ensures, c.in_ok-node.ensures.ok) refl

pub ranked-returns : goal.ranked-returns
ranked-returns t c =
    let e = ranked_on c.args.room (c.args.rank - 1) (all_strict c.args.tokens.now) (expression c.in_ok-first.first.value) (all_strict c.in_ok-first.rest.now) c.in_ok-first.ensures in
    let k : c.args.rank ≡ suc (c.args.rank - 1) = omega arith in
    rw (ap (λ (n : ℕ). rank_at c.args.room n (all_strict c.args.tokens.now)) k ∙ e, sym c.longest.ensures) c.chain.ensures

pub suffix-returns-then-not-is_next_sign : goal.suffix-returns-then-not-is_next_sign
suffix-returns-then-not-is_next_sign t c =
    rw c.saturating_sub.ensures (not_opened c.args.room (inside c.args.room) (option_copied c.args.bare) (expression c.args.row.value) c.args.member.now c.args.left (all_strict c.args.tokens.now) (node_expression c.in_ok-node.node) c.in_ok-node.ensures.ok (sym c.is_next_sign.ensures ∙ c.if-not-is_next_sign.true))

pub suffix-returns-in_default : goal.suffix-returns-in_default
suffix-returns-in_default t c =
    rw c.saturating_sub-in_default.ensures (not_known c.args.room (inside c.args.room) (option_copied c.args.bare) (expression c.args.row.value) c.args.member.now c.args.left (all_strict c.args.tokens.now) (node_expression c.in_ok-node-2.node) c.in_ok-node-2.ensures.ok (sym (c.in_default.ensures ∙ ap (λ (m : List ℕ). call_of (option_copied c.args.bare) m) c.as_str.ensures)))
