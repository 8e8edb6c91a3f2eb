use Rattle.std.proofs.Common.{◌≡◌, ℕ, List, ◌++◌, false, string_bytes, Ok, codes, sym, ap, ◌∙◌, arith}
use Rattle.std.proofs.lemmas.Result.{err_from_is_err_and}
use Rattle.std.proofs.lemmas.List.{length-map}
use Rattle.java_grammar.specs.Marks.{strictly, all_strict}
use Rattle.java_grammar.specs.Reading.{first_is, is_sign}
use Rattle.java_grammar.specs.Dotted.{dotted_from}
use Rattle.java_grammar.proofs.Dots.{dots_go_on, dots_star, dots_fail, dots_end, no_dot_left, part_shorter}
use Rattle.java_grammar.proofs.dotted.dotted.Goals as goal
use Rattle.java_grammar.proofs.dotted.dotted.Goals.{else-loop-test, then-loop-test+then-not-is_next_sign}

pub returns-in_err-part : goal.returns-in_err-part
returns-in_err-part c =
    let p = err_from_is_err_and c.from_residual-in_err-part.result c.from_residual-in_err-part.ensures.1 in
    rw (p.1, p.2) (dots_fail c.args.star (string_bytes c.loop.text) (all_strict c.loop.rest.now) (dotted_from c.args.star c.args.first.now (all_strict c.args.tokens.now)) c.loop.invariant.so_far
    c.in_err-part.field-0.0 (sym c.is_next_sign.ensures ∙ c.if-not-is_next_sign.false) c.in_err-part.ensures.value)

pub returns-in_default : goal.returns-in_default
returns-in_default c =
    let read = rw c.in_default.is at c.in_ok-part.ensures.value in
    dots_star c.args.star (string_bytes c.loop.text) (all_strict c.loop.rest.now) (dotted_from c.args.star c.args.first.now (all_strict c.args.tokens.now)) c.loop.invariant.so_far
    (all_strict c.in_ok-part.after.now) (sym c.is_next_sign.ensures ∙ c.if-not-is_next_sign.false) read
    ∙ ap (λ (v : List ℕ). Ok (v, all_strict c.in_ok-part.after.now)) (sym (c.from_string.ensures ∙ c.in_ok-push_str-2.ensures.bytes ∙ ap (λ (w : List ℕ). w ++ codes "*") c.in_ok-push_str.ensures.bytes))

pub loop-preserved : goal.loop-preserved
loop-preserved c =
    let read = rw c.in-Some.is at c.in_ok-part.ensures.value in
    let on = dots_go_on c.args.star (string_bytes c.loop.text) (all_strict c.loop.rest.now) (dotted_from c.args.star c.args.first.now (all_strict c.args.tokens.now)) c.loop.invariant.so_far
    c.in-Some.part.now (all_strict c.in_ok-part.after.now) (sym c.is_next_sign.ensures ∙ c.if-not-is_next_sign.false) read in
    record {
      so_far = rw (c.in_ok-push_str-3.ensures.bytes, c.in_ok-push_str.ensures.bytes, c.as_str-in-loop.ensures) on;
      tokens_left = omega (arith, part_shorter c.args.star (all_strict c.loop.rest.now) _ (all_strict c.in_ok-part.after.now) c.in_ok-part.ensures.value, length-map c.loop.rest.now strictly, length-map c.in_ok-part.after.now strictly, c.loop.invariant.tokens_left);
    }

pub returns : goal.returns
returns c =
    let over : first_is (is_sign (codes ".")) (all_strict c.loop.rest.now) ≡ false =
    elim c.loop-test.branch [
      | else-loop-test w ↦ no_dot_left (all_strict c.loop.rest.now) (omega (arith, length-map c.loop.rest.now strictly, c.loop.invariant.tokens_left, w.loop-test.false))
      | then-loop-test+then-not-is_next_sign w ↦ sym w.is_next_sign.ensures ∙ w.if-not-is_next_sign.true
    ] in
    rw c.from_string-2.ensures (dots_end c.args.star (string_bytes c.loop.text) (all_strict c.loop.rest.now) (dotted_from c.args.star c.args.first.now (all_strict c.args.tokens.now)) c.loop.invariant.so_far over)
