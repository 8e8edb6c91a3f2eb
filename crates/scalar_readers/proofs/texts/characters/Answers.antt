use Rattle.std.proofs.Common.{length, refl, sym, ◌∙◌}
use Rattle.std.specs.String.{string_bytes}
use Rattle.std.proofs.lemmas.Result.{err_from_is_err_and}
use Rattle.scalar_readers.specs.Chars.{chars_at}
use Rattle.scalar_readers.proofs.CharLoops.{begin, go_on, fail, stop, run_out}
use Rattle.scalar_readers.proofs.texts.characters.Goals as goal
use Rattle.scalar_readers.proofs.texts.characters.Goals.{else-loop-test, then-loop-test+then-is_over_at}

pub loop-init : goal.loop-init
loop-init c = rw c.new-text.ensures.bytes (begin (length c.args.bytes.now) c.args.bytes.now refl)

pub returns-in_err-c : goal.returns-in_err-c
returns-in_err-c c =
    let p = err_from_is_err_and c.from_residual.result c.from_residual.ensures.1 in
    rw (p.1, p.2) (fail (string_bytes c.loop.text) (length c.args.bytes.now) c.loop.counter c.loop.rest.now (chars_at c.args.bytes.now) c.in_err-c.field-0.0 c.loop-test.true (sym c.is_over_at.ensures ∙ c.if-is_over_at.false) c.in_err-c.ensures.exact c.loop.invariant)

pub loop-preserved : goal.loop-preserved
loop-preserved c =
    rw c.in_ok-push.ensures.bytes (go_on (string_bytes c.loop.text) (length c.args.bytes.now) c.loop.counter c.loop.rest.now (chars_at c.args.bytes.now) c.in_ok-c.c c.in_ok-c.after.now c.loop-test.true (sym c.is_over_at.ensures ∙ c.if-is_over_at.false) c.in_ok-c.ensures.exact c.loop.invariant)

pub returns : goal.returns
returns c =
    elim c.loop-test.branch [
      | else-loop-test w ↦ run_out (string_bytes c.loop.text) (length c.args.bytes.now) c.loop.counter c.loop.rest.now (chars_at c.args.bytes.now) w.loop-test.false c.loop.invariant
      | then-loop-test+then-is_over_at w ↦ stop (string_bytes c.loop.text) (length c.args.bytes.now) c.loop.counter c.loop.rest.now (chars_at c.args.bytes.now) w.loop-test.true (sym w.is_over_at.ensures ∙ w.if-is_over_at.true) c.loop.invariant
    ]
