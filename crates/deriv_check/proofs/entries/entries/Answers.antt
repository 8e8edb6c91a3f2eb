use Rattle.std.proofs.Common.{[], ◌∷◌, length, map, refl, sym, ◌∙◌}
use Rattle.std.proofs.lemmas.Result.{err_from_is_err_and}
use Rattle.std.proofs.lemmas.List.{map-append}
use Rattle.deriv_check.specs.Bundles.{entry_of}
use Rattle.deriv_check.specs.Reading.{is_end, entry_at, entries_at}
use Rattle.readers.proofs.Loops.{many_begin, many_go_on, many_fail, many_stop, many_run_out}
use Rattle.deriv_check.proofs.entries.entries.Goals as goal
use Rattle.deriv_check.proofs.entries.entries.Goals.{else-loop-test, then-loop-test+then-is_over_at}

pub loop-init : goal.loop-init
unfolding entries_at
loop-init c = rw c.new-entries.ensures.items (many_begin is_end entry_at (length c.args.bytes.now) c.args.bytes.now refl)

pub returns-in_err-entry : goal.returns-in_err-entry
returns-in_err-entry c =
    let p = err_from_is_err_and c.from_residual.result c.from_residual.ensures.1 in
    rw (p.1, p.2) (many_fail is_end entry_at (map entry_of c.loop.entries.items) (length c.args.bytes.now) c.loop.counter c.loop.rest.now (entries_at c.args.bytes.now) c.in_err-entry.field-0.0 c.loop-test.true (sym c.is_over_at.ensures ∙ c.if-is_over_at.false) c.in_err-entry.ensures c.loop.invariant)

pub loop-preserved : goal.loop-preserved
loop-preserved c =
    rw (c.in_ok-push.ensures.items, map-append entry_of c.loop.entries.items (c.in_ok-entry.entry ∷ [])) (many_go_on is_end entry_at (map entry_of c.loop.entries.items) (length c.args.bytes.now) c.loop.counter c.loop.rest.now (entries_at c.args.bytes.now) (entry_of c.in_ok-entry.entry) c.in_ok-entry.after.now c.loop-test.true (sym c.is_over_at.ensures ∙ c.if-is_over_at.false) c.in_ok-entry.ensures c.loop.invariant)

pub returns : goal.returns
returns c =
    elim c.loop-test.branch [
      | else-loop-test w ↦ many_run_out is_end entry_at (map entry_of c.loop.entries.items) (length c.args.bytes.now) c.loop.counter c.loop.rest.now (entries_at c.args.bytes.now) w.loop-test.false c.loop.invariant
      | then-loop-test+then-is_over_at w ↦ many_stop is_end entry_at (map entry_of c.loop.entries.items) (length c.args.bytes.now) c.loop.counter c.loop.rest.now (entries_at c.args.bytes.now) w.loop-test.true (sym w.is_over_at.ensures ∙ w.if-is_over_at.true) c.loop.invariant
    ]
