use Rattle.std.proofs.Common.{◌≡◌, ◌∷◌, ◌+◌, true, false, drop, sym, ◌∙◌}
use Rattle.kernel_lang.specs.Plain.{accumulator}
use Rattle.kernel_lang.specs.Running.{layers_of}
use Rattle.kernel_interp.specs.Reading.{rows_in, rows_seen, world_of, plain_of, guard_at}
use Rattle.kernel_interp.proofs.Levels.{level_there, level_past, seen_end}
use Rattle.kernel_interp.proofs.Marked.{through, through_both, stopped_here, stopped_inside, found_one, not_this, found_none, marks_by, marks_now}
use Rattle.kernel_interp.proofs.Steps.{one_more}
use Rattle.kernel_interp.proofs.mark.+marks.Goals as goal
use Rattle.kernel_interp.proofs.mark.+marks.Goals.{else-passes-via-then-passes+else-marks, else-passes-via-else-passes}

pub returns-in-None : goal.returns-in-None
returns-in-None t c =
    marks_now (world_of c.args.setting) (plain_of c.args.setting).atoms (drop c.args.level (layers_of (accumulator c.args.acc.now))) (rows_in c.args.place.now)
    (level_past (accumulator c.args.acc.now) c.as_slice.result.now c.args.level c.as_slice.ensures c.in-None.ensures.lookup.3)

pub returns-then-marks : goal.returns-then-marks
returns-then-marks t c =
    let more : rows_seen (drop c.loop-row.row-index c.rows_of-rows.result.now) ≡ c.row-item.result.now ∷ rows_seen (drop (c.loop-row.row-index + 1) c.rows_of-rows.result.now) = one_more c.rows_of-rows.result.now c.loop-row.row-index c.row-item.result c.loop-row-test.true c.row-item.is in
    marks_by (world_of c.args.setting) (plain_of c.args.setting).atoms (drop c.args.level (layers_of (accumulator c.args.acc.now))) c.in-Some.over.now (guard_at (accumulator c.args.acc.now).guards c.args.level) (drop (c.args.level + 1) (layers_of (accumulator c.args.acc.now))) (rows_in c.args.place.now) (rows_seen c.rows_of-rows.result.now) true
    (level_there (accumulator c.args.acc.now) c.as_slice.result.now c.args.level c.in-Some.over.now c.as_slice.ensures c.in-Some.ensures.lookup.3.0 c.in-Some.ensures.lookup.1)
    c.rows_of-rows.ensures
    (found_one (through (world_of c.args.setting) (plain_of c.args.setting).atoms c.in-Some.over.now (guard_at (accumulator c.args.acc.now).guards c.args.level) (drop (c.args.level + 1) (layers_of (accumulator c.args.acc.now))) (rows_in c.args.place.now)) c.row-item.result.now
    (rows_seen (drop (c.loop-row.row-index + 1) c.rows_of-rows.result.now)) (rows_seen (drop c.loop-row.row-index c.rows_of-rows.result.now)) (rows_seen c.rows_of-rows.result.now) more
    (through_both (world_of c.args.setting) (plain_of c.args.setting).atoms c.in-Some.over.now (guard_at (accumulator c.args.acc.now).guards c.args.level) (drop (c.args.level + 1) (layers_of (accumulator c.args.acc.now))) (rows_in c.args.place.now) c.row-item.result.now (sym c.passes.ensures ∙ c.if-passes.true) (sym c.marks.ensures ∙ c.if-marks.true))
    c.loop-row.invariant)

pub loop-row-preserved : goal.loop-row-preserved
loop-row-preserved t c =
    let more : rows_seen (drop c.loop-row.row-index c.rows_of-rows.result.now) ≡ c.row-item.result.now ∷ rows_seen (drop (c.loop-row.row-index + 1) c.rows_of-rows.result.now) = one_more c.rows_of-rows.result.now c.loop-row.row-index c.row-item.result c.loop-row-test.true c.row-item.is in
    not_this (through (world_of c.args.setting) (plain_of c.args.setting).atoms c.in-Some.over.now (guard_at (accumulator c.args.acc.now).guards c.args.level) (drop (c.args.level + 1) (layers_of (accumulator c.args.acc.now))) (rows_in c.args.place.now)) c.row-item.result.now
    (rows_seen (drop (c.loop-row.row-index + 1) c.rows_of-rows.result.now)) (rows_seen (drop c.loop-row.row-index c.rows_of-rows.result.now)) (rows_seen c.rows_of-rows.result.now) more
    (elim c.else-passes.branch [
      | else-passes-via-then-passes+else-marks w ↦ stopped_inside (world_of c.args.setting) (plain_of c.args.setting).atoms c.in-Some.over.now (guard_at (accumulator c.args.acc.now).guards c.args.level) (drop (c.args.level + 1) (layers_of (accumulator c.args.acc.now))) (rows_in c.args.place.now) c.row-item.result.now (sym w.marks.ensures ∙ w.if-marks.false)
      | else-passes-via-else-passes w ↦ stopped_here (world_of c.args.setting) (plain_of c.args.setting).atoms c.in-Some.over.now (guard_at (accumulator c.args.acc.now).guards c.args.level) (drop (c.args.level + 1) (layers_of (accumulator c.args.acc.now))) (rows_in c.args.place.now) c.row-item.result.now (sym c.passes.ensures ∙ w.if-passes.false)
    ])
    c.loop-row.invariant

pub returns : goal.returns
returns t c =
    marks_by (world_of c.args.setting) (plain_of c.args.setting).atoms (drop c.args.level (layers_of (accumulator c.args.acc.now))) c.in-Some.over.now (guard_at (accumulator c.args.acc.now).guards c.args.level) (drop (c.args.level + 1) (layers_of (accumulator c.args.acc.now))) (rows_in c.args.place.now) (rows_seen c.rows_of-rows.result.now) false
    (level_there (accumulator c.args.acc.now) c.as_slice.result.now c.args.level c.in-Some.over.now c.as_slice.ensures c.in-Some.ensures.lookup.3.0 c.in-Some.ensures.lookup.1)
    c.rows_of-rows.ensures
    (found_none (through (world_of c.args.setting) (plain_of c.args.setting).atoms c.in-Some.over.now (guard_at (accumulator c.args.acc.now).guards c.args.level) (drop (c.args.level + 1) (layers_of (accumulator c.args.acc.now))) (rows_in c.args.place.now))
    (rows_seen (drop c.loop-row.row-index c.rows_of-rows.result.now)) (rows_seen c.rows_of-rows.result.now) (seen_end c.rows_of-rows.result.now c.loop-row.row-index c.loop-row-test.false) c.loop-row.invariant)
