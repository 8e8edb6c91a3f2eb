use Rattle.std.proofs.Common.{◌≡◌, ◌∷◌, ◌+◌, ℕ, List, Some, None, drop, rules, refl, sym, ◌∙◌, subst}
use Rattle.std.specs.List.{AllByRecursion}
use Rattle.qbs_base.specs.declared.scalar.Row.{Row}
use Rattle.kernel_lang.specs.Plain.{Accumulator, accumulator}
use Rattle.kernel_lang.specs.Running.{Layer, layer, layers_of, with_row, run}
use Rattle.kernel_interp.specs.Ends.{Gives, Stopped, NumbersFit, update_of, data_of}
use Rattle.kernel_interp.specs.Reading.{rows_in, rows_seen, world_of, flagged, plain_of, guard_at}
use Rattle.kernel_interp.proofs.Levels.{level_there, level_past, seen_end}
use Rattle.kernel_interp.proofs.Steps.{step, one_more, all_tail, went_on, went_wrong, step_passed, step_left, stopped_more, all_done, whole_run}
use Rattle.kernel_interp.proofs.run.+run.Goals as goal
use Rattle.kernel_interp.proofs.run.+run.Goals.{then-passes+in_ok-current, else-passes}

pub updated-requires : goal.updated-requires
updated-requires t c =
    subst (λ (ys : List Layer). NumbersFit (world_of c.args.setting).lists (update_of c.args.running) ys (rows_in c.args.place.now)) (level_past (accumulator c.args.acc.now) c.as_slice.result.now c.args.level c.as_slice.ensures c.in-None.ensures.lookup.3) c.requires

pub returns-in-None : goal.returns-in-None
returns-in-None t c =
    subst (λ (ys : List Layer). Gives c.updated.result (update_of c.args.running) (run (flagged c.args.setting) (plain_of c.args.setting).atoms (update_of c.args.running) ys (rows_in c.args.place.now) (data_of c.args.running)))
    (sym (level_past (accumulator c.args.acc.now) c.as_slice.result.now c.args.level c.as_slice.ensures c.in-None.ensures.lookup.3)) c.updated.ensures

-- the layers from this level on
abbrev here : Accumulator → ℕ → ℕ → Type 0
here a level over = drop level (layers_of a) ≡ layer over (guard_at a.guards level) ∷ drop (level + 1) (layers_of a)

pub loop-row-init : goal.loop-row-init
loop-row-init t c =
    let e : here (accumulator c.args.acc.now) c.args.level c.in-Some.over.now = level_there (accumulator c.args.acc.now) c.as_slice.result.now c.args.level c.in-Some.over.now c.as_slice.ensures c.in-Some.ensures.lookup.3.0 c.in-Some.ensures.lookup.1 in
    let all : NumbersFit (world_of c.args.setting).lists (update_of c.args.running) (layer c.in-Some.over.now (guard_at (accumulator c.args.acc.now).guards c.args.level) ∷ drop (c.args.level + 1) (layers_of (accumulator c.args.acc.now))) (rows_in c.args.place.now) =
    subst (λ (ys : List Layer). NumbersFit (world_of c.args.setting).lists (update_of c.args.running) ys (rows_in c.args.place.now)) e c.requires in
    record {
      left = refl;
      fits = subst (λ (rs : List Row). AllByRecursion (λ r. NumbersFit (world_of c.args.setting).lists (update_of c.args.running) (drop (c.args.level + 1) (layers_of (accumulator c.args.acc.now))) (with_row (rows_in c.args.place.now) c.in-Some.over.now r)) rs) (sym c.rows_of-rows.ensures) all;
      same = refl;
    }

pub returns-in_err-current : goal.returns-in_err-current
returns-in_err-current t c =
    let more : rows_seen (drop c.loop-row.row-index c.rows_of-rows.result.now) ≡ c.row-item.result.now ∷ rows_seen (drop (c.loop-row.row-index + 1) c.rows_of-rows.result.now) = one_more c.rows_of-rows.result.now c.loop-row.row-index c.row-item.result c.loop-row-test.true c.row-item.is in
    let stopped : Stopped c.in_err-current.field-0.0 (run (flagged c.args.setting) (plain_of c.args.setting).atoms (update_of c.args.running) (drop c.args.level (layers_of (accumulator c.args.acc.now))) (rows_in c.args.place.now) (data_of c.args.running)) =
    stopped_more c.in_err-current.field-0.0 (run (flagged c.args.setting) (plain_of c.args.setting).atoms (update_of c.loop-row.current) (drop (c.args.level + 1) (layers_of (accumulator c.args.acc.now))) (with_row (rows_in c.args.place.now) c.in-Some.over.now c.row-item.result.now) (data_of c.loop-row.current))
    (run (flagged c.args.setting) (plain_of c.args.setting).atoms (update_of c.args.running) (drop c.args.level (layers_of (accumulator c.args.acc.now))) (rows_in c.args.place.now) (data_of c.args.running))
    (λ none. whole_run (flagged c.args.setting) (plain_of c.args.setting).atoms (update_of c.args.running) (drop c.args.level (layers_of (accumulator c.args.acc.now))) c.in-Some.over.now (guard_at (accumulator c.args.acc.now).guards c.args.level) (drop (c.args.level + 1) (layers_of (accumulator c.args.acc.now))) (rows_in c.args.place.now) (rows_seen c.rows_of-rows.result.now) (data_of c.args.running) None
    (level_there (accumulator c.args.acc.now) c.as_slice.result.now c.args.level c.in-Some.over.now c.as_slice.ensures c.in-Some.ensures.lookup.3.0 c.in-Some.ensures.lookup.1)
    c.rows_of-rows.ensures
    (went_wrong (step (flagged c.args.setting) (plain_of c.args.setting).atoms (update_of c.args.running) c.in-Some.over.now (guard_at (accumulator c.args.acc.now).guards c.args.level) (drop (c.args.level + 1) (layers_of (accumulator c.args.acc.now))) (rows_in c.args.place.now)) c.row-item.result.now
    (rows_seen (drop (c.loop-row.row-index + 1) c.rows_of-rows.result.now)) (rows_seen (drop c.loop-row.row-index c.rows_of-rows.result.now)) (data_of c.loop-row.current) _ more
    (step_passed (flagged c.args.setting) (plain_of c.args.setting).atoms (update_of c.args.running) (update_of c.loop-row.current) c.in-Some.over.now (guard_at (accumulator c.args.acc.now).guards c.args.level) (drop (c.args.level + 1) (layers_of (accumulator c.args.acc.now))) (rows_in c.args.place.now) c.row-item.result.now (data_of c.loop-row.current) None
    c.loop-row.invariant.same (sym c.passes.ensures ∙ c.if-passes.true) none)
    c.loop-row.invariant.left))
    c.in_err-current.ensures in
    search (rules, stopped)

pub loop-row-preserved : goal.loop-row-preserved
loop-row-preserved t c =
    let more : rows_seen (drop c.loop-row.row-index c.rows_of-rows.result.now) ≡ c.row-item.result.now ∷ rows_seen (drop (c.loop-row.row-index + 1) c.rows_of-rows.result.now) = one_more c.rows_of-rows.result.now c.loop-row.row-index c.row-item.result c.loop-row-test.true c.row-item.is in
    let rest = all_tail (λ r. NumbersFit (world_of c.args.setting).lists (update_of c.args.running) (drop (c.args.level + 1) (layers_of (accumulator c.args.acc.now))) (with_row (rows_in c.args.place.now) c.in-Some.over.now r)) c.row-item.result.now (rows_seen (drop (c.loop-row.row-index + 1) c.rows_of-rows.result.now)) (rows_seen (drop c.loop-row.row-index c.rows_of-rows.result.now)) more c.loop-row.invariant.fits in
    elim c.if-passes.branch [
      | then-passes+in_ok-current w ↦ record {
        left = rw w.current-is (went_on (step (flagged c.args.setting) (plain_of c.args.setting).atoms (update_of c.args.running) c.in-Some.over.now (guard_at (accumulator c.args.acc.now).guards c.args.level) (drop (c.args.level + 1) (layers_of (accumulator c.args.acc.now))) (rows_in c.args.place.now)) c.row-item.result.now
            (rows_seen (drop (c.loop-row.row-index + 1) c.rows_of-rows.result.now)) (rows_seen (drop c.loop-row.row-index c.rows_of-rows.result.now)) (data_of c.loop-row.current) (data_of w.in_ok-current.current) _ more
            (step_passed (flagged c.args.setting) (plain_of c.args.setting).atoms (update_of c.args.running) (update_of c.loop-row.current) c.in-Some.over.now (guard_at (accumulator c.args.acc.now).guards c.args.level) (drop (c.args.level + 1) (layers_of (accumulator c.args.acc.now))) (rows_in c.args.place.now) c.row-item.result.now (data_of c.loop-row.current) (Some (data_of w.in_ok-current.current))
            c.loop-row.invariant.same (sym c.passes.ensures ∙ w.if-passes.true) w.in_ok-current.ensures.0)
            c.loop-row.invariant.left);
        fits = rest.1;
        same = rw w.current-is (w.in_ok-current.ensures.1 ∙ c.loop-row.invariant.same);
      }
      | else-passes w ↦ record {
        left = rw w.current-is (went_on (step (flagged c.args.setting) (plain_of c.args.setting).atoms (update_of c.args.running) c.in-Some.over.now (guard_at (accumulator c.args.acc.now).guards c.args.level) (drop (c.args.level + 1) (layers_of (accumulator c.args.acc.now))) (rows_in c.args.place.now)) c.row-item.result.now
            (rows_seen (drop (c.loop-row.row-index + 1) c.rows_of-rows.result.now)) (rows_seen (drop c.loop-row.row-index c.rows_of-rows.result.now)) (data_of c.loop-row.current) (data_of c.loop-row.current) _ more
            (step_left (flagged c.args.setting) (plain_of c.args.setting).atoms (update_of c.args.running) c.in-Some.over.now (guard_at (accumulator c.args.acc.now).guards c.args.level) (drop (c.args.level + 1) (layers_of (accumulator c.args.acc.now))) (rows_in c.args.place.now) c.row-item.result.now (data_of c.loop-row.current)
            (sym c.passes.ensures ∙ w.if-passes.false))
            c.loop-row.invariant.left);
        fits = rest.1;
        same = rw w.current-is c.loop-row.invariant.same;
      }
    ]

pub returns : goal.returns
returns t c = (
  whole_run (flagged c.args.setting) (plain_of c.args.setting).atoms (update_of c.args.running) (drop c.args.level (layers_of (accumulator c.args.acc.now))) c.in-Some.over.now (guard_at (accumulator c.args.acc.now).guards c.args.level) (drop (c.args.level + 1) (layers_of (accumulator c.args.acc.now))) (rows_in c.args.place.now) (rows_seen c.rows_of-rows.result.now) (data_of c.args.running) (Some (data_of c.loop-row.current))
      (level_there (accumulator c.args.acc.now) c.as_slice.result.now c.args.level c.in-Some.over.now c.as_slice.ensures c.in-Some.ensures.lookup.3.0 c.in-Some.ensures.lookup.1)
      c.rows_of-rows.ensures
      (all_done (step (flagged c.args.setting) (plain_of c.args.setting).atoms (update_of c.args.running) c.in-Some.over.now (guard_at (accumulator c.args.acc.now).guards c.args.level) (drop (c.args.level + 1) (layers_of (accumulator c.args.acc.now))) (rows_in c.args.place.now))
      (rows_seen (drop c.loop-row.row-index c.rows_of-rows.result.now)) (data_of c.loop-row.current) _ (seen_end c.rows_of-rows.result.now c.loop-row.row-index c.loop-row-test.false) c.loop-row.invariant.left),
  c.loop-row.invariant.same,
)
