use Rattle.std.proofs.Common.{sym, ◌∙◌}
use Rattle.std.proofs.lemmas.Result.{err_from_is_err_and}
use Rattle.readers.proofs.Loops.{many_stop, many_run_out}
use Rattle.proof_store.specs.Reading.{is_end, item_at, items_at}
use Rattle.proof_store.proofs.Putting.{items_begin, items_go_on, items_fail}
use Rattle.proof_store.proofs.item.items.Goals as goal
use Rattle.proof_store.proofs.item.items.Goals.{else-loop-test, then-loop-test+then-is_over_at}

pub loop-init : goal.loop-init
unfolding items_at
loop-init c = rw c.new-items.ensures.items (items_begin is_end (item_at c.args.schema.now) 256 c.args.bytes.now)

pub returns-in_err-rest : goal.returns-in_err-rest
returns-in_err-rest c =
    let p = err_from_is_err_and c.from_residual.result c.from_residual.ensures.1 in
    rw (p.1, p.2) (items_fail is_end (item_at c.args.schema.now) c.loop.items.items 256 c.loop.counter c.loop.rest.now (items_at c.args.schema.now c.args.bytes.now) c.in_err-rest.field-0.0 c.loop-test.true (sym c.is_over_at.ensures ∙ c.if-is_over_at.false) c.in_err-rest.ensures c.loop.invariant)

pub loop-preserved : goal.loop-preserved
loop-preserved c =
    items_go_on is_end (item_at c.args.schema.now) c.loop.items.items 256 c.loop.counter c.loop.rest.now (items_at c.args.schema.now c.args.bytes.now) c.put_item.new.items.items c.in_ok-rest.rest.now c.loop-test.true (sym c.is_over_at.ensures ∙ c.if-is_over_at.false) c.in_ok-rest.ensures c.loop.invariant

pub returns : goal.returns
returns c =
    elim c.loop-test.branch [
      | else-loop-test w ↦ many_run_out is_end (item_at c.args.schema.now) c.loop.items.items 256 c.loop.counter c.loop.rest.now (items_at c.args.schema.now c.args.bytes.now) w.loop-test.false c.loop.invariant
      | then-loop-test+then-is_over_at w ↦ many_stop is_end (item_at c.args.schema.now) c.loop.items.items 256 c.loop.counter c.loop.rest.now (items_at c.args.schema.now c.args.bytes.now) w.loop-test.true (sym w.is_over_at.ensures ∙ w.if-is_over_at.true) c.loop.invariant
    ]
