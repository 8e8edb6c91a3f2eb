use Rattle.std.proofs.Common.{◌≡◌, ◌-◌, ◌<◌, ◌∷◌, ◌∙◌, List, length, take, drop, ap, arith}
use Rattle.std.proofs.lemmas.Result.{err_from_is_err_and}
use Rattle.view_items.specs.declared.item.Item.{Item}
use Rattle.view_map.specs.Maps.{entries_at, no_draft}
use Rattle.view_map.proofs.Counted.{entries_go_on, entries_fail, entries_stop, entries_run_out, front, empty}
use Rattle.view_map.proofs.maps.draft_of.Goals as goal
use Rattle.view_map.proofs.maps.draft_of.Goals.{else-loop-test, then-loop-test+in_default}

pub returns-in_err-rest : goal.returns-in_err-rest
returns-in_err-rest c =
    let count = length c.args.items.now in
    let total = entries_at c.args.schema.now count no_draft c.args.end c.args.items.now in
    let item = c.item-item.result in
    let behind = take (length c.loop.rest.now - 1) (drop 1 c.loop.rest.now) in
    let so_far : entries_at c.args.schema.now (count - c.loop.counter) c.loop.draft c.args.end (item ∷ behind) ≡ total =
    ap (λ (is : List Item). entries_at c.args.schema.now (count - c.loop.counter) c.loop.draft c.args.end is)
    (front c.loop.rest.now item c.item-item.is c.in-len1-up.len_at_least)
    ∙ c.loop.invariant.so_far in
    let p = err_from_is_err_and c.from_residual.result c.from_residual.ensures.1 in
    rw (p.1, p.2)
    (entries_fail c.args.schema.now c.loop.draft count c.loop.counter c.args.end total c.in_err-rest.field-0.0 item behind c.loop-test.true c.in_err-rest.ensures.value
    so_far)

pub loop-preserved : goal.loop-preserved
loop-preserved c =
    let count = length c.args.items.now in
    let total = entries_at c.args.schema.now count no_draft c.args.end c.args.items.now in
    let item = c.item-item.result in
    let behind = take (length c.loop.rest.now - 1) (drop 1 c.loop.rest.now) in
    let so_far : entries_at c.args.schema.now (count - c.loop.counter) c.loop.draft c.args.end (item ∷ behind) ≡ total =
    ap (λ (is : List Item). entries_at c.args.schema.now (count - c.loop.counter) c.loop.draft c.args.end is)
    (front c.loop.rest.now item c.item-item.is c.in-len1-up.len_at_least)
    ∙ c.loop.invariant.so_far in
    record {
      so_far =
          entries_go_on c.args.schema.now c.loop.draft count c.loop.counter c.args.end total item behind c.in_ok-rest.rest.now c.take_entry.new.draft c.loop-test.true
          c.in_ok-rest.ensures.value so_far;
      patterns = c.in_ok-rest.ensures.patterns;
      constants = c.in_ok-rest.ensures.constants;
    }

pub returns : goal.returns
returns c =
    let count = length c.args.items.now in
    let total = entries_at c.args.schema.now count no_draft c.args.end c.args.items.now in
    elim c.loop-test.branch [
      | else-loop-test w ↦
          entries_run_out c.args.schema.now c.loop.draft count c.loop.counter c.args.end total c.loop.rest.now w.loop-test.false c.loop.invariant.so_far
      | then-loop-test+in_default w ↦
          let few : length c.loop.rest.now < 1 = omega arith in
          entries_stop c.args.schema.now c.loop.draft count c.loop.counter c.args.end total c.loop.rest.now w.loop-test.true (empty c.loop.rest.now few)
          c.loop.invariant.so_far
    ]
