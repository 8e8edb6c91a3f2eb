use Rattle.std.proofs.Common.{◌<◌, List, length, sym, ap, ◌∙◌, arith, false-eqb}
use Rattle.std.proofs.lemmas.Bool.{eqb-true}
use Rattle.dump_items.specs.declared.item.Item.{Item}
use Rattle.dump_items.specs.Pieces.{items_from}
use Rattle.dump_items.specs.Splitting.{total}
use Rattle.dump_items.proofs.Splits.{begins, none_open, advance, less_open, finished}
use Rattle.dump_items.proofs.splitting.statements.Goals as goal

pub loop-rest-init : goal.loop-rest-init
loop-rest-init c = record {
  so_far = begins _ _ _ _ c.new.ensures c.new-2.ensures c.outside.ensures;
  depth = (none_open c.outside.result (length c.args.text.now) c.outside.ensures).0;
  blocks = (none_open c.outside.result (length c.args.text.now) c.outside.ensures).1;
}

pub loop-rest-preserved : goal.loop-rest-preserved
loop-rest-preserved c =
    let some : 0 < length c.loop-rest.rest.now = omega (arith, false-eqb _ 0 c.loop-rest-test.ensures) in
    record {
      so_far = c.in_ok-take.ensures.total (items_from c.contains-escapes.result 0 c.split_at.result.1.now)
          ∙ ap (λ (is : List Item). total c.loop-rest.splitter.done c.loop-rest.splitter.current c.loop-rest.splitter.nest is)
          (advance c.contains-escapes.result c.loop-rest.rest.now c.split_at.result.0.now c.split_at.result.1.now c.piece-kind.result some c.piece-kind.ensures.len.0 c.piece-kind.ensures.value c.split_at.ensures.front c.split_at.ensures.back)
          ∙ c.loop-rest.invariant.so_far;
      depth = less_open c.loop-rest.splitter.nest.depth c.take.new.self.nest.depth 0 c.piece-kind.result.1 (length c.args.text.now) c.loop-rest.rest.now c.split_at.result.1.now c.in_ok-take.ensures.depth c.loop-rest.invariant.depth some c.piece-kind.ensures.len.0 c.split_at.ensures.back;
      blocks = less_open c.loop-rest.splitter.nest.blocks c.take.new.self.nest.blocks 0 c.piece-kind.result.1 (length c.args.text.now) c.loop-rest.rest.now c.split_at.result.1.now c.in_ok-take.ensures.blocks c.loop-rest.invariant.blocks some c.piece-kind.ensures.len.0 c.split_at.ensures.back;
    }

pub returns : goal.returns
returns c =
    finished c.loop-rest.splitter.done c.finish.new.self.done c.loop-rest.splitter.current c.loop-rest.splitter.nest c.contains-escapes.result c.loop-rest.rest.now c.args.text.now
    (eqb-true _ _ (sym c.loop-rest-test.ensures)) c.contains-escapes.ensures.value c.in_ok-finish.ensures.done c.loop-rest.invariant.so_far
