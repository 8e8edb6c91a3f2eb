use Rattle.std.proofs.Common.{rules, ◌-◌, length, arith}
use Rattle.std.proofs.lemmas.Grind.{common_steps}
use Rattle.view_text.proofs.Placed.{next_stretch}
use Rattle.view_text.proofs.stretches.lay_out_placed.Goals as goal

pub loop-cell-preserved : goal.loop-cell-preserved
loop-cell-preserved c = record {
  text = grind (arith, common_steps);
  stretches = next_stretch c.args.cells.now c.loop-cell.cell-index c.cell-item.result c.loop-cell.before c.in_ok-before.before c.loop-cell.stretches c.push.new.self _ c.loop-cell.out.items c.push_cell.new.out.items (c.len-to.result - length c.as_slice-bytes.result.now) c.len-to.result
      c.loop-cell-test.true c.cell-item.is (search (rules, c.in_ok-before.ensures.behind, c.as_slice-bytes.ensures)) (search (rules, c.in_ok-before.ensures.text, c.as_slice-bytes.ensures)) (search rules) (search (rules, c.as_slice-bytes.ensures)) (search (rules, c.in_ok-push.ensures.ok)) c.loop-cell.invariant.stretches;
  depth = grind (arith, common_steps);
}
