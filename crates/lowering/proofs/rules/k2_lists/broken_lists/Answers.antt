use Rattle.std.proofs.Common.{◌∙◌, sym}
use Rattle.java_loops.specs.Kernel.KernelLists.{broken_list}
use Rattle.lowering.specs.InCode.Reading.{setting_in_code}
use Rattle.java_loops.proofs.Lists.Lent.{lent_below, lent_item}
use Rattle.loop_text.proofs.Trees.Rounds.{passed_site}
use Rattle.lowering.proofs.rules.k2_lists.broken_lists.Goals as goal

pub loop-n-preserved : goal.loop-n-preserved
loop-n-preserved c =
    passed_site (broken_list (setting_in_code c.args.w.now)) c.loop-n.n c.args.w.now.sites.now c.s-item.result _
    (lent_below _ c.args.w.now.sites.now c.loop-n.n c.as_slice-s-items.ensures c.loop-n-test.true)
    (lent_item _ c.args.w.now.sites.now c.loop-n.n c.s-item.result c.as_slice-s-items.ensures c.s-item.is)
    (sym c.broken_list.ensures ∙ c.in_default.is)
    c.loop-n.invariant
