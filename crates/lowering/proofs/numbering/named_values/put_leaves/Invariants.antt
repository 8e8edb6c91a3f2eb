use Rattle.std.proofs.Common.{drop, map}
use Rattle.lowering.specs.InCode.Numbered.{leaf_in_code}
use Rattle.java_loops.specs.Lowering.Numbering.{entries_among}
use Rattle.loop_text.specs.Sites.Reading.{exprs_lent, site_of}
use Rattle.java_loops.specs.Lowering.UpTo.{Reaches}
use Rattle.lowering.proofs.numbering.named_values.put_leaves.Given as goal

abbrev pub invariant-loop-leaf : goal.invariant-loop-leaf
invariant-loop-leaf l =
    Reaches 9 (exprs_lent l.entries) (entries_among (map site_of l.w.sites.now) (exprs_lent l.entries) (map leaf_in_code (drop l.leaf-index l.leaves))) (entries_among (map site_of l.w.sites.now) (exprs_lent l.fn.entries) (map leaf_in_code l.leaves))
