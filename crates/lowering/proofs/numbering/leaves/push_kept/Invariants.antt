use Rattle.std.proofs.Common.{◌≡◌, ◌++◌, drop, map}
use Rattle.lowering.specs.InCode.Numbered.{leaf_in_code}
use Rattle.java_loops.specs.Lowering.Numbering.{leaves_kept}
use Rattle.loop_text.specs.Sites.Reading.{exprs_lent, site_of}
use Rattle.lowering.proofs.numbering.leaves.push_kept.Given as goal

abbrev pub invariant-loop-e : goal.invariant-loop-e
invariant-loop-e l =
    map leaf_in_code l.found ++ leaves_kept (map site_of l.w.sites.now) l.number (exprs_lent (drop l.e-index l.leaves))
    ≡ map leaf_in_code l.fn.found ++ leaves_kept (map site_of l.w.sites.now) l.number (exprs_lent l.leaves)
