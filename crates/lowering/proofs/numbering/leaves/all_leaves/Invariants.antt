use Rattle.std.proofs.Common.{◌≡◌, ◌++◌, drop, map}
use Rattle.lowering.specs.InCode.Numbered.{leaf_in_code}
use Rattle.java_loops.specs.Lowering.Numbering.{leaves_from}
use Rattle.loop_text.specs.Sites.Reading.{site_of}
use Rattle.lowering.proofs.numbering.leaves.all_leaves.Given as goal

abbrev pub invariant-loop-n : goal.invariant-loop-n
invariant-loop-n l =
    map leaf_in_code l.found ++ leaves_from (map site_of l.w.sites.now) l.n (map site_of (drop l.n l.w.sites.now)) ≡ leaves_from (map site_of l.w.sites.now) 0 (map site_of l.w.sites.now)
