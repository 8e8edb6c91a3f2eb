use Rattle.std.proofs.Common.{◌≡◌, ◌++◌, drop, map}
use Rattle.java_loops.specs.Lowering.Lowered.{lists_of}
use Rattle.lowering.specs.InCode.Reading.{setting_in_code}
use Rattle.loop_text.specs.Sites.Reading.{site_of}
use Rattle.lowering.proofs.lowering.source_lists.lists_of.Given as goal

abbrev pub invariant-loop-s : goal.invariant-loop-s
invariant-loop-s l = l.lists ++ lists_of (setting_in_code l.w) (map site_of (drop l.s-index l.w.sites.now)) ≡ lists_of (setting_in_code l.w) (map site_of l.w.sites.now)
