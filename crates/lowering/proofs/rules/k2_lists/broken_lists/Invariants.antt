use Rattle.std.proofs.Common.{◌≡◌, drop, map}
use Rattle.java_loops.specs.Kernel.KernelLists.{broken_list}
use Rattle.loop_text.specs.Sites.Reading.{site_of}
use Rattle.lowering.specs.InCode.Reading.{setting_in_code}
use Rattle.loop_text.specs.Sites.Sites.{first_broken}
use Rattle.lowering.proofs.rules.k2_lists.broken_lists.Given as goal

abbrev pub invariant-loop-n : goal.invariant-loop-n
invariant-loop-n l = first_broken (broken_list (setting_in_code l.w)) l.n (map site_of (drop l.n l.w.sites.now)) ≡ first_broken (broken_list (setting_in_code l.w)) 0 (map site_of l.w.sites.now)
