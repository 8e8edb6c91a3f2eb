use Rattle.std.proofs.Common.{◌≡◌, drop, map}
use Rattle.loop_text.specs.Sites.Reading.{site_of}
use Rattle.lowering.specs.InCode.Reading.{setting_in_code}
use Rattle.loop_text.specs.Sites.Sites.{first_broken}
use Rattle.java_loops.specs.Kernel.KernelConditions.{broken_condition_at}
use Rattle.lowering.proofs.rules.k7_conditions.broken_conditions.Given as goal

abbrev pub invariant-loop-n : goal.invariant-loop-n
invariant-loop-n l = first_broken (broken_condition_at (setting_in_code l.w)) l.n (map site_of (drop l.n l.w.sites.now)) ≡ first_broken (broken_condition_at (setting_in_code l.w)) 0 (map site_of l.w.sites.now)
