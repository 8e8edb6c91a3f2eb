use Rattle.std.proofs.Common.{◌≡◌, drop, map}
use Rattle.java_loops.specs.Kernel.KernelLists.{is_barred_site}
use Rattle.loop_text.specs.Sites.Reading.{site_of}
use Rattle.lowering.specs.InCode.Reading.{setting_in_code}
use Rattle.loop_text.specs.Sites.Sites.{any_site}
use Rattle.lowering.proofs.rules.k2_lists.has_barred.Given as goal

abbrev pub invariant-loop-n : goal.invariant-loop-n
invariant-loop-n l = any_site (is_barred_site (setting_in_code l.w)) l.n (map site_of (drop l.n l.w.sites.now)) ≡ any_site (is_barred_site (setting_in_code l.w)) 0 (map site_of l.w.sites.now)
