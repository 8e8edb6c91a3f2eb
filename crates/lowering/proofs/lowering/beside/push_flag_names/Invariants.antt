use Rattle.std.proofs.Common.{◌≡◌, ◌++◌, drop, map}
use Rattle.java_loops.specs.Lowering.Lowered.{names_of_flags}
use Rattle.loop_text.specs.Sites.Reading.{site_of}
use Rattle.lowering.proofs.lowering.beside.push_flag_names.Given as goal

abbrev pub invariant-loop-s : goal.invariant-loop-s
invariant-loop-s l = l.names ++ names_of_flags (map site_of (drop l.s-index l.w.sites.now)) ≡ l.fn.names ++ names_of_flags (map site_of l.w.sites.now)
