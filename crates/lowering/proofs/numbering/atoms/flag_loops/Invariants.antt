use Rattle.std.proofs.Common.{◌≡◌, ◌++◌, drop, map}
use Rattle.java_loops.specs.Lowering.Numbering.{loop_number}
use Rattle.loop_text.specs.Sites.Reading.{site_of}
use Rattle.lowering.proofs.numbering.atoms.flag_loops.Given as goal

abbrev pub invariant-loop-j : goal.invariant-loop-j
invariant-loop-j l = l.numbers ++ map (loop_number (map site_of l.w.sites.now)) (drop l.j-index l.loops) ≡ map (loop_number (map site_of l.w.sites.now)) l.loops
