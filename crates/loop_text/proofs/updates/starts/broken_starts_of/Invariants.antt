use Rattle.std.proofs.Common.{◌≡◌, drop, map}
use Rattle.java_ast.specs.Reading.{statements}
use Rattle.loop_text.specs.Kernel.KernelStarts.{broken_starts_of}
use Rattle.loop_text.specs.Sites.Reading.{site_of}
use Rattle.java_ast.specs.Names.{names_lent}
use Rattle.loop_text.proofs.updates.starts.broken_starts_of.Given as goal

abbrev pub invariant-loop-i : goal.invariant-loop-i
invariant-loop-i l = broken_starts_of (map site_of l.all) l.at (names_lent l.left) (statements (drop l.i l.run)) ≡ broken_starts_of (map site_of l.all) l.at (names_lent l.accs) (statements l.run)
