use Rattle.std.proofs.Common.{drop}
use Rattle.std.specs.List.{AllByRecursion}
use Rattle.sql_parts.specs.Given.{AtomIsHeld}
use Rattle.sql_parts.proofs.held.read_atoms.Given as goal

abbrev pub invariant-loop-atom : goal.invariant-loop-atom
invariant-loop-atom l = AllByRecursion AtomIsHeld (drop l.atom-index l.atoms) → AllByRecursion AtomIsHeld l.atoms
