use Rattle.std.proofs.Common.{drop}
use Rattle.std.specs.List.{AllByRecursion}
use Rattle.sql_parts.specs.Given.{AtomIsUtf8}
use Rattle.sql_parts.proofs.texts.read_atoms.Given as goal

abbrev pub invariant-loop-atom : goal.invariant-loop-atom
invariant-loop-atom l = AllByRecursion AtomIsUtf8 (drop l.atom-index l.atoms) → AllByRecursion AtomIsUtf8 l.atoms
