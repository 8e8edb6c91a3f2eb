use Rattle.std.proofs.Common.{◌≡◌, drop}
use Rattle.std.specs.List.{list_any}
use Rattle.java_loops.specs.Lowering.Numbering.{same_atom}
use Rattle.lowering.proofs.numbering.atoms.has_atom.Given as goal

abbrev pub invariant-loop-b : goal.invariant-loop-b
invariant-loop-b l = list_any (same_atom l.a) (drop l.b-index l.atoms) ≡ list_any (same_atom l.a) l.atoms
