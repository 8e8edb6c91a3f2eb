use Rattle.std.proofs.Common.{◌≡◌, ◌+◌, drop}
use Rattle.java_loops.specs.Lowering.Numbering.{number_where, same_atom}
use Rattle.lowering.proofs.numbering.atoms.atom_number.Given as goal

abbrev pub invariant-loop-i : goal.invariant-loop-i
invariant-loop-i l = l.i + number_where (same_atom l.a) (drop l.i l.atoms) ≡ number_where (same_atom l.a) l.atoms
