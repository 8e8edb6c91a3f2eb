use Rattle.std.proofs.Common.{◌≡◌, take, map}
use Rattle.java_steps.specs.Met.{atom_in}
use Rattle.java_steps.proofs.met.key_of.Given as goal

abbrev pub invariant-loop-x : goal.invariant-loop-x
invariant-loop-x l = map atom_in l.atoms.items ≡ take l.x-index l.cells
