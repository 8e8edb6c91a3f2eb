use Rattle.std.proofs.Common.{◌≡◌, ◌++◌}
use Rattle.std.specs.Vec.Iter.{into_iter_items}
use Rattle.vc_gen.specs.Conditions.{claims_of}
use Rattle.vc_gen.specs.Lent.{claims_over}
use Rattle.vc_gen.proofs.all.with_atoms.Given as goal

-- the conditions that are left come behind those that have their atoms
abbrev pub invariant-loop-condition : goal.invariant-loop-condition
invariant-loop-condition l = claims_of l.all ++ claims_over l.atoms (into_iter_items l.condition-iterator) ≡ claims_over l.fn.atoms l.fn.conditions
