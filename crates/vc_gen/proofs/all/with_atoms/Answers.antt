use Rattle.std.proofs.Common.{◌≡◌, ◌∷◌, rules}
use Rattle.std.specs.Vec.Iter.{into_iter_items}
use Rattle.vc_gen.proofs.WithAtoms.{given}
use Rattle.vc_gen.proofs.all.with_atoms.Goals as goal

pub loop-condition-preserved : goal.loop-condition-preserved
loop-condition-preserved c =
    let is : into_iter_items c.loop-condition.condition-iterator ≡ c.in-Some.condition ∷ into_iter_items c.next.new.self = search rules in
    given c.args.atoms.now c.loop-condition.all c.add_with_atoms.new.all (into_iter_items c.loop-condition.condition-iterator) (into_iter_items c.next.new.self) c.in-Some.condition c.in_ok-condition.condition.value is _ c.in_ok-condition.ensures c.in_ok-add_with_atoms.ensures c.loop-condition.invariant
