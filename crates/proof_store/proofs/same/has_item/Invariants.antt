use Rattle.std.proofs.Common.{◌≡◌, drop}
use Rattle.std.specs.List.{list_any}
use Rattle.proof_store.specs.Same as spec
use Rattle.proof_store.proofs.same.has_item.Given as goal

abbrev pub invariant-loop-own : goal.invariant-loop-own
invariant-loop-own l = list_any (spec.same_item l.item) l.items ≡ list_any (spec.same_item l.item) (drop l.own-index l.items)
