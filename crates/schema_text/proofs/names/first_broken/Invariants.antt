use Rattle.std.proofs.Common.{◌≡◌, length}
use Rattle.schema.specs.declared.names.Where.TheVariants.{Create}
use Rattle.schema.specs.Naming.{declared_before, first_broken, nothing_seen}
use Rattle.schema_text.proofs.names.first_broken.Given as goal

abbrev pub invariant-loop-token : goal.invariant-loop-token
invariant-loop-token l = first_broken l.seen (declared_before l.fn.left l.place l.rest) ≡ first_broken nothing_seen (declared_before l.fn.left Create l.fn.tokens)

abbrev pub decreases-loop-token : goal.decreases-loop-token
decreases-loop-token l = length l.rest
