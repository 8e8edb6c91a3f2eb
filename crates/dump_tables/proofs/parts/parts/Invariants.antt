use Rattle.std.proofs.Common.{◌≡◌, ◌++◌, length, map}
use Rattle.dump_tables.specs.Parts.{parts}
use Rattle.dump_tables.proofs.parts.parts.Given as goal

abbrev pub invariant-loop-list : goal.invariant-loop-list
invariant-loop-list l = map (λ p. p.now) l.list ++ parts 0 l.rest ≡ parts 0 l.fn.items

abbrev pub decreases-loop-list : goal.decreases-loop-list
decreases-loop-list l = length l.rest
