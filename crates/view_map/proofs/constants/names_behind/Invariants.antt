use Rattle.std.proofs.Common.{◌≡◌, ◌-◌, [], ◌∷◌, length}
use Rattle.view_map.specs.Constants.{names_behind}
use Rattle.view_map.proofs.constants.names_behind.Given as goal

abbrev pub invariant-loop : goal.invariant-loop
invariant-loop l = names_behind l.names (length l.items - l.counter) l.fn.end l.rest ≡ names_behind (l.fn.first ∷ []) (length l.items) l.fn.end l.items
