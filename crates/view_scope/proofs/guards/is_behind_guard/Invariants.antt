use Rattle.std.proofs.Common.{◌≡◌, drop}
use Rattle.std.specs.List.{list_any}
use Rattle.view_scope.specs.Guards.{guards_behind}
use Rattle.view_scope.proofs.guards.is_behind_guard.Given as goal

abbrev pub invariant-loop-s : goal.invariant-loop-s
invariant-loop-s l =
    list_any (guards_behind l.items l.closings l.rounds l.place l.name l.since) (drop l.s-index l.standing)
    ≡ list_any (guards_behind l.items l.closings l.rounds l.place l.name l.since) l.standing
