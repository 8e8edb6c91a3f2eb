use Rattle.std.proofs.Common.{◌≡◌, drop}
use Rattle.std.specs.List.{list_any}
use Rattle.view_scope.specs.Obscured.{hides_class}
use Rattle.view_scope.proofs.obscured.hides_some.Given as goal

abbrev pub invariant-loop-row : goal.invariant-loop-row
invariant-loop-row l = list_any (hides_class l.items l.class l.number l.name) (drop l.row-index l.rows) ≡ list_any (hides_class l.items l.class l.number l.name) l.rows
