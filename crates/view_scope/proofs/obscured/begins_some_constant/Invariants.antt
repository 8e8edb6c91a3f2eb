use Rattle.std.proofs.Common.{◌≡◌, drop}
use Rattle.std.specs.List.{list_any}
use Rattle.view_scope.specs.Obscured.{begins_constant}
use Rattle.view_scope.proofs.obscured.begins_some_constant.Given as goal

abbrev pub invariant-loop-constant : goal.invariant-loop-constant
invariant-loop-constant l = list_any (begins_constant l.name) (drop l.constant-index l.constants) ≡ list_any (begins_constant l.name) l.constants
