use Rattle.std.proofs.Common.{◌≡◌, drop}
use Rattle.std.specs.List.{list_any}
use Rattle.view_scope.specs.Obscured.{begins_fetch}
use Rattle.view_scope.proofs.obscured.begins_some_fetch.Given as goal

abbrev pub invariant-loop-fetch : goal.invariant-loop-fetch
invariant-loop-fetch l = list_any (begins_fetch l.name) (drop l.fetch-index l.fetches) ≡ list_any (begins_fetch l.name) l.fetches
