use Rattle.std.proofs.Common.{◌≡◌, drop}
use Rattle.std.specs.List.{list_any}
use Rattle.tor_terms.specs.Value as spec
use Rattle.tor_terms.proofs.rows.has_row.Given as goal

abbrev pub invariant-loop-s : goal.invariant-loop-s
invariant-loop-s l = list_any (spec.same_row l.r) l.rows ≡ list_any (spec.same_row l.r) (drop l.s-index l.rows)
