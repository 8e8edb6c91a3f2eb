use Rattle.std.proofs.Common.{◌≡◌, drop}
use Rattle.java_ast.specs.Names.{with_names}
use Rattle.java_ast.specs.Reading.{statements}
use Rattle.java_mean.specs.Visible.{names_seen}
use Rattle.spreads.specs.Staying.{assigned_among}
use Rattle.spreads.proofs.assigned.+assigned.Given as goal

abbrev pub invariant-put_all_assigned-loop-s : goal.invariant-put_all_assigned-loop-s
invariant-put_all_assigned-loop-s l = with_names (names_seen l.names) (assigned_among (statements (drop l.s-index l.block))) ≡ with_names (names_seen l.fn.names) (assigned_among (statements l.block))
