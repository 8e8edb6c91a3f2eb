use Rattle.std.proofs.Common.{◌≡◌, drop}
use Rattle.java_ast.specs.Reading.{expressions}
use Rattle.java_mean.specs.Visible.{names_seen}
use Rattle.spreads.specs.Staying.{all_stay}
use Rattle.spreads.proofs.staying.all_stay.Given as goal

abbrev pub invariant-loop-e : goal.invariant-loop-e
invariant-loop-e l = all_stay (names_seen l.assigned) (expressions (drop l.e-index l.es)) ≡ all_stay (names_seen l.assigned) (expressions l.es)
