use Rattle.std.proofs.Common.{◌≡◌, drop}
use Rattle.std.specs.List.{list_any}
use Rattle.java_ast.specs.Reading.{expression}
use Rattle.narrowing.specs.Lent.{expressions_lent}
use Rattle.spreads.specs.Narrowed.{same_argument}
use Rattle.narrowing.proofs.arguments.Arguments.has.Given as goal

abbrev pub invariant-loop-a : goal.invariant-loop-a
invariant-loop-a l = list_any (same_argument (expression l.e)) (expressions_lent (drop l.a-index l.self.items.items)) ≡ list_any (same_argument (expression l.e)) (expressions_lent l.self.items.items)
