use Rattle.std.proofs.Common.{◌≡◌, drop}
use Rattle.java_ast.specs.Reading.{statements}
use Rattle.view_spell.specs.Shared.{any_lists}
use Rattle.view_spell.proofs.shared.any_lists.Given as goal

abbrev pub invariant-loop-statement : goal.invariant-loop-statement
invariant-loop-statement l = any_lists l.table (statements (drop l.statement-index l.block)) ≡ any_lists l.table (statements l.block)
