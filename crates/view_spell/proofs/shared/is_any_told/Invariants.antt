use Rattle.std.proofs.Common.{◌≡◌, drop}
use Rattle.java_ast.specs.Reading.{statements}
use Rattle.view_spell.specs.Reading.{seen_as, around}
use Rattle.view_spell.specs.Shared.{is_any_told}
use Rattle.view_spell.proofs.shared.is_any_told.Given as goal

abbrev pub invariant-loop-statement : goal.invariant-loop-statement
invariant-loop-statement l = is_any_told (seen_as l.seen) (around l.around) (statements (drop l.statement-index l.block)) ≡ is_any_told (seen_as l.seen) (around l.around) (statements l.block)
