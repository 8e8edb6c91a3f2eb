use Rattle.std.proofs.Common.{◌≡◌, drop}
use Rattle.view_statements.specs.Reading.{statements}
use Rattle.view_spell.specs.Shared.{is_set_in}
use Rattle.view_spell.proofs.shared.is_set_in.Given as goal

abbrev pub invariant-loop-statement : goal.invariant-loop-statement
invariant-loop-statement l = is_set_in l.items l.name (statements (drop l.statement-index l.statements)) ≡ is_set_in l.items l.name (statements l.statements)
