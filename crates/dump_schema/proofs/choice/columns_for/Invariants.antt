use Rattle.std.proofs.Common.{◌≡◌, drop}
use Rattle.dump_schema.specs.Choices as specs
use Rattle.dump_schema.proofs.choice.columns_for.Given as goal

-- none that is passed is for the table
abbrev pub invariant-loop-choice : goal.invariant-loop-choice
invariant-loop-choice l = specs.columns_for (drop l.choice-index l.choices) l.table ≡ specs.columns_for l.choices l.table
