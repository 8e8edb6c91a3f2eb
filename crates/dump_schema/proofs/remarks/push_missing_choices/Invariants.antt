use Rattle.std.proofs.Common.{◌≡◌, ◌++◌, drop}
use Rattle.dump_schema.specs.Entries as specs
use Rattle.dump_schema.proofs.remarks.push_missing_choices.Given as goal

-- what is said and what is left to say is all
abbrev pub invariant-loop-choice : goal.invariant-loop-choice
invariant-loop-choice l = l.entries ++ specs.missing_choices (drop l.choice-index l.choices) l.tables ≡ l.fn.entries ++ specs.missing_choices l.choices l.tables
