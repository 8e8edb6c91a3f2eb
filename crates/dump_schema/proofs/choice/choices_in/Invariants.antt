use Rattle.std.proofs.Common.{◌≡◌, ◌++◌, map, drop}
use Rattle.dump_schema.specs.Choices as specs
use Rattle.dump_schema.proofs.choice.choices_in.Given as goal

-- the choices so far and those that are left are all
abbrev pub invariant-loop-piece : goal.invariant-loop-piece
invariant-loop-piece l = l.choices ++ map specs.column_choice (drop l.piece-index l.pieces) ≡ map specs.column_choice l.pieces
