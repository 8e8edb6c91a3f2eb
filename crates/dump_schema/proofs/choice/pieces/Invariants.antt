use Rattle.std.proofs.Common.{◌≡◌, drop}
use Rattle.dump_schema.specs.Choices as specs
use Rattle.dump_schema.specs.Going.{pieces_of_all}
use Rattle.dump_schema.proofs.choice.pieces.Given as goal

-- the pieces so far and those of what is left are all
abbrev pub invariant-loop-byte : goal.invariant-loop-byte
invariant-loop-byte l = pieces_of_all l.mark l.pieces (drop l.byte-index l.bytes) ≡ specs.pieces l.mark l.bytes
