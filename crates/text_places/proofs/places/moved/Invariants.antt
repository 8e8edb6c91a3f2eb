use Rattle.std.proofs.Common.{◌≡◌, ◌≤◌, ◌+◌, length, take, drop}
use Rattle.text_places.specs.Places.{moved}
use Rattle.text_places.proofs.places.moved.Given as goal

-- the place behind the bytes that are left is that behind all
abbrev pub invariant-loop-byte : goal.invariant-loop-byte
invariant-loop-byte l = record {
  place : moved l.place (drop l.byte-index l.bytes) ≡ moved l.fn.from l.bytes;
  line : l.place.line ≤ l.fn.from.line + l.byte-index;
  column : l.place.column ≤ l.fn.from.column + l.byte-index;
}
