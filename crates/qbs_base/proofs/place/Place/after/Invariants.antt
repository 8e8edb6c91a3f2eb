use Rattle.std.proofs.Common.{◌≡◌, ◌-◌, drop, length}
use Rattle.qbs_base.specs.Places.{place_after, HasRoom}
use Rattle.qbs_base.proofs.place.Place.after.Given as goal

abbrev pub invariant-loop-byte : goal.invariant-loop-byte
invariant-loop-byte l = record {
  room : HasRoom l.place (length l.bytes - l.byte-index);
  so_far : place_after l.place (drop l.byte-index l.bytes) ≡ place_after l.fn.self l.bytes;
}
