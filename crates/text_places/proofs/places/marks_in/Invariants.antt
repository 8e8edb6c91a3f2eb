use Rattle.std.proofs.Common.{◌≡◌, ◌*◌, length}
use Rattle.text_places.specs.Places.{place_in, AreMarks}
use Rattle.text_places.proofs.places.marks_in.Given as goal

-- so many are kept, and the next place is the one behind them
abbrev pub invariant-loop-number : goal.invariant-loop-number
invariant-loop-number l = record {
  many : length l.marks ≡ l.number;
  place : l.place ≡ place_in l.bytes (l.number * 4096);
  marks : AreMarks l.bytes l.marks;
}
