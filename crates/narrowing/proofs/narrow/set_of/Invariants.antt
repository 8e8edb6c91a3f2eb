use Rattle.std.proofs.Common.{◌≡◌, ◌||◌, ℕ, drop, nat_eq}
use Rattle.std.specs.List.{list_any}
use Rattle.narrowing.proofs.narrow.set_of.Given as goal

abbrev pub invariant-loop-byte : goal.invariant-loop-byte
invariant-loop-byte l = (x : ℕ) → (list_any (nat_eq x) l.set.keys || list_any (nat_eq x) (drop l.byte-index l.bytes)) ≡ list_any (nat_eq x) l.bytes
