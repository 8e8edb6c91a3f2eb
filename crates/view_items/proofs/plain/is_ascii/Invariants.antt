use Rattle.std.proofs.Common.{◌≡◌, drop, nat_lt}
use Rattle.std.specs.List.{list_all}
use Rattle.view_items.proofs.plain.is_ascii.Given as goal

abbrev pub invariant-loop-byte : goal.invariant-loop-byte
invariant-loop-byte l = list_all (λ b. nat_lt b 128) l.bytes ≡ list_all (λ b. nat_lt b 128) (drop l.byte-index l.bytes)
