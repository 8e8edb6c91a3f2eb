use Rattle.std.proofs.Common.{◌≡◌, drop, not}
use Rattle.std.specs.List.{list_all}
use Rattle.view_items.specs.Bytes.{is_control}
use Rattle.view_items.proofs.plain.has_no_control.Given as goal

abbrev pub invariant-loop-byte : goal.invariant-loop-byte
invariant-loop-byte l = list_all (λ b. not (is_control b)) l.bytes ≡ list_all (λ b. not (is_control b)) (drop l.byte-index l.bytes)
