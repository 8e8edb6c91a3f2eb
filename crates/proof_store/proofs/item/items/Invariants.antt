use Rattle.std.proofs.Common.{◌≡◌, ◌-◌}
use Rattle.readers.specs.Reading.{up_to}
use Rattle.readers.proofs.Loops.{with_front}
use Rattle.proof_store.specs.Reading.{is_end, item_at, items_at}
use Rattle.proof_store.proofs.item.items.Given as goal

-- what was read and what is read of the rest is what is read of all
abbrev pub invariant-loop : goal.invariant-loop
invariant-loop l = with_front l.items.items (up_to is_end (item_at l.schema) (256 - l.counter) l.rest) ≡ items_at l.schema l.bytes
