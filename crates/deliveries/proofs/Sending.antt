-- A piece that isn't empty is sent by one write.
use Rattle.std.proofs.Common.{◌≡◌, List, [], ◌∷◌, ℕ, Option, Some, None, length, refl, sym, append-nil, arith}
use Rattle.std.specs.Io.KnownBytes.{Appends}
use Rattle.deliveries.specs.Deliver.{Change, IsSent, FailsToSend}

pub sent_by_none : (sink : Change) (piece : List ℕ) → length piece ≡ 0 → sink.same → IsSent sink piece
sent_by_none sink [] e same = same
sent_by_none sink (b ∷ bs) e same = absurd (omega arith)

pub nothing_sent : (told : Option (List ℕ)) (piece : List ℕ) → length piece ≡ 0 → Appends told told piece
nothing_sent None piece e = tt
nothing_sent (Some xs) [] e = sym (append-nil xs)
nothing_sent (Some xs) (b ∷ bs) e = absurd (omega arith)

pub sent_by_one : (sink : Change) (piece : List ℕ) → (length piece ≡ 0 → ⊥) → sink.once piece → IsSent sink piece
sent_by_one sink [] some once = absurd (some refl)
sent_by_one sink (b ∷ bs) some once = once

pub failed_by_one : (sink : Change) (piece : List ℕ) → (length piece ≡ 0 → ⊥) → sink.rose → sink.once piece → FailsToSend sink piece
failed_by_one sink [] some rose once = absurd (some refl)
failed_by_one sink (b ∷ bs) some rose once = (rose, once)
