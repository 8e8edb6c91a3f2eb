-- Files that are only read, one name after the other.
use Rattle.std.proofs.Common.{◌≡◌, ◌≤◌, ℕ, List, [], ◌∷◌, refl, ap, ◌∙◌, arith}
use Rattle.deliveries.specs.Reads.{Looks, none, next, OnlyReads}

pub reads_none : {D : Type 0} (l : Looks D) (all : List (List ℕ)) (files : D) → OnlyReads l all files files
reads_none l all files = record { names = []; others = all; front = refl; read = none; held = refl; later = omega arith; fewer = λ name h. h }

pub reads_first : {D : Type 0} (l : Looks D) (name : List ℕ) (others : List (List ℕ)) (old new : D) → l.by_read old name new → l.told new ≡ l.told old → l.faults old ≤ l.faults new →
    ((other : List ℕ) → l.may_fail new other → l.may_fail old other) → OnlyReads l (name ∷ others) old new
reads_first l name others old new read held later fewer =
    record { names = name ∷ []; others = others; front = refl; read = next read none; held = held; later = later; fewer = fewer }

pub reads_then : {D : Type 0} (l : Looks D) (name : List ℕ) (further : List (List ℕ)) (old between new : D) → l.by_read old name between → l.told between ≡ l.told old → l.faults old ≤ l.faults between →
    ((other : List ℕ) → l.may_fail between other → l.may_fail old other) → OnlyReads l further between new → OnlyReads l (name ∷ further) old new
reads_then l name further old between new read held later fewer h =
    record {
      names = name ∷ h.names;
      others = h.others;
      front = ap (λ (names : List (List ℕ)). name ∷ names) h.front;
      read = next read h.read;
      held = h.held ∙ held;
      later = omega (arith, later, h.later);
      fewer = λ other may. fewer other (h.fewer other may);
    }
