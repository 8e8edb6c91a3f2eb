-- The one stretch that holds a byte.
use Rattle.std.proofs.Common.{◌≡◌, ℕ, zero, suc, ◌+◌, ◌≤◌, ◌<◌, Bool, true, false, cond, List, [], ◌∷◌, length, Option, Some, None, refl, sym, ap, ◌∙◌, subst, arith}
use Rattle.std.specs.Prelude.{nat_le, option_map, slice_get, slice_index_or}
use Rattle.std.proofs.lemmas.Bool.Decides.{nat_tests}
use Rattle.std.specs.List.Sorted.{IsPartitionPoint, IsPartitionedBy}
use Rattle.view_items.specs.declared.cell.Cell.{Cell}
use Rattle.view_text.specs.declared.before.Before.{Before}
use Rattle.view_text.specs.declared.stretches.Stretch.{Stretch}
use Rattle.view_text.specs.Layout.{gap, behind, first, stretches_from, stretches_of, holds, has_ended, stretch_at, cell_at}

-- from the byte q on one behind the other
abbrev pub InOrder : ℕ → List Stretch → Type 0
InOrder q [] = Unit {0}
InOrder q (s ∷ ss) = (q ≤ s.from) × (s.from ≤ s.to) × InOrder s.to ss

in_order : (before : Before) (at : ℕ) (cells : List Cell) → InOrder at (stretches_from before at cells)
in_order before at [] = tt
in_order before at (c ∷ cs) = (omega arith, omega arith, in_order (behind before c.bytes) (at + length (gap before c.bytes) + length c.bytes) cs)

pub cells_in_order : (cells : List Cell) → InOrder 0 (stretches_of cells)
cells_in_order cells = in_order first 0 cells

-- ---- tests

ended_holds_none : (byte : ℕ) (s : Stretch) → has_ended byte s ≡ true → holds byte s ≡ false
ended_holds_none byte s e = grind (arith, nat_tests, e)

later_holds_none : (byte : ℕ) (s : Stretch) → byte < s.from → holds byte s ≡ false
later_holds_none byte s h = grind (arith, nat_tests, h)

holds_it : (byte : ℕ) (s : Stretch) → has_ended byte s ≡ false → s.from ≤ byte → holds byte s ≡ true
holds_it byte s e h = grind (arith, nat_tests, e, h)

-- ---- none holds a byte before the first

pub none_before : (byte q : ℕ) (ss : List Stretch) → byte < q → InOrder q ss → stretch_at ss byte ≡ None
none_before byte q [] h o = refl
none_before byte q (s ∷ ss) h o =
    rw (later_holds_none byte s (omega (arith, o.0))) (ap (option_map suc) (none_before byte s.to ss (omega (arith, o.0, o.1)) o.2))

-- ---- the first that hasn't ended

-- the answer of a search
abbrev pub found : ℕ → ℕ → Option Stretch → Option ℕ
found byte number None = None
found byte number (Some s) = cond (nat_le s.from byte) (Some number) None

abbrev pub Parts : ℕ → List Stretch → ℕ → Type 0
Parts byte ss number = IsPartitionPoint (λ s. has_ended byte s ≡ true) (λ s. has_ended byte s ≡ false) ss number

further : (byte number : ℕ) (there : Option Stretch) → found byte (suc number) there ≡ option_map suc (found byte number there)
further byte number None = refl
further byte number (Some s) = by (nat_le s.from byte)
  where
    by : (v : Bool) → cond v (Some (suc number)) None ≡ option_map suc (cond v (Some number) None)
    by true = refl
    by false = refl

pub found_is : (byte q : ℕ) (ss : List Stretch) (number : ℕ) → InOrder q ss → Parts byte ss number → stretch_at ss byte ≡ found byte number (slice_get ss number)
found_is byte q [] number o p = refl
found_is byte q (s ∷ ss) zero o p = by (nat_le s.from byte) refl
  where
    open_there : has_ended byte s ≡ false
    open_there = p.1 0 s (omega arith) (omega arith)

    by : (v : Bool) → nat_le s.from byte ≡ v → stretch_at (s ∷ ss) byte ≡ cond v (Some 0) None
    by true e = rw (holds_it byte s open_there (grind (arith, nat_tests, e))) refl
    by false e = none_before byte s.from (s ∷ ss) (grind (arith, nat_tests, e)) (omega arith, o.1, o.2)
found_is byte q (s ∷ ss) (suc number) o p =
    let closed : has_ended byte s ≡ true = p.0 0 s (omega arith) (omega arith) in
    let rest : Parts byte ss number = (λ k d l h. p.0 (suc k) d (omega arith) (omega (arith, h)), λ k d l h. p.1 (suc k) d (omega (arith, l)) (omega (arith, h))) in
    rw (ended_holds_none byte s closed) (ap (option_map suc) (found_is byte s.to ss number o.2 rest) ∙ sym (further byte number (slice_get ss number)))

-- ---- those that have ended come first

ends_late : (q : ℕ) (ss : List Stretch) (k : ℕ) (d : Stretch) → InOrder q ss → k < length ss → q ≤ (slice_index_or ss k d).to
ends_late q [] k d o h = absurd (omega arith)
ends_late q (s ∷ ss) zero d o h = omega (arith, o.0, o.1)
ends_late q (s ∷ ss) (suc k) d o h = omega (arith, ends_late s.to ss k d o.2 (omega (arith, h)), o.0, o.1)

ends_in_order : (q : ℕ) (ss : List Stretch) (i j : ℕ) (d : Stretch) → InOrder q ss → i ≤ j → j < length ss → (slice_index_or ss i d).to ≤ (slice_index_or ss j d).to
ends_in_order q [] i j d o le h = absurd (omega arith)
ends_in_order q (s ∷ ss) zero zero d o le h = omega arith
ends_in_order q (s ∷ ss) zero (suc j) d o le h = ends_late s.to ss j d o.2 (omega (arith, h))
ends_in_order q (s ∷ ss) (suc i) zero d o le h = absurd (omega arith)
ends_in_order q (s ∷ ss) (suc i) (suc j) d o le h = ends_in_order s.to ss i j d o.2 (omega (arith, le)) (omega (arith, h))

pub are_parted : (byte q : ℕ) (ss : List Stretch) → InOrder q ss → IsPartitionedBy (has_ended byte) ss
are_parted byte q ss o = λ i j d le h e. ended_too byte (slice_index_or ss i d) (slice_index_or ss j d) (ends_in_order q ss i j d o le h) e
  where
    ended_too : (byte : ℕ) (s t : Stretch) → s.to ≤ t.to → has_ended byte t ≡ true → has_ended byte s ≡ true
    ended_too byte s t le e = grind (arith, nat_tests, le, e)

-- ---- what a search answers

found_in : (cells : List Cell) (ss : List Stretch) (byte number : ℕ) (there : Option Stretch) → ss ≡ stretches_of cells → Parts byte ss number → slice_get ss number ≡ there → cell_at cells byte ≡ found byte number there
found_in cells ss byte number there e p g =
    found_is byte 0 (stretches_of cells) number (cells_in_order cells) (subst (λ (xs : List Stretch). Parts byte xs number) e p)
    ∙ ap (found byte number) (ap (λ (xs : List Stretch). slice_get xs number) (sym e) ∙ g)

pub is_found : (cells : List Cell) (ss : List Stretch) (byte number : ℕ) (s : Stretch) → ss ≡ stretches_of cells → Parts byte ss number → slice_get ss number ≡ Some s → s.from ≤ byte → Some number ≡ cell_at cells byte
is_found cells ss byte number s e p g le =
    let t : nat_le s.from byte ≡ true = grind (arith, nat_tests, le) in
    sym (found_in cells ss byte number (Some s) e p g ∙ rw t refl)

pub is_not_found : (cells : List Cell) (ss : List Stretch) (byte number : ℕ) (s : Stretch) → ss ≡ stretches_of cells → Parts byte ss number → slice_get ss number ≡ Some s → byte < s.from → None ≡ cell_at cells byte
is_not_found cells ss byte number s e p g less =
    let t : nat_le s.from byte ≡ false = grind (arith, nat_tests, less) in
    sym (found_in cells ss byte number (Some s) e p g ∙ rw t refl)

pub is_behind : (cells : List Cell) (ss : List Stretch) (byte number : ℕ) → ss ≡ stretches_of cells → Parts byte ss number → slice_get ss number ≡ None → None ≡ cell_at cells byte
is_behind cells ss byte number e p g = sym (found_in cells ss byte number None e p g)

-- ---- a byte of a stretch

held : (byte q : ℕ) (ss : List Stretch) (n : ℕ) (s : Stretch) → InOrder q ss → slice_get ss n ≡ Some s → s.from ≤ byte → byte < s.to → (q ≤ byte) × (stretch_at ss byte ≡ Some n)
held byte q [] n s o e from to = absurd cc
held byte q (t ∷ ss) zero s o e from to =
    let same : t ≡ s = cc in
    let holding : holds byte t ≡ true = rw same (grind (arith, nat_tests, from, to)) in
    let starts : t.from ≡ s.from = ap (λ (u : Stretch). u.from) same in
    (omega (arith, o.0, starts, from), rw holding refl)
held byte q (t ∷ ss) (suc n) s o e from to =
    let r : (t.to ≤ byte) × (stretch_at ss byte ≡ Some n) = held byte t.to ss n s o.2 e from to in
    let none : holds byte t ≡ false = grind (arith, nat_tests, r.0) in
    (omega (arith, o.0, o.1, r.0), rw none (ap (option_map suc) r.1))

pub cell_holds : (cells : List Cell) (n byte : ℕ) (s : Stretch) → slice_get (stretches_of cells) n ≡ Some s → s.from ≤ byte → byte < s.to → cell_at cells byte ≡ Some n
cell_holds cells n byte s e from to = (held byte 0 (stretches_of cells) n s (cells_in_order cells) e from to).1
