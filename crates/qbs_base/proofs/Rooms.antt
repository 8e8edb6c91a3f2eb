-- Room for the places behind the bytes of a text.
use Rattle.std.proofs.Common.{◌≡◌, ℕ, zero, suc, ◌+◌, ◌≤◌, Bool, true, false, cond, eqb, List, [], ◌∷◌, length, take, drop, refl, arith}
use Rattle.std.proofs.lemmas.List.{length-take, length-drop}
use Rattle.qbs_base.specs.declared.place.Place.{Place}
use Rattle.qbs_base.specs.Places.{HasRoom, next_place, place_after}

next_room : (p : Place) (b n : ℕ) → HasRoom p (suc n) → HasRoom (next_place p b) n
next_room p b n h = by_line (eqb b 10) p n h
  where
    by_line : (c : Bool) (p : Place) (n : ℕ) → HasRoom p (suc n) → HasRoom (cond c (record { line = p.line + 1; column = 1; index = p.index + 1 }) (record { line = p.line; column = p.column + 1; index = p.index + 1 })) n
    by_line true p n h = record { index = omega (arith, h.index); line = omega (arith, h.line); column = omega arith }
    by_line false p n h = record { index = omega (arith, h.index); line = omega (arith, h.line); column = omega (arith, h.column) }

pub room_after : (p : Place) (bs : List ℕ) (n : ℕ) → HasRoom p (length bs + n) → HasRoom (place_after p bs) n
room_after p [] n h = record { index = omega (arith, h.index); line = h.line; column = h.column }
room_after p (b ∷ bs) n h = room_after (next_place p b) bs n (next_room p b (length bs + n) (record { index = omega (arith, h.index); line = h.line; column = h.column }))

pub less_room : (p : Place) (m n : ℕ) → m ≤ n → HasRoom p n → HasRoom p m
less_room p m n le h = record { index = omega (arith, h.index); line = h.line; column = h.column }

-- the place behind some bytes has room for those after them
pub stays_room : (p end : Place) (bs here rest : List ℕ) (n : ℕ) → n ≤ length bs → here ≡ take n bs → rest ≡ drop n bs → end ≡ place_after p here → HasRoom p (length bs) → HasRoom end (length rest)
stays_room p end bs here rest n le is_here is_rest is_end h =
    rw (is_end, is_here, is_rest) (room_after p (take n bs) (length (drop n bs)) (less_room p (length (take n bs) + length (drop n bs)) (length bs) (omega (arith, length-take n bs, length-drop n bs)) h))

-- the place behind a list is that behind its second part, from the place behind the first
pub place_after_part : (p : Place) (n : ℕ) (bs : List ℕ) → place_after (place_after p (take n bs)) (drop n bs) ≡ place_after p bs
place_after_part p zero bs = refl
place_after_part p (suc n) [] = refl
place_after_part p (suc n) (b ∷ bs) = place_after_part (next_place p b) n bs

pub passes_over : (p end : Place) (bs here rest : List ℕ) (n : ℕ) → here ≡ take n bs → rest ≡ drop n bs → end ≡ place_after p here → place_after end rest ≡ place_after p bs
passes_over p end bs here rest n is_here is_rest is_end = rw (is_end, is_here, is_rest) (place_after_part p n bs)
