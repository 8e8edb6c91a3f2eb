-- One piece of the text after the other.
use Rattle.std.proofs.Common.{◌≡◌, ℕ, zero, suc, ◌<◌, Bool, List, [], ◌∷◌, ◌++◌, length, take, drop, refl, sym, ap, ◌∙◌, append_assoc, arith}
use Rattle.std.specs.List.{prefix_len, AllPass}
use Rattle.std.proofs.lemmas.List.{append-nil, length-take, get_or-take}
use Rattle.std.proofs.lemmas.List.Sums.{prefix_len_passes}
use Rattle.qbs_base.specs.declared.place.Place.{Place}
use Rattle.schema.specs.declared.token.Token.{Token}
use Rattle.qbs_base.specs.Places.{next_place, place_after, between}
use Rattle.schema.specs.Tokens.{Piece, piece_of, placed, tokens_from}

pub passes : (p : ℕ → Bool) (bs : List ℕ) → AllPass p (take (prefix_len p bs) bs)
passes p bs k d lt =
    let below : k < prefix_len p bs = omega (arith, length-take (prefix_len p bs) bs) in
    rw (get_or-take (prefix_len p bs) bs k d below) (prefix_len_passes p bs k d below)

-- the bytes of a piece are passed over
skipped : (p : Place) (k : ℕ) (bs : List ℕ) → tokens_from p k bs ≡ tokens_from (place_after p (take k bs)) 0 (drop k bs)
unfolding tokens_from
skipped p zero [] = refl
skipped p (suc k) [] = refl
skipped p zero (b ∷ bs) = refl
skipped p (suc k) (b ∷ bs) = skipped (next_place p b) k bs

-- what one piece leaves to be read
one_piece : (p : Place) (bs : List ℕ) (piece : Piece) → 0 < length bs → 0 < piece.1 → piece ≡ piece_of bs
    → tokens_from p 0 bs ≡ placed (between p (place_after p (take piece.1 bs))) piece.0 ++ tokens_from (place_after p (take piece.1 bs)) 0 (drop piece.1 bs)
unfolding tokens_from
one_piece p [] piece some long e = absurd (omega arith)
one_piece p (b ∷ bs) (t, zero) some long e = absurd (omega arith)
one_piece p (b ∷ bs) (t, suc n) some long e = rw (← e) (ap (λ (ts : List Token). placed (between p (place_after (next_place p b) (take n bs))) t ++ ts) (skipped (next_place p b) n bs))

-- the loop's step, from what its calls ensure
pub steps : (front all total : List Token) (p end : Place) (bs here rest : List ℕ) (piece : Piece)
    → 0 < length bs → 0 < piece.1 → piece ≡ piece_of bs → here ≡ take piece.1 bs → rest ≡ drop piece.1 bs → end ≡ place_after p here → all ≡ front ++ placed (between p end) piece.0
    → front ++ tokens_from p 0 bs ≡ total → all ++ tokens_from end 0 rest ≡ total
steps front all total p end bs here rest piece some long e is_here is_rest is_end is_all so_far =
    rw (is_all, is_end, is_here, is_rest) (append_assoc front (placed (between p (place_after p (take piece.1 bs))) piece.0) (tokens_from (place_after p (take piece.1 bs)) 0 (drop piece.1 bs))
    ∙ ap (λ (ts : List Token). front ++ ts) (sym (one_piece p bs piece some long e)) ∙ so_far)

pub ends : (front total : List Token) (p : Place) (bs : List ℕ) → length bs ≡ 0 → front ++ tokens_from p 0 bs ≡ total → front ≡ total
unfolding tokens_from
ends front total p [] none so_far = sym (append-nil front) ∙ so_far
ends front total p (b ∷ bs) none so_far = absurd (omega arith)
