-- The bytes of a text literal, part by part.
use Rattle.std.proofs.Common.{◌≡◌, ℕ, zero, suc, ◌+◌, ◌<◌, List, [], ◌∷◌, ◌++◌, drop, length, refl, sym, ap, ◌∙◌, subst, arith, append_assoc}
use Rattle.std.specs.Prelude.{pred}
use Rattle.java_lex.specs.Pieces.{Part, close, line_end, escape, plain, wrong, part_of, Body, closed, unclosed, bad, behind, body_by, body_from}
use Rattle.java_lex.specs.Fits.{PartFits}
use Rattle.java_lex.proofs.Lengths.{part_fits}

pub fits_by : (bs : List ℕ) (part : Part) → part ≡ part_of bs → PartFits (length bs) part
fits_by bs part e = subst (λ (p : Part). PartFits (length bs) p) (sym e) (part_fits bs)

-- the bytes of a part are passed over
pub body_skips : (k : ℕ) (bs : List ℕ) → body_from k bs ≡ body_from 0 (drop k bs)
unfolding body_from
body_skips zero [] = refl
body_skips (suc k) [] = refl
body_skips zero (b ∷ bs) = refl
body_skips (suc k) (b ∷ bs) = body_skips k bs

part_is : (part : Part) (b : ℕ) (bs : List ℕ) → PartFits (suc (length bs)) part → body_by part (λ n. body_from (pred n) bs) ≡ body_by part (λ n. body_from 0 (drop n (b ∷ bs)))
part_is close b bs h = refl
part_is line_end b bs h = refl
part_is (escape c) b bs h = ap (behind 2 (c ∷ [])) (body_skips 1 bs)
part_is (plain text) b bs h = ap (behind (length text) text) (of_len (length text) h.0)
  where
    of_len : (n : ℕ) → 0 < n → body_from (pred n) bs ≡ body_from 0 (drop n (b ∷ bs))
    of_len zero some = absurd (omega arith)
    of_len (suc n) some = body_skips n bs
part_is (wrong n) b bs h = refl

pub body_is : (bs : List ℕ) → body_from 0 bs ≡ body_by (part_of bs) (λ n. body_from 0 (drop n bs))
unfolding body_from part_of
body_is [] = refl
body_is (b ∷ bs) = part_is (part_of (b ∷ bs)) b bs (part_fits (b ∷ bs))

pub behind_behind : (m n : ℕ) (front text : List ℕ) (body : Body) → behind m front (behind n text body) ≡ behind (m + n) (front ++ text) body
behind_behind m n front text (closed more k) =
    let e : m + (n + k) ≡ m + n + k = omega arith in
    ap (λ (xs : List ℕ). closed xs (m + (n + k))) (sym (append_assoc front text more)) ∙ ap (λ (j : ℕ). closed ((front ++ text) ++ more) j) e
behind_behind m n front text unclosed = refl
behind_behind m n front text (bad k) = let e : m + (n + k) ≡ m + n + k = omega arith in ap (λ (j : ℕ). bad j) e

module _ (len : ℕ) (text : List ℕ) (total : Body) where
  -- the loop's step over a part, and its ends
  pub passes : (bs : List ℕ) (part : Part) → part ≡ part_of bs → behind len text (body_from 0 bs) ≡ total → behind len text (body_by part (λ n. body_from 0 (drop n bs))) ≡ total
  passes bs part e so_far =
      subst (λ (p : Part). behind len text (body_by p (λ n. body_from 0 (drop n bs))) ≡ total) (sym e) (ap (behind len text) (sym (body_is bs)) ∙ so_far)

  pub passes_escape : (bs : List ℕ) (b : ℕ) → escape b ≡ part_of bs → behind len text (body_from 0 bs) ≡ total → behind (len + 2) (text ++ b ∷ []) (body_from 0 (drop 2 bs)) ≡ total
  passes_escape bs b e so_far = sym (behind_behind len 2 text (b ∷ []) (body_from 0 (drop 2 bs))) ∙ passes bs (escape b) e so_far

  pub passes_plain : (bs run : List ℕ) → plain run ≡ part_of bs → behind len text (body_from 0 bs) ≡ total → behind (len + length run) (text ++ run) (body_from 0 (drop (length run) bs)) ≡ total
  passes_plain bs run e so_far = sym (behind_behind len (length run) text run (body_from 0 (drop (length run) bs))) ∙ passes bs (plain run) e so_far
