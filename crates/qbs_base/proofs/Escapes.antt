-- Escapes in a text, character by character.
use Rattle.std.proofs.Common.{◌≡◌, ℕ, ◌≤◌, ◌+◌, ◌/◌, ◌%◌, Bool, true, false, cond, ltb, List, [], ◌∷◌, ◌++◌, refl, sym, ap, ◌∙◌, arith, append_assoc}
use Rattle.std.specs.Prelude.{◌≢◌}
use Rattle.std.specs.Char.{encode_utf8}
use Rattle.std.specs.List.{flat_map}
use Rattle.std.proofs.lemmas.List.Concat.{flat_map-append}
use Rattle.std.proofs.lemmas.Bool.Decides.{nat_tests}
use Rattle.qbs_base.specs.Literal.{escaped}

kept : (b : ℕ) → b ≢ 34 → b ≢ 92 → b ≢ 10 → b ≢ 13 → b ≢ 9 → escaped b ≡ b ∷ []
kept b h1 h2 h3 h4 h5 = grind (arith, nat_tests)

high : (b : ℕ) → 128 ≤ b → escaped b ≡ b ∷ []
high b le = kept b (λ e. omega arith) (λ e. omega arith) (λ e. omega arith) (λ e. omega arith) (λ e. omega arith)

two : (a b : ℕ) → 128 ≤ a → 128 ≤ b → flat_map escaped (a ∷ b ∷ []) ≡ a ∷ b ∷ []
two a b ha hb = rw (high a ha, high b hb) refl

three : (a b d : ℕ) → 128 ≤ a → 128 ≤ b → 128 ≤ d → flat_map escaped (a ∷ b ∷ d ∷ []) ≡ a ∷ b ∷ d ∷ []
three a b d ha hb hd = rw (high a ha, high b hb, high d hd) refl

four : (a b d e : ℕ) → 128 ≤ a → 128 ≤ b → 128 ≤ d → 128 ≤ e → flat_map escaped (a ∷ b ∷ d ∷ e ∷ []) ≡ a ∷ b ∷ d ∷ e ∷ []
four a b d e ha hb hd he = rw (high a ha, high b hb, high d hd, high e he) refl

-- no byte of a longer character is one of those that are escaped
by_length : (c : ℕ) (s t u : Bool) → escaped c ≡ c ∷ []
    → flat_map escaped (cond s (c ∷ []) (cond t ((192 + c / 64) ∷ (128 + c % 64) ∷ []) (cond u ((224 + c / 4096) ∷ (128 + (c / 64) % 64) ∷ (128 + c % 64) ∷ []) ((240 + c / 262144) ∷ (128 + (c / 4096) % 64) ∷ (128 + (c / 64) % 64) ∷ (128 + c % 64) ∷ []))))
    ≡ cond s (c ∷ []) (cond t ((192 + c / 64) ∷ (128 + c % 64) ∷ []) (cond u ((224 + c / 4096) ∷ (128 + (c / 64) % 64) ∷ (128 + c % 64) ∷ []) ((240 + c / 262144) ∷ (128 + (c / 4096) % 64) ∷ (128 + (c / 64) % 64) ∷ (128 + c % 64) ∷ [])))
by_length c true t u e = rw e refl
by_length c false true u e = two (192 + c / 64) (128 + c % 64) (omega arith) (omega arith)
by_length c false false true e = three (224 + c / 4096) (128 + (c / 64) % 64) (128 + c % 64) (omega arith) (omega arith) (omega arith)
by_length c false false false e = four (240 + c / 262144) (128 + (c / 4096) % 64) (128 + (c / 64) % 64) (128 + c % 64) (omega arith) (omega arith) (omega arith) (omega arith)

pub plain_char : (c : ℕ) → c ≢ 34 → c ≢ 92 → c ≢ 10 → c ≢ 13 → c ≢ 9 → flat_map escaped (encode_utf8 c) ≡ encode_utf8 c
unfolding encode_utf8
plain_char c h1 h2 h3 h4 h5 = by_length c (ltb c 128) (ltb c 2048) (ltb c 65536) (kept c h1 h2 h3 h4 h5)

-- the next character, and what is left
pub next_char : (text rest front : List ℕ) (c : ℕ) → text ≡ encode_utf8 c ++ rest → (front ++ flat_map escaped (encode_utf8 c)) ++ flat_map escaped rest ≡ front ++ flat_map escaped text
next_char text rest front c e = append_assoc front (flat_map escaped (encode_utf8 c)) (flat_map escaped rest) ∙ ap (λ (bs : List ℕ). front ++ bs) (sym (flat_map-append escaped (encode_utf8 c) rest) ∙ ap (λ (bs : List ℕ). flat_map escaped bs) (sym e))
