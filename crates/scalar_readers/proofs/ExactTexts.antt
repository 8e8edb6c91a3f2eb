-- Texts in quotes: the reader is exact.
use Rattle.std.proofs.Common.{◌≡◌, ℕ, true, List, [], ◌∷◌, ◌++◌, refl, sym, ap, ◌∙◌}
use Rattle.std.specs.Char.{encode_utf8, IsScalar}
use Rattle.std.specs.List.{flat_map}
use Rattle.std.specs.Str.{encode_utf8_all, is_utf8}
use Rattle.std.proofs.lemmas.Bool.{and_parts, and_from}
use Rattle.std.proofs.lemmas.List.Concat.{flat_map-append}
use Rattle.std.proofs.lemmas.Str.{is_utf8-from_IsUtf8, IsUtf8-from_is_utf8}
use lib.Utf8.{scalar, scalars}
use Rattle.readers.specs.Reading.{is_over}
use Rattle.readers.proofs.Again.{Any}
use Rattle.qbs_base.specs.Literal.{escaped, text_literal}
use Rattle.text_readers.specs.Offsets.{Each}
use Rattle.text_readers.proofs.Exact.{Exact, exact_byte, exact_both, exact_made, exact_many}
use Rattle.scalar_readers.specs.Chars.{char_text, is_quote, chars_at, text_at}
use Rattle.scalar_readers.proofs.ExactChars.{exact_char, char_head}

-- characters in quotes have the text of their bytes in quotes
chars_text : (cs : List ℕ) → flat_map char_text cs ≡ flat_map escaped (encode_utf8_all cs)
chars_text [] = refl
chars_text (c ∷ cs) = ap (λ (bs : List ℕ). char_text c ++ bs) (chars_text cs) ∙ sym (flat_map-append escaped (encode_utf8 c) (encode_utf8_all cs))

all_scalar : (cs : List ℕ) → Each IsScalar cs → scalars cs ≡ true
all_scalar [] h = refl
all_scalar (c ∷ cs) h = and_from (scalar c) (scalars cs) h.0 (all_scalar cs h.1)

each_scalar : (cs : List ℕ) → scalars cs ≡ true → Each IsScalar cs
each_scalar [] h = tt
each_scalar (c ∷ cs) h = let p = and_parts (scalar c) (scalars cs) h in (p.0, each_scalar cs p.1)

abbrev pub IsText8 : List ℕ → Type 0
IsText8 text = is_utf8 text ≡ true

abbrev pub QuoteNext : List ℕ → Type 0
QuoteNext rest = is_over is_quote rest ≡ true

exact_chars : Exact (flat_map escaped) IsText8 QuoteNext chars_at
unfolding chars_at
exact_chars =
    exact_made (flat_map escaped) IsText8 encode_utf8_all (exact_many is_quote exact_char char_head (λ rest h. tt) (λ c rest h. tt))
    (λ cs h. (chars_text cs, is_utf8-from_IsUtf8 (encode_utf8_all cs) (cs, (all_scalar cs h, refl))))
    (λ text h. let u = IsUtf8-from_is_utf8 text h in (u.0, u.1.1, ap (flat_map escaped) (sym u.1.1) ∙ sym (chars_text u.0), each_scalar u.0 u.1.0))

pub exact_text : Exact text_literal IsText8 Any text_at
unfolding text_at
exact_text =
    exact_made text_literal IsText8 (λ x. x.1.0) (exact_both (exact_byte 34) (exact_both exact_chars (exact_byte 34) (λ y rest h g. refl)) (λ y rest h g. tt))
    (λ x h. (refl, h.1.0)) (λ text h. ((tt, (text, tt)), refl, refl, (tt, (h, tt))))
