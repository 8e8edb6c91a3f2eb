-- What the loop over characters keeps: the text so far, and the characters that are read of the rest.
use Rattle.std.proofs.Common.{◌≡◌, ℕ, suc, ◌+◌, ◌-◌, ◌<◌, ◌≤◌, true, false, List, [], ◌++◌, length, Ok, Err, refl, sym, ap, ◌∙◌, append_assoc, append-nil, arith}
use Rattle.std.specs.Char.{encode_utf8}
use Rattle.std.specs.Str.{encode_utf8_all}
use Rattle.readers.specs.declared.fault.ReadError.{ReadError}
use Rattle.readers.specs.declared.fault.ReadError.TheVariants as errors
use Rattle.readers.specs.Reading.{◌>>=◌, Read, Fails, is_over, up_to, many}
use Rattle.readers.proofs.Loops.{put}
use Rattle.scalar_readers.specs.Chars.{char_at, is_quote, chars_at}

-- the bytes of characters behind a text
abbrev pub with_text : List ℕ → Read ℕ (List ℕ) → Read ℕ (List ℕ)
with_text front read = read >>= λ cs. Ok (front ++ encode_utf8_all cs.0, cs.1)

regroup : (front : List ℕ) (c : ℕ) (read : Read ℕ (List ℕ)) → with_text front (put c read) ≡ with_text (front ++ encode_utf8 c) read
regroup front c (Ok cs) = ap (λ (bs : List ℕ). Ok (bs, cs.1)) (sym (append_assoc front (encode_utf8 c) (encode_utf8_all cs.0)))
regroup front c (Err e) = refl

nothing_before : (read : Read ℕ (List ℕ)) → with_text [] read ≡ (read >>= λ cs. Ok (encode_utf8_all cs.0, cs.1))
nothing_before (Ok cs) = refl
nothing_before (Err e) = refl

pub begin : (count : ℕ) (ts : List ℕ) → length ts ≡ count → with_text [] (up_to is_quote char_at (count - 0) ts) ≡ chars_at ts
unfolding chars_at
begin count ts e =
    let k : count - 0 ≡ length ts = omega arith in
    ap (λ (n : ℕ). with_text [] (up_to is_quote char_at n ts)) k ∙ nothing_before (many is_quote char_at ts)

-- after i of count turns, before the bytes ts
module _ (front : List ℕ) (count i : ℕ) (ts : List ℕ) (total : Read ℕ (List ℕ)) where
  pub go_on : (c : ℕ) (us : List ℕ) → i < count → is_over is_quote ts ≡ false → char_at ts ≡ Ok (c, us)
      → with_text front (up_to is_quote char_at (count - i) ts) ≡ total → with_text (front ++ encode_utf8 c) (up_to is_quote char_at (count - (i + 1)) us) ≡ total
  unfolding up_to
  go_on c us lt going read so_far =
      let k : count - i ≡ suc (count - (i + 1)) = omega arith in
      let one : with_text front (up_to is_quote char_at (count - i) ts) ≡ with_text (front ++ encode_utf8 c) (up_to is_quote char_at (count - (i + 1)) us) = rw (k, going, read) (regroup front c (up_to is_quote char_at (count - (i + 1)) us)) in
      sym one ∙ so_far

  pub fail : (e : ReadError) → i < count → is_over is_quote ts ≡ false → Fails e (char_at ts) → with_text front (up_to is_quote char_at (count - i) ts) ≡ total → Fails e total
  unfolding up_to
  fail errors.Memory lt going read so_far = tt
  fail (errors.Fault f) lt going read so_far =
      let k : count - i ≡ suc (count - (i + 1)) = omega arith in
      let one : with_text front (up_to is_quote char_at (count - i) ts) ≡ Err f = rw (k, going, read) refl in
      sym so_far ∙ one

  pub stop : i < count → is_over is_quote ts ≡ true → with_text front (up_to is_quote char_at (count - i) ts) ≡ total → total ≡ Ok (front, ts)
  unfolding up_to
  stop lt over so_far =
      let k : count - i ≡ suc (count - (i + 1)) = omega arith in
      let one : with_text front (up_to is_quote char_at (count - i) ts) ≡ Ok (front, ts) = rw (k, over) (ap (λ (bs : List ℕ). Ok (bs, ts)) (append-nil front)) in
      sym so_far ∙ one

  pub run_out : count ≤ i → with_text front (up_to is_quote char_at (count - i) ts) ≡ total → total ≡ Ok (front, ts)
  unfolding up_to
  run_out le so_far =
      let k : count - i ≡ 0 = omega arith in
      let one : with_text front (up_to is_quote char_at (count - i) ts) ≡ Ok (front, ts) = rw k (ap (λ (bs : List ℕ). Ok (bs, ts)) (append-nil front)) in
      sym so_far ∙ one
