use Rattle.std.proofs.Common.{◌≡◌, ℕ, suc, ◌+◌, ◌-◌, ◌<◌, Bool, true, false, eqb, add-one, ◌&&◌, Option, Some, None, List, ◌∷◌, take, drop, length, get_or, refl, sym, ap, ◌∙◌, arith}
use Rattle.std.specs.Option.{option_map}
use Rattle.std.proofs.lemmas.Bool.{ne_eqb}
use Rattle.std.proofs.lemmas.List.{take_all, length-drop}
use Rattle.std.proofs.Math.Seq.{drop-cons}
use Rattle.java_lex.specs.Bytes.{begins_with}
use Rattle.java_lex.specs.Pieces.{comment_len}
use Rattle.java_lex.proofs.comments.comment_len.Goals as goal
use Rattle.java_lex.proofs.comments.comment_len.Goals.{else-byte-eq42-via-then-byte-eq42+else-begins_with, else-byte-eq42-via-else-byte-eq42}

shifted : (i : ℕ) (end : Option ℕ) → option_map (λ n. i + n) (option_map suc end) ≡ option_map (λ n. i + 1 + n) end
shifted i None = refl
shifted i (Some n) = let e : i + suc n ≡ i + 1 + n = omega arith in ap (λ (k : ℕ). Some k) e

-- one byte further, where the comment doesn't end
goes_on : (bytes : List ℕ) (i : ℕ) → i < length bytes → (eqb (get_or bytes i 0) 42 && begins_with 47 (drop (i + 1) bytes)) ≡ false
    → option_map (λ n. i + n) (comment_len (drop i bytes)) ≡ comment_len bytes
    → option_map (λ n. i + 1 + n) (comment_len (drop (i + 1) bytes)) ≡ comment_len bytes
goes_on bytes i some test so_far =
    sym (shifted i (comment_len (drop (i + 1) bytes))) ∙ (ap (option_map (λ n. i + n)) (sym here) ∙ so_far)
  where
    at : (bs : List ℕ) (b : ℕ) → (eqb b 42 && begins_with 47 bs) ≡ false → comment_len (b ∷ bs) ≡ option_map suc (comment_len bs)
    at bs b e = rw e refl

    front : drop i bytes ≡ get_or bytes i 0 ∷ drop (i + 1) bytes
    front = rw (add-one i) (drop-cons bytes i 0 some)

    here : comment_len (drop i bytes) ≡ option_map suc (comment_len (drop (i + 1) bytes))
    here = rw front (at (drop (i + 1) bytes) (get_or bytes i 0) test)

whole : (bytes : List ℕ) (i : ℕ) → take (length bytes - (i + 1)) (drop (i + 1) bytes) ≡ drop (i + 1) bytes
whole bytes i = take_all (length bytes - (i + 1)) (drop (i + 1) bytes) (omega (arith, length-drop (i + 1) bytes))

no_slash : (bytes : List ℕ) (i : ℕ) (r : Bool) → r ≡ begins_with 47 (take (length bytes - (i + 1)) (drop (i + 1) bytes)) → r ≡ false
    → (eqb (get_or bytes i 0) 42 && begins_with 47 (drop (i + 1) bytes)) ≡ false
no_slash bytes i r e f = by (eqb (get_or bytes i 0) 42) (begins_with 47 (drop (i + 1) bytes)) (sym (ap (begins_with 47) (whole bytes i)) ∙ sym e ∙ f)
  where
    by : (v w : Bool) → w ≡ false → (v && w) ≡ false
    by true w e = e
    by false w e = refl

no_star : (bytes : List ℕ) (i : ℕ) → (get_or bytes i 0 ≡ 42 → ⊥) → (eqb (get_or bytes i 0) 42 && begins_with 47 (drop (i + 1) bytes)) ≡ false
no_star bytes i h = rw (ne_eqb (get_or bytes i 0) 42 h) refl

pub loop-i-preserved : goal.loop-i-preserved
loop-i-preserved c =
    elim c.else-byte-eq42.branch [
      | else-byte-eq42-via-then-byte-eq42+else-begins_with w ↦ goes_on c.args.bytes.now c.loop-i.i c.loop-i-test.true (no_slash c.args.bytes.now c.loop-i.i w.begins_with.result w.begins_with.ensures w.if-begins_with.false) c.loop-i.invariant
      | else-byte-eq42-via-else-byte-eq42 w ↦ goes_on c.args.bytes.now c.loop-i.i c.loop-i-test.true (no_star c.args.bytes.now c.loop-i.i w.if-byte-eq42.false) c.loop-i.invariant
    ]
