-- Text literals as they are read.
use Rattle.std.proofs.Common.{◌≡◌, ℕ, zero, suc, ◌+◌, ◌<◌, ◌≤◌, Bool, true, false, cond, List, [], ◌∷◌, ◌++◌, length, take, drop, get_or, refl, sym, ap, subst, ◌∙◌, append_assoc, arith, length-append}
use Rattle.std.specs.Prelude.{not, ◌&&◌, ◌==◌, Some, IsUtf8}
use Rattle.std.specs.List.{prefix_len, flat_map}
use Rattle.std.specs.Str.Lossy.{utf8_valid_len}
use Rattle.std.proofs.lemmas.Bool.{eqb-true, eq-eqb}
use Rattle.std.proofs.lemmas.Str.{IsUtf8-take, IsUtf8-drop, IsCharBoundary-before_ascii, IsCharBoundary-after_ascii, utf8_valid_len-IsUtf8}
use Rattle.std.proofs.lemmas.List.{append-nil}
use Rattle.std.proofs.lemmas.List.Concat.{flat_map-append, flat_map-cons}
use Rattle.qbs_base.specs.Literal.{escaped, text_literal}
use Rattle.java_lex.specs.declared.piece.Piece.TheVariants.{Token as Lexeme}
use Rattle.java_lex.specs.declared.token.TokenNode.TheVariants.{Text}
use Rattle.java_lex.specs.Bytes.{is_plain, ends_line, escape_of}
use Rattle.java_lex.specs.Pieces.{Part, escape, plain, wrong, Body, closed, behind, body_by, plain_part, part_of, body_from, literal_of, piece_of}
use Rattle.java_lex.proofs.Bodies.{body_is}
use Rattle.java_lex.proofs.Cut.{Whole, none, token, take_front, drop_front}
use Rattle.java_grammar.proofs.Wholes.{Shut}
use Rattle.java_grammar.proofs.Fixed.{both_true, not_true, fourth_of}

-- a byte that is written as it is
abbrev is_raw : ℕ → Bool
is_raw b = not (b == 34) && (not (b == 92) && (not (b == 10) && (not (b == 13) && not (b == 9))))

raw_escaped : (b : ℕ) → is_raw b ≡ true → escaped b ≡ b ∷ []
raw_escaped b h =
    let t = both_true (not (b == 34)) (not (b == 92) && (not (b == 10) && (not (b == 13) && not (b == 9)))) h in
    let u = both_true (not (b == 92)) (not (b == 10) && (not (b == 13) && not (b == 9))) t.1 in
    let v = both_true (not (b == 10)) (not (b == 13) && not (b == 9)) u.1 in
    let w = both_true (not (b == 13)) (not (b == 9)) v.1 in
    rw (not_true (b == 34) t.0, not_true (b == 92) u.0, not_true (b == 10) v.0, not_true (b == 13) w.0, not_true (b == 9) w.1) refl

raw_plain : (b : ℕ) → is_raw b ≡ true → is_plain b ≡ true
raw_plain b h =
    let t = both_true (not (b == 34)) (not (b == 92) && (not (b == 10) && (not (b == 13) && not (b == 9)))) h in
    let u = both_true (not (b == 92)) (not (b == 10) && (not (b == 13) && not (b == 9))) t.1 in
    let v = both_true (not (b == 10)) (not (b == 13) && not (b == 9)) u.1 in
    let w = both_true (not (b == 13)) (not (b == 9)) v.1 in
    rw (not_true (b == 34) t.0, not_true (b == 92) u.0, not_true (b == 10) v.0, not_true (b == 13) w.0) refl

-- any other byte is written by a backslash and one byte more
record IsEscaped (b : ℕ) : Type 0 where
  by : ℕ
  written : escaped b ≡ 92 ∷ by ∷ []
  stands : escape_of by ≡ Some b
  small : b < 128

escaped_as : (b c e : ℕ) → (b == c) ≡ true → escaped c ≡ 92 ∷ e ∷ [] → escape_of e ≡ Some c → c < 128 → IsEscaped b
escaped_as b c e same w s small =
    let f : b ≡ c = eqb-true b c same in
    record { by = e; written = ap escaped f ∙ w; stands = s ∙ ap (λ (x : ℕ). Some x) (sym f); small = omega arith }

is_escaped : (b : ℕ) → is_raw b ≡ false → IsEscaped b
is_escaped b h = at_quote (b == 34) refl
  where
    at_tab : (q : Bool) → (b == 9) ≡ q → (b == 34) ≡ false → (b == 92) ≡ false → (b == 10) ≡ false → (b == 13) ≡ false → IsEscaped b
    at_tab true e i j k l = escaped_as b 9 116 e refl refl (omega arith)
    at_tab false e i j k l = let no : is_raw b ≡ true = rw (i, j, k, l, e) refl in absurd cc

    at_return : (q : Bool) → (b == 13) ≡ q → (b == 34) ≡ false → (b == 92) ≡ false → (b == 10) ≡ false → IsEscaped b
    at_return true e i j k = escaped_as b 13 114 e refl refl (omega arith)
    at_return false e i j k = at_tab (b == 9) refl i j k e

    at_feed : (q : Bool) → (b == 10) ≡ q → (b == 34) ≡ false → (b == 92) ≡ false → IsEscaped b
    at_feed true e i j = escaped_as b 10 110 e refl refl (omega arith)
    at_feed false e i j = at_return (b == 13) refl i j e

    at_backslash : (q : Bool) → (b == 92) ≡ q → (b == 34) ≡ false → IsEscaped b
    at_backslash true e i = escaped_as b 92 92 e refl refl (omega arith)
    at_backslash false e i = at_feed (b == 10) refl i e

    at_quote : (q : Bool) → (b == 34) ≡ q → IsEscaped b
    at_quote true e = escaped_as b 34 34 e refl refl (omega arith)
    at_quote false e = at_backslash (b == 92) refl e

-- ---- a run of bytes that are written as they are

record Run (text : List ℕ) : Type 0 where
  front : List ℕ
  back : List ℕ
  parts : text ≡ front ++ back
  raw : prefix_len is_raw front ≡ length front
  ends : prefix_len is_raw back ≡ 0

run_of : (text : List ℕ) → Run text
run_of [] = record { front = []; back = []; parts = refl; raw = refl; ends = refl }
run_of (b ∷ bs) = by (is_raw b) refl (run_of bs)
  where
    by : (v : Bool) → is_raw b ≡ v → Run bs → Run (b ∷ bs)
    by true e r = record { front = b ∷ r.front; back = r.back; parts = ap (λ (x : List ℕ). b ∷ x) r.parts; raw = rw e (omega (arith, r.raw)); ends = r.ends }
    by false e r = record { front = []; back = b ∷ bs; parts = refl; raw = refl; ends = rw e refl }

raw_tail : (b : ℕ) (bs : List ℕ) → prefix_len is_raw (b ∷ bs) ≡ suc (length bs) → (is_raw b ≡ true) × (prefix_len is_raw bs ≡ length bs)
raw_tail b bs h = by (is_raw b) refl h
  where
    by : (v : Bool) → is_raw b ≡ v → cond v (1 + prefix_len is_raw bs) 0 ≡ suc (length bs) → (is_raw b ≡ true) × (prefix_len is_raw bs ≡ length bs)
    by true e k = (e, omega arith)
    by false e k = absurd (omega arith)

run_written : (x : List ℕ) → prefix_len is_raw x ≡ length x → flat_map escaped x ≡ x
run_written [] h = refl
run_written (b ∷ bs) h =
    let t : (is_raw b ≡ true) × (prefix_len is_raw bs ≡ length bs) = raw_tail b bs h in
    flat_map-cons escaped b bs ∙ ap (λ (y : List ℕ). y ++ flat_map escaped bs) (raw_escaped b t.0) ∙ ap (λ (y : List ℕ). b ∷ y) (run_written bs t.1)

-- the first byte isn't one that stands for itself
abbrev NotPlain : List ℕ → Type 0
NotPlain [] = ⊥
NotPlain (b ∷ bs) = is_plain b ≡ false

run_plain : (x z : List ℕ) → prefix_len is_raw x ≡ length x → NotPlain z → prefix_len is_plain (x ++ z) ≡ length x
run_plain [] [] h s = absurd s
run_plain [] (c ∷ z) h s = rw s refl
run_plain (b ∷ bs) z h s =
    let t : (is_raw b ≡ true) × (prefix_len is_raw bs ≡ length bs) = raw_tail b bs h in
    rw (raw_plain b t.0) (omega (arith, run_plain bs z t.1 s))

-- what is written of the bytes behind a run
written_behind : (y rest : List ℕ) → prefix_len is_raw y ≡ 0 → NotPlain (flat_map escaped y ++ 34 ∷ rest)
written_behind [] rest h = refl
written_behind (b ∷ bs) rest h = by (is_raw b) refl h
  where
    by : (v : Bool) → is_raw b ≡ v → cond v (1 + prefix_len is_raw bs) 0 ≡ 0 → NotPlain (flat_map escaped (b ∷ bs) ++ 34 ∷ rest)
    by true e k = absurd (omega arith)
    by false e k =
        let w : IsEscaped b = is_escaped b e in
        let f : flat_map escaped (b ∷ bs) ≡ 92 ∷ w.by ∷ flat_map escaped bs = flat_map-cons escaped b bs ∙ ap (λ (z : List ℕ). z ++ flat_map escaped bs) w.written in
        subst (λ (z : List ℕ). NotPlain (z ++ 34 ∷ rest)) (sym f) refl

-- a run in front is one part
run_part : (b : ℕ) (bs z : List ℕ) → prefix_len is_raw (b ∷ bs) ≡ suc (length bs) → NotPlain z → IsUtf8 (b ∷ bs) → part_of ((b ∷ bs) ++ z) ≡ plain (b ∷ bs)
unfolding part_of
run_part b bs z h s utf8 =
    let t : (is_raw b ≡ true) × (prefix_len is_raw bs ≡ length bs) = raw_tail b bs h in
    let i = both_true (not (b == 34)) (not (b == 92) && (not (b == 10) && (not (b == 13) && not (b == 9)))) t.0 in
    let j = both_true (not (b == 92)) (not (b == 10) && (not (b == 13) && not (b == 9))) i.1 in
    let k = both_true (not (b == 10)) (not (b == 13) && not (b == 9)) j.1 in
    let l = both_true (not (b == 13)) (not (b == 9)) k.1 in
    let len : prefix_len is_plain ((b ∷ bs) ++ z) ≡ suc (length bs) = run_plain (b ∷ bs) z h s in
    let valid : (utf8_valid_len (b ∷ bs) == suc (length bs)) ≡ true = eq-eqb (utf8_valid_len (b ∷ bs)) (suc (length bs)) (utf8_valid_len-IsUtf8 (b ∷ bs) utf8) in
    let no_end : ends_line b ≡ false = rw (not_true (b == 10) k.0, not_true (b == 13) l.0) refl in
    fourth_of (b == 34) (ends_line b) (b == 92) _ _ _ _ (not_true (b == 34) i.0) no_end (not_true (b == 92) j.0)
    ∙ (ap (λ (n : ℕ). plain_part (take n ((b ∷ bs) ++ z))) len
    ∙ ap plain_part (take_front (b ∷ bs) z)
    ∙ ap (λ (v : Bool). cond v (plain (b ∷ bs)) (wrong (utf8_valid_len (b ∷ bs)))) valid)

-- ---- what a text is written as

abbrev written : List ℕ → List ℕ → List ℕ
written text rest = flat_map escaped text ++ 34 ∷ rest

abbrev ReadsUpTo : ℕ → Type 0
ReadsUpTo k = (text rest : List ℕ) → length text ≤ k → IsUtf8 text → body_from 0 (written text rest) ≡ closed text (suc (length (flat_map escaped text)))

escape_read : (k : ℕ) → ReadsUpTo k → (b : ℕ) (bs rest : List ℕ) → length bs ≤ k → IsUtf8 (b ∷ bs) → IsEscaped b → body_from 0 (written (b ∷ bs) rest) ≡ closed (b ∷ bs) (suc (length (flat_map escaped (b ∷ bs))))
unfolding part_of
escape_read k again b bs rest le utf8 w =
    let f : flat_map escaped (b ∷ bs) ≡ 92 ∷ w.by ∷ flat_map escaped bs = flat_map-cons escaped b bs ∙ ap (λ (z : List ℕ). z ++ flat_map escaped bs) w.written in
    let tail : IsUtf8 bs = IsUtf8-drop (b ∷ bs) 1 utf8 (IsCharBoundary-after_ascii (b ∷ bs) 0 utf8 (omega arith) w.small) in
    let p : part_of (92 ∷ w.by ∷ written bs rest) ≡ escape b = rw w.stands refl in
    ap (λ (z : List ℕ). body_from 0 (z ++ 34 ∷ rest)) f
    ∙ body_is (92 ∷ w.by ∷ written bs rest)
    ∙ ap (λ (q : Part). body_by q (λ n. body_from 0 (drop n (92 ∷ w.by ∷ written bs rest)))) p
    ∙ ap (behind 2 (b ∷ [])) (again bs rest le tail)
    ∙ ap (closed (b ∷ bs)) (omega (arith, ap length f))

run_read : (k : ℕ) → ReadsUpTo k → (b : ℕ) (bs y rest : List ℕ) → length y ≤ k → IsUtf8 (b ∷ bs) → IsUtf8 y → prefix_len is_raw (b ∷ bs) ≡ suc (length bs) → prefix_len is_raw y ≡ 0 → body_from 0 (written ((b ∷ bs) ++ y) rest) ≡ closed ((b ∷ bs) ++ y) (suc (length (flat_map escaped ((b ∷ bs) ++ y))))
run_read k again b bs y rest le utf8 utf8' raw ends =
    let f : flat_map escaped ((b ∷ bs) ++ y) ≡ (b ∷ bs) ++ flat_map escaped y = flat_map-append escaped (b ∷ bs) y ∙ ap (λ (z : List ℕ). z ++ flat_map escaped y) (run_written (b ∷ bs) raw) in
    let whole : written ((b ∷ bs) ++ y) rest ≡ (b ∷ bs) ++ written y rest = ap (λ (z : List ℕ). z ++ 34 ∷ rest) f ∙ append_assoc (b ∷ bs) (flat_map escaped y) (34 ∷ rest) in
    let p : part_of ((b ∷ bs) ++ written y rest) ≡ plain (b ∷ bs) = run_part b bs (written y rest) raw (written_behind y rest ends) utf8 in
    ap (body_from 0) whole
    ∙ body_is ((b ∷ bs) ++ written y rest)
    ∙ ap (λ (q : Part). body_by q (λ n. body_from 0 (drop n ((b ∷ bs) ++ written y rest)))) p
    ∙ ap (λ (z : List ℕ). behind (suc (length bs)) (b ∷ bs) (body_from 0 z)) (drop_front (b ∷ bs) (written y rest))
    ∙ ap (behind (suc (length bs)) (b ∷ bs)) (again y rest le utf8')
    ∙ ap (closed ((b ∷ bs) ++ y)) (omega (arith, ap length f, length-append bs (flat_map escaped y)))

-- where a text may be cut: behind a run
run_cut : (x y : List ℕ) → prefix_len is_raw y ≡ 0 → IsUtf8 (x ++ y) → IsUtf8 x × IsUtf8 y
run_cut x [] h utf8 = (subst (λ (z : List ℕ). IsUtf8 z) (append-nil x) utf8, ([], (refl, refl)))
run_cut x (c ∷ y) h utf8 = by (is_raw c) refl h
  where
    at : (z : List ℕ) → get_or (z ++ c ∷ y) (length z) 0 ≡ c
    at [] = refl
    at (d ∷ z) = at z

    by : (v : Bool) → is_raw c ≡ v → cond v (1 + prefix_len is_raw y) 0 ≡ 0 → IsUtf8 x × IsUtf8 (c ∷ y)
    by true e k = absurd (omega arith)
    by false e k =
        let w : IsEscaped c = is_escaped c e in
        let small : get_or (x ++ c ∷ y) (length x) 0 < 128 = omega (arith, at x, w.small) in
        let boundary = IsCharBoundary-before_ascii (x ++ c ∷ y) (length x) (omega (arith, length-append x (c ∷ y))) small in
        (subst (λ (z : List ℕ). IsUtf8 z) (take_front x (c ∷ y)) (IsUtf8-take (x ++ c ∷ y) (length x) utf8 boundary), subst (λ (z : List ℕ). IsUtf8 z) (drop_front x (c ∷ y)) (IsUtf8-drop (x ++ c ∷ y) (length x) utf8 boundary))

by_run : (k : ℕ) → ReadsUpTo k → (b : ℕ) (bs rest : List ℕ) → length bs ≤ k → IsUtf8 (b ∷ bs) → is_raw b ≡ true → Run bs → body_from 0 (written (b ∷ bs) rest) ≡ closed (b ∷ bs) (suc (length (flat_map escaped (b ∷ bs))))
by_run k again b bs rest le utf8 raw r =
    let e : b ∷ bs ≡ (b ∷ r.front) ++ r.back = ap (λ (x : List ℕ). b ∷ x) r.parts in
    let cut : IsUtf8 (b ∷ r.front) × IsUtf8 r.back = run_cut (b ∷ r.front) r.back r.ends (subst (λ (z : List ℕ). IsUtf8 z) e utf8) in
    let all : prefix_len is_raw (b ∷ r.front) ≡ suc (length r.front) = rw raw (omega (arith, r.raw)) in
    let short : length r.back ≤ k = omega (arith, ap length r.parts, length-append r.front r.back) in
    subst (λ (z : List ℕ). body_from 0 (written z rest) ≡ closed z (suc (length (flat_map escaped z)))) (sym e) (run_read k again b r.front r.back rest short cut.0 cut.1 all r.ends)

either_read : (k : ℕ) → ReadsUpTo k → (b : ℕ) (bs rest : List ℕ) → length bs ≤ k → IsUtf8 (b ∷ bs) → (v : Bool) → is_raw b ≡ v → body_from 0 (written (b ∷ bs) rest) ≡ closed (b ∷ bs) (suc (length (flat_map escaped (b ∷ bs))))
either_read k again b bs rest le utf8 true e = by_run k again b bs rest le utf8 e (run_of bs)
either_read k again b bs rest le utf8 false e = escape_read k again b bs rest le utf8 (is_escaped b e)

reads_up_to : (k : ℕ) → ReadsUpTo k
unfolding body_from part_of
reads_up_to k [] rest le utf8 = refl
reads_up_to zero (b ∷ bs) rest le utf8 = absurd (omega arith)
reads_up_to (suc k) (b ∷ bs) rest le utf8 = either_read k (λ x r l u. reads_up_to k x r l u) b bs rest (omega arith) utf8 (is_raw b) refl

literal_piece : (text rest : List ℕ) → IsUtf8 text → piece_of (text_literal text ++ rest) ≡ Lexeme (Text text) (length (text_literal text))
unfolding piece_of
literal_piece text rest utf8 =
    ap (λ (z : List ℕ). literal_of (behind 1 [] (body_from 0 z))) (append_assoc (flat_map escaped text) (34 ∷ []) rest)
    ∙ ap (λ (b : Body). literal_of (behind 1 [] b)) (reads_up_to (length text) text rest (omega arith) utf8)
    ∙ ap (Lexeme (Text text)) (omega (arith, length-append (flat_map escaped text) (34 ∷ [])))

pub text_shut : (text : List ℕ) → IsUtf8 text → Shut (text_literal text) (Text text ∷ [])
text_shut text utf8 = record {
  by = λ rest. subst (λ (x : List ℕ). Whole x rest (Text text ∷ [])) (append-nil (text_literal text)) (token (text_literal text) [] (omega arith) (literal_piece text rest utf8) none);
}
