-- A piece depends on its own bytes and on the byte behind it.
use Rattle.std.proofs.Common.{◌≡◌, ℕ, zero, suc, ◌+◌, ◌-◌, ◌≤◌, ◌<◌, Bool, true, false, cond, ◌&&◌, List, [], ◌∷◌, ◌++◌, length, take, drop, Option, Some, None, refl, sym, ap, ◌∙◌, subst, arith}
use Rattle.std.specs.Prelude.{option_map, ◌==◌}
use Rattle.std.specs.List.{prefix_len}
use Rattle.std.specs.Str.Lossy.{utf8_valid_len}
use Rattle.std.proofs.lemmas.List.{length-drop}
use Rattle.std.proofs.lemmas.List.Sums.{prefix_len-le-length}
use Rattle.java_lex.specs.Bytes.{quote, backslash, slash, star, ends_line, is_plain, escape_of, begins_with}
use Rattle.java_lex.specs.Pieces.{comment_len, Part, close, line_end, plain, wrong, plain_part, escape_part, escaped, part_of, Body, closed, unclosed, bad, behind, body_by, body_from}
use Rattle.java_lex.proofs.Lengths.{BodyFits, body_fits, length_taken}
use Rattle.java_lex.proofs.Bodies.{body_is}

-- ---- fronts of lists

pub prefix_within : (p : ℕ → Bool) (x : List ℕ) (c : ℕ) (y z : List ℕ) → prefix_len p (x ++ c ∷ y) ≤ length x → prefix_len p (x ++ c ∷ z) ≡ prefix_len p (x ++ c ∷ y)
prefix_within p [] c y z h = by (p c) h
  where
    by : (v : Bool) → cond v (1 + prefix_len p y) 0 ≤ 0 → cond v (1 + prefix_len p z) 0 ≡ cond v (1 + prefix_len p y) 0
    by true h = absurd (omega arith)
    by false h = refl
prefix_within p (b ∷ x) c y z h = by (p b) h (prefix_within p x c y z)
  where
    by : (v : Bool) → cond v (1 + prefix_len p (x ++ c ∷ y)) 0 ≤ suc (length x) → (prefix_len p (x ++ c ∷ y) ≤ length x → prefix_len p (x ++ c ∷ z) ≡ prefix_len p (x ++ c ∷ y))
        → cond v (1 + prefix_len p (x ++ c ∷ z)) 0 ≡ cond v (1 + prefix_len p (x ++ c ∷ y)) 0
    by true h again = ap (λ (n : ℕ). 1 + n) (again (omega arith))
    by false h again = refl

-- a front that ends before the end of x
pub prefix_inside : (p : ℕ → Bool) (x y z : List ℕ) → prefix_len p (x ++ y) < length x → prefix_len p (x ++ z) ≡ prefix_len p (x ++ y)
prefix_inside p [] y z h = absurd (omega arith)
prefix_inside p (b ∷ x) y z h = by (p b) h (prefix_inside p x y z)
  where
    by : (v : Bool) → cond v (1 + prefix_len p (x ++ y)) 0 < suc (length x) → (prefix_len p (x ++ y) < length x → prefix_len p (x ++ z) ≡ prefix_len p (x ++ y))
        → cond v (1 + prefix_len p (x ++ z)) 0 ≡ cond v (1 + prefix_len p (x ++ y)) 0
    by true h again = ap (λ (n : ℕ). 1 + n) (again (omega arith))
    by false h again = refl

-- the byte behind a front fails
pub prefix_stops : (p : ℕ → Bool) (x : List ℕ) (c : ℕ) (y : List ℕ) → prefix_len p (x ++ c ∷ y) ≡ length x → p c ≡ false
prefix_stops p [] c y h = by (p c) h
  where
    by : (v : Bool) → cond v (1 + prefix_len p y) 0 ≡ 0 → v ≡ false
    by true h = absurd (omega arith)
    by false h = refl
prefix_stops p (b ∷ x) c y h = by (p b) h (prefix_stops p x c y)
  where
    by : (v : Bool) → cond v (1 + prefix_len p (x ++ c ∷ y)) 0 ≡ suc (length x) → (prefix_len p (x ++ c ∷ y) ≡ length x → p c ≡ false) → p c ≡ false
    by true h again = again (omega arith)
    by false h again = absurd (omega arith)

pub take_same : (n : ℕ) (x y z : List ℕ) → n ≤ length x → take n (x ++ z) ≡ take n (x ++ y)
take_same zero x y z h = refl
take_same (suc n) [] y z h = absurd (omega arith)
take_same (suc n) (b ∷ x) y z h = ap (λ (bs : List ℕ). b ∷ bs) (take_same n x y z (omega arith))

pub drop_inside : (n : ℕ) (x y : List ℕ) → n ≤ length x → drop n (x ++ y) ≡ drop n x ++ y
drop_inside zero x y h = refl
drop_inside (suc n) [] y h = absurd (omega arith)
drop_inside (suc n) (b ∷ x) y h = drop_inside n x y (omega arith)

pub begins_same : (s n : ℕ) (x : List ℕ) (c : ℕ) (y z : List ℕ) → n ≤ length x → begins_with s (drop n (x ++ c ∷ z)) ≡ begins_with s (drop n (x ++ c ∷ y))
begins_same s zero [] c y z h = refl
begins_same s zero (b ∷ x) c y z h = refl
begins_same s (suc n) [] c y z h = absurd (omega arith)
begins_same s (suc n) (b ∷ x) c y z h = begins_same s n x c y z (omega arith)

-- ---- comments

option_suc : (o : Option ℕ) (k : ℕ) → option_map suc o ≡ Some k → (j : ℕ) × (o ≡ Some j) × (k ≡ suc j)
option_suc None k e = absurd cc
option_suc (Some j) k e = let same : suc j ≡ k = cc in (j, refl, sym same)

pub comment_len_inside : (x y z : List ℕ) (k : ℕ) → comment_len (x ++ y) ≡ Some k → k + 2 ≤ length x → comment_len (x ++ z) ≡ Some k
comment_len_inside [] y z k e h = absurd (omega arith)
comment_len_inside (b ∷ []) y z k e h = absurd (omega arith)
comment_len_inside (b ∷ c ∷ x) y z k e h = by ((b == star) && (c == slash)) e (comment_len_inside (c ∷ x) y z)
  where
    by : (v : Bool) → cond v (Some 0) (option_map suc (comment_len (c ∷ (x ++ y)))) ≡ Some k → ((j : ℕ) → comment_len (c ∷ (x ++ y)) ≡ Some j → j + 2 ≤ suc (length x) → comment_len (c ∷ (x ++ z)) ≡ Some j)
        → cond v (Some 0) (option_map suc (comment_len (c ∷ (x ++ z)))) ≡ Some k
    by true e again = e
    by false e again =
        let s : (j : ℕ) × (comment_len (c ∷ (x ++ y)) ≡ Some j) × (k ≡ suc j) = option_suc (comment_len (c ∷ (x ++ y))) k e in
        ap (option_map suc) (again s.0 s.1 (omega (arith, s.2))) ∙ ap (λ (n : ℕ). Some n) (sym s.2)

-- ---- text literals

-- what a closed body has behind its first part
record Behind (n : ℕ) (front : List ℕ) (body : Body) (text : List ℕ) (m : ℕ) : Type 0 where
  more : List ℕ
  len : ℕ
  is_closed : body ≡ closed more len
  whole_is : closed (front ++ more) (n + len) ≡ closed text m
  len_is : m ≡ n + len

behind_is : (n : ℕ) (front : List ℕ) (body : Body) (text : List ℕ) (m : ℕ) → behind n front body ≡ closed text m → Behind n front body text m
behind_is n front (closed more k) text m e = record { more = more; len = k; is_closed = refl; whole_is = e; len_is = cc }
behind_is n front unclosed text m e = absurd cc
behind_is n front (bad k) text m e = absurd cc

closed_some : (bs : List ℕ) (text : List ℕ) (n : ℕ) → body_from 0 bs ≡ closed text n → 0 < n
closed_some bs text n e =
    let fits : BodyFits (length bs) (closed text n) = subst (λ (body : Body). BodyFits (length bs) body) e (body_fits bs) in
    fits.0

-- bodies of at most k bytes, up to their closing quotes, don't depend on what follows
abbrev InsideUpTo : ℕ → Type 0
InsideUpTo k = (x y z text : List ℕ) (n : ℕ) → length x ≤ k → body_from 0 (x ++ y) ≡ closed text n → n ≤ length x → body_from 0 (x ++ z) ≡ closed text n

plain_test : (b : ℕ) → (b == quote) ≡ false → ends_line b ≡ false → (b == backslash) ≡ false → is_plain b ≡ true
plain_test b q e s = rw (q, e, s) refl

-- the parts behind b, which is neither a quote nor the end of a line
escape_inside : (k : ℕ) → InsideUpTo k → (b : ℕ) (x y z text : List ℕ) (n : ℕ) → length x ≤ k
    → body_by (escaped (x ++ y)) (λ m. body_from 0 (drop m (b ∷ (x ++ y)))) ≡ closed text n → n ≤ suc (length x)
    → body_by (escaped (x ++ z)) (λ m. body_from 0 (drop m (b ∷ (x ++ z)))) ≡ closed text n
escape_inside k again b [] [] z text n le e h = absurd cc
escape_inside k again b [] (c ∷ y) z text n le e h = absurd (by (escape_of c) e)
  where
    by : (o : Option ℕ) → body_by (escape_part o) (λ m. body_from 0 (drop m (b ∷ c ∷ y))) ≡ closed text n → ⊥
    by None e = cc
    by (Some d) e =
        let r : Behind 2 (d ∷ []) (body_from 0 y) text n = behind_is 2 (d ∷ []) (body_from 0 y) text n e in
        omega (arith, r.len_is, h)
escape_inside k again b (c ∷ x) y z text n le e h = by (escape_of c) e
  where
    by : (o : Option ℕ) → body_by (escape_part o) (λ m. body_from 0 (drop m (b ∷ c ∷ (x ++ y)))) ≡ closed text n → body_by (escape_part o) (λ m. body_from 0 (drop m (b ∷ c ∷ (x ++ z)))) ≡ closed text n
    by None e = absurd cc
    by (Some d) e =
        let r : Behind 2 (d ∷ []) (body_from 0 (x ++ y)) text n = behind_is 2 (d ∷ []) (body_from 0 (x ++ y)) text n e in
        let same : body_from 0 (x ++ z) ≡ closed r.more r.len = again x y z r.more r.len (omega (arith, le)) r.is_closed (omega (arith, r.len_is, h)) in
        ap (behind 2 (d ∷ [])) same ∙ r.whole_is

-- a run of plain bytes, which ends before x does
run_inside : (k : ℕ) → InsideUpTo k → (x y z run text : List ℕ) (n : ℕ) → 0 < length run → length x ≤ suc k → length run ≤ length x
    → behind (length run) run (body_from 0 (drop (length run) (x ++ y))) ≡ closed text n → n ≤ length x
    → behind (length run) run (body_from 0 (drop (length run) (x ++ z))) ≡ closed text n
run_inside k again x y z run text n some le within e h =
    let r : Behind (length run) run (body_from 0 (drop (length run) (x ++ y))) text n = behind_is (length run) run (body_from 0 (drop (length run) (x ++ y))) text n e in
    let long : length (drop (length run) x) ≡ length x - length run = length-drop (length run) x in
    let same : body_from 0 (drop (length run) x ++ z) ≡ closed r.more r.len =
    again (drop (length run) x) y z r.more r.len (omega (arith, le, some, long)) (ap (body_from 0) (sym (drop_inside (length run) x y within)) ∙ r.is_closed) (omega (arith, r.len_is, h, long)) in
    ap (λ (bs : List ℕ). behind (length run) run (body_from 0 bs)) (drop_inside (length run) x z within) ∙ (ap (behind (length run) run) same ∙ r.whole_is)

plain_inside : (k : ℕ) → InsideUpTo k → (b : ℕ) (x y z text : List ℕ) (n : ℕ) → is_plain b ≡ true → length x ≤ k
    → body_by (plain_part (take (prefix_len is_plain (b ∷ (x ++ y))) (b ∷ (x ++ y)))) (λ m. body_from 0 (drop m (b ∷ (x ++ y)))) ≡ closed text n → n ≤ suc (length x)
    → body_by (plain_part (take (prefix_len is_plain (b ∷ (x ++ z))) (b ∷ (x ++ z)))) (λ m. body_from 0 (drop m (b ∷ (x ++ z)))) ≡ closed text n
plain_inside k again b x y z text n is le e h =
    of_run (take (prefix_len is_plain (b ∷ (x ++ y))) (b ∷ (x ++ y))) refl e
  where
    of_run : (run : List ℕ) → take (prefix_len is_plain (b ∷ (x ++ y))) (b ∷ (x ++ y)) ≡ run → body_by (plain_part run) (λ m. body_from 0 (drop m (b ∷ (x ++ y)))) ≡ closed text n
        → body_by (plain_part (take (prefix_len is_plain (b ∷ (x ++ z))) (b ∷ (x ++ z)))) (λ m. body_from 0 (drop m (b ∷ (x ++ z)))) ≡ closed text n
    of_run run is_run e = by (utf8_valid_len run == length run) refl e
      where
        len_is : length run ≡ prefix_len is_plain (b ∷ (x ++ y))
        len_is = ap length (sym is_run) ∙ length_taken (prefix_len is_plain (b ∷ (x ++ y))) (b ∷ (x ++ y)) (prefix_len-le-length is_plain (b ∷ (x ++ y)))

        some : 0 < length run
        some = let first : prefix_len is_plain (b ∷ (x ++ y)) ≡ 1 + prefix_len is_plain (x ++ y) = rw is refl in omega (arith, len_is, first)

        goes : behind (length run) run (body_from 0 (drop (length run) (b ∷ (x ++ y)))) ≡ closed text n → length run < suc (length x)
        goes f =
            let r : Behind (length run) run (body_from 0 (drop (length run) (b ∷ (x ++ y)))) text n = behind_is (length run) run (body_from 0 (drop (length run) (b ∷ (x ++ y)))) text n f in
            let more : 0 < r.len = closed_some (drop (length run) (b ∷ (x ++ y))) r.more r.len r.is_closed in
            omega (arith, r.len_is, h, more)

        same : length run < suc (length x) → take (prefix_len is_plain (b ∷ (x ++ z))) (b ∷ (x ++ z)) ≡ run
        same g =
            let n_is : prefix_len is_plain (b ∷ (x ++ z)) ≡ prefix_len is_plain (b ∷ (x ++ y)) = prefix_inside is_plain (b ∷ x) y z (omega (arith, g, len_is)) in
            ap (λ (k : ℕ). take k (b ∷ (x ++ z))) n_is ∙ (take_same (prefix_len is_plain (b ∷ (x ++ y))) (b ∷ x) y z (omega (arith, g, len_is)) ∙ is_run)

        is_plain_run : (utf8_valid_len run == length run) ≡ true → plain_part run ≡ plain run
        is_plain_run t = ap (λ (v : Bool). cond v (plain run) (wrong (utf8_valid_len run))) t

        by : (v : Bool) → (utf8_valid_len run == length run) ≡ v → body_by (cond v (plain run) (wrong (utf8_valid_len run))) (λ m. body_from 0 (drop m (b ∷ (x ++ y)))) ≡ closed text n
            → body_by (plain_part (take (prefix_len is_plain (b ∷ (x ++ z))) (b ∷ (x ++ z)))) (λ m. body_from 0 (drop m (b ∷ (x ++ z)))) ≡ closed text n
        by true t f =
            let g : length run < suc (length x) = goes f in
            ap (λ (r : List ℕ). body_by (plain_part r) (λ m. body_from 0 (drop m (b ∷ (x ++ z))))) (same g)
            ∙ (ap (λ (p : Part). body_by p (λ m. body_from 0 (drop m (b ∷ (x ++ z))))) (is_plain_run t)
            ∙ run_inside k again (b ∷ x) y z run text n some (omega (arith, le)) (omega (arith, g)) f h)
        by false t f = absurd cc

part_inside : (k : ℕ) → InsideUpTo k → (b : ℕ) (x y z text : List ℕ) (n : ℕ) → length x ≤ k
    → body_by (part_of (b ∷ (x ++ y))) (λ m. body_from 0 (drop m (b ∷ (x ++ y)))) ≡ closed text n → n ≤ suc (length x)
    → body_by (part_of (b ∷ (x ++ z))) (λ m. body_from 0 (drop m (b ∷ (x ++ z)))) ≡ closed text n
unfolding part_of
part_inside k again b x y z text n le e h = on_quote (b == quote) refl e
  where
    on_backslash : (s : Bool) → (b == quote) ≡ false → ends_line b ≡ false → (b == backslash) ≡ s
        → body_by (cond s (escaped (x ++ y)) (plain_part (take (prefix_len is_plain (b ∷ (x ++ y))) (b ∷ (x ++ y))))) (λ m. body_from 0 (drop m (b ∷ (x ++ y)))) ≡ closed text n
        → body_by (cond s (escaped (x ++ z)) (plain_part (take (prefix_len is_plain (b ∷ (x ++ z))) (b ∷ (x ++ z))))) (λ m. body_from 0 (drop m (b ∷ (x ++ z)))) ≡ closed text n
    on_backslash true q l s f = escape_inside k again b x y z text n le f h
    on_backslash false q l s f = plain_inside k again b x y z text n (plain_test b q l s) le f h

    on_line : (l : Bool) → (b == quote) ≡ false → ends_line b ≡ l
        → body_by (cond l line_end (cond (b == backslash) (escaped (x ++ y)) (plain_part (take (prefix_len is_plain (b ∷ (x ++ y))) (b ∷ (x ++ y)))))) (λ m. body_from 0 (drop m (b ∷ (x ++ y)))) ≡ closed text n
        → body_by (cond l line_end (cond (b == backslash) (escaped (x ++ z)) (plain_part (take (prefix_len is_plain (b ∷ (x ++ z))) (b ∷ (x ++ z)))))) (λ m. body_from 0 (drop m (b ∷ (x ++ z)))) ≡ closed text n
    on_line true q l f = f
    on_line false q l f = on_backslash (b == backslash) q l refl f

    on_quote : (q : Bool) → (b == quote) ≡ q
        → body_by (cond q close (cond (ends_line b) line_end (cond (b == backslash) (escaped (x ++ y)) (plain_part (take (prefix_len is_plain (b ∷ (x ++ y))) (b ∷ (x ++ y))))))) (λ m. body_from 0 (drop m (b ∷ (x ++ y)))) ≡ closed text n
        → body_by (cond q close (cond (ends_line b) line_end (cond (b == backslash) (escaped (x ++ z)) (plain_part (take (prefix_len is_plain (b ∷ (x ++ z))) (b ∷ (x ++ z))))))) (λ m. body_from 0 (drop m (b ∷ (x ++ z)))) ≡ closed text n
    on_quote true q f = f
    on_quote false q f = on_line (ends_line b) q refl f

inside_up_to : (k : ℕ) → InsideUpTo k
inside_up_to k [] y z text n le e h = let some : 0 < n = closed_some y text n e in absurd (omega arith)
inside_up_to zero (b ∷ x) y z text n le e h = absurd (omega arith)
inside_up_to (suc k) (b ∷ x) y z text n le e h =
    body_is (b ∷ (x ++ z)) ∙ part_inside k (λ u v w t m l f g. inside_up_to k u v w t m l f g) b x y z text n (omega arith) (sym (body_is (b ∷ (x ++ y))) ∙ e) h

pub body_inside : (x y z text : List ℕ) (n : ℕ) → body_from 0 (x ++ y) ≡ closed text n → n ≤ length x → body_from 0 (x ++ z) ≡ closed text n
body_inside x y z text n e h = inside_up_to (length x) x y z text n (omega arith) e h
