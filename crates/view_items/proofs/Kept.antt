-- What is known to stay open.
use Rattle.std.proofs.Common.{◌≡◌, ℕ, zero, suc, ◌+◌, ◌-◌, ◌<◌, ◌≤◌, ◌==◌, Bool, true, false, not, ◌&&◌, List, [], ◌∷◌, length, take, drop, Option, Some, None, slice_index_or, refl, sym, ap, subst, ◌∙◌, arith, if◌then◌else◌}
use Rattle.std.proofs.lemmas.List.{take_rest, get_or-drop, drop-drop}
use Rattle.std.proofs.lemmas.Bool.{eqb-true, false≢true}
use Rattle.std.proofs.lemmas.Option.{none-some}
use Rattle.view_items.specs.declared.opened.Opened.{Opened}
use Rattle.view_items.specs.declared.opened.Opened.TheVariants as opens
use Rattle.view_items.specs.declared.known.Known.{Known}
use Rattle.view_items.specs.Opened.{begins_with, opening_mark, closing_mark, plus, breaks, is_closed, escapes, closing}
use Rattle.view_items.specs.Known.{nothing, until, with_until, reach, StaysOpen, IsKnown}

-- ---- what isn't closed isn't closed behind a byte that is no backslash either

no_more : (n : Option ℕ) → plus 1 n ≡ None → n ≡ None
no_more None e = refl
no_more (Some n) e = absurd (none-some _ (sym e))

still : (o : Opened) (c : Bool) (n : ℕ) (m : Option ℕ) → (if c then Some n else plus 1 m) ≡ None → m ≡ None
still o true n m none = absurd (none-some _ (sym none))
still o false n m none = no_more m none

-- one byte more
tail_open : (o : Opened) (e : Bool) (b : ℕ) (bs : List ℕ) → closing o e (b ∷ bs) ≡ None → breaks o b ≡ false → closing o (escapes o e b) bs ≡ None
unfolding closing
tail_open o e b bs none whole =
    let h : closing o e (b ∷ bs) ≡ (if is_closed o e (b ∷ bs) then Some (length (closing_mark o)) else plus 1 (closing o (escapes o e b) bs)) = rw whole refl in
    still o (is_closed o e (b ∷ bs)) (length (closing_mark o)) _ (sym h ∙ none)

whole_line : (o : Opened) (b n m : ℕ) (c : Bool) → breaks o b ≡ c → n < (if not (breaks o b) then 1 + m else 0) → (breaks o b ≡ false) × (n < 1 + m)
whole_line o b n m true e lt =
    let h : n < 0 = subst (λ (x : Bool). n < (if not x then 1 + m else 0)) e lt in
    absurd (omega (arith, h))
whole_line o b n m false e lt =
    let h : n < 1 + m = subst (λ (x : Bool). n < (if not x then 1 + m else 0)) e lt in
    (e, h)

unescaped : (o : Opened) (e : Bool) (b : ℕ) → (b == 92) ≡ false → escapes o e b ≡ false
unescaped o true b other = refl
unescaped opens.Comment false b other = refl
unescaped opens.Block false b other = other
unescaped opens.Text false b other = other
unescaped opens.Char false b other = other

pub later : (o : Opened) (e : Bool) (bs : List ℕ) (n : ℕ) → closing o e bs ≡ None → n < reach o bs → (slice_index_or bs n 92 == 92) ≡ false → closing o false (drop (suc n) bs) ≡ None
later o e [] n none lt other = absurd (omega (arith, lt))
later o e (b ∷ bs) zero none lt other =
    let w = whole_line o b zero (reach o bs) (breaks o b) refl lt in
    ap (λ (c : Bool). closing o c bs) (sym (unescaped o e b other)) ∙ tail_open o e b bs none w.0
later o e (b ∷ bs) (suc n) none lt other =
    let w = whole_line o b (suc n) (reach o bs) (breaks o b) refl lt in
    later o (escapes o e b) bs n (tail_open o e b bs none w.0) (omega (arith, w.1)) other

-- ---- what is known

both : (a b : Bool) → (a && b) ≡ true → (a ≡ true) × (b ≡ true)
both true b e = (refl, e)
both false b e = absurd (false≢true e)

is_other : (n b : ℕ) → (n == b) ≡ true → (n == 92) ≡ false → (b == 92) ≡ false
is_other n b same other = ap (λ (k : ℕ). k == 92) (sym (eqb-true n b same)) ∙ other

-- the last byte of an opening mark is no backslash
mark_ends : (o : Opened) (bs : List ℕ) → begins_with bs (opening_mark o) ≡ true → (slice_index_or bs (length (opening_mark o) - 1) 92 == 92) ≡ false
mark_ends opens.Comment [] e = absurd (false≢true e)
mark_ends opens.Comment (a ∷ []) e = absurd (false≢true (both _ _ e).1)
mark_ends opens.Comment (a ∷ b ∷ bs) e = is_other 42 b (both _ _ (both _ _ e).1).0 refl
mark_ends opens.Block [] e = absurd (false≢true e)
mark_ends opens.Block (a ∷ []) e = absurd (false≢true (both _ _ e).1)
mark_ends opens.Block (a ∷ b ∷ []) e = absurd (false≢true (both _ _ (both _ _ e).1).1)
mark_ends opens.Block (a ∷ b ∷ d ∷ bs) e = is_other 34 d (both _ _ (both _ _ (both _ _ e).1).1).0 refl
mark_ends opens.Text [] e = absurd (false≢true e)
mark_ends opens.Text (a ∷ bs) e = is_other 34 a (both _ _ e).0 refl
mark_ends opens.Char [] e = absurd (false≢true e)
mark_ends opens.Char (a ∷ bs) e = is_other 39 a (both _ _ e).0 refl

mark_some : (o : Opened) → 1 ≤ length (opening_mark o)
mark_some opens.Comment = omega arith
mark_some opens.Block = omega arith
mark_some opens.Text = omega arith
mark_some opens.Char = omega arith

-- what isn't closed behind the mark at the front isn't closed behind one further on
stays_behind : (o : Opened) (r at : ℕ) (bs : List ℕ) → closing o false (drop (length (opening_mark o)) bs) ≡ None → r ≡ reach o (drop (length (opening_mark o)) bs)
    → (n : ℕ) → begins_with (drop n bs) (opening_mark o) ≡ true → at + n < at + 1 + r → closing o false (drop (n + length (opening_mark o)) bs) ≡ None
stays_behind o r at bs none is_r zero e lt =
    let z : zero + length (opening_mark o) ≡ length (opening_mark o) = omega arith in
    rw z none
stays_behind o r at bs none is_r (suc n) e lt =
    let front : ℕ = length (opening_mark o) in
    let some : 1 ≤ length (opening_mark o) = mark_some o in
    let same : suc n + (length (opening_mark o) - 1) ≡ length (opening_mark o) + n = omega (arith, some) in
    let at_end : slice_index_or (drop (length (opening_mark o)) bs) n 92 ≡ slice_index_or (drop (suc n) bs) (length (opening_mark o) - 1) 92 =
    get_or-drop (length (opening_mark o)) bs n 92 ∙ ap (λ (k : ℕ). slice_index_or bs k 92) (sym same) ∙ sym (get_or-drop (suc n) bs (length (opening_mark o) - 1) 92) in
    let other : (slice_index_or (drop (length (opening_mark o)) bs) n 92 == 92) ≡ false = ap (λ (k : ℕ). k == 92) at_end ∙ mark_ends o (drop (suc n) bs) e in
    let before : n < reach o (drop (length (opening_mark o)) bs) = omega (arith, lt, is_r) in
    let moved : drop (suc n) (drop (length (opening_mark o)) bs) ≡ drop (suc n + length (opening_mark o)) bs =
    drop-drop (suc n) (length (opening_mark o)) bs ∙ ap (λ (k : ℕ). drop k bs) (omega arith) in
    rw (← moved) (later o false (drop (length (opening_mark o)) bs) n none before other)

-- with that, all else stays known
with_one : (k : Known) (o p : Opened) (v at : ℕ) (bs : List ℕ) → StaysOpen p (until k p) at bs → StaysOpen o v at bs → StaysOpen p (until (with_until k o v) p) at bs
with_one k opens.Comment opens.Comment v at bs old new = new
with_one k opens.Block opens.Block v at bs old new = new
with_one k opens.Text opens.Text v at bs old new = new
with_one k opens.Char opens.Char v at bs old new = new
with_one k opens.Comment opens.Block v at bs old new = old
with_one k opens.Comment opens.Text v at bs old new = old
with_one k opens.Comment opens.Char v at bs old new = old
with_one k opens.Block opens.Comment v at bs old new = old
with_one k opens.Block opens.Text v at bs old new = old
with_one k opens.Block opens.Char v at bs old new = old
with_one k opens.Text opens.Comment v at bs old new = old
with_one k opens.Text opens.Block v at bs old new = old
with_one k opens.Text opens.Char v at bs old new = old
with_one k opens.Char opens.Comment v at bs old new = old
with_one k opens.Char opens.Block v at bs old new = old
with_one k opens.Char opens.Text v at bs old new = old

pub noted : (k w : Known) (o : Opened) (at r : ℕ) (bs mark : List ℕ) → IsKnown k at bs → mark ≡ opening_mark o → None ≡ closing o false (take (length bs - length mark) (drop (length mark) bs))
    → r ≡ reach o (take (length bs - length mark) (drop (length mark) bs)) → w ≡ with_until k o (at + 1 + r) → IsKnown w at bs
noted k w o at r bs mark known is_mark none is_r is_w =
    let rest : take (length bs - length mark) (drop (length mark) bs) ≡ drop (length (opening_mark o)) bs = take_rest bs (length mark) ∙ ap (λ (m : List ℕ). drop (length m) bs) is_mark in
    let e : closing o false (drop (length (opening_mark o)) bs) ≡ None = ap (λ (cs : List ℕ). closing o false cs) (sym rest) ∙ sym none in
    let s : r ≡ reach o (drop (length (opening_mark o)) bs) = is_r ∙ ap (λ (cs : List ℕ). reach o cs) rest in
    rw is_w (record { of = λ p. with_one k o p (at + 1 + r) at bs (known.of p) (record { stays = stays_behind o r at bs e s }) })

-- nothing is known at first
nowhere : (o : Opened) → until nothing o ≡ 0
nowhere opens.Comment = refl
nowhere opens.Block = refl
nowhere opens.Text = refl
nowhere opens.Char = refl

pub known_at_first : (k : Known) (at : ℕ) (bs : List ℕ) → k ≡ nothing → IsKnown k at bs
known_at_first k at bs is_k = rw is_k (record { of = λ o. record { stays = λ n e lt. absurd (omega (arith, lt, nowhere o)) } })

-- what is known of bytes is known of those further on
pub known_behind : (k : Known) (at n : ℕ) (bs rest : List ℕ) → rest ≡ drop n bs → IsKnown k at bs → IsKnown k (at + n) rest
known_behind k at n bs rest is_rest known =
    rw is_rest (record {
      of = λ o. record {
        stays = λ m e lt.
            let here : drop m (drop n bs) ≡ drop (n + m) bs = drop-drop m n bs in
            let there : drop (m + length (opening_mark o)) (drop n bs) ≡ drop (n + m + length (opening_mark o)) bs = drop-drop (m + length (opening_mark o)) n bs ∙ ap (λ (k : ℕ). drop k bs) (omega arith) in
            rw there ((known.of o).stays (n + m) (rw (← here) e) (omega (arith, lt)));
      };
    })
