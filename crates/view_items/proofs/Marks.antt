-- One byte more of what is opened, and of a number.
use Rattle.std.proofs.Common.{◌≡◌, ℕ, ◌+◌, ◌-◌, ◌<◌, ◌≤◌, Bool, true, false, List, [], ◌∷◌, length, take, drop, slice_index_or, Option, Some, None, refl, sym, ap, ◌∙◌, arith}
use Rattle.std.proofs.lemmas.List.{take_rest, length-drop}
use Rattle.view_items.specs.declared.opened.Opened.{Opened}
use Rattle.view_items.specs.Opened.{plus, closing_mark, breaks, is_closed, escapes, closing}
use Rattle.view_items.specs.Pieces.{goes_on, number_len}

plus_one : (n : ℕ) (m : Option ℕ) → plus (n + 1) m ≡ plus n (plus 1 m)
plus_one n None = refl
plus_one n (Some m) = ap (λ (k : ℕ). Some k) (omega arith)

-- the bytes behind the first one, as code takes them apart
abbrev pub rest_of : List ℕ → List ℕ
rest_of bs = take (length bs - 1) (drop 1 bs)

abbrev pub first_of : List ℕ → ℕ
first_of bs = slice_index_or bs 0 0

pub closing_broken : (o : Opened) (e : Bool) (n : ℕ) (bs : List ℕ) (t : Option ℕ) → plus n (closing o e bs) ≡ t → 1 ≤ length bs → true ≡ breaks o (first_of bs) → None ≡ t
unfolding closing
closing_broken o e n [] t so_far some broken = absurd (omega arith)
closing_broken o e n (b ∷ bs) t so_far some broken =
    let h : closing o e (b ∷ bs) ≡ None = rw (sym broken) refl in
    sym (ap (λ (m : Option ℕ). plus n m) h) ∙ so_far

pub closing_here : (o : Opened) (e : Bool) (n : ℕ) (bs mark : List ℕ) (t : Option ℕ) → plus n (closing o e bs) ≡ t → 1 ≤ length bs → false ≡ breaks o (first_of bs) → true ≡ is_closed o e bs → mark ≡ closing_mark o
    → Some (n + length mark) ≡ t
unfolding closing
closing_here o e n [] mark t so_far some whole closed is_mark = absurd (omega arith)
closing_here o e n (b ∷ bs) mark t so_far some whole closed is_mark =
    let h : closing o e (b ∷ bs) ≡ Some (length (closing_mark o)) = rw (sym whole, sym closed) refl in
    rw is_mark (sym (ap (λ (m : Option ℕ). plus n m) h) ∙ so_far)

pub closing_next : (o : Opened) (e f : Bool) (n : ℕ) (bs : List ℕ) (t : Option ℕ) → plus n (closing o e bs) ≡ t → 1 ≤ length bs → false ≡ breaks o (first_of bs) → false ≡ is_closed o e bs → f ≡ escapes o e (first_of bs)
    → plus (n + 1) (closing o f (rest_of bs)) ≡ t
unfolding closing
closing_next o e f n [] t so_far some whole other is_f = absurd (omega arith)
closing_next o e f n (b ∷ bs) t so_far some whole other is_f =
    let h : closing o e (b ∷ bs) ≡ plus 1 (closing o (escapes o e b) bs) = rw (sym whole, sym other) refl in
    rw (is_f, take_rest (b ∷ bs) 1) (plus_one n _ ∙ sym (ap (λ (m : Option ℕ). plus n m) h) ∙ so_far)

pub closing_end : (o : Opened) (e : Bool) (n : ℕ) (bs : List ℕ) (t : Option ℕ) → plus n (closing o e bs) ≡ t → length bs < 1 → None ≡ t
unfolding closing
closing_end o e n [] t so_far none = so_far
closing_end o e n (b ∷ bs) t so_far none = absurd (omega arith)

pub number_over : (x : Bool) (n before t : ℕ) (bs : List ℕ) → n + number_len x before bs ≡ t → 1 ≤ length bs → false ≡ goes_on x before (first_of bs) → n ≡ t
unfolding number_len
number_over x n before t [] so_far some over = absurd (omega arith)
number_over x n before t (b ∷ bs) so_far some over =
    let h : number_len x before (b ∷ bs) ≡ 0 = rw (sym over) refl in
    let s : n + 0 ≡ t = ap (λ (m : ℕ). n + m) (sym h) ∙ so_far in
    omega (arith, s)

pub number_next : (x : Bool) (n before t : ℕ) (bs : List ℕ) → n + number_len x before bs ≡ t → 1 ≤ length bs → true ≡ goes_on x before (first_of bs) → n + 1 + number_len x (first_of bs) (rest_of bs) ≡ t
unfolding number_len
number_next x n before t [] so_far some on = absurd (omega arith)
number_next x n before t (b ∷ bs) so_far some on =
    let h : number_len x before (b ∷ bs) ≡ 1 + number_len x b bs = rw (sym on) refl in
    let s : n + (1 + number_len x b bs) ≡ t = ap (λ (m : ℕ). n + m) (sym h) ∙ so_far in
    rw (take_rest (b ∷ bs) 1) (omega (arith, s))

pub number_end : (x : Bool) (n before t : ℕ) (bs : List ℕ) → n + number_len x before bs ≡ t → length bs < 1 → n ≡ t
unfolding number_len
number_end x n before t [] so_far none = omega (arith, so_far)
number_end x n before t (b ∷ bs) so_far none = absurd (omega arith)

pub left_on : (bs : List ℕ) (n total : ℕ) → 1 ≤ length bs → n + length bs ≡ total → n + 1 + length (rest_of bs) ≡ total
left_on bs n total some so_far = rw (take_rest bs 1, length-drop 1 bs) (omega (arith, some, so_far))
