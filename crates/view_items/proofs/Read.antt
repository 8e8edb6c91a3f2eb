-- One piece of a file after the other.
use Rattle.std.proofs.Common.{◌≡◌, ℕ, zero, suc, ◌+◌, ◌-◌, ◌<◌, ◌≤◌, List, [], ◌∷◌, ◌++◌, length, take, drop, Option, Some, None, refl, sym, ap, ◌∙◌, append_assoc, arith}
use Rattle.std.proofs.lemmas.List.{append-nil, length-drop, length-take, drop-drop}
use Rattle.view_items.specs.declared.item.ItemKind.{ItemKind}
use Rattle.view_items.specs.declared.item.Item.{Item}
use Rattle.view_items.specs.Pieces.{Piece, piece_of}
use Rattle.view_items.specs.Items.{item_of, items_from, items_of, IsOfItsPlace, AreOfTheirPlaces}

-- the bytes of a piece are passed over
skipped : (at k : ℕ) (bs : List ℕ) → items_from at k bs ≡ items_from (at + k) 0 (drop k bs)
unfolding items_from
skipped at zero bs = ap (λ (n : ℕ). items_from n 0 bs) (omega arith)
skipped at (suc k) [] = refl
skipped at (suc k) (b ∷ bs) = skipped (at + 1) k bs ∙ ap (λ (n : ℕ). items_from n 0 (drop k bs)) (omega arith)

-- what one piece leaves to be read
one_piece : (at : ℕ) (bs : List ℕ) (piece : Piece) → 0 < length bs → 0 < piece.1 → piece ≡ piece_of bs
    → items_from at 0 bs ≡ item_of piece at bs ++ items_from (at + piece.1) 0 (drop piece.1 bs)
unfolding items_from
one_piece at [] piece some long h = absurd (omega arith)
one_piece at (b ∷ bs) (t, zero) some long h = absurd (omega arith)
one_piece at (b ∷ bs) (t, suc n) some long h =
    let e : at + 1 + n ≡ at + suc n = omega arith in
    rw (← h) (ap (λ (is : List Item). item_of (t, suc n) at (b ∷ bs) ++ is) (skipped (at + 1) n bs ∙ ap (λ (k : ℕ). items_from k 0 (drop n bs)) e))

take_all : (xs : List ℕ) → take (length xs) xs ≡ xs
take_all [] = refl
take_all (x ∷ xs) = ap (λ (ys : List ℕ). x ∷ ys) (take_all xs)

-- an item of the bytes of its piece
item_alone : (kind : Option ItemKind) (len at : ℕ) (bs here : List ℕ) → here ≡ take len bs → len ≤ length bs → item_of (kind, length here) at here ≡ item_of (kind, len) at bs
item_alone None len at bs here is_here le = refl
item_alone (Some kind) len at bs here is_here le =
    let l : length here ≡ len = ap (λ (xs : List ℕ). length xs) is_here ∙ length-take len bs ∙ omega (arith, le) in
    let t : take (length here) here ≡ take len bs = take_all here ∙ is_here in
    rw (t, l) refl

pub begins : (source : List ℕ) (list : List Item) → list ≡ [] → list ++ items_from 0 0 source ≡ items_of source
unfolding items_of
begins source list none = rw none refl

pub left_on : (at len total : ℕ) (bs rest : List ℕ) → len ≤ length bs → rest ≡ drop len bs → at + length bs ≡ total → at + len + length rest ≡ total
left_on at len total bs rest le is_rest left =
    let l : length rest ≡ length bs - len = ap (λ (xs : List ℕ). length xs) is_rest ∙ length-drop len bs in
    omega (arith, le, l, left)

pub rest_on : (at len : ℕ) (source bs rest : List ℕ) → rest ≡ drop len bs → bs ≡ drop at source → rest ≡ drop (at + len) source
rest_on at len source bs rest is_rest is_bs = is_rest ∙ ap (λ (xs : List ℕ). drop len xs) is_bs ∙ drop-drop len at source

pub read_on : (at len : ℕ) (kind : Option ItemKind) (bs here rest : List ℕ) (list more t : List Item) → list ++ items_from at 0 bs ≡ t → 0 < length bs → 0 < len → len ≤ length bs → (kind, len) ≡ piece_of bs
    → here ≡ take len bs → rest ≡ drop len bs → more ≡ list ++ item_of (kind, length here) at here → more ++ items_from (at + len) 0 rest ≡ t
read_on at len kind bs here rest list more t so_far some long le is_piece is_here is_rest is_more =
    rw (is_more, is_rest, item_alone kind len at bs here is_here le)
    (append_assoc list (item_of (kind, len) at bs) (items_from (at + len) 0 (drop len bs)) ∙ ap (λ (is : List Item). list ++ is) (sym (one_piece at bs (kind, len) some long is_piece)) ∙ so_far)

pub read_all : (at : ℕ) (bs : List ℕ) (list t : List Item) → list ++ items_from at 0 bs ≡ t → length bs ≡ 0 → list ≡ t
unfolding items_from
read_all at [] list t so_far none = sym (append-nil list) ∙ so_far
read_all at (b ∷ bs) list t so_far none = absurd (omega arith)

-- ---- places

-- each item is of its place, behind those before it, and the last one ends before a place
abbrev pub UpTo : List ℕ → ℕ → List Item → ℕ → Type 0
UpTo source from [] to = from ≤ to
UpTo source from (i ∷ is) to = (from ≤ i.from) × IsOfItsPlace source i × UpTo source i.to is to

further : (source : List ℕ) (from : ℕ) (is : List Item) (to more : ℕ) → to ≤ more → UpTo source from is to → UpTo source from is more
further source from [] to more le up = omega (arith, le, up)
further source from (i ∷ is) to more le up = (up.0, up.1, further source i.to is to more le up.2)

with_item : (source : List ℕ) (from : ℕ) (is : List Item) (i : Item) → UpTo source from is i.from → IsOfItsPlace source i → UpTo source from (is ++ i ∷ []) i.to
with_item source from [] i up own = (up, own, omega arith)
with_item source from (j ∷ is) i up own = (up.0, up.1, with_item source j.to is i up.2 own)

pub in_places : (source : List ℕ) (from : ℕ) (is : List Item) (to : ℕ) → UpTo source from is to → AreOfTheirPlaces source from is
unfolding AreOfTheirPlaces
in_places source from [] to up = tt
in_places source from (i ∷ is) to up = (up.0, up.1, in_places source i.to is to up.2)

own_place : (source : List ℕ) (kind : ItemKind) (at len : ℕ) (bs : List ℕ) → bs ≡ drop at source → 0 < len → len ≤ length bs → at + length bs ≡ length source
    → IsOfItsPlace source (record { kind = kind; bytes = take len bs; from = at; to = at + len })
own_place source kind at len bs is_bs long le left =
    let e : at + len - at ≡ len = omega arith in
    record { some = omega (arith, long); within = omega (arith, le, left); bytes = rw (e, ← is_bs) refl }

pub places_on : (source : List ℕ) (kind : Option ItemKind) (at len : ℕ) (bs here : List ℕ) (list more : List Item) → UpTo source 0 list at → bs ≡ drop at source → 0 < len → len ≤ length bs → at + length bs ≡ length source
    → here ≡ take len bs → more ≡ list ++ item_of (kind, length here) at here → UpTo source 0 more (at + len)
places_on source None at len bs here list more up is_bs long le left is_here is_more =
    rw (is_more, append-nil list) (further source 0 list at (at + len) (omega arith) up)
places_on source (Some kind) at len bs here list more up is_bs long le left is_here is_more =
    rw (is_more, item_alone (Some kind) len at bs here is_here le)
    (with_item source 0 list (record { kind = kind; bytes = take len bs; from = at; to = at + len }) up (own_place source kind at len bs is_bs long le left))

pub places_first : (source : List ℕ) (list : List Item) → list ≡ [] → UpTo source 0 list 0
places_first source list none = rw none (omega arith)
