-- One piece of a dump after the other, and what it comes to.
use Rattle.std.proofs.Common.{◌≡◌, ℕ, zero, suc, ◌+◌, ◌-◌, ◌<◌, ◌≤◌, Bool, true, false, List, [], ◌∷◌, ◌++◌, length, take, drop, Option, Some, Result, Ok, Err, OnOk, refl, sym, ap, ◌∙◌, append_assoc, arith, if◌then◌else◌}
use Rattle.std.proofs.lemmas.List.{append-nil, length-drop}
use Rattle.std.specs.List.{filter}
use Rattle.dump_items.specs.declared.item.ItemKind.{ItemKind}
use Rattle.dump_items.specs.declared.item.Item.{Item}
use Rattle.dump_items.specs.declared.nest.Nest.{Nest}
use Rattle.dump_items.specs.Pieces.{Piece, piece_of, items, items_from, items_of, has_escapes}
use Rattle.dump_items.specs.Statements.{outside, after_kind, ends, with_first, statements_from, is_heeded, heeded, statements_of}
use Rattle.dump_items.specs.Splitting.{behind, total, kept}

-- the bytes of a piece are passed over
skipped : (e : Bool) (k : ℕ) (bs : List ℕ) → items_from e k bs ≡ items_from e 0 (drop k bs)
unfolding items_from
skipped e zero [] = refl
skipped e (suc k) [] = refl
skipped e zero (b ∷ bs) = refl
skipped e (suc k) (b ∷ bs) = skipped e k bs

-- what one piece leaves to be read
pub one_piece : (e : Bool) (bs : List ℕ) (piece : Piece) → 0 < length bs → 0 < piece.1 → piece ≡ piece_of e bs
    → items_from e 0 bs ≡ items piece.0 (take piece.1 bs) ++ items_from e 0 (drop piece.1 bs)
unfolding items_from
one_piece e [] piece some long h = absurd (omega arith)
one_piece e (b ∷ bs) (t, zero) some long h = absurd (omega arith)
one_piece e (b ∷ bs) (t, suc n) some long h = rw (← h) (ap (λ (is : List Item). items t (b ∷ take n bs) ++ is) (skipped e n bs))

-- there is a statement at least
first_is : (i : Item) (ss : List (List Item)) → behind [] (with_first i ss) ≡ with_first i ss
first_is i [] = refl
first_is i (s ∷ ss) = refl

begun : (i : Item) (b : Bool) (ss ts : List (List Item)) → behind [] (if b then [] ∷ ss else with_first i ts) ≡ (if b then [] ∷ ss else with_first i ts)
begun i true ss ts = refl
begun i false ss ts = first_is i ts

pub behind_nothing : (n : Nest) (is : List Item) → behind [] (statements_from n is) ≡ statements_from n is
unfolding statements_from
behind_nothing n [] = refl
behind_nothing n (i ∷ is) = begun i (ends n i.kind i.bytes) (statements_from outside is) (statements_from (after_kind n i.kind i.bytes) is)

-- where nothing is done yet
pub total_first : (is : List Item) → total [] [] outside is ≡ heeded (statements_from outside is)
unfolding total
total_first is = ap (λ (ss : List (List Item)). heeded ss) (behind_nothing outside is)

-- where no item is left
pub total_last : (done all : List (List Item)) (current : List Item) (n : Nest) (total_is : List (List Item)) → all ≡ done ++ heeded (current ∷ []) → total done current n [] ≡ total_is → all ≡ total_is
unfolding total statements_from
total_last done all current n total_is is_all so_far = is_all ∙ ap (λ (s : List Item). done ++ heeded (s ∷ [])) (sym (append-nil current)) ∙ so_far

-- ---- an item that ends a statement

heeded_apart : (s : List Item) (ss : List (List Item)) (b : Bool) → (if b then s ∷ filter is_heeded ss else filter is_heeded ss) ≡ (if b then s ∷ [] else []) ++ filter is_heeded ss
heeded_apart s ss true = refl
heeded_apart s ss false = refl

pub total_end : (done : List (List Item)) (current : List Item) (n : Nest) (i : Item) (is : List Item) → ends n i.kind i.bytes ≡ true
    → total (done ++ heeded (current ∷ [])) [] outside is ≡ total done current n (i ∷ is)
unfolding total statements_from heeded
total_end done current n i is e =
    rw (e, behind_nothing outside is, append-nil current)
    (append_assoc done (heeded (current ∷ [])) (heeded (statements_from outside is)) ∙ ap (λ (ss : List (List Item)). done ++ ss) (sym (heeded_apart current (statements_from outside is) (is_heeded current))))

-- ---- any other item

pushed : (current : List Item) (i : Item) (ss : List (List Item)) → behind (current ++ i ∷ []) ss ≡ behind current (with_first i ss)
pushed current i [] = refl
pushed current i (s ∷ ss) = ap (λ (t : List Item). t ∷ ss) (append_assoc current (i ∷ []) s)

passed : (x : Item) (current : List Item) (i : Item) (ss : List (List Item)) → is_heeded (x ∷ current) ≡ false → heeded (behind (x ∷ current) ss) ≡ heeded (behind (x ∷ current) (with_first i ss))
unfolding heeded
passed x current i [] e = rw e refl
passed x current i (s ∷ ss) e = rw e refl

added : (current : List Item) (i : Item) (ss : List (List Item)) (b : Bool) → is_heeded current ≡ b → heeded (behind (kept current i) ss) ≡ heeded (behind current (with_first i ss))
added [] i ss b e = ap (λ (ts : List (List Item)). heeded ts) (pushed [] i ss)
added (x ∷ current) i ss true e = rw e (ap (λ (ts : List (List Item)). heeded ts) (pushed (x ∷ current) i ss))
added (x ∷ current) i ss false e = rw e (passed x current i ss e)

pub total_add : (done : List (List Item)) (current : List Item) (n : Nest) (i : Item) (is : List Item) → ends n i.kind i.bytes ≡ false
    → total done (kept current i) (after_kind n i.kind i.bytes) is ≡ total done current n (i ∷ is)
unfolding total statements_from
total_add done current n i is e =
    rw e (ap (λ (ss : List (List Item)). done ++ ss) (added current i (statements_from (after_kind n i.kind i.bytes) is) (is_heeded current) refl))

-- ---- what the calls of the loop ensure

pub done_with : (done all : List (List Item)) (s t sl : List Item) (b : Bool) → sl ≡ s → b ≡ is_heeded sl → b ≡ true → t ≡ s → all ≡ done ++ t ∷ [] → all ≡ done ++ heeded (s ∷ [])
unfolding heeded
done_with done all s t sl b lent test is_true same is_all =
    let e : is_heeded s ≡ true = ap (λ (u : List Item). is_heeded u) (sym lent) ∙ sym test ∙ is_true in
    rw e (is_all ∙ ap (λ (u : List Item). done ++ u ∷ []) same)

pub done_without : (done : List (List Item)) (s sl : List Item) (b : Bool) → sl ≡ s → b ≡ is_heeded sl → b ≡ false → done ≡ done ++ heeded (s ∷ [])
unfolding heeded
done_without done s sl b lent test is_false =
    let e : is_heeded s ≡ false = ap (λ (u : List Item). is_heeded u) (sym lent) ∙ sym test ∙ is_false in
    rw e (sym (append-nil done))

pub took_end : {A E : Type 0} (r : Result A E) (done all : List (List Item)) (current left : List Item) (n m : Nest) (o : Option ItemKind) (kind : ItemKind) (bytes : List ℕ)
    → o ≡ Some kind → true ≡ ends n kind bytes → OnOk r (all ≡ done ++ heeded (current ∷ [])) → left ≡ [] → m ≡ outside
    → OnOk r ((is : List Item) → total all left m is ≡ total done current n (items o bytes ++ is))
took_end (Ok x) done all current left n m o kind bytes some test is_all none out = λ is. rw (is_all, none, out, some) (total_end done current n (record { kind = kind; bytes = bytes }) is (sym test))
took_end (Err x) done all current left n m o kind bytes some test is_all none out = tt

pub took_other : {A E : Type 0} (r : Result A E) (done all : List (List Item)) (current left : List Item) (n m : Nest) (o : Option ItemKind) (kind : ItemKind) (bytes : List ℕ)
    → o ≡ Some kind → false ≡ ends n kind bytes → OnOk r (left ≡ kept current (record { kind = kind; bytes = bytes })) → all ≡ done → m ≡ after_kind n kind bytes
    → OnOk r ((is : List Item) → total all left m is ≡ total done current n (items o bytes ++ is))
took_other (Ok x) done all current left n m o kind bytes some test is_left same out = λ is. rw (is_left, same, out, some) (total_add done current n (record { kind = kind; bytes = bytes }) is (sym test))
took_other (Err x) done all current left n m o kind bytes some test is_left same out = tt

pub begins : (done : List (List Item)) (current : List Item) (n : Nest) (is : List Item) → done ≡ [] → current ≡ [] → n ≡ outside → total done current n is ≡ heeded (statements_from outside is)
begins done current n is none empty out = rw (none, empty, out) (total_first is)

pub none_open : (n : Nest) (k : ℕ) → n ≡ outside → (n.depth + k ≤ k) × (n.blocks + k ≤ k)
none_open n k out = rw out (omega arith, omega arith)

pub advance : (e : Bool) (rest here back : List ℕ) (piece : Piece) → 0 < length rest → (0 < length rest → 0 < piece.1) → piece ≡ piece_of e rest → here ≡ take piece.1 rest → back ≡ drop piece.1 rest
    → items piece.0 here ++ items_from e 0 back ≡ items_from e 0 rest
advance e rest here back piece some long h is_here is_back = rw (is_here, is_back) (sym (one_piece e rest piece some (long some) h))

pub less_open : (d e n len total : ℕ) (rest back : List ℕ) → e ≤ d + 1 → d + length rest ≤ total → 0 < length rest → (0 < length rest → 0 < len) → back ≡ drop len rest → e + length back ≤ total
less_open d e n len total rest back one bound some long is_back =
    let l : 0 < len = long some in
    let b : length back ≡ length rest - len = ap (λ (bs : List ℕ). length bs) is_back ∙ length-drop len rest in
    omega (arith, one, bound, some, l, b)

pub finished : (done all : List (List Item)) (current : List Item) (n : Nest) (e : Bool) (rest text : List ℕ) → length rest ≡ 0 → e ≡ has_escapes text
    → all ≡ done ++ heeded (current ∷ []) → total done current n (items_from e 0 rest) ≡ heeded (statements_from outside (items_from e 0 text)) → all ≡ statements_of text
unfolding items_from items_of statements_of
finished done all current n e [] text none same is_all so_far =
    total_last done all current n (heeded (statements_from outside (items_from e 0 text))) is_all so_far ∙ ap (λ (b : Bool). heeded (statements_from outside (items_from b 0 text))) same
finished done all current n e (b ∷ rest) text none same is_all so_far = absurd (omega arith)
