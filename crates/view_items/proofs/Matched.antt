-- Brackets of one item more.
use Rattle.std.proofs.Common.{◌≡◌, ℕ, zero, suc, ◌+◌, ◌-◌, ◌<◌, ◌≤◌, Bool, true, false, List, [], ◌∷◌, ◌++◌, length, drop, reverse, slice_index_or, Option, Some, None, refl, sym, ap, ◌∙◌, append_assoc, arith, if◌then◌else◌}
use Rattle.std.proofs.lemmas.List.{append-nil, drop_more, at_drop_all}
use Rattle.std.proofs.lemmas.Option.{none-some}
use Rattle.view_items.specs.declared.item.Item.{Item}
use Rattle.view_items.specs.Brackets.{if_some, sign_of, Closed, with_item, closed_from, all_closed, closings_of, open_after, first_or, rounds_from, rounds_of}

-- ---- closings, from the last item to the first

closed_more : (items : List Item) (n : ℕ) (i : Item) → 0 < n → n ≤ length items → i ≡ slice_index_or items (n - 1) i
    → closed_from (n - 1) (drop (n - 1) items) ≡ if_some (closed_from n (drop n items)) (with_item (n - 1) (sign_of i))
unfolding closed_from
closed_more items n i some le read =
    let e : n - 1 + 1 ≡ n = omega (arith, some) in
    let h : drop (n - 1) items ≡ i ∷ drop n items =
    drop_more items (n - 1) i (omega (arith, some, le)) ∙ ap (λ (j : Item). j ∷ drop (n - 1 + 1) items) (sym read) ∙ ap (λ (k : ℕ). i ∷ drop k items) e in
    ap (λ (is : List Item). closed_from (n - 1) is) h ∙ ap (λ (k : ℕ). if_some (closed_from k (drop n items)) (with_item (n - 1) (sign_of i))) e

pub closed_first : (items : List Item) (ws : List (ℕ × ℕ)) (ns : List ℕ) → ws ≡ [] → ns ≡ [] → closed_from (length items) (drop (length items) items) ≡ Some (reverse ws, reverse ns)
unfolding closed_from
closed_first items ws ns no_ws no_ns =
    let h : drop (length items) items ≡ [] = at_drop_all (λ (is : List Item). is) items (length items) (omega arith) in
    rw (h, no_ws, no_ns) refl

abbrev if_fits : Bool → Closed → Option Closed
if_fits f new = if f then Some new else None

pub closed_next : (items : List Item) (n b : ℕ) (i : Item) (fits : Bool) (old new : Closed) → 0 < n → n ≤ length items → i ≡ slice_index_or items (n - 1) i → b ≡ sign_of i
    → closed_from n (drop n items) ≡ Some old → with_item (n - 1) b old ≡ (if fits then Some new else None) → fits ≡ true → closed_from (n - 1) (drop (n - 1) items) ≡ Some new
closed_next items n b i fits old new some le read is_b so_far taken is_so =
    let t : with_item (n - 1) b old ≡ Some new = taken ∙ ap (λ (f : Bool). if_fits f new) is_so in
    closed_more items n i some le read ∙ ap (λ (r : Option Closed). if_some r (with_item (n - 1) (sign_of i))) so_far ∙ ap (λ (c : ℕ). with_item (n - 1) c old) (sym is_b) ∙ t

-- where an opening bracket has no closing one of its kind
none_before : (items : List Item) (j k : ℕ) → closed_from (k + j) (drop j items) ≡ None → closed_from k items ≡ None
unfolding closed_from
none_before items zero k none =
    let e : k + 0 ≡ k = omega arith in
    ap (λ (n : ℕ). closed_from n items) (sym e) ∙ none
none_before [] (suc j) k none = absurd (none-some _ (sym none))
none_before (i ∷ items) (suc j) k none =
    let e : k + suc j ≡ k + 1 + j = omega arith in
    let h : closed_from (k + 1) items ≡ None = none_before items j (k + 1) (ap (λ (n : ℕ). closed_from n (drop j items)) (sym e) ∙ none) in
    rw h refl

pub closed_never : (items : List Item) (n b : ℕ) (i : Item) (fits : Bool) (old new : Closed) → 0 < n → n ≤ length items → i ≡ slice_index_or items (n - 1) i → b ≡ sign_of i
    → closed_from n (drop n items) ≡ Some old → with_item (n - 1) b old ≡ (if fits then Some new else None) → fits ≡ false → None ≡ closings_of items
unfolding closings_of
closed_never items n b i fits old new some le read is_b so_far taken is_not =
    let t : with_item (n - 1) b old ≡ None = taken ∙ ap (λ (f : Bool). if_fits f new) is_not in
    let h : closed_from (n - 1) (drop (n - 1) items) ≡ None = closed_more items n i some le read ∙ ap (λ (r : Option Closed). if_some r (with_item (n - 1) (sign_of i))) so_far ∙ ap (λ (c : ℕ). with_item (n - 1) c old) (sym is_b) ∙ t in
    let z : closed_from 0 items ≡ None = none_before items (n - 1) 0 (ap (λ (k : ℕ). closed_from k (drop (n - 1) items)) (omega arith) ∙ h) in
    rw z refl

pub closed_all : (items : List Item) (n : ℕ) (all : Closed) (o : Option (List ℕ)) → closed_from n (drop n items) ≡ Some all → n ≡ 0 → o ≡ all_closed all → o ≡ closings_of items
unfolding closings_of
closed_all items n all o so_far none is_o =
    let h : closed_from 0 items ≡ Some all = ap (λ (k : ℕ). closed_from k (drop k items)) (sym none) ∙ so_far in
    rw h is_o

-- ---- the innermost open brackets

pub rounds_first : (items : List Item) (ks ns : List ℕ) → ks ≡ [] → ns ≡ [] → ns ++ rounds_from (reverse ks) 0 (drop 0 items) ≡ rounds_of items
unfolding rounds_of
rounds_first items ks ns no_ks no_ns = rw (no_ks, no_ns) refl

pub rounds_next : (items : List Item) (ks more ls ns all t : List ℕ) (n b r : ℕ) (i : Item) → ns ++ rounds_from (reverse ks) n (drop n items) ≡ t → n < length items → i ≡ slice_index_or items n i → b ≡ sign_of i
    → ls ≡ ks → r ≡ first_or n (reverse ls) → all ≡ ns ++ r ∷ [] → reverse more ≡ open_after n b (reverse ks) → all ++ rounds_from (reverse more) (n + 1) (drop (n + 1) items) ≡ t
unfolding rounds_from
rounds_next items ks more ls ns all t n b r i so_far lt read is_b lent is_r is_all is_more =
    let d : drop n items ≡ i ∷ drop (n + 1) items = drop_more items n i lt ∙ ap (λ (j : Item). j ∷ drop (n + 1) items) (sym read) in
    let f : r ≡ first_or n (reverse ks) = is_r ∙ ap (λ (xs : List ℕ). first_or n (reverse xs)) lent in
    let m : reverse more ≡ open_after n (sign_of i) (reverse ks) = is_more ∙ ap (λ (c : ℕ). open_after n c (reverse ks)) is_b in
    let h : rounds_from (reverse ks) n (drop n items) ≡ r ∷ rounds_from (reverse more) (n + 1) (drop (n + 1) items) =
    ap (λ (is : List Item). rounds_from (reverse ks) n is) d ∙ rw (← f, ← m) refl in
    rw is_all (append_assoc ns (r ∷ []) _ ∙ ap (λ (xs : List ℕ). ns ++ xs) (sym h) ∙ so_far)

pub rounds_all : (items : List Item) (ks ns t : List ℕ) (n : ℕ) → ns ++ rounds_from (reverse ks) n (drop n items) ≡ t → length items ≤ n → ns ≡ t
unfolding rounds_from
rounds_all items ks ns t n so_far le =
    let d : rounds_from (reverse ks) n (drop n items) ≡ [] = at_drop_all (rounds_from (reverse ks) n) items n le in
    sym (append-nil ns) ∙ ap (λ (xs : List ℕ). ns ++ xs) (sym d) ∙ so_far
