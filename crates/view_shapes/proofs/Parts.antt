-- One step more of a member, and one member more.
use Rattle.std.proofs.Common.{◌≡◌, ℕ, suc, ◌+◌, ◌-◌, ◌<◌, ◌≤◌, Bool, true, false, List, [], ◌∷◌, ◌++◌, codes, Option, Some, None, refl, sym, ap, ◌∙◌, append_assoc, arith, if◌then◌else◌}
use Rattle.std.proofs.lemmas.List.{append-nil}
use Rattle.view_items.specs.declared.item.Item.{Item}
use Rattle.view_items.specs.Brackets.{if_some}
use Rattle.view_shapes.specs.declared.members.Stretch.{Stretch}
use Rattle.view_shapes.specs.Found.{is_sign, is_over, behind, step_over}
use Rattle.view_shapes.specs.Members.{is_body, is_valued, member_end_in, member_end, and_then, members_in}

abbrev after : List Item → List ℕ → ℕ → Bool → ℕ → Option ℕ
after items cs n valued k =
    if is_sign (codes ";") items k then Some (k + 1)
    else (if is_body valued items k then behind items cs k
    else (if is_over items k then None
    else if_some (step_over items cs k) (λ m. member_end_in n (is_valued valued items k) items cs m)))

step : (items : List Item) (cs : List ℕ) (n c : ℕ) (v : Bool) (k : ℕ) → c < n → member_end_in (n - c) v items cs k ≡ after items cs (n - (c + 1)) v k
unfolding member_end_in
step items cs n c v k lt = let e : n - c ≡ suc (n - (c + 1)) = omega (arith, lt) in rw e refl

pub member_semicolon : (items : List Item) (cs : List ℕ) (n c : ℕ) (v : Bool) (k : ℕ) (t : Option ℕ) → member_end_in (n - c) v items cs k ≡ t → c < n → true ≡ is_sign (codes ";") items k → Some (k + 1) ≡ t
member_semicolon items cs n c v k t so_far lt here =
    let h : after items cs (n - (c + 1)) v k ≡ Some (k + 1) = rw (sym here) refl in
    sym h ∙ sym (step items cs n c v k lt) ∙ so_far

pub member_brace : (items : List Item) (cs : List ℕ) (n c : ℕ) (v : Bool) (k : ℕ) (t : Option ℕ) → member_end_in (n - c) v items cs k ≡ t → c < n → false ≡ is_sign (codes ";") items k → true ≡ is_body v items k
    → behind items cs k ≡ t
member_brace items cs n c v k t so_far lt other here =
    let h : after items cs (n - (c + 1)) v k ≡ behind items cs k = rw (sym other, sym here) refl in
    sym h ∙ sym (step items cs n c v k lt) ∙ so_far

pub member_over : (items : List Item) (cs : List ℕ) (n c : ℕ) (v : Bool) (k : ℕ) (t : Option ℕ) → member_end_in (n - c) v items cs k ≡ t → c < n → false ≡ is_sign (codes ";") items k
    → false ≡ is_body v items k → true ≡ is_over items k → None ≡ t
member_over items cs n c v k t so_far lt other none over =
    let h : after items cs (n - (c + 1)) v k ≡ None = rw (sym other, sym none, sym over) refl in
    sym h ∙ sym (step items cs n c v k lt) ∙ so_far

pub member_stuck : (items : List Item) (cs : List ℕ) (n c : ℕ) (v : Bool) (k : ℕ) (t : Option ℕ) → member_end_in (n - c) v items cs k ≡ t → c < n → false ≡ is_sign (codes ";") items k
    → false ≡ is_body v items k → false ≡ is_over items k → None ≡ step_over items cs k → None ≡ t
member_stuck items cs n c v k t so_far lt other none some stuck =
    let h : after items cs (n - (c + 1)) v k ≡ None = rw (sym other, sym none, sym some, sym stuck) refl in
    sym h ∙ sym (step items cs n c v k lt) ∙ so_far

pub member_next : (items : List Item) (cs : List ℕ) (n c : ℕ) (v w : Bool) (k m : ℕ) (t : Option ℕ) → member_end_in (n - c) v items cs k ≡ t → c < n → false ≡ is_sign (codes ";") items k
    → false ≡ is_body v items k → false ≡ is_over items k → Some m ≡ step_over items cs k → w ≡ is_valued v items k → member_end_in (n - (c + 1)) w items cs m ≡ t
member_next items cs n c v w k m t so_far lt other none some next is_w =
    let h : after items cs (n - (c + 1)) v k ≡ member_end_in (n - (c + 1)) w items cs m = rw (sym other, sym none, sym some, sym next, is_w) refl in
    sym h ∙ sym (step items cs n c v k lt) ∙ so_far

pub member_end_none : (items : List Item) (cs : List ℕ) (n c : ℕ) (v : Bool) (k : ℕ) (t : Option ℕ) → member_end_in (n - c) v items cs k ≡ t → n ≤ c → None ≡ t
unfolding member_end_in
member_end_none items cs n c v k t so_far le =
    let e : n - c ≡ 0 = omega (arith, le) in
    let h : member_end_in (n - c) v items cs k ≡ None = rw e refl in
    sym h ∙ so_far

-- ---- members

one : (items : List Item) (cs : List ℕ) (n c k : ℕ) → c < n → members_in (n - c) items cs k ≡ and_then k (member_end items cs k) (λ m. members_in (n - (c + 1)) items cs m)
unfolding members_in
one items cs n c k lt = let e : n - c ≡ suc (n - (c + 1)) = omega (arith, lt) in rw e refl

pub members_over : (items : List Item) (cs : List ℕ) (n c k : ℕ) (list t : List Stretch) → list ++ members_in (n - c) items cs k ≡ t → c < n → None ≡ member_end items cs k → list ≡ t
members_over items cs n c k list t so_far lt none =
    let h : members_in (n - c) items cs k ≡ [] = one items cs n c k lt ∙ rw (sym none) refl in
    sym (append-nil list) ∙ ap (λ (ss : List Stretch). list ++ ss) (sym h) ∙ so_far

pub members_next : (items : List Item) (cs : List ℕ) (n c k m : ℕ) (list more t : List Stretch) → list ++ members_in (n - c) items cs k ≡ t → c < n → Some m ≡ member_end items cs k
    → more ≡ list ++ record { from = k; to = m } ∷ [] → more ++ members_in (n - (c + 1)) items cs m ≡ t
members_next items cs n c k m list more t so_far lt some is_more =
    let h : members_in (n - c) items cs k ≡ record { from = k; to = m } ∷ members_in (n - (c + 1)) items cs m = one items cs n c k lt ∙ rw (sym some) refl in
    rw is_more (append_assoc list (record { from = k; to = m } ∷ []) (members_in (n - (c + 1)) items cs m) ∙ ap (λ (ss : List Stretch). list ++ ss) (sym h) ∙ so_far)

pub members_end : (items : List Item) (cs : List ℕ) (n c k : ℕ) (list t : List Stretch) → list ++ members_in (n - c) items cs k ≡ t → n ≤ c → list ≡ t
unfolding members_in
members_end items cs n c k list t so_far le =
    let e : n - c ≡ 0 = omega (arith, le) in
    let h : members_in (n - c) items cs k ≡ [] = rw e refl in
    sym (append-nil list) ∙ ap (λ (ss : List Stretch). list ++ ss) (sym h) ∙ so_far
