-- Variables that are set to null, from the last item to the first.
use Rattle.std.proofs.Common.{◌≡◌, ℕ, zero, suc, ◌+◌, ◌-◌, ◌<◌, ◌≤◌, ◌^◌, ◌||◌, Bool, true, false, nat_le, List, [], ◌∷◌, ◌++◌, Option, Some, None, IfSome, codes, refl, sym, ap, subst, ◌∙◌, append_assoc, arith, rules, ⊎_elim, if◌then◌else◌}
use Rattle.std.proofs.lemmas.List.{append-nil}
use Rattle.std.proofs.lemmas.Bool.{le-leb, lt-leb, ne_eqb}
use Rattle.std.proofs.lemmas.Bool.Decides.{leb_tells}
use Rattle.view_items.specs.declared.item.Item.{Item}
use Rattle.view_shapes.specs.declared.members.Stretch.{Stretch}
use Rattle.view_shapes.specs.Mentions.{numbers}
use Rattle.view_shapes.proofs.Numbers.{numbers_more, numbers_none}
use Rattle.view_items.specs.Brackets.{if_some}
use Rattle.view_shapes.specs.Found.{is_sign}
use Rattle.view_scope.specs.Nulls.{listed, set_at, gives_null_from, gives_null, opens_at, closes_at, is_given_null, past_closing, past_semicolon, holds_given, are_enough, at_least_one, least_from, set_among}

-- the numbers behind so many from one on, up to another
abbrev pub behind : ℕ → ℕ → ℕ → List ℕ
behind from to left = numbers (from + left) (to - (from + left))

behind_more : (from to left : ℕ) → 0 < left → left ≤ to - from → behind from to (left - 1) ≡ (from + (left - 1)) ∷ behind from to left
behind_more from to left lt le =
    let room : from + (left - 1) < to = omega (arith, lt, le) in
    let next : (from + (left - 1)) + 1 ≡ from + left = omega (arith, lt) in
    numbers_more (from + (left - 1)) to room
    ∙ ap (λ (k : ℕ). (from + (left - 1)) ∷ numbers k (to - k)) next

behind_all : (from to left : ℕ) → left ≤ 0 → behind from to left ≡ numbers from (to - from)
behind_all from to left le = let e : from + left ≡ from = omega (arith, le) in ap (λ (k : ℕ). numbers k (to - k)) e

behind_none : (from to : ℕ) → behind from to (to - from) ≡ []
behind_none from to = let le : to ≤ from + (to - from) = omega (arith) in numbers_none (from + (to - from)) to le

-- what is looked for behind an item, and how many brackets have to be open for it: both by what the item is
abbrev by_item : Bool → Bool → Bool → (ℕ → Bool) → ℕ → Bool
by_item opening closing ending test depth =
    if opening then test (depth + 1) else (if closing then past_closing test depth else (if ending then past_semicolon test depth else test depth))

abbrev least_by_item : Bool → Bool → Bool → ℕ → ℕ
least_by_item opening closing ending n = if opening then n - 1 else (if closing then n + 1 else (if ending then at_least_one n else n))

more_than_one : (n : ℕ) → at_least_one (suc n) ≡ suc n
more_than_one n = let e : ¬ (suc n ≡ 0) = omega arith in rw (ne_eqb (suc n) 0 e) refl

-- two comparisons that say the same
same_order : (a b c d : ℕ) → (a ≤ b → c ≤ d) → (b < a → d < c) → nat_le c d ≡ nat_le a b
same_order a b c d to past = ⊎_elim (λ h. le-leb c d (to h.1) ∙ sym h.0) (λ h. lt-leb c d (past h.1) ∙ sym h.0) (leb_tells a b)

enough_by_item : (opening closing ending : Bool) (n : ℕ) (test : ℕ → Bool) → ((d : ℕ) → nat_le n d ≡ test d) → (d : ℕ)
    → nat_le (least_by_item opening closing ending n) d ≡ by_item opening closing ending test d
enough_by_item true _ _ n test h d = same_order n (d + 1) (n - 1) d (λ k. omega (arith, k)) (λ k. omega (arith, k)) ∙ h (d + 1)
enough_by_item false true _ n test h zero = lt-leb (n + 1) 0 (omega arith)
enough_by_item false true _ n test h (suc d) = same_order n d (n + 1) (suc d) (λ k. omega (arith, k)) (λ k. omega (arith, k)) ∙ h d
enough_by_item false false true zero test h zero = refl
enough_by_item false false true zero test h (suc d) = same_order 0 (suc d) 1 (suc d) (λ k. omega arith) (λ k. omega (arith, k)) ∙ h (suc d)
enough_by_item false false true (suc n) test h zero = ap (λ (m : ℕ). nat_le m 0) (more_than_one n) ∙ lt-leb (suc n) 0 (omega arith)
enough_by_item false false true (suc n) test h (suc d) = ap (λ (m : ℕ). nat_le m (suc d)) (more_than_one n) ∙ h (suc d)
enough_by_item false false false n test h d = h d

never_by_item : (opening closing ending : Bool) (test : ℕ → Bool) → ((d : ℕ) → false ≡ test d) → (d : ℕ) → false ≡ by_item opening closing ending test d
never_by_item true _ _ test h d = h (d + 1)
never_by_item false true _ test h zero = refl
never_by_item false true _ test h (suc d) = h d
never_by_item false false true test h zero = refl
never_by_item false false true test h (suc d) = h (suc d)
never_by_item false false false test h d = h d

abbrev least_or_none : Bool → Bool → Bool → Bool → Option ℕ → Option ℕ
least_or_none given opening closing ending least = if given then Some 0 else if_some least (λ n. Some (least_by_item opening closing ending n))

enough_before : (given opening closing ending : Bool) (least : Option ℕ) (test : ℕ → Bool) → ((d : ℕ) → are_enough least d ≡ test d) → (d : ℕ)
    → are_enough (least_or_none given opening closing ending least) d ≡ (given || by_item opening closing ending test d)
enough_before true opening closing ending least test h d = le-leb 0 d (omega arith)
enough_before false opening closing ending None test h d = never_by_item opening closing ending test h d
enough_before false opening closing ending (Some n) test h d = enough_by_item opening closing ending n test h d

-- So many brackets are the least with which a `null` stands at these numbers in the statement. They are no more than the items.
pub record IsLeast (items : List Item) (from to left : ℕ) (least : Option ℕ) : Type 0 where
  pub enough : (depth : ℕ) → are_enough least depth ≡ holds_given items (behind from to left) depth
  pub few : IfSome least (λ n. n + left ≤ to - from)

pub set_first : (items : List Item) (rounds : List ℕ) (from to left : ℕ) (old list new : List Stretch) (null_behind is_behind : Bool) (least : Option ℕ)
    → list ≡ old ++ set_among items rounds (behind from to left) → null_behind ≡ gives_null items (behind from to left) → IsLeast items from to left least
    → 0 < left → left ≤ to - from → is_behind ≡ (null_behind || are_enough least 0)
    → new ≡ list ++ listed (set_at items rounds (from + (left - 1)) is_behind)
    → new ≡ old ++ set_among items rounds (behind from to (left - 1))
unfolding set_among
set_first items rounds from to left old list new null_behind is_behind least so_far null is_least lt le is added =
    added
    ∙ ap (λ (l : List Stretch). l ++ listed (set_at items rounds (from + (left - 1)) is_behind)) so_far
    ∙ append_assoc old (set_among items rounds (behind from to left)) (listed (set_at items rounds (from + (left - 1)) is_behind))
    ∙ ap (λ (b : Bool). old ++ (set_among items rounds (behind from to left) ++ listed (set_at items rounds (from + (left - 1)) b)))
    (is ∙ ap (λ (b : Bool). b || are_enough least 0) null ∙ ap (λ (b : Bool). gives_null items (behind from to left) || b) (is_least.enough 0))
    ∙ ap (λ (ks : List ℕ). old ++ set_among items rounds ks) (sym (behind_more from to left lt le))

pub null_first : (items : List Item) (from to left : ℕ) (null_behind other : Bool) → null_behind ≡ gives_null items (behind from to left) → 0 < left → left ≤ to - from
    → other ≡ gives_null_from items (from + (left - 1)) null_behind → other ≡ gives_null items (behind from to (left - 1))
unfolding gives_null
null_first items from to left null_behind other so_far lt le is =
    is
    ∙ ap (λ (b : Bool). gives_null_from items (from + (left - 1)) b) so_far
    ∙ ap (λ (ks : List ℕ). gives_null items ks) (sym (behind_more from to left lt le))

few_before : (opening closing ending : Bool) (n left room : ℕ) → 0 < left → left ≤ room → n + left ≤ room → least_by_item opening closing ending n + (left - 1) ≤ room
few_before true _ _ n left room lt some le = omega (arith, lt, some, le)
few_before false true _ n left room lt some le = omega (arith, lt, some, le)
few_before false false true zero left room lt some le = omega (arith, lt, some, le)
few_before false false true (suc n) left room lt some le = let e : at_least_one (suc n) ≡ suc n = more_than_one n in rw e (omega (arith, lt, some, le))
few_before false false false n left room lt some le = omega (arith, lt, some, le)

few_or_none : (given opening closing ending : Bool) (least : Option ℕ) (left room : ℕ) → 0 < left → left ≤ room → IfSome least (λ n. n + left ≤ room)
    → IfSome (least_or_none given opening closing ending least) (λ n. n + (left - 1) ≤ room)
few_or_none true _ _ _ least left room lt le few = omega (arith, lt, le)
few_or_none false _ _ _ None left room lt le few = few
few_or_none false opening closing ending (Some n) left room lt le few = few_before opening closing ending n left room lt le few

pub least_first : (items : List Item) (from to left : ℕ) (least next : Option ℕ) → IsLeast items from to left least → 0 < left → left ≤ to - from
    → next ≡ least_from items (from + (left - 1)) least → IsLeast items from to (left - 1) next
least_first items from to left least next so_far lt le is =
    let k : ℕ = from + (left - 1) in
    record {
      enough = λ d.
          ap (λ (l : Option ℕ). are_enough l d) is
          ∙ enough_before (is_given_null items k) (opens_at items k) (closes_at items k) (is_sign (codes ";") items k) least (λ c. holds_given items (behind from to left) c) so_far.enough d
          ∙ ap (λ (ks : List ℕ). holds_given items ks d) (sym (behind_more from to left lt le));
      few =
          subst (λ (l : Option ℕ). IfSome l (λ n. n + (left - 1) ≤ to - from)) (sym is)
          (few_or_none (is_given_null items k) (opens_at items k) (closes_at items k) (is_sign (codes ";") items k) least left (to - from) lt le so_far.few);
    }

pub least_fits : (items : List Item) (from to left : ℕ) (least : Option ℕ) → IsLeast items from to left least → 0 < left → to < 2 ^ 64 → IfSome least (λ n. n + 1 < 2 ^ 64)
least_fits items from to left None so_far lt small = so_far.few
least_fits items from to left (Some n) so_far lt small = let few : n + left ≤ to - from = so_far.few in omega (arith, few, lt, small)

pub least_none : (items : List Item) (from to : ℕ) → IsLeast items from to (to - from) None
least_none items from to = record { enough = λ d. ap (λ (ks : List ℕ). holds_given items ks d) (sym (behind_none from to)); few = search rules }

pub set_none : (items : List Item) (rounds : List ℕ) (from to : ℕ) (old : List Stretch) → old ≡ old ++ set_among items rounds (behind from to (to - from))
unfolding set_among
set_none items rounds from to old = sym (append-nil old) ∙ ap (λ (ks : List ℕ). old ++ set_among items rounds ks) (sym (behind_none from to))

pub null_none : (items : List Item) (from to : ℕ) → false ≡ gives_null items (behind from to (to - from))
unfolding gives_null
null_none items from to = ap (λ (ks : List ℕ). gives_null items ks) (sym (behind_none from to))

pub set_all : (items : List Item) (rounds : List ℕ) (from to left : ℕ) (old list : List Stretch)
    → list ≡ old ++ set_among items rounds (behind from to left) → left ≤ 0 → list ≡ old ++ set_among items rounds (numbers from (to - from))
set_all items rounds from to left old list so_far le = so_far ∙ ap (λ (ks : List ℕ). old ++ set_among items rounds ks) (behind_all from to left le)
