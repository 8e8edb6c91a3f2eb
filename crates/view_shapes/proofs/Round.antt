-- One step more round a name: parentheses beside which it may be set, and names with dots before it.
use Rattle.std.proofs.Common.{◌≡◌, ℕ, suc, ◌+◌, ◌-◌, ◌<◌, ◌≤◌, Bool, true, false, ◌||◌, ◌&&◌, List, refl, sym, ◌∙◌, arith, if◌then◌else◌}
use Rattle.view_items.specs.declared.item.Item.{Item}
use Rattle.view_shapes.specs.Mentions.{is_beside, is_wrapped, is_set_within}
use Rattle.view_shapes.specs.Uses.{is_dotted, first_of_names}

step : (items : List Item) (n c first last : ℕ) → c < n
    → is_set_within (n - c) items first last ≡ (is_beside items first last || (is_wrapped items first last && is_set_within (n - (c + 1)) items (first - 1) (last + 1)))
unfolding is_set_within
step items n c first last lt = let e : n - c ≡ suc (n - (c + 1)) = omega (arith, lt) in rw e refl

pub set_beside : (items : List Item) (n c first last : ℕ) (t : Bool) → is_set_within (n - c) items first last ≡ t → c < n → true ≡ is_beside items first last → true ≡ t
set_beside items n c first last t so_far lt beside =
    let h : is_set_within (n - c) items first last ≡ true = step items n c first last lt ∙ rw (sym beside) refl in
    sym h ∙ so_far

pub set_not : (items : List Item) (n c first last : ℕ) (t : Bool) → is_set_within (n - c) items first last ≡ t → c < n → false ≡ is_beside items first last
    → false ≡ is_wrapped items first last → false ≡ t
set_not items n c first last t so_far lt other none =
    let h : is_set_within (n - c) items first last ≡ false = step items n c first last lt ∙ rw (sym other, sym none) refl in
    sym h ∙ so_far

pub set_next : (items : List Item) (n c first last : ℕ) (t : Bool) → is_set_within (n - c) items first last ≡ t → c < n → false ≡ is_beside items first last
    → true ≡ is_wrapped items first last → is_set_within (n - (c + 1)) items (first - 1) (last + 1) ≡ t
set_next items n c first last t so_far lt other wrapped =
    let h : is_set_within (n - c) items first last ≡ is_set_within (n - (c + 1)) items (first - 1) (last + 1) = step items n c first last lt ∙ rw (sym other, sym wrapped) refl in
    sym h ∙ so_far

pub set_end : (items : List Item) (n c first last : ℕ) (t : Bool) → is_set_within (n - c) items first last ≡ t → n ≤ c → false ≡ t
unfolding is_set_within
set_end items n c first last t so_far le =
    let e : n - c ≡ 0 = omega (arith, le) in
    let h : is_set_within (n - c) items first last ≡ false = rw e refl in
    sym h ∙ so_far

named : (items : List Item) (n c k : ℕ) → c < n → first_of_names (n - c) items k ≡ (if is_dotted items k then first_of_names (n - (c + 1)) items (k - 2) else k)
unfolding first_of_names
named items n c k lt = let e : n - c ≡ suc (n - (c + 1)) = omega (arith, lt) in rw e refl

pub names_over : (items : List Item) (n c k t : ℕ) → first_of_names (n - c) items k ≡ t → c < n → false ≡ is_dotted items k → k ≡ t
names_over items n c k t so_far lt other =
    let h : first_of_names (n - c) items k ≡ k = named items n c k lt ∙ rw (sym other) refl in
    sym h ∙ so_far

pub names_next : (items : List Item) (n c k t : ℕ) → first_of_names (n - c) items k ≡ t → c < n → true ≡ is_dotted items k → first_of_names (n - (c + 1)) items (k - 2) ≡ t
names_next items n c k t so_far lt dotted =
    let h : first_of_names (n - c) items k ≡ first_of_names (n - (c + 1)) items (k - 2) = named items n c k lt ∙ rw (sym dotted) refl in
    sym h ∙ so_far

pub names_end : (items : List Item) (n c k t : ℕ) → first_of_names (n - c) items k ≡ t → n ≤ c → k ≡ t
unfolding first_of_names
names_end items n c k t so_far le =
    let e : n - c ≡ 0 = omega (arith, le) in
    let h : first_of_names (n - c) items k ≡ k = rw e refl in
    sym h ∙ so_far
