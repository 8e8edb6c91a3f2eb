-- The truth of a formula depends on the rows of the loops that it reads alone.
use Rattle.std.proofs.Common.{◌≡◌, ℕ, Bool, true, false, cond, ◌&&◌, ◌||◌, List, [], ◌∷◌, ◌++◌, map, slice_get, nat_eq, refl, sym, ap, ap₂, ◌∙◌, eqb-true}
use Rattle.std.specs.declared.option.Option.{Option}
use Rattle.std.specs.declared.option.Option.TheVariants.{Some, None}
use Rattle.qbs_base.specs.declared.scalar.Row.{Row}
use Rattle.qbs_base.specs.Scalar.{compared, scalar_same}
use Rattle.tor_terms.specs.declared.term.Atom.{Atom}
use Rattle.tor_terms.specs.declared.term.Atom.TheVariants.{Less, Same, Truth, Member, Flag}
use Rattle.tor_terms.specs.declared.term.Operand.{Operand}
use Rattle.tor_terms.specs.declared.term.Operand.TheVariants.{Field, Entry, Lit}
use Rattle.tor_terms.specs.Plain.{Form, Is, Both, Either}
use Rattle.tor_terms.specs.Truth.{World, operand_at, same_operand, less, is_true, is_member, known_atom_holds, same_bool, holds, has_loop, has_loops, operand_within, known_within, form_within}
use Rattle.tor_axioms.proofs.Decided.{and_left, and_right}
use Rattle.kernel_lang.specs.Running.{Layer, with_row, passes}
use Rattle.kernel_lang.specs.Validity.{guard_all}

-- a loop that isn't among these
abbrev pub IsNew : ℕ → List ℕ → Type 0
IsNew l [] = Unit {0}
IsNew l (k ∷ ks) = (nat_eq l k ≡ false) × IsNew l ks

pub new_other : (l j : ℕ) (ls : List ℕ) → IsNew l ls → has_loop ls j ≡ true → nat_eq l j ≡ false
new_other l j [] n h = absurd cc
new_other l j (k ∷ ks) n h = go (nat_eq k j) refl h (new_other l j ks n.1)
  where
    go : (x : Bool) → nat_eq k j ≡ x → (x || has_loop ks j) ≡ true → (has_loop ks j ≡ true → nat_eq l j ≡ false) → nat_eq l j ≡ false
    go true e h ih = ap (nat_eq l) (sym (eqb-true k j e)) ∙ n.0
    go false e h ih = ih h

pub new_left : (l : ℕ) (ks ms : List ℕ) → IsNew l (ks ++ ms) → IsNew l ks
new_left l [] ms h = tt
new_left l (k ∷ ks) ms h = (h.0, new_left l ks ms h.1)

module _ (w : World) (atoms : List Atom) (p q : ℕ → Row) (ls : List ℕ) (same : (j : ℕ) → has_loop ls j ≡ true → p j ≡ q j) where
  operand_scope : (o : Operand) → operand_within ls o ≡ true → operand_at w p o ≡ operand_at w q o
  operand_scope (Field j c) h = ap (λ r. slice_get r.cells c) (same j h)
  operand_scope (Entry k) h = refl
  operand_scope (Lit x) h = refl

  rows_scope : (own : List ℕ) → has_loops ls own ≡ true → map p own ≡ map q own
  rows_scope [] h = refl
  rows_scope (j ∷ js) h = ap₂ (λ r rs. r ∷ rs) (same j (and_left (has_loop ls j) (has_loops ls js) h)) (rows_scope js (and_right (has_loop ls j) (has_loops ls js) h))

  atom_scope : (o : Option Atom) → known_within ls o ≡ true → known_atom_holds w p o ≡ known_atom_holds w q o
  atom_scope None h = refl
  atom_scope (Some (Less a b)) h =
      ap₂ (compared less) (operand_scope a (and_left (operand_within ls a) (operand_within ls b) h)) (operand_scope b (and_right (operand_within ls a) (operand_within ls b) h))
  atom_scope (Some (Same a b)) h =
      ap₂ (λ x y. same_operand a b || compared scalar_same x y) (operand_scope a (and_left (operand_within ls a) (operand_within ls b) h)) (operand_scope b (and_right (operand_within ls a) (operand_within ls b) h))
  atom_scope (Some (Truth a)) h = ap is_true (operand_scope a h)
  atom_scope (Some (Member a k)) h = ap (λ x. is_member x (w.known k)) (operand_scope a h)
  atom_scope (Some (Flag k loops)) h = ap (w.flags k) (rows_scope loops h)

  form_scope : (f : Form) → form_within atoms ls f ≡ true → holds w atoms p f ≡ holds w atoms q f
  form_scope (Is k s) h = ap (λ x. same_bool x s) (atom_scope (slice_get atoms k) h)
  form_scope (Both f g) h =
      ap₂ (λ x y. x && y) (form_scope f (and_left (form_within atoms ls f) (form_within atoms ls g) h)) (form_scope g (and_right (form_within atoms ls f) (form_within atoms ls g) h))
  form_scope (Either f g) h =
      ap₂ (λ x y. x || y) (form_scope f (and_left (form_within atoms ls f) (form_within atoms ls g) h)) (form_scope g (and_right (form_within atoms ls f) (form_within atoms ls g) h))

  pub guard_scope : (g : Option Form) → guard_all (form_within atoms ls) g ≡ true → passes w atoms p g ≡ passes w atoms q g
  guard_scope None h = refl
  guard_scope (Some f) h = form_scope f h

-- another row of a loop that isn't read
pub row_scope : (w : World) (atoms : List Atom) (rows : ℕ → Row) (l : ℕ) (r : Row) (ls : List ℕ) → IsNew l ls → (g : Option Form) → guard_all (form_within atoms ls) g ≡ true
    → passes w atoms (with_row rows l r) g ≡ passes w atoms rows g
row_scope w atoms rows l r ls new g h = guard_scope w atoms (with_row rows l r) rows ls (λ j k. ap (λ x. cond x r (rows j)) (new_other l j ls new k)) g h

-- the loops differ from each other and from those outside, and no guard reads a loop inside its own
abbrev pub Chain : List Atom → List ℕ → List Layer → Type 0
Chain atoms outer [] = Unit {0}
Chain atoms outer (y ∷ ys) = IsNew y.over outer × (guard_all (form_within atoms (outer ++ y.over ∷ [])) y.guard ≡ true) × Chain atoms (outer ++ y.over ∷ []) ys

module _ (b : World) (atoms : List Atom) where
  -- another row of one of these layers leaves a guard as it is
  abbrev pub Unread : Option Form → List Layer → Type 0
  Unread g [] = Unit {0}
  Unread g (y ∷ ys) = ((rows : ℕ → Row) (r : Row) → passes b atoms (with_row rows y.over r) g ≡ passes b atoms rows g) × Unread g ys

  pub unread_right : (g : Option Form) (xs ys : List Layer) → Unread g (xs ++ ys) → Unread g ys
  unread_right g [] ys h = h
  unread_right g (x ∷ xs) ys h = unread_right g xs ys h.1
