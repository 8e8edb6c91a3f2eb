-- FROM items in sight, by their numbers.
use Rattle.std.proofs.Common.{◌≡◌, ℕ, zero, suc, ◌-◌, ◌<◌, ◌≤◌, List, [], ◌∷◌, length, get_or, Some, None, refl, sym, ap, ◌∙◌, arith}
use Rattle.std.specs.Borrow.{Bor}
use Rattle.std.specs.Prelude.{slice_get}
use Rattle.sql_ast.specs.declared.tree.FromItem.{FromItem}
use Rattle.sql_ast.specs.Meaning.{nth}
use Rattle.sql_parse.specs.Types.{froms_of}

past : (froms : List (Bor FromItem)) (n : ℕ) → length froms ≤ n → slice_get (froms_of froms) n ≡ None
past [] n h = refl
past (f ∷ froms) zero h = absurd (omega (arith, h))
past (f ∷ froms) (suc n) h = past froms n (omega (arith, h))

here : (froms : List (Bor FromItem)) (n : ℕ) (f : Bor FromItem) → n < length froms → f ≡ get_or froms n f → slice_get (froms_of froms) n ≡ Some f.now
here [] n f h e = absurd (omega (arith, h))
here (g ∷ froms) zero f h e = ap (λ (x : Bor FromItem). Some x.now) (sym e)
here (g ∷ froms) (suc n) f h e = here froms n f (omega (arith, h)) e

pub item_past : (froms : List (Bor FromItem)) (n : ℕ) → length froms < n → nth (froms_of froms) n ≡ None
item_past froms zero h = refl
item_past froms (suc n) h = past froms n (omega (arith, h))

pub item_here : (froms : List (Bor FromItem)) (n : ℕ) (f : Bor FromItem) → 0 < n → n ≤ length froms → f ≡ get_or froms (n - 1) f → nth (froms_of froms) n ≡ Some f.now
item_here froms zero f some h e = absurd (omega (arith, some))
item_here froms (suc n) f some h e =
    let place : suc n - 1 ≡ n = omega arith in
    here froms n f (omega (arith, h)) (e ∙ ap (λ (m : ℕ). get_or froms m f) place)
