-- A row through a level of a flag's own run.
use Rattle.std.proofs.Common.{◌≡◌, ℕ, Bool, true, false, ◌&&◌, ◌||◌, List, [], ◌∷◌, Option, refl, sym, ap, ◌∙◌}
use Rattle.std.specs.List.{list_any}
use Rattle.qbs_base.specs.declared.scalar.Row.{Row}
use Rattle.tor_terms.specs.declared.term.Atom.{Atom}
use Rattle.tor_terms.specs.Plain.{Form}
use Rattle.tor_terms.specs.Truth.{World}
use Rattle.kernel_lang.specs.Running.{Layer, layer, with_row, passes}
use Rattle.kernel_interp.specs.Marking.{any_mark}

abbrev pub through : World → List Atom → ℕ → Option Form → List Layer → (ℕ → Row) → Row → Bool
through w tests over guard inner rows r = passes w tests (with_row rows over r) guard && any_mark w tests inner (with_row rows over r)

and_true : (a b : Bool) → a ≡ true → b ≡ true → (a && b) ≡ true
and_true true b e f = f
and_true false b e f = absurd cc

and_left : (a b : Bool) → a ≡ false → (a && b) ≡ false
and_left true b e = absurd cc
and_left false b e = refl

and_right : (a b : Bool) → b ≡ false → (a && b) ≡ false
and_right true b e = e
and_right false b e = refl

or_true : (a b : Bool) → a ≡ true → (a || b) ≡ true
or_true true b e = refl
or_true false b e = absurd cc

or_false : (a b : Bool) → a ≡ false → (a || b) ≡ b
or_false true b e = absurd cc
or_false false b e = refl

module _ (w : World) (tests : List Atom) (over : ℕ) (guard : Option Form) (inner : List Layer) (rows : ℕ → Row) (r : Row) where
  pub through_both : passes w tests (with_row rows over r) guard ≡ true → any_mark w tests inner (with_row rows over r) ≡ true → through w tests over guard inner rows r ≡ true
  through_both p m = and_true (passes w tests (with_row rows over r) guard) (any_mark w tests inner (with_row rows over r)) p m

  pub stopped_here : passes w tests (with_row rows over r) guard ≡ false → through w tests over guard inner rows r ≡ false
  stopped_here p = and_left (passes w tests (with_row rows over r) guard) (any_mark w tests inner (with_row rows over r)) p

  pub stopped_inside : any_mark w tests inner (with_row rows over r) ≡ false → through w tests over guard inner rows r ≡ false
  stopped_inside m = and_right (passes w tests (with_row rows over r) guard) (any_mark w tests inner (with_row rows over r)) m

pub found_one : (p : Row → Bool) (r : Row) (rest left all : List Row) → left ≡ r ∷ rest → p r ≡ true → list_any p left ≡ list_any p all → list_any p all ≡ true
found_one p r rest left all e h k = sym k ∙ ap (list_any p) e ∙ or_true (p r) (list_any p rest) h

pub not_this : (p : Row → Bool) (r : Row) (rest left all : List Row) → left ≡ r ∷ rest → p r ≡ false → list_any p left ≡ list_any p all → list_any p rest ≡ list_any p all
not_this p r rest left all e h k = sym (or_false (p r) (list_any p rest) h) ∙ ap (list_any p) (sym e) ∙ k

pub found_none : (p : Row → Bool) (left all : List Row) → left ≡ [] → list_any p left ≡ list_any p all → list_any p all ≡ false
found_none p left all e k = sym k ∙ ap (list_any p) e

-- what goes for the rows of the first layer goes for all
pub marks_by : (w : World) (tests : List Atom) (ys : List Layer) (over : ℕ) (guard : Option Form) (inner : List Layer) (rows : ℕ → Row) (lent : List Row) (b : Bool) → ys ≡ layer over guard ∷ inner → lent ≡ w.lists over
    → list_any (through w tests over guard inner rows) lent ≡ b → b ≡ any_mark w tests ys rows
marks_by w tests ys over guard inner rows lent b e l h =
    sym h ∙ ap (list_any (through w tests over guard inner rows)) l ∙ ap (λ (zs : List Layer). any_mark w tests zs rows) (sym e)

pub marks_now : (w : World) (tests : List Atom) (ys : List Layer) (rows : ℕ → Row) → ys ≡ [] → true ≡ any_mark w tests ys rows
marks_now w tests ys rows e = ap (λ (zs : List Layer). any_mark w tests zs rows) (sym e)
