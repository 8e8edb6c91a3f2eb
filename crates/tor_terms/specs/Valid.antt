-- Worlds that are valid for a term: the loops of which it takes turns or current rows are current.
use Rattle.std.specs.Prelude.{◌≡◌, ℕ, ◌<◌, length, slice_get}
use Rattle.std.specs.List.{AllByRecursion}
use Rattle.std.specs.declared.option.Option.TheVariants.{Some}
use Rattle.tor_terms.specs.declared.term.Elem.{Elem}
use Rattle.tor_terms.specs.declared.term.Elem.TheVariants as elems
use Rattle.tor_terms.specs.declared.term.Index.{Index}
use Rattle.tor_terms.specs.declared.term.Index.TheVariants as indexes
use Rattle.tor_terms.specs.Plain.{Tree, Nil, Walk, Top, One, Single, Cat, Join, Sel, Proj, Uniq, Insert, Hold, Lit, Item, Count, Sum, Any, Best, Pick, Add, Or}
use Rattle.tor_terms.specs.Truth.{World}

-- the turns done are fewer than the rows of the loop's list, and the current row is the next one
pub record IsCurrent (w : World) (j : ℕ) : Type 0 where
  pub below : w.turns j < length (w.lists j)
  pub row : slice_get (w.lists j) (w.turns j) ≡ Some (w.current j)

abbrev pub elem_loop : Elem → ℕ
elem_loop (elems.Whole j) = j
elem_loop (elems.Field j c) = j

abbrev pub IndexIsCurrent : World → Index → Type 0
IndexIsCurrent w (indexes.At j) = IsCurrent w j
IndexIsCurrent w (indexes.Next j) = IsCurrent w j
IndexIsCurrent w _ = Unit {0}

-- each loop in `At`, `Next`, `One`, `Single` or `Item` of the term is current
abbrev pub IsValidFor : World → Tree → Type 0
IsValidFor w Nil = Unit {0}
IsValidFor w (Walk j) = Unit {0}
IsValidFor w (Top index r) = IndexIsCurrent w index × IsValidFor w r
IsValidFor w (One loops) = AllByRecursion (IsCurrent w) loops
IsValidFor w (Single e) = IsCurrent w (elem_loop e)
IsValidFor w (Cat r s) = IsValidFor w r × IsValidFor w s
IsValidFor w (Join r s) = IsValidFor w r × IsValidFor w s
IsValidFor w (Sel fs r) = IsValidFor w r
IsValidFor w (Proj e r) = IsValidFor w r
IsValidFor w (Uniq r) = IsValidFor w r
IsValidFor w (Insert r e) = IsValidFor w r
IsValidFor w (Hold n) = Unit {0}
IsValidFor w (Lit x) = Unit {0}
IsValidFor w (Item e) = IsCurrent w (elem_loop e)
IsValidFor w (Count r) = IsValidFor w r
IsValidFor w (Sum r) = IsValidFor w r
IsValidFor w (Any r) = IsValidFor w r
IsValidFor w (Best way v r) = IsValidFor w v × IsValidFor w r
IsValidFor w (Pick way v n) = IsValidFor w v × IsValidFor w n
IsValidFor w (Add a b) = IsValidFor w a × IsValidFor w b
IsValidFor w (Or a b) = IsValidFor w a × IsValidFor w b
