-- What a rule keeps: the value, in each world that is ready for the term and has the facts.
use Rattle.std.specs.Prelude.{◌≡◌, List}
use Rattle.std.specs.declared.option.Option.{Option}
use Rattle.std.specs.declared.option.Option.TheVariants.{Some, None}
use Rattle.tor_terms.specs.declared.term.Atom.{Atom}
use Rattle.tor_terms.specs.declared.term.Index.{Index}
use Rattle.tor_terms.specs.declared.term.Index.TheVariants as indexes
use Rattle.tor_terms.specs.Plain.{Tree, Nil, Walk, Top, One, Single, Cat, Join, Sel, Proj, Uniq, Insert, Hold, Lit, Item, Count, Sum, Any, Best, Pick, Add, Or}
use Rattle.tor_terms.specs.Truth.{World}
use Rattle.tor_terms.specs.Valid.{IsCurrent}
use Rattle.tor_terms.specs.Value.{value}
use Rattle.tor_axioms.specs.declared.facts.Literal.{Literal}
use Rattle.tor_axioms.specs.Decide.{Satisfied}

abbrev pub IndexIsReady : World → Index → Type 0
IndexIsReady w (indexes.Next j) = IsCurrent w j
IndexIsReady w _ = Unit {0}

-- Each loop in a `Next` of the term is current. A world that is valid for a term is ready for it, and
-- stays so for all that rules make of it.
abbrev pub IsReady : World → Tree → Type 0
IsReady w Nil = Unit {0}
IsReady w (Walk j) = Unit {0}
IsReady w (Top index r) = IndexIsReady w index × IsReady w r
IsReady w (One loops) = Unit {0}
IsReady w (Single e) = Unit {0}
IsReady w (Cat r s) = IsReady w r × IsReady w s
IsReady w (Join r s) = IsReady w r × IsReady w s
IsReady w (Sel fs r) = IsReady w r
IsReady w (Proj e r) = IsReady w r
IsReady w (Uniq r) = IsReady w r
IsReady w (Insert r e) = IsReady w r
IsReady w (Hold n) = Unit {0}
IsReady w (Lit x) = Unit {0}
IsReady w (Item e) = Unit {0}
IsReady w (Count r) = IsReady w r
IsReady w (Sum r) = IsReady w r
IsReady w (Any r) = IsReady w r
IsReady w (Best way v r) = IsReady w v × IsReady w r
IsReady w (Pick way v n) = IsReady w v × IsReady w n
IsReady w (Add a b) = IsReady w a × IsReady w b
IsReady w (Or a b) = IsReady w a × IsReady w b

-- what a step keeps, in a world that is ready for the term
pub record Kept (w : World) (atoms : List Atom) (t u : Tree) : Type 0 where
  pub same : value w atoms u ≡ value w atoms t
  pub ready : IsReady w u

abbrev pub Keeps : World → List Atom → Tree → Option Tree → Type 0
Keeps w atoms t None = Unit {0}
Keeps w atoms t (Some u) = IsReady w t → Kept w atoms t u

-- a step that keeps the value in each world that is ready for the term and has the facts
abbrev pub KeepsValue : List Atom → List Literal → Tree → Tree → Type 0
KeepsValue atoms facts t u = (w : World) → Satisfied w atoms facts → IsReady w t → Kept w atoms t u
