-- A world that is valid for a term is ready for it.
use Rattle.tor_terms.specs.declared.term.Index.{Index}
use Rattle.tor_terms.specs.declared.term.Index.TheVariants.{Zero, At, Next, Len}
use Rattle.tor_terms.specs.Plain.{Tree, Nil, Walk, Top, One, Single, Cat, Join, Sel, Proj, Uniq, Insert, Hold, Lit, Item, Count, Sum, Any, Best, Pick, Add, Or}
use Rattle.tor_terms.specs.Truth.{World}
use Rattle.tor_terms.specs.Valid.{IndexIsCurrent, IsValidFor}
use Rattle.tor_axioms.specs.Keeps.{IndexIsReady, IsReady}

module _ (w : World) where
  index_ready : (index : Index) → IndexIsCurrent w index → IndexIsReady w index
  index_ready Zero h = tt
  index_ready (At j) h = tt
  index_ready (Next j) h = h
  index_ready (Len j) h = tt

  pub valid-ready : (t : Tree) → IsValidFor w t → IsReady w t
  valid-ready Nil h = tt
  valid-ready (Walk j) h = tt
  valid-ready (Top index r) h = (index_ready index h.0, valid-ready r h.1)
  valid-ready (One loops) h = tt
  valid-ready (Single e) h = tt
  valid-ready (Cat r s) h = (valid-ready r h.0, valid-ready s h.1)
  valid-ready (Join r s) h = (valid-ready r h.0, valid-ready s h.1)
  valid-ready (Sel fs r) h = valid-ready r h
  valid-ready (Proj e r) h = valid-ready r h
  valid-ready (Uniq r) h = valid-ready r h
  valid-ready (Insert r e) h = valid-ready r h
  valid-ready (Hold n) h = tt
  valid-ready (Lit x) h = tt
  valid-ready (Item e) h = tt
  valid-ready (Count r) h = valid-ready r h
  valid-ready (Sum r) h = valid-ready r h
  valid-ready (Any r) h = valid-ready r h
  valid-ready (Best way v r) h = (valid-ready v h.0, valid-ready r h.1)
  valid-ready (Pick way v n) h = (valid-ready v h.0, valid-ready n h.1)
  valid-ready (Add a b) h = (valid-ready a h.0, valid-ready b h.1)
  valid-ready (Or a b) h = (valid-ready a h.0, valid-ready b h.1)
