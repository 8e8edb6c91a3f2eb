-- Formulas with one more behind them.
use Rattle.std.specs.Prelude.{◌≡◌, List, [], ◌∷◌, ◌++◌}
use Rattle.std.proofs.lemmas.List.{map-append}
use Rattle.tor_terms.specs.declared.term.Formula.{Formula}
use Rattle.tor_terms.specs.Plain.{form_of, forms_of}

pub forms_pushed : (fs : List Formula) (f : Formula) → forms_of (fs ++ f ∷ []) ≡ forms_of fs ++ form_of f ∷ []
forms_pushed fs f = map-append form_of fs (f ∷ [])
