-- What a bank holds after each of some terms was put, which have parts in common.
use Rattle.std.specs.Prelude.{◌≡◌, [], ◌∷◌}
use Rattle.tor_terms.specs.declared.term.Index.TheVariants as indexes
use Rattle.tor_terms.specs.Plain.{Tree, Nil, Walk, Top, Cat}
use Rattle.term_bank.specs.Banks.{with_term}

abbrev rows : Tree
rows = Cat Nil (Walk 0)

abbrev turned : Tree
turned = Cat (Walk 0) Nil

-- a condition's sides: the rows before a turn and the rest, and all of them
abbrev front : Tree
front = Top (indexes.At 0) (Walk 0)

pub record Worked : Type 0 where
  pub first : with_term [] rows ≡ Nil ∷ Walk 0 ∷ rows ∷ []
  pub parts_are_there : with_term (with_term [] rows) turned ≡ Nil ∷ Walk 0 ∷ rows ∷ turned ∷ []
  pub all_is_there : with_term (with_term (with_term [] rows) turned) rows ≡ Nil ∷ Walk 0 ∷ rows ∷ turned ∷ []
  pub sides : with_term (with_term [] (Cat Nil front)) (Cat front front) ≡ Nil ∷ Walk 0 ∷ front ∷ Cat Nil front ∷ Cat front front ∷ []
