-- The terms that a bank holds, in their order.
use Rattle.std.specs.Prelude.{List, map}
use Rattle.tor_terms.specs.Plain.{Tree, tree_of}
use Rattle.term_bank.specs.declared.bank.TermBank.{TermBank}

abbrev pub terms_in : TermBank → List Tree
terms_in b = map tree_of b.terms.items
