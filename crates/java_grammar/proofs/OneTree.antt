-- What is read exactly has one tree at most for the same tokens.
use Rattle.std.proofs.Common.{◌≡◌, List, [], Result, Ok, sym, ◌∙◌}
use Rattle.java_lex.specs.declared.token.Token.{Token}
use Rattle.readers.specs.declared.fault.Fault.{Fault}
use Rattle.java_grammar.specs.Marks.{Tok, all_strict}
use Rattle.java_grammar.specs.Rules.{Rule}
use Rattle.java_grammar.specs.Reading.{Reader}
use Rattle.java_grammar.proofs.Laws.{Reads}
use Rattle.java_grammar.proofs.Whole.{whole_only}

abbrev done : {A : Type 0} → A → Result A Fault
done x = Ok x

pub one_tree : {A : Type 0} (G : Rule A) (F : List Tok → Type 0) (r : Reader A) → Reads G F r → F [] → (ts : List Token) (x y : A) → G (all_strict ts) x → G (all_strict ts) y → x ≡ y
one_tree G F r law at_end ts x y h k = let q : done x ≡ done y = sym (whole_only G F r law at_end ts x h) ∙ whole_only G F r law at_end ts y k in cc
