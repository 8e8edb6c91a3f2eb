-- Files with their items and their brackets, found by hand.
use Rattle.std.specs.Prelude.{◌≡◌, ℕ, true, false, List, [], ◌∷◌, map, codes}
use Rattle.std.specs.declared.option.Option.TheVariants.{Some, None}
use Rattle.view_items.specs.declared.item.ItemKind.{ItemKind}
use Rattle.view_items.specs.declared.item.ItemKind.TheVariants as kinds
use Rattle.view_items.specs.Items.{items_of}
use Rattle.view_items.specs.Plain.{has_escape}
use Rattle.view_items.specs.Brackets.{closings_of, rounds_of}

abbrev pub Shown : Type 0
Shown = ItemKind × List ℕ

abbrev pub name : List ℕ → Shown
name bytes = (kinds.Name, bytes)

abbrev pub number : List ℕ → Shown
number bytes = (kinds.Number, bytes)

abbrev pub sign : List ℕ → Shown
sign bytes = (kinds.Sign, bytes)

abbrev pub text : List ℕ → Shown
text bytes = (kinds.Text, bytes)

abbrev pub block : List ℕ → Shown
block bytes = (kinds.Block, bytes)

abbrev pub shown : List ℕ → List Shown
shown source = map (λ i. (i.kind, i.bytes)) (items_of source)

-- a backslash before a quote takes it along, and two take nothing
pub record WorkedBlocks : Type 0 where
  pub two_backslashes : shown (codes "s = \"\"\"q\\\\\"\"\"; n") ≡ name (codes "s") ∷ sign (codes "=") ∷ block (codes "\"\"\"q\\\\\"\"\"") ∷ sign (codes ";") ∷ name (codes "n") ∷ []
  pub one_backslash : shown (codes "\"\"\"q\\\"\"\" n\"\"\"") ≡ block (codes "\"\"\"q\\\"\"\" n\"\"\"") ∷ []
  pub open_block : shown (codes "\"\"\"a\nb") ≡ text (codes "\"\"") ∷ sign (codes "\"") ∷ name (codes "a") ∷ name (codes "b") ∷ []

pub record WorkedSigns : Type 0 where
  pub arguments : shown (codes "L<S<A>> x") ≡ name (codes "L") ∷ sign (codes "<") ∷ name (codes "S") ∷ sign (codes "<") ∷ name (codes "A") ∷ sign (codes ">") ∷ sign (codes ">") ∷ name (codes "x") ∷ []
  pub shifts : shown (codes "a>>>=b>>=c<<=d>>e") ≡ name (codes "a") ∷ sign (codes ">>>=") ∷ name (codes "b") ∷ sign (codes ">>=") ∷ name (codes "c") ∷ sign (codes "<<=") ∷ name (codes "d") ∷ sign (codes ">") ∷ sign (codes ">") ∷ name (codes "e") ∷ []
  pub hexadecimal : shown (codes "0x1E+n") ≡ number (codes "0x1E") ∷ sign (codes "+") ∷ name (codes "n") ∷ []
  pub decimal : shown (codes "1E+5+n") ≡ number (codes "1E+5") ∷ sign (codes "+") ∷ name (codes "n") ∷ []
  pub binary_exponent : shown (codes "0x1p-3") ≡ number (codes "0x1p-3") ∷ []

-- what isn't closed on its line, or not at all, is a sign
pub record WorkedOpen : Type 0 where
  pub quote : shown (codes "a \"b\n\"c\"") ≡ name (codes "a") ∷ sign (codes "\"") ∷ name (codes "b") ∷ text (codes "\"c\"") ∷ []
  pub escaped_quote : shown (codes "\"a\\\"b\" c") ≡ text (codes "\"a\\\"b\"") ∷ name (codes "c") ∷ []
  pub comment : shown (codes "a /* b") ≡ name (codes "a") ∷ sign (codes "/") ∷ sign (codes "*") ∷ name (codes "b") ∷ []
  pub comments : shown (codes "a /* \" */ b // \"c") ≡ name (codes "a") ∷ name (codes "b") ∷ []

-- an escape counts in a comment too
pub record WorkedEscapes : Type 0 where
  pub in_comment : has_escape false (codes "// \\u000a") ≡ true
  pub after_two : has_escape false (codes "\"\\\\u000a\"") ≡ false
  pub after_three : has_escape false (codes "\"\\\\\\u000a\"") ≡ true
  pub expression : has_escape false (codes "\"\\{x}\"") ≡ true

pub record WorkedBrackets : Type 0 where
  pub matched : closings_of (items_of (codes "{ ( ) [ ] x }")) ≡ Some (6 ∷ 2 ∷ 2 ∷ 4 ∷ 4 ∷ 5 ∷ 6 ∷ [])
  pub crossed : closings_of (items_of (codes "( [ ) ]")) ≡ None
  pub unclosed : closings_of (items_of (codes "( x")) ≡ None
  pub rounds : rounds_of (items_of (codes "{ ( ) [ y ] x }")) ≡ 0 ∷ 0 ∷ 1 ∷ 0 ∷ 3 ∷ 3 ∷ 0 ∷ 0 ∷ []

pub record Worked : Type 0 where
  pub blocks : WorkedBlocks
  pub signs : WorkedSigns
  pub opened : WorkedOpen
  pub escapes : WorkedEscapes
  pub brackets : WorkedBrackets
