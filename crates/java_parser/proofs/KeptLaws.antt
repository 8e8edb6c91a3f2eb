-- What is answered where reading was exact.
use Rattle.std.proofs.Common.{◌≡◌, List, [], Result, Ok, Err, refl, sym, ◌∙◌}
use Rattle.qbs_base.specs.Memory.{IsNoMemory}
use Rattle.java_lex.specs.declared.token.Token.{Token}
use Rattle.java_lex.specs.declared.token.Tokens.{Tokens}
use Rattle.readers.specs.declared.fault.Fault.{Fault}
use Rattle.readers.specs.declared.fault.Fault.TheVariants.{Unexpected, TooDeep}
use Rattle.readers.specs.declared.fault.ReadError.{ReadError}
use Rattle.readers.specs.declared.fault.ReadError.TheVariants as errors
use Rattle.readers.specs.Reading.{Fails, whole}
use Rattle.java_grammar.specs.Marks.{Tok, all_strict}
use Rattle.java_grammar.specs.Rules.{Rule}
use Rattle.java_grammar.specs.Reading.{Reader}
use Rattle.java_parser.specs.Kept.{kept, IsKept}
use Rattle.java_grammar.proofs.Laws.{Reads}
use Rattle.java_grammar.proofs.Whole.{whole_only, first_unexpected, first_too_deep}

abbrev done : {A : Type 0} → A → Result A Fault
done x = Ok x

abbrev failed : {A : Type 0} → Fault → Result A Fault
failed e = Err e

module _ {A : Type 0} (G : Rule A) (F : List Tok → Type 0) (r : Reader A) (law : Reads G F r) (at_end : F []) where
  pub is_only : (ts : List Token) (x y : A) → whole r (all_strict ts) ≡ Ok x → G (all_strict ts) y → x ≡ y
  is_only ts x y e has = let q : done x ≡ done y = sym e ∙ whole_only G F r law at_end ts y has in cc

  pub is_refused : (tokens : Tokens) (error : ReadError) (y : A) → Fails error (whole r (all_strict tokens.list)) → G (all_strict tokens.list) y → IsNoMemory (kept tokens error)
  is_refused tokens errors.Memory y e has = tt
  is_refused tokens (errors.Fault f) y e has = absurd (let q : failed {A = A} f ≡ Ok y = sym e ∙ whole_only G F r law at_end tokens.list y has in cc)

  pub is_kept : (tokens : Tokens) (error : ReadError) → Fails error (whole r (all_strict tokens.list)) → IsKept G tokens (kept tokens error)
  is_kept tokens errors.Memory e = tt
  is_kept tokens (errors.Fault (Unexpected n)) e = (refl, first_unexpected G F r law at_end tokens.list n e)
  is_kept tokens (errors.Fault (TooDeep n)) e = (refl, first_too_deep G F r law at_end tokens.list n e)
