-- Reading with the limits left aside.
use Rattle.std.proofs.Common.{◌≡◌, ℕ, List, Ok, sym, ◌∙◌, inl, inr}
use Rattle.java_lex.specs.declared.token.Token.{Token}
use Rattle.readers.specs.declared.fault.Fault.TheVariants.{Unexpected}
use Rattle.readers.specs.Reading.{whole}
use Rattle.readers.proofs.Tools.{ok_is, failed}
use Rattle.java_ast.specs.Tree.{PlainProgram}
use Rattle.java_grammar.specs.Marks.{all_strict}
use Rattle.java_limits.specs.Limits.{deepest}
use Rattle.java_grammar.specs.Grammar.{ProgramIn, IsProgram}
use Rattle.java_grammar.specs.ReadingPrograms.{program_in}
use Rattle.java_grammar.proofs.Again.{Any}
use Rattle.java_grammar.proofs.ProgramLaws.{programs_read}
use Rattle.java_grammar.proofs.Whole.{free_read, found_free}
use Rattle.java_grammar.proofs.FreeLaws.{free_program}

-- what is read, however many things may be open, has the tokens
pub grammar_found : (room : ℕ) (ts : List Token) (p : PlainProgram) → whole (program_in room) (all_strict ts) ≡ Ok p → IsProgram ts p
grammar_found room ts p e = free_program room deepest ts p (found_free (ProgramIn room) Any (program_in room) (programs_read room) tt ts p e)

-- nothing else has them
pub grammar_only : (room : ℕ) (ts : List Token) (p x : PlainProgram) → whole (program_in room) (all_strict ts) ≡ Ok p → IsProgram ts x → p ≡ x
grammar_only room ts p x e h =
    elim (free_read (ProgramIn room) Any (program_in room) (programs_read room) tt ts x (free_program deepest room ts x h)) [
      | inl k ↦ ok_is p x (sym e ∙ k)
      | inr k ↦ absurd (let q = sym e ∙ k.1 in cc)
    ]

-- where a token stands with which no program goes on, nothing has them
pub grammar_none : (room n : ℕ) (ts : List Token) (x : PlainProgram) → whole (program_in room) (all_strict ts) ≡ failed (Unexpected n) → IsProgram ts x → ⊥
grammar_none room n ts x e h =
    elim (free_read (ProgramIn room) Any (program_in room) (programs_read room) tt ts x (free_program deepest room ts x h)) [
      | inl k ↦ let q = sym e ∙ k in cc
      | inr k ↦ let q = sym e ∙ k.1 in cc
    ]
