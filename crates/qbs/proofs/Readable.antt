-- A text that is read back as a program, and is read as some source, is read again as that program: tokens have one.
use Rattle.std.proofs.Common.{◌≡◌, ℕ, List, sym, ap, ◌∙◌, subst}
use Rattle.qbs_base.specs.Values.{Schema}
use Rattle.java_ast.specs.Tree.{PlainProgram}
use Rattle.java_ast.specs.Unplaced.{unplaced_program}
use Rattle.java_lex.specs.declared.token.Token.{Token}
use Rattle.java_lex.specs.declared.token.Tokens.{Tokens}
use Rattle.java_limits.specs.Limits.{deepest}
use Rattle.java_grammar.specs.Grammar.{HasProgram, IsProgram, IsReadable}
use Rattle.java_grammar.specs.ReadBack.{IsReadBack}
use Rattle.java_grammar.specs.ReadingPrograms.{program_at}
use Rattle.java_grammar.proofs.Again.{Any}
use Rattle.java_grammar.proofs.GrammarLaws.{grammar_only}
use Rattle.java_grammar.proofs.ProgramLaws.{program_reads}
use Rattle.java_grammar.proofs.Whole.{whole_only}
use Rattle.plans.specs.Opening.{IsProgramOf}
use Rattle.qbs.specs.Again.{IsReadAgain}
use Rattle.qbs.proofs.OneStep.{ok_same}

one_program : (ts : List Token) (p q : PlainProgram) → IsReadable ts p → IsProgram ts q → p ≡ q
one_program ts p q has also = grammar_only deepest ts p q (whole_only HasProgram Any program_at program_reads tt ts p has) also

-- where its bytes are lent
pub is_read_again : (tables : Schema) (text lent : List ℕ) (p : PlainProgram) → IsReadBack text p → lent ≡ text → (q : PlainProgram) × IsProgramOf tables lent q → IsReadAgain tables text p
is_read_again tables text lent p back e (q, there) =
    let is : IsProgramOf tables text q = subst (λ (t : List ℕ). IsProgramOf tables t q) e there in
    let same : is.tokens ≡ back.tokens = ok_same _ is.tokens back.tokens is.has_tokens back.lexed in
    let also : IsProgram is.tokens.list back.read.program = subst (λ (ts : Tokens). IsProgram ts.list back.read.program) (sym same) back.read.has in
    record { program = q; is_program = is; same = ap unplaced_program (one_program is.tokens.list q back.read.program is.has_program also) ∙ back.read.same }
