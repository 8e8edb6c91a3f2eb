-- What reading from left to right gives is what the grammar says.
use Rattle.std.proofs.Common.{◌≡◌, Result, Ok, Err, refl, sym, ap, subst, ◌∙◌}
use Rattle.qbs_base.specs.declared.memory.Fail.TheVariants as fails
use Rattle.readers.specs.declared.fault.Fault.{Fault}
use Rattle.readers.specs.declared.fault.Fault.TheVariants as faults
use Rattle.readers.specs.declared.fault.ReadError.{ReadError}
use Rattle.readers.specs.declared.fault.ReadError.TheVariants as errors
use Rattle.readers.specs.Reading.{Fails, whole}
use Rattle.java_lex.specs.declared.token.Tokens.{Tokens}
use Rattle.java_ast.specs.Tree.{PlainProgram}
use Rattle.java_parser.specs.declared.fault.ParseFault.{ParseFault}
use Rattle.java_parser.specs.declared.fault.ParseRule.TheVariants as rules
use Rattle.java_grammar.specs.Grammar.{HasProgram, IsReadable}
use Rattle.java_parser.specs.Kept.{fault_at, kept, IsKept}
use Rattle.java_grammar.specs.Marks.{all_strict}
use Rattle.qbs_base.specs.Memory.{AnswersBy}
use Rattle.java_parser.specs.Parsed.{parsed, with_place}
use Rattle.java_grammar.specs.ReadingPrograms.{program_at}
use Rattle.java_grammar.proofs.Again.{Any}
use Rattle.java_grammar.proofs.ProgramLaws.{program_reads}
use Rattle.java_grammar.proofs.Whole.{whole_found, whole_only}
use Rattle.java_parser.proofs.KeptLaws.{is_kept}

parsed_is : (tokens : Tokens) → parsed tokens ≡ with_place tokens (whole program_at (all_strict tokens.list))
unfolding parsed
parsed_is tokens = refl

abbrev read_as : PlainProgram → Result PlainProgram Fault
read_as p = Ok p

placed_ok : (tokens : Tokens) (read : Result PlainProgram Fault) (p : PlainProgram) → with_place tokens read ≡ Ok p → read ≡ Ok p
placed_ok tokens (Ok q) p e = let same : q ≡ p = cc in ap read_as same
placed_ok tokens (Err (faults.Unexpected left)) p e = absurd cc
placed_ok tokens (Err (faults.TooDeep left)) p e = absurd cc

pub parsed_is_program : (tokens : Tokens) (p : PlainProgram) → parsed tokens ≡ Ok p → IsReadable tokens.list p
parsed_is_program tokens p e =
    whole_found HasProgram Any program_at program_reads tt (all_strict tokens.list) p
    (placed_ok tokens (whole program_at (all_strict tokens.list)) p (sym (parsed_is tokens) ∙ e))

pub program_is_parsed : (tokens : Tokens) (p : PlainProgram) → IsReadable tokens.list p → parsed tokens ≡ Ok p
program_is_parsed tokens p has = parsed_is tokens ∙ ap (with_place tokens) (whole_only HasProgram Any program_at program_reads tt tokens.list p has)

-- the fault that is kept of a reading that failed
placed_err : (tokens : Tokens) (read : Result PlainProgram Fault) (f : ParseFault) → with_place tokens read ≡ Err f → (fault : Fault) × (read ≡ Err fault) × (kept tokens (errors.Fault fault) ≡ fails.Fault f)
placed_err tokens (Ok q) f e = absurd cc
placed_err tokens (Err (faults.Unexpected left)) f e = (faults.Unexpected left, refl, (let same : fault_at tokens rules.Unexpected left ≡ f = cc in ap (λ (g : ParseFault). fails.Fault g) same))
placed_err tokens (Err (faults.TooDeep left)) f e = (faults.TooDeep left, refl, (let same : fault_at tokens rules.TooDeep left ≡ f = cc in ap (λ (g : ParseFault). fails.Fault g) same))

pub fault_is_kept : (tokens : Tokens) (f : ParseFault) → parsed tokens ≡ Err f → IsKept HasProgram tokens (fails.Fault f)
fault_is_kept tokens f e =
    let found = placed_err tokens (whole program_at (all_strict tokens.list)) f (sym (parsed_is tokens) ∙ e) in
    subst (IsKept HasProgram tokens) found.2 (is_kept HasProgram Any program_at program_reads tt tokens (errors.Fault found.0) found.1)

-- what was answered of tokens is what is parsed
pub answers_program : (tokens : Tokens) (p : PlainProgram) → whole program_at (all_strict tokens.list) ≡ Ok p → parsed tokens ≡ Ok p
answers_program tokens p e = parsed_is tokens ∙ ap (with_place tokens) e

answers_placed : (tokens : Tokens) (error : ReadError) (read : Result PlainProgram Fault) → Fails error read → AnswersBy {X = PlainProgram} (λ p. p) (λ (f : ParseFault). f) (Err (kept tokens error)) (with_place tokens read)
answers_placed tokens errors.Memory read e = tt
answers_placed tokens (errors.Fault (faults.Unexpected left)) read e = ap (with_place tokens) e
answers_placed tokens (errors.Fault (faults.TooDeep left)) read e = ap (with_place tokens) e

pub answers_fault : (tokens : Tokens) (error : ReadError) → Fails error (whole program_at (all_strict tokens.list)) → AnswersBy {X = PlainProgram} (λ p. p) (λ (f : ParseFault). f) (Err (kept tokens error)) (parsed tokens)
answers_fault tokens error e =
    subst (AnswersBy {X = PlainProgram} (λ p. p) (λ (f : ParseFault). f) (Err (kept tokens error))) (sym (parsed_is tokens)) (answers_placed tokens error (whole program_at (all_strict tokens.list)) e)
