use Rattle.std.proofs.Common.{◌≡◌, List, Ok, subst}
use Rattle.java_lex.specs.declared.token.Token.{Token}
use Rattle.readers.specs.Reading.{Fails, whole}
use Rattle.java_ast.specs.Reading.{program}
use Rattle.java_grammar.specs.Marks.{all_strict}
use Rattle.java_grammar.specs.Grammar.{HasProgram}
use Rattle.java_grammar.specs.ReadingPrograms.{program_at}
use Rattle.java_parser.proofs.ParsedLaws.{answers_program, answers_fault}
use Rattle.java_grammar.proofs.Again.{Any}
use Rattle.java_grammar.proofs.ProgramLaws.{program_reads}
use Rattle.java_grammar.proofs.Whole.{whole_found}
use Rattle.java_parser.proofs.KeptLaws.{is_only, is_refused, is_kept}
use Rattle.java_parser.proofs.parser.parse.Goals as goal

pub returns-in-Ok-clause-found : goal.returns-in-Ok-clause-found
returns-in-Ok-clause-found c = whole_found HasProgram Any program_at program_reads tt (all_strict c.args.tokens.now.list) (program c.in-Ok.program) (subst (λ (ts : List Token). whole program_at (all_strict ts) ≡ Ok (program c.in-Ok.program)) c.as_slice.ensures c.in-Ok.ensures)

pub returns-in-Ok-clause-only : goal.returns-in-Ok-clause-only
returns-in-Ok-clause-only c x has = is_only HasProgram Any program_at program_reads tt c.args.tokens.now.list (program c.in-Ok.program) x (subst (λ (ts : List Token). whole program_at (all_strict ts) ≡ Ok (program c.in-Ok.program)) c.as_slice.ensures c.in-Ok.ensures) has

pub returns-in-Err-clause-only : goal.returns-in-Err-clause-only
returns-in-Err-clause-only c x has = rw c.fail.ensures (is_refused HasProgram Any program_at program_reads tt c.args.tokens.now c.in-Err.error x (subst (λ (ts : List Token). Fails c.in-Err.error (whole program_at (all_strict ts))) c.as_slice.ensures c.in-Err.ensures) has)

pub returns-in-Err-clause-fault : goal.returns-in-Err-clause-fault
returns-in-Err-clause-fault c = rw c.fail.ensures (is_kept HasProgram Any program_at program_reads tt c.args.tokens.now c.in-Err.error (subst (λ (ts : List Token). Fails c.in-Err.error (whole program_at (all_strict ts))) c.as_slice.ensures c.in-Err.ensures))

pub returns-in-Ok-clause-exact : goal.returns-in-Ok-clause-exact
returns-in-Ok-clause-exact c = answers_program c.args.tokens.now (program c.in-Ok.program) (subst (λ (ts : List Token). whole program_at (all_strict ts) ≡ Ok (program c.in-Ok.program)) c.as_slice.ensures c.in-Ok.ensures)

pub returns-in-Err-clause-exact : goal.returns-in-Err-clause-exact
returns-in-Err-clause-exact c = rw c.fail.ensures (answers_fault c.args.tokens.now c.in-Err.error (subst (λ (ts : List Token). Fails c.in-Err.error (whole program_at (all_strict ts))) c.as_slice.ensures c.in-Err.ensures))
