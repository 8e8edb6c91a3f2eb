use Rattle.std.proofs.Common.{◌≡◌, List, Ok, ap, subst, ◌∙◌}
use Rattle.java_lex.specs.declared.token.Token.{Token}
use Rattle.readers.specs.declared.fault.Fault.TheVariants.{Unexpected}
use Rattle.readers.specs.declared.fault.ReadError.{ReadError}
use Rattle.readers.specs.declared.fault.ReadError.TheVariants as errors
use Rattle.readers.specs.Reading.{Fails, whole}
use Rattle.readers.proofs.Tools.{failed}
use Rattle.java_ast.specs.Reading.{program}
use Rattle.java_grammar.specs.Marks.{all_strict}
use Rattle.java_grammar.specs.ReadingPrograms.{program_in}
use Rattle.java_grammar.proofs.GrammarLaws.{grammar_found, grammar_only, grammar_none}
use Rattle.java_parser.proofs.parser.parse_grammar.Goals as goal

pub returns-in-Ok-clause-found : goal.returns-in-Ok-clause-found
returns-in-Ok-clause-found c = grammar_found 512 c.args.tokens.now.list (program c.in-Ok.program) (subst (λ (ts : List Token). whole (program_in 512) (all_strict ts) ≡ Ok (program c.in-Ok.program)) c.as_slice.ensures c.in-Ok.ensures)

pub returns-in-Ok-clause-only : goal.returns-in-Ok-clause-only
returns-in-Ok-clause-only c x has = grammar_only 512 c.args.tokens.now.list (program c.in-Ok.program) x (subst (λ (ts : List Token). whole (program_in 512) (all_strict ts) ≡ Ok (program c.in-Ok.program)) c.as_slice.ensures c.in-Ok.ensures) has

pub returns-in-Err-Fault-Unexpected-clause-only : goal.returns-in-Err-Fault-Unexpected-clause-only
returns-in-Err-Fault-Unexpected-clause-only c x has =
    let n = c.in-Err-Fault-Unexpected.field-0-0-0 in
    let fault : c.in-Err-Fault-Unexpected.field-0 ≡ errors.Fault (Unexpected n) = c.in-Err-Fault-Unexpected.field-0-is ∙ ap errors.Fault c.in-Err-Fault-Unexpected.field-0-0-is in
    let e : Fails (errors.Fault (Unexpected n)) (whole (program_in 512) (all_strict c.as_slice.result.now)) = subst (λ (f : ReadError). Fails f (whole (program_in 512) (all_strict c.as_slice.result.now))) fault c.in-Err-Fault-Unexpected.ensures in
    absurd (grammar_none 512 n c.args.tokens.now.list x (subst (λ (ts : List Token). whole (program_in 512) (all_strict ts) ≡ failed (Unexpected n)) c.as_slice.ensures e) has)
