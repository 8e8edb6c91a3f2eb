use Rattle.std.proofs.Common.{◌≡◌, List, Ok, subst}
use Rattle.java_lex.specs.declared.token.Token.{Token}
use Rattle.readers.specs.Reading.{Fails, whole}
use Rattle.java_ast.specs.Reading.{spelled}
use Rattle.java_grammar.specs.Marks.{all_strict}
use Rattle.java_grammar.specs.Types.{Spelling}
use Rattle.java_grammar.specs.ReadingTypes.{spelling_at}
use Rattle.java_grammar.proofs.Again.{Any}
use Rattle.java_grammar.proofs.TypeLaws.{spelling_reads}
use Rattle.java_grammar.proofs.Whole.{whole_found}
use Rattle.java_parser.proofs.KeptLaws.{is_only, is_refused, is_kept}
use Rattle.java_parser.proofs.parser.parse_type.Goals as goal

pub returns-in-Ok-clause-found : goal.returns-in-Ok-clause-found
returns-in-Ok-clause-found c = whole_found Spelling Any spelling_at spelling_reads tt (all_strict c.args.tokens.now.list) (spelled c.in-Ok.ty) (subst (λ (ts : List Token). whole spelling_at (all_strict ts) ≡ Ok (spelled c.in-Ok.ty)) c.as_slice.ensures c.in-Ok.ensures)

pub returns-in-Ok-clause-only : goal.returns-in-Ok-clause-only
returns-in-Ok-clause-only c s has = is_only Spelling Any spelling_at spelling_reads tt c.args.tokens.now.list (spelled c.in-Ok.ty) s (subst (λ (ts : List Token). whole spelling_at (all_strict ts) ≡ Ok (spelled c.in-Ok.ty)) c.as_slice.ensures c.in-Ok.ensures) has

pub returns-in-Err-clause-only : goal.returns-in-Err-clause-only
returns-in-Err-clause-only c s has = rw c.fail.ensures (is_refused Spelling Any spelling_at spelling_reads tt c.args.tokens.now c.in-Err.error s (subst (λ (ts : List Token). Fails c.in-Err.error (whole spelling_at (all_strict ts))) c.as_slice.ensures c.in-Err.ensures) has)

pub returns-in-Err-clause-fault : goal.returns-in-Err-clause-fault
returns-in-Err-clause-fault c = rw c.fail.ensures (is_kept Spelling Any spelling_at spelling_reads tt c.args.tokens.now c.in-Err.error (subst (λ (ts : List Token). Fails c.in-Err.error (whole spelling_at (all_strict ts))) c.as_slice.ensures c.in-Err.ensures))
