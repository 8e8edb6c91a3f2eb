use Rattle.std.proofs.Common.{◌≡◌, List, Ok, sym, subst}
use Rattle.qbs_base.specs.Memory.{IsNoMemory}
use Rattle.java_lex.specs.declared.token.Token.{Token}
use Rattle.readers.specs.declared.fault.ReadError.TheVariants as errors
use Rattle.readers.specs.Reading.{Fails, whole}
use Rattle.java_grammar.specs.Marks.{all_strict}
use Rattle.java_grammar.specs.Types.{Key}
use Rattle.java_grammar.specs.ReadingTypes.{key_at}
use Rattle.java_grammar.proofs.Again.{Any}
use Rattle.java_grammar.proofs.TypeLaws.{key_reads}
use Rattle.java_grammar.proofs.Whole.{whole_found}
use Rattle.java_parser.proofs.KeptLaws.{is_only, is_refused, is_kept}
use Rattle.java_parser.specs.Kept.{IsKept}
use Rattle.java_parser.proofs.parser.parse_key.Goals as goal

pub returns-in-Ok-clause-found : goal.returns-in-Ok-clause-found
returns-in-Ok-clause-found c = whole_found (Key 64) Any (key_at 64) (key_reads 64) tt (all_strict c.args.tokens.now.list) c.in-Ok.name.now (subst (λ (ts : List Token). whole (key_at 64) (all_strict ts) ≡ Ok c.in-Ok.name.now) c.as_slice.ensures c.in-Ok.ensures)

pub returns-in-Ok-clause-only : goal.returns-in-Ok-clause-only
returns-in-Ok-clause-only c column has = is_only (Key 64) Any (key_at 64) (key_reads 64) tt c.args.tokens.now.list c.in-Ok.name.now column (subst (λ (ts : List Token). whole (key_at 64) (all_strict ts) ≡ Ok c.in-Ok.name.now) c.as_slice.ensures c.in-Ok.ensures) has

pub returns-in-Err-clause-only : goal.returns-in-Err-clause-only
returns-in-Err-clause-only c column has = subst IsNoMemory (sym c.broken.ensures) (is_refused (Key 64) Any (key_at 64) (key_reads 64) tt c.args.tokens.now (errors.Fault c.in-Err.error) column (subst (λ (ts : List Token). Fails (errors.Fault c.in-Err.error) (whole (key_at 64) (all_strict ts))) c.as_slice.ensures c.in-Err.ensures) has)

pub returns-in-Err-clause-fault : goal.returns-in-Err-clause-fault
returns-in-Err-clause-fault c = subst (IsKept (Key 64) c.args.tokens.now) (sym c.broken.ensures) (is_kept (Key 64) Any (key_at 64) (key_reads 64) tt c.args.tokens.now (errors.Fault c.in-Err.error) (subst (λ (ts : List Token). Fails (errors.Fault c.in-Err.error) (whole (key_at 64) (all_strict ts))) c.as_slice.ensures c.in-Err.ensures))
