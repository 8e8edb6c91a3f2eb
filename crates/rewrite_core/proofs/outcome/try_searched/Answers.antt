use Rattle.std.proofs.Common.{ap, subst}
use Rattle.java_ast.specs.Reading.{program as plain_program}
use Rattle.java_types.specs.Texts.{read_by}
use Rattle.lowering.specs.Lowers.{broken_in_code, IsOutside}
use Rattle.rewrite_core.specs.Searches.{kept_searches}
use Rattle.rewrite_core.proofs.KeptSearches.{outside_notes}
use Rattle.rewrite_core.proofs.LoopOutcomes.{code_outside}
use Rattle.rewrite_core.proofs.LoopThere.{place_is}
use Rattle.rewrite_core.proofs.outcome.try_searched.Goals as goal

pub returns-in-Err-Fault-clause-outcome : goal.returns-in-Err-Fault-clause-outcome
returns-in-Err-Fault-clause-outcome g c =
    code_outside _ _ c.args.schema.now c.args.size c.args.budget (plain_program c.args.typed.now.program) c.args.path.now _ (broken_in_code c.in-Err-Fault.outside) c.place_there-at.result
    (λ w there. place_is c.args.schema.now (read_by c.args.schema.now) (plain_program c.args.typed.now.program) (plain_program c.program.result.now) c.args.path.now w c.place_there-at.result (ap plain_program c.program.ensures) c.place_there-at.ensures there)
    (subst (IsOutside c.args.schema.now (read_by c.args.schema.now) (plain_program c.args.typed.now.program) c.args.path.now) c.in-Err-Fault.field-0-is c.in-Err-Fault.ensures.outside) (rw c.in-Err-Fault.field-0-is at c.stands.ensures.verdict) c.stands.ensures.dropped c.stands.ensures.way

pub returns-in-Err-Fault-clause-searches : goal.returns-in-Err-Fault-clause-searches
returns-in-Err-Fault-clause-searches g c =
    outside_notes c.args.schema.now c.args.size c.args.budget (plain_program c.args.typed.now.program) c.args.path.now (broken_in_code c.in-Err-Fault.outside)
    (subst (IsOutside c.args.schema.now (read_by c.args.schema.now) (plain_program c.args.typed.now.program) c.args.path.now) c.in-Err-Fault.field-0-is c.in-Err-Fault.ensures.outside) (kept_searches c.args.searches.now)
