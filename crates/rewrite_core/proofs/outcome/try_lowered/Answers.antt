use Rattle.std.proofs.Common.{refl, ap}
use Rattle.java_ast.specs.Reading.{program as plain_program}
use Rattle.java_types.specs.Texts.{read_by}
use Rattle.rewrite_core.proofs.GivenUp.{first_before}
use Rattle.rewrite_core.proofs.LoopOutcomes.{code_none, code_budget, code_found, found_few}
use Rattle.rewrite_core.proofs.LoopThere.{place_is}
use Rattle.rewrite_core.proofs.outcome.try_lowered.Goals as goal

pub gives_way-requires : goal.gives_way-requires
gives_way-requires g c = found_few c.args.lowered.now c.args.size c.args.budget _ c.in_ok-k.ensures.exact c.in-Found.k c.in-Found.cand c.in-Found.proofs c.in-Found.dropped c.in-Found.is c.requires.budget

pub returns-in_ok-others-in-Found : goal.returns-in_ok-others-in-Found
returns-in_ok-others-in-Found g c =
    code_found _ _ c.args.schema.now c.args.size c.args.budget (plain_program c.args.typed.now.program) c.args.path.now _ c.args.lowered.now c.requires.lowered c.place_there-at.result
    (place_is c.args.schema.now (read_by c.args.schema.now) (plain_program c.args.typed.now.program) (plain_program c.program.result.now) c.args.path.now c.requires.lowered.setting c.place_there-at.result (ap plain_program c.program.ensures) c.place_there-at.ensures c.requires.lowered.there)
    _ c.in_ok-k.ensures.exact c.in_ok-k.ensures.dropped
    c.in-Found.k c.in-Found.cand c.in-Found.proofs c.in-Found.dropped _ c.in-Found.is c.gives_way.ensures.verdict c.gives_way.ensures.dropped c.gives_way.ensures.way refl refl c.in_ok-k.ensures.found
    (c.in_ok-others-in-Found.ensures.asks c.requires.lowered.setting c.requires.lowered.there)
    (first_before c.args.schema.now (read_by c.args.schema.now) (plain_program c.args.typed.now.program) c.args.path.now c.args.lowered.now c.requires.typed c.args.typed.now.numbers c.requires.lowered)
    refl (c.in_ok-others-in-Found.ensures.instead c.requires.lowered.setting c.requires.lowered.there)

pub returns-in-NoneOf : goal.returns-in-NoneOf
returns-in-NoneOf g c =
    code_none _ _ c.args.schema.now c.args.size c.args.budget (plain_program c.args.typed.now.program) c.args.path.now _ c.args.lowered.now c.requires.lowered c.place_there-at.result
    (place_is c.args.schema.now (read_by c.args.schema.now) (plain_program c.args.typed.now.program) (plain_program c.program.result.now) c.args.path.now c.requires.lowered.setting c.place_there-at.result (ap plain_program c.program.ensures) c.place_there-at.ensures c.requires.lowered.there)
    _ c.in_ok-k.ensures.exact c.in_ok-k.ensures.dropped
    c.in-NoneOf.n c.in-NoneOf.dropped c.in-NoneOf.is c.stands.ensures.verdict c.stands.ensures.dropped c.stands.ensures.way

pub returns-in-Budget : goal.returns-in-Budget
returns-in-Budget g c =
    code_budget _ _ c.args.schema.now c.args.size c.args.budget (plain_program c.args.typed.now.program) c.args.path.now _ c.args.lowered.now c.requires.lowered c.place_there-at.result
    (place_is c.args.schema.now (read_by c.args.schema.now) (plain_program c.args.typed.now.program) (plain_program c.program.result.now) c.args.path.now c.requires.lowered.setting c.place_there-at.result (ap plain_program c.program.ensures) c.place_there-at.ensures c.requires.lowered.there)
    _ c.in_ok-k.ensures.exact c.in_ok-k.ensures.dropped
    c.in-Budget.b c.in-Budget.n c.in-Budget.dropped c.in-Budget.is c.stands-in-Budget.ensures.verdict c.stands-in-Budget.ensures.dropped c.stands-in-Budget.ensures.way
