use Rattle.std.proofs.Common.{refl, ap, ◌∙◌}
use Rattle.std.proofs.lemmas.Result.{IfOk-weaker, on_ok_weaker}
use Rattle.java_ast.specs.Path.{replaced_at}
use Rattle.java_ast.specs.Reading.{statements, program}
use Rattle.java_types.specs.Texts.{read_by}
use Rattle.lowering.specs.Lowers.{lowering_in_code}
use Rattle.loop_places.specs.RunsThere.{run_or_nothing}
use Rattle.rewrite_core.specs.LoopWithCandidate.{place_or_nowhere}
use Rattle.rewrite_core.proofs.GivenUp.{fits_schema, instead_is, replaced_is, has_there}
use Rattle.rewrite_core.proofs.replacing.in_place_at.Goals as goal

pub in_place-requires-clause-typed : goal.in_place-requires-clause-typed
in_place-requires-clause-typed c = fits_schema c.args.schema.now (read_by c.args.schema.now) (program c.args.program.now) c.args.path.now c.args.lowered.now c.requires.typed c.requires.numbers c.requires.lowered

pub returns-clause-instead : goal.returns-clause-instead
returns-clause-instead c =
    IfOk-weaker c.in_place.result _ _
    (λ others e w there. instead_is c.args.schema.now (read_by c.args.schema.now) (program c.args.program.now) c.args.path.now c.args.lowered.now c.requires.typed c.requires.numbers c.requires.lowered c.args.candidate.now w there
    (statements c.run_there.result.now) c.place_there.result (λ f e. c.run_there.ensures ∙ ap run_or_nothing e) (λ s e. c.place_there.ensures ∙ ap place_or_nowhere e) (statements others.items)
    (e c.args.schema.now (read_by c.args.schema.now) (lowering_in_code c.args.lowered.now) w c.requires.lowered there))
    c.in_place.ensures.exact

pub returns-clause-exact : goal.returns-clause-exact
returns-clause-exact c =
    IfOk-weaker c.in_place.result _ _
    (λ others e w there. replaced_is c.args.schema.now (read_by c.args.schema.now) (program c.args.program.now) c.args.path.now c.args.lowered.now c.requires.typed c.requires.numbers c.requires.lowered c.args.candidate.now w there
    (statements c.run_there.result.now) c.place_there.result (λ f e. c.run_there.ensures ∙ ap run_or_nothing e) (λ s e. c.place_there.ensures ∙ ap place_or_nowhere e)
    (replaced_at c.args.path.now c.args.lowered.now.first (statements others.items) (program c.args.program.now)) (statements others.items)
    (e c.args.schema.now (read_by c.args.schema.now) (lowering_in_code c.args.lowered.now) w c.requires.lowered there) refl)
    c.in_place.ensures.exact

pub returns-clause-asks : goal.returns-clause-asks
returns-clause-asks c =
    on_ok_weaker c.in_place.result
    (λ valid w there. has_there c.args.schema.now (read_by c.args.schema.now) (program c.args.program.now) c.args.path.now c.args.lowered.now c.requires.typed c.requires.numbers c.requires.lowered c.args.candidate.now w there
    (statements c.run_there.result.now) c.place_there.result (λ f e. c.run_there.ensures ∙ ap run_or_nothing e) (λ s e. c.place_there.ensures ∙ ap place_or_nowhere e) c.requires.known valid)
    c.in_place.ensures.valid
