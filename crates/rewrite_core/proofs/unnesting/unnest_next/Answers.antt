use Rattle.std.proofs.Common.{◌≡◌, ℕ, ◌≤◌, List, sym, ap, ◌∙◌, subst}
use Rattle.std.specs.Option.{option_copied}
use Rattle.java_ast.specs.Reading.{statements, program as plain_program}
use Rattle.rewrite_core.specs.declared.stage.Stage.{Stage}
use Rattle.rewrite_core.specs.Stages.{next_of}
use Rattle.rewrite_core.specs.UnnestingSteps.{IsSpreadThere, MayBeTried, unnesting_in}
use Rattle.rewrite_core.proofs.FurtherTries.{next_listed, none_listed, next_here}
use Rattle.rewrite_core.proofs.SpreadsTyped.{spreads_stay_typed}
use Rattle.rewrite_core.proofs.UnnestEnds.{spread_leads, spread_keeps_types, stands_leads}
use Rattle.rewrite_core.proofs.UnnestOutcomes.{at_next}
use Rattle.rewrite_core.proofs.UnnestSteps.{no_loop_leads, made_there, none_made_there, unspread, spread_may_be_tried}
use Rattle.rewrite_core.proofs.unnesting.unnest_next.Goals as goal

pub next_path-requires : goal.next_path-requires
next_path-requires g c = subst (λ (s : Stage). s.listed.before ≤ s.standing) (sym c.deref.ensures) c.requires.lists.behind

pub returns-in-None-clause-leads : goal.returns-in-None-clause-leads
returns-in-None-clause-leads g c =
    no_loop_leads c.args.schema.now c.args.size c.args.budget c.args.source.now (unnesting_in c.args.stage.value c.args.given.now)
    (none_listed c.args.stage.value c.requires.lists (next_here c.deref.result.now c.args.stage.value _ c.deref.ensures c.next_path.ensures ∙ ap option_copied c.in-None.is))

pub returns-in-None-2-clause-leads : goal.returns-in-None-2-clause-leads
returns-in-None-2-clause-leads g c =
    stands_leads c.args.schema.now c.args.size c.args.budget c.args.source.now c.stand.result (λ s. s.value) c.args.stage.value c.args.given.now c.in-Some.path.now (next_listed c.args.stage.value c.in-Some.path.now c.requires.lists (next_here c.deref.result.now c.args.stage.value _ c.deref.ensures c.next_path.ensures ∙ ap option_copied c.in-Some.is))
    (unspread c.args.schema.now c.args.size c.args.budget (plain_program c.args.stage.value.typed.program) c.in-Some.path.now (none_made_there (λ b. statements b.items) c.args.schema.now (plain_program c.args.stage.value.typed.program) (plain_program c.program.result.now) c.in-Some.path.now c.in_ok-spread_there-in-Some.field-0 (ap plain_program (c.program.ensures ∙ ap (λ (s : Stage). s.typed.program) c.deref-in-Some.ensures)) c.in_ok-spread_there-in-Some.ensures c.in-None-2.is)) c.stand.ensures.program c.stand.ensures.standing

pub unnest_by-requires-clause-there : goal.unnest_by-requires-clause-there
unnest_by-requires-clause-there g c = (c.in-Some.path.now, (next_here c.deref.result.now c.args.stage.value _ c.deref.ensures c.next_path.ensures ∙ ap option_copied c.in-Some.is))

pub unnest_by-requires-clause-spread : goal.unnest_by-requires-clause-spread
unnest_by-requires-clause-spread g c q next = at_next (λ (z : List ℕ). IsSpreadThere c.args.schema.now (plain_program c.args.stage.value.typed.program) z (statements c.in-Some-2.spread.items)) (next_of c.args.stage.value) c.in-Some.path.now q (next_here c.deref.result.now c.args.stage.value _ c.deref.ensures c.next_path.ensures ∙ ap option_copied c.in-Some.is) next (made_there (λ b. statements b.items) c.args.schema.now (plain_program c.args.stage.value.typed.program) (plain_program c.program.result.now) c.in-Some.path.now c.in_ok-spread_there-in-Some.field-0 (ap plain_program (c.program.ensures ∙ ap (λ (s : Stage). s.typed.program) c.deref-in-Some.ensures)) c.in_ok-spread_there-in-Some.ensures c.in-Some-2.spread c.in-Some-2.is)

pub unnest_by-requires-clause-tried : goal.unnest_by-requires-clause-tried
unnest_by-requires-clause-tried g c q next = at_next (λ (z : List ℕ). MayBeTried c.args.schema.now z (statements c.in-Some-2.spread.items) (plain_program c.args.stage.value.typed.program)) (next_of c.args.stage.value) c.in-Some.path.now q (next_here c.deref.result.now c.args.stage.value _ c.deref.ensures c.next_path.ensures ∙ ap option_copied c.in-Some.is) next
    (spread_may_be_tried c.args.schema.now (spreads_stay_typed c.args.schema.now) (plain_program c.args.stage.value.typed.program) c.in-Some.path.now c.requires.typed c.args.stage.value.typed.numbers (statements c.in-Some-2.spread.items) (made_there (λ b. statements b.items) c.args.schema.now (plain_program c.args.stage.value.typed.program) (plain_program c.program.result.now) c.in-Some.path.now c.in_ok-spread_there-in-Some.field-0 (ap plain_program (c.program.ensures ∙ ap (λ (s : Stage). s.typed.program) c.deref-in-Some.ensures)) c.in_ok-spread_there-in-Some.ensures c.in-Some-2.spread c.in-Some-2.is))

pub returns-in-Some-2-clause-leads : goal.returns-in-Some-2-clause-leads
returns-in-Some-2-clause-leads g c =
    spread_leads c.args.schema.now c.args.size c.args.budget c.args.source.now c.unnest_by.result (λ s. unnesting_in s.value c.unnest_by.new.given) (unnesting_in c.args.stage.value c.args.given.now) c.in-Some.path.now (statements c.in-Some-2.spread.items) (next_of c.args.stage.value)
    (made_there (λ b. statements b.items) c.args.schema.now (plain_program c.args.stage.value.typed.program) (plain_program c.program.result.now) c.in-Some.path.now c.in_ok-spread_there-in-Some.field-0 (ap plain_program (c.program.ensures ∙ ap (λ (s : Stage). s.typed.program) c.deref-in-Some.ensures)) c.in_ok-spread_there-in-Some.ensures c.in-Some-2.spread c.in-Some-2.is) (next_here c.deref.result.now c.args.stage.value _ c.deref.ensures c.next_path.ensures ∙ ap option_copied c.in-Some.is) (next_listed c.args.stage.value c.in-Some.path.now c.requires.lists (next_here c.deref.result.now c.args.stage.value _ c.deref.ensures c.next_path.ensures ∙ ap option_copied c.in-Some.is)) c.unnest_by.ensures.passes

pub returns-in-Some-2-clause-typed : goal.returns-in-Some-2-clause-typed
returns-in-Some-2-clause-typed g c =
    spread_keeps_types c.args.schema.now c.args.size c.args.budget c.args.source.now c.unnest_by.result (λ s. unnesting_in s.value c.unnest_by.new.given) (unnesting_in c.args.stage.value c.args.given.now) c.in-Some.path.now (statements c.in-Some-2.spread.items) (next_of c.args.stage.value)
    (next_here c.deref.result.now c.args.stage.value _ c.deref.ensures c.next_path.ensures ∙ ap option_copied c.in-Some.is) c.requires.typed (spread_may_be_tried c.args.schema.now (spreads_stay_typed c.args.schema.now) (plain_program c.args.stage.value.typed.program) c.in-Some.path.now c.requires.typed c.args.stage.value.typed.numbers (statements c.in-Some-2.spread.items) (made_there (λ b. statements b.items) c.args.schema.now (plain_program c.args.stage.value.typed.program) (plain_program c.program.result.now) c.in-Some.path.now c.in_ok-spread_there-in-Some.field-0 (ap plain_program (c.program.ensures ∙ ap (λ (s : Stage). s.typed.program) c.deref-in-Some.ensures)) c.in_ok-spread_there-in-Some.ensures c.in-Some-2.spread c.in-Some-2.is)) c.unnest_by.ensures.passes
