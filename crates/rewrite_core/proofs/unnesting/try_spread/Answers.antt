use Rattle.std.proofs.Common.{◌≤◌, sym, ap, ◌∙◌, subst}
use Rattle.std.specs.Option.{option_copied}
use Rattle.java_ast.specs.Reading.{statements, program as plain_program}
use Rattle.java_mean.specs.WellTyped.{IsWellTyped}
use Rattle.java_types.specs.Texts.{read_by}
use Rattle.loop_text.specs.Statements.Walking.{IsLoopOf}
use Rattle.rewrite_core.specs.declared.stage.Stage.{Stage}
use Rattle.rewrite_core.proofs.FurtherTries.{next_here, outcome_begins, outcome_fits}
use Rattle.rewrite_core.proofs.UnnestOutcomes.{next_passes}
use Rattle.rewrite_core.proofs.unnesting.try_spread.Goals as goal

pub next_path-requires : goal.next_path-requires
next_path-requires g c = subst (λ (s : Stage). s.listed.before ≤ s.standing) (sym c.deref.ensures) c.requires.behind

pub try_loop-requires-clause-typed : goal.try_loop-requires-clause-typed
try_loop-requires-clause-typed g c = subst (λ (s : Stage). IsWellTyped c.args.schema.now (read_by c.args.schema.now) (plain_program s.typed.program)) (sym c.deref-in-Some.ensures) c.requires.typed

pub try_loop-requires-clause-loops : goal.try_loop-requires-clause-loops
try_loop-requires-clause-loops g c =
    subst (λ (s : Stage). IsLoopOf (plain_program s.typed.program) c.in-Some.path.now) (sym c.deref-in-Some.ensures)
    (c.requires.loops c.in-Some.path.now (next_here c.deref.result.now c.args.stage.value _ c.deref.ensures c.next_path.ensures ∙ ap option_copied c.in-Some.is))

pub pass-requires-clause-numbers : goal.pass-requires-clause-numbers
pass-requires-clause-numbers g c q next =
    outcome_fits _ _ c.args.schema.now c.args.size c.args.budget c.deref-in-Some.result.now c.args.stage.value c.in-Some.path.now c.in_ok-outcome-in-Some.outcome c.deref-in-Some.ensures c.in_ok-outcome-in-Some.ensures (next_here c.deref.result.now c.args.stage.value _ c.deref.ensures c.next_path.ensures ∙ ap option_copied c.in-Some.is) q next

pub pass-requires-clause-begins : goal.pass-requires-clause-begins
pass-requires-clause-begins g c q next =
    outcome_begins _ _ c.args.schema.now c.args.size c.args.budget c.deref-in-Some.result.now c.args.stage.value c.in-Some.path.now c.in_ok-outcome-in-Some.outcome c.deref-in-Some.ensures c.in_ok-outcome-in-Some.ensures (next_here c.deref.result.now c.args.stage.value _ c.deref.ensures c.next_path.ensures ∙ ap option_copied c.in-Some.is) q next

pub returns-clause-passes : goal.returns-clause-passes
returns-clause-passes g c =
    next_passes _ _ c.args.schema.now c.args.size c.args.budget c.args.source.now c.pass.result (λ s. s.value) c.deref-in-Some.result.now c.args.stage.value c.args.given.now c.pass.new.given c.in-Some.path.now c.in_ok-outcome-in-Some.outcome (statements c.args.old.items)
    c.deref-in-Some.ensures (next_here c.deref.result.now c.args.stage.value _ c.deref.ensures c.next_path.ensures ∙ ap option_copied c.in-Some.is) c.in_ok-outcome-in-Some.ensures c.pass.ensures.program c.pass.ensures.standing c.pass.ensures.verdicts c.pass.ensures.patches
