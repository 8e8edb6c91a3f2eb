use Rattle.std.proofs.Common.{◌≤◌, sym, ap, ◌∙◌, subst}
use Rattle.std.specs.Option.{option_copied}
use Rattle.java_ast.specs.Reading.{program as plain_program}
use Rattle.loop_text.specs.Statements.Walking.{IsLoopOf}
use Rattle.java_loops.proofs.Placing.PathsLead.{listed_is_loop}
use Rattle.rewrite_core.specs.declared.stage.Stage.{Stage}
use Rattle.rewrite_core.specs.Progress.{progress_in}
use Rattle.rewrite_core.proofs.FurtherTries.{no_loop_left, next_listed, none_listed, next_here, outcome_begins, outcome_fits, pass_leads, pass_typed}
use Rattle.rewrite_core.proofs.progress.try_next.Goals as goal

pub next_path-requires : goal.next_path-requires
next_path-requires g c = subst (λ (s : Stage). s.listed.before ≤ s.standing) (sym c.deref.ensures) c.requires.lists.behind

pub returns-in-None-clause-leads : goal.returns-in-None-clause-leads
returns-in-None-clause-leads g c =
    no_loop_left _ _ c.args.schema.now c.args.size c.args.budget c.args.source.now (progress_in c.args.stage.value c.args.report.now)
    (none_listed c.args.stage.value c.requires.lists (next_here c.deref.result.now c.args.stage.value _ c.deref.ensures c.next_path.ensures ∙ ap option_copied c.in-None.is))

pub try_searched-requires-clause-loops : goal.try_searched-requires-clause-loops
try_searched-requires-clause-loops g c =
    subst (λ (s : Stage). IsLoopOf (plain_program s.typed.program) c.in-Some.path.now) (sym c.deref-in-Some.ensures)
    (listed_is_loop (plain_program c.args.stage.value.typed.program) c.args.stage.value.standing c.in-Some.path.now
    (next_listed c.args.stage.value c.in-Some.path.now c.requires.lists (next_here c.deref.result.now c.args.stage.value _ c.deref.ensures c.next_path.ensures ∙ ap option_copied c.in-Some.is)))

pub pass-requires-clause-there : goal.pass-requires-clause-there
pass-requires-clause-there g c = (c.in-Some.path.now, (next_here c.deref.result.now c.args.stage.value _ c.deref.ensures c.next_path.ensures ∙ ap option_copied c.in-Some.is))

pub pass-requires-clause-numbers : goal.pass-requires-clause-numbers
pass-requires-clause-numbers g c q next =
    outcome_fits _ _ c.args.schema.now c.args.size c.args.budget c.deref-in-Some.result.now c.args.stage.value c.in-Some.path.now c.in_ok-outcome-in-Some.outcome c.deref-in-Some.ensures c.in_ok-outcome-in-Some.ensures.outcome (next_here c.deref.result.now c.args.stage.value _ c.deref.ensures c.next_path.ensures ∙ ap option_copied c.in-Some.is) q next

pub pass-requires-clause-begins : goal.pass-requires-clause-begins
pass-requires-clause-begins g c q next =
    outcome_begins _ _ c.args.schema.now c.args.size c.args.budget c.deref-in-Some.result.now c.args.stage.value c.in-Some.path.now c.in_ok-outcome-in-Some.outcome c.deref-in-Some.ensures c.in_ok-outcome-in-Some.ensures.outcome (next_here c.deref.result.now c.args.stage.value _ c.deref.ensures c.next_path.ensures ∙ ap option_copied c.in-Some.is) q next

pub returns-in_ok-outcome-in-Some-clause-leads : goal.returns-in_ok-outcome-in-Some-clause-leads
returns-in_ok-outcome-in-Some-clause-leads g c =
    pass_leads _ _ c.args.schema.now c.args.size c.args.budget c.args.source.now c.pass.result (λ s. s.value) c.deref-in-Some.result.now c.args.stage.value c.args.report.now c.pass.new.report c.try_searched.new.searches c.in-Some.path.now c.in_ok-outcome-in-Some.outcome
    c.deref-in-Some.ensures (next_here c.deref.result.now c.args.stage.value _ c.deref.ensures c.next_path.ensures ∙ ap option_copied c.in-Some.is) c.requires.lists c.in_ok-outcome-in-Some.ensures.outcome c.pass.ensures.program c.pass.ensures.standing c.pass.ensures.verdicts c.pass.ensures.entries c.pass.ensures.dropped c.pass.ensures.patches c.pass.ensures.searches c.in_ok-outcome-in-Some.ensures.searches

pub returns-in_ok-outcome-in-Some-clause-typed : goal.returns-in_ok-outcome-in-Some-clause-typed
returns-in_ok-outcome-in-Some-clause-typed g c =
    pass_typed _ _ c.args.schema.now c.args.size c.args.budget c.args.source.now c.pass.result (λ s. s.value) c.args.stage.value c.args.report.now c.pass.new.report c.requires.typed
    (pass_leads _ _ c.args.schema.now c.args.size c.args.budget c.args.source.now c.pass.result (λ s. s.value) c.deref-in-Some.result.now c.args.stage.value c.args.report.now c.pass.new.report c.try_searched.new.searches c.in-Some.path.now c.in_ok-outcome-in-Some.outcome
    c.deref-in-Some.ensures (next_here c.deref.result.now c.args.stage.value _ c.deref.ensures c.next_path.ensures ∙ ap option_copied c.in-Some.is) c.requires.lists c.in_ok-outcome-in-Some.ensures.outcome c.pass.ensures.program c.pass.ensures.standing c.pass.ensures.verdicts c.pass.ensures.entries c.pass.ensures.dropped c.pass.ensures.patches c.pass.ensures.searches c.in_ok-outcome-in-Some.ensures.searches)
