use Rattle.std.specs.Prelude.{◌≡◌, List}
use Rattle.std.proofs.Common.{ℕ, ap, ◌∙◌}
use Rattle.std.proofs.lemmas.Result.{IfOk-weaker}
use Rattle.java_ast.specs.Reading.{statements, program}
use Rattle.java_ast.specs.Tree.{Statements}
use Rattle.loop_text.specs.Statements.Fragment.{fragment_at}
use Rattle.loop_places.specs.AtNumbers.{at_numbers}
use Rattle.loop_places.specs.RunsThere.{run_or_nothing}
use Rattle.lowering.proofs.Staying.{run_kept}
use Rattle.lowering.proofs.kept.kept_statements.Goals as goal

pub returns-clause-exact : goal.returns-clause-exact
returns-clause-exact c =
    IfOk-weaker c.at_numbers.result _ _
    (λ r found.
    found
    ∙ ap (λ (run : Statements). at_numbers c.args.lowered.now.first run c.as_slice.result.now) c.run_there-run.ensures
    ∙ ap (λ (ns : List ℕ). at_numbers c.args.lowered.now.first (run_or_nothing (fragment_at c.args.path.now (program c.args.program.now))) ns) c.as_slice.ensures)
    c.at_numbers.ensures

pub returns-clause-kept : goal.returns-clause-kept
returns-clause-kept c =
    IfOk-weaker c.at_numbers.result _ _
    (λ r found schema read l w k is. run_kept schema read (program c.args.program.now) c.args.path.now l c.args.lowered.now.first c.args.lowered.now.kept k w is (statements r.items)
    (found
    ∙ ap (λ (run : Statements). at_numbers c.args.lowered.now.first run c.as_slice.result.now) c.run_there-run.ensures
    ∙ ap (λ (ns : List ℕ). at_numbers c.args.lowered.now.first (run_or_nothing (fragment_at c.args.path.now (program c.args.program.now))) ns) c.as_slice.ensures))
    c.at_numbers.ensures
