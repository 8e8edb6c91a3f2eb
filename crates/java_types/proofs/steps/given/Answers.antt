use Rattle.std.proofs.Common.{◌∙◌, ap, Bool, List}
use Rattle.std.specs.Prelude.{Option}
use Rattle.qbs_base.specs.declared.span.Span.{Span}
use Rattle.java_ast.specs.Reading.{expression}
use Rattle.java_mean.specs.declared.types.Kindred.{Kindred}
use Rattle.java_mean.specs.declared.rule.TypeRule.TheVariants as broken
use Rattle.java_mean.specs.Rules.{type_of, at_of, only_if, is_row, unless_both, copied_row}
use Rattle.java_mean.specs.Visible.{type_at}
use Rattle.java_mean.specs.WellTyped.{marked}
use Rattle.java_mean.specs.Least.{least}
use Rattle.java_types.proofs.Copied.{no_copy, copy_is}
use Rattle.java_types.proofs.Noted.{alike, alike_none}
use Rattle.java_types.proofs.steps.given.Goals as goal

pub returns-in-Var : goal.returns-in-Var
returns-in-Var c =
    alike broken.Mismatch c.args.kept.now c.unless_both.new.kept c.note_if.new.kept (unless_both (type_of c.args.schema.now c.args.scope.now (expression c.args.e.now)) c.args.k (at_of (expression c.args.e.now))) (copied_row c.args.scope.now (expression c.args.e.now))
    (c.unless_both.ensures
    ∙ ap (λ (t : Option Kindred). least c.args.kept.now (marked broken.Mismatch (unless_both t c.args.k c.place_of.result))) c.type_of.ensures
    ∙ ap (λ (p : Span). least c.args.kept.now (marked broken.Mismatch (unless_both (type_of c.args.schema.now c.args.scope.now (expression c.args.e.now)) c.args.k p))) c.place_of.ensures)
    (c.note_if.ensures
    ∙ ap (λ (b : Bool). least c.unless_both.new.kept (marked broken.Mismatch (only_if b c.place_of-in-Var.result))) (c.is_row.ensures ∙ ap is_row c.type_of-in-Var.ensures)
    ∙ ap (λ (p : Span). least c.unless_both.new.kept (marked broken.Mismatch (only_if (is_row (type_at c.args.scope.now c.in-Var.x)) p))) c.place_of-in-Var.ensures
    ∙ ap (λ (l : List Span). least c.unless_both.new.kept (marked broken.Mismatch l)) (copy_is c.args.scope.now c.args.e.now c.in-Var.x c.in-Var.is))

pub returns-in_default : goal.returns-in_default
returns-in_default c =
    alike_none broken.Mismatch c.args.kept.now c.unless_both.new.kept (unless_both (type_of c.args.schema.now c.args.scope.now (expression c.args.e.now)) c.args.k (at_of (expression c.args.e.now))) (copied_row c.args.scope.now (expression c.args.e.now))
    (no_copy c.args.scope.now c.args.e.now c.in_default.not-Var)
    (c.unless_both.ensures
    ∙ ap (λ (t : Option Kindred). least c.args.kept.now (marked broken.Mismatch (unless_both t c.args.k c.place_of.result))) c.type_of.ensures
    ∙ ap (λ (p : Span). least c.args.kept.now (marked broken.Mismatch (unless_both (type_of c.args.schema.now c.args.scope.now (expression c.args.e.now)) c.args.k p))) c.place_of.ensures)
