use Rattle.std.proofs.Common.{ℕ, ap, ap₂, ◌∙◌}
use Rattle.java_ast.specs.Reading.{program as plain_program}
use Rattle.rewrite_core.specs.Trying.{rewritten}
use Rattle.qbs.proofs.Rewrote.{is_rewriting_as}
use Rattle.qbs.proofs.run.rewritten.Goals as goal

pub returns-clause-is : goal.returns-clause-is
returns-clause-is g c =
    ap plain_program c.of.ensures
    ∙ c.in_ok-rewritten.ensures.exact
    ∙ ap₂ (λ (s b : ℕ). rewritten c.args.schema.now s b (plain_program c.args.typed.now.program)) c.size_of-size.ensures.is c.budget_of-budget.ensures.is

pub returns-clause-rewriting : goal.returns-clause-rewriting
returns-clause-rewriting g c =
    let r = c.in_ok-rewritten.ensures in
    is_rewriting_as c.args.schema.now c.size_of-size.result _ c.budget_of-budget.result _ (plain_program c.args.typed.now.program) (plain_program c.in_ok-rewritten.rewritten.program)
    c.size_of-size.ensures.is c.budget_of-budget.ensures.is r.exact r.typed r.keeps r.standing
