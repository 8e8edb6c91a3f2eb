use Rattle.std.proofs.Common.{ℕ, Vec, Global, sym, ap, subst, ◌∙◌}
use Rattle.java_ast.specs.declared.tree.Program.{Program}
use Rattle.java_ast.specs.Reading.{program as plain_program}
use Rattle.deliveries.specs.Code.{OrMemory}
use Rattle.qbs.specs.Make.{loops_text, runs, TakeNone}
use Rattle.qbs.proofs.Made.{left_takes_none, made}
use Rattle.qbs.proofs.make.plan_program.Goals as goal

pub plan_runs-requires-clause-plain : goal.plan_runs-requires-clause-plain
plan_runs-requires-clause-plain c =
    subst (λ (q : Program). TakeNone (plain_program q).methods) (sym c.of-other.ensures)
    (left_takes_none c.args.schema.now (plain_program c.args.typed.now.program) (plain_program c.in_ok-left.left.program) c.in_ok-left.ensures.keeps c.requires.plain)

pub returns : goal.returns
returns c =
    let kept = c.in_ok-left.ensures in
    made c.args.schema.now c.args.db.now (plain_program c.args.typed.now.program) (plain_program c.in_ok-left.left.program) c.in_ok-left.left.verdicts c.into_bytes.result.items c.plan_runs.result
    kept.exact kept.verdicts kept.typed kept.keeps kept.standing
    (ap (λ (v : Vec ℕ Global). v.items) c.into_bytes.ensures.value ∙ c.in_ok-text.ensures ∙ ap loops_text c.as_slice.ensures)
    (subst (λ (q : Program). OrMemory c.plan_runs.result (runs c.args.schema.now c.args.db.now c.into_bytes.result.items (plain_program q).methods)) c.of-other.ensures c.plan_runs.ensures)
