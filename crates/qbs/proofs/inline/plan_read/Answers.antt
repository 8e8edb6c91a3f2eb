use Rattle.std.proofs.Common.{subst}
use Rattle.java_ast.specs.declared.tree.Program.{Program}
use Rattle.java_ast.specs.Reading.{program as plain_program}
use Rattle.call_rules.specs.Faults.{IsFaultOf}
use Rattle.inlining.specs.Inlined.{IsWhole, IsAnswer}
use Rattle.deliveries.specs.Code.{OrMemory}
use Rattle.deliveries.specs.Steps.{refused}
use Rattle.qbs.specs.Inline.{helper_refusal, types_and_writes}
use Rattle.qbs.proofs.Going.{goes_on}
use Rattle.qbs.proofs.inline.plan_read.Goals as goal

pub returns-in-Whole : goal.returns-in-Whole
returns-in-Whole c =
    let p = plain_program c.args.read.now in
    let source = c.args.source.now in
    let schema = c.args.schema.now in
    goes_on (IsWhole p) (refused (IsFaultOf p) (helper_refusal source)) (λ q. types_and_writes schema source p q) (plain_program c.in-Whole.whole.value) c.plan_whole.result
    (subst (IsAnswer p) c.in-Whole.is c.in_ok-whole.ensures)
    (subst (λ (r : Program). OrMemory c.plan_whole.result (types_and_writes schema source p (plain_program r))) c.deref.ensures c.plan_whole.ensures)
