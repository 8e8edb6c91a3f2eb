use Rattle.std.proofs.Common.{sym, ap, ◌∙◌}
use Rattle.view_slices.specs.Kept.{other_of}
use Rattle.view_slices.proofs.kept.other_of.Goals as goal
use Rattle.view_statements.specs.Reading.{statements}
use Rattle.view_statements.proofs.Nodes.{if_else_is}

pub returns-in-IfElse : goal.returns-in-IfElse
returns-in-IfElse c =
    ap statements c.as_slice.ensures.value
    ∙ sym (ap other_of (if_else_is c.args.st.now c.in-IfElse.at c.in-IfElse.condition c.in-IfElse.close c.in-IfElse.braces c.in-IfElse.body c.in-IfElse.other_at c.in-IfElse.other_braces c.in-IfElse.other c.in-IfElse.end c.in-IfElse.is))
