use Rattle.std.proofs.Common.{sym, ap, ◌∙◌}
use Rattle.view_slices.specs.Kept.{body_of}
use Rattle.view_slices.proofs.kept.body_of.Goals as goal
use Rattle.view_statements.specs.Reading.{statements}
use Rattle.view_statements.proofs.Nodes.{if_is, if_else_is, for_each_is, for_index_is, for_iterator_is, while_is, skip_is}

pub returns-in-If : goal.returns-in-If
returns-in-If c =
    ap statements c.as_slice.ensures.value
    ∙ sym (ap body_of (if_is c.args.st.now c.in-If.at c.in-If.condition c.in-If.close c.in-If.braces c.in-If.body c.in-If.end c.in-If.is))

pub returns-in-IfElse : goal.returns-in-IfElse
returns-in-IfElse c =
    ap statements c.as_slice-in-IfElse.ensures.value
    ∙ sym (ap body_of (if_else_is c.args.st.now c.in-IfElse.at c.in-IfElse.condition c.in-IfElse.close c.in-IfElse.braces c.in-IfElse.body c.in-IfElse.other_at c.in-IfElse.other_braces c.in-IfElse.other c.in-IfElse.end c.in-IfElse.is))

pub returns-in-ForEach : goal.returns-in-ForEach
returns-in-ForEach c =
    ap statements c.as_slice-in-ForEach.ensures.value
    ∙ sym (ap body_of (for_each_is c.args.st.now c.in-ForEach.at c.in-ForEach.inferred c.in-ForEach.name c.in-ForEach.java c.in-ForEach.walked c.in-ForEach.close c.in-ForEach.braces c.in-ForEach.body c.in-ForEach.end c.in-ForEach.is))

pub returns-in-ForIndex : goal.returns-in-ForIndex
returns-in-ForIndex c =
    ap statements c.as_slice-in-ForIndex.ensures.value
    ∙ sym (ap body_of (for_index_is c.args.st.now c.in-ForIndex.at c.in-ForIndex.list c.in-ForIndex.first c.in-ForIndex.name c.in-ForIndex.java c.in-ForIndex.body c.in-ForIndex.close c.in-ForIndex.end c.in-ForIndex.is))

pub returns-in-ForIterator : goal.returns-in-ForIterator
returns-in-ForIterator c =
    ap statements c.as_slice-in-ForIterator.ensures.value
    ∙ sym (ap body_of (for_iterator_is c.args.st.now c.in-ForIterator.at c.in-ForIterator.list c.in-ForIterator.name c.in-ForIterator.java c.in-ForIterator.body c.in-ForIterator.close c.in-ForIterator.end c.in-ForIterator.is))

pub returns-in-While : goal.returns-in-While
returns-in-While c =
    ap statements c.as_slice-in-While.ensures.value
    ∙ sym (ap body_of (while_is c.args.st.now c.in-While.at c.in-While.condition c.in-While.close c.in-While.braces c.in-While.body c.in-While.end c.in-While.is))

pub returns-in-Skip : goal.returns-in-Skip
returns-in-Skip c =
    ap statements c.as_slice-in-Skip.ensures.value
    ∙ sym (ap body_of (skip_is c.args.st.now c.in-Skip.at c.in-Skip.condition c.in-Skip.close c.in-Skip.braces c.in-Skip.rest c.in-Skip.end c.in-Skip.is))
