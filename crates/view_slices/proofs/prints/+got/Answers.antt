use Rattle.std.proofs.Common.{List, ap, ◌∙◌}
use Rattle.view_rules.specs.Setting.{within_of}
use Rattle.view_slices.specs.Slices.{got_by_some}
use Rattle.view_slices.proofs.Got.{if_got, each_got, index_got, iterator_got, while_got, skip_got, first_got, second_got}
use Rattle.view_slices.proofs.prints.+got.Goals as goal
use Rattle.view_statements.specs.declared.statement.Statement.{Statement}
use Rattle.view_statements.specs.Reading.{statements}

pub got_by-returns-in-If : goal.got_by-returns-in-If
got_by-returns-in-If t c =
    if_got (within_of c.args.w.now) c.args.x.now c.args.st.now c.in-If.at c.in-If.condition c.in-If.close c.in-If.braces c.in-If.body c.in-If.end c.got_by_some.result c.in-If.is
    (c.got_by_some.ensures ∙ ap (λ (l : List Statement). got_by_some (within_of c.args.w.now) c.args.x.now (statements l)) c.as_slice.ensures.value)

pub got_by-returns-in-ForEach : goal.got_by-returns-in-ForEach
got_by-returns-in-ForEach t c =
    each_got (within_of c.args.w.now) c.args.x.now c.args.st.now c.in-ForEach.at c.in-ForEach.inferred c.in-ForEach.name c.in-ForEach.java c.in-ForEach.walked c.in-ForEach.close c.in-ForEach.braces c.in-ForEach.body c.in-ForEach.end c.got_by_some-in-ForEach.result c.in-ForEach.is
    (c.got_by_some-in-ForEach.ensures ∙ ap (λ (l : List Statement). got_by_some (within_of c.args.w.now) c.args.x.now (statements l)) c.as_slice-in-ForEach.ensures.value)

pub got_by-returns-in-ForIndex : goal.got_by-returns-in-ForIndex
got_by-returns-in-ForIndex t c =
    index_got (within_of c.args.w.now) c.args.x.now c.args.st.now c.in-ForIndex.at c.in-ForIndex.list c.in-ForIndex.first c.in-ForIndex.name c.in-ForIndex.java c.in-ForIndex.body c.in-ForIndex.close c.in-ForIndex.end c.got_by_some-in-ForIndex.result c.in-ForIndex.is
    (c.got_by_some-in-ForIndex.ensures ∙ ap (λ (l : List Statement). got_by_some (within_of c.args.w.now) c.args.x.now (statements l)) c.as_slice-in-ForIndex.ensures.value)

pub got_by-returns-in-ForIterator : goal.got_by-returns-in-ForIterator
got_by-returns-in-ForIterator t c =
    iterator_got (within_of c.args.w.now) c.args.x.now c.args.st.now c.in-ForIterator.at c.in-ForIterator.list c.in-ForIterator.name c.in-ForIterator.java c.in-ForIterator.body c.in-ForIterator.close c.in-ForIterator.end c.got_by_some-in-ForIterator.result c.in-ForIterator.is
    (c.got_by_some-in-ForIterator.ensures ∙ ap (λ (l : List Statement). got_by_some (within_of c.args.w.now) c.args.x.now (statements l)) c.as_slice-in-ForIterator.ensures.value)

pub got_by-returns-in-While : goal.got_by-returns-in-While
got_by-returns-in-While t c =
    while_got (within_of c.args.w.now) c.args.x.now c.args.st.now c.in-While.at c.in-While.condition c.in-While.close c.in-While.braces c.in-While.body c.in-While.end c.got_by_some-in-While.result c.in-While.is
    (c.got_by_some-in-While.ensures ∙ ap (λ (l : List Statement). got_by_some (within_of c.args.w.now) c.args.x.now (statements l)) c.as_slice-in-While.ensures.value)

pub got_by-returns-in-Skip : goal.got_by-returns-in-Skip
got_by-returns-in-Skip t c =
    skip_got (within_of c.args.w.now) c.args.x.now c.args.st.now c.in-Skip.at c.in-Skip.condition c.in-Skip.close c.in-Skip.braces c.in-Skip.rest c.in-Skip.end c.got_by_some-in-Skip.result c.in-Skip.is
    (c.got_by_some-in-Skip.ensures ∙ ap (λ (l : List Statement). got_by_some (within_of c.args.w.now) c.args.x.now (statements l)) c.as_slice-in-Skip.ensures.value)

pub got_by-returns-then-got_by_some : goal.got_by-returns-then-got_by_some
got_by-returns-then-got_by_some t c =
    first_got (within_of c.args.w.now) c.args.x.now c.args.st.now c.in-IfElse.at c.in-IfElse.condition c.in-IfElse.close c.in-IfElse.braces c.in-IfElse.body
    c.in-IfElse.other_at c.in-IfElse.other_braces c.in-IfElse.other c.in-IfElse.end c.got_by_some-in-IfElse.result c.in-IfElse.is
    (c.got_by_some-in-IfElse.ensures ∙ ap (λ (l : List Statement). got_by_some (within_of c.args.w.now) c.args.x.now (statements l)) c.as_slice-in-IfElse.ensures.value)
    c.if-got_by_some.true

pub got_by-returns-else-got_by_some : goal.got_by-returns-else-got_by_some
got_by-returns-else-got_by_some t c =
    second_got (within_of c.args.w.now) c.args.x.now c.args.st.now c.in-IfElse.at c.in-IfElse.condition c.in-IfElse.close c.in-IfElse.braces c.in-IfElse.body
    c.in-IfElse.other_at c.in-IfElse.other_braces c.in-IfElse.other c.in-IfElse.end c.got_by_some-in-IfElse.result c.got_by_some-else-got_by_some.result c.in-IfElse.is
    (c.got_by_some-in-IfElse.ensures ∙ ap (λ (l : List Statement). got_by_some (within_of c.args.w.now) c.args.x.now (statements l)) c.as_slice-in-IfElse.ensures.value)
    c.if-got_by_some.false
    (c.got_by_some-else-got_by_some.ensures ∙ ap (λ (l : List Statement). got_by_some (within_of c.args.w.now) c.args.x.now (statements l)) c.as_slice-else-got_by_some.ensures.value)
