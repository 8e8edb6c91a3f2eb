use Rattle.std.proofs.Common.{◌∙◌, List, ap}
use Rattle.std.proofs.lemmas.Result.{IfOk-weaker}
use Rattle.java_ast.specs.declared.tree.Stmt.{Stmt}
use Rattle.java_ast.specs.Reading.{expression, statements}
use Rattle.java_ast.specs.Tree.{Nothing, Then}
use Rattle.java_calls.specs.Inlining.{last_value}
use Rattle.java_calls.specs.Renaming.{renamed}
use Rattle.renamed_copies.specs.Renamings.{renaming_of}
use Rattle.inlining.specs.declared.counts.Walked.TheVariants as answers
use Rattle.inlining.specs.Walked.{giving}
use Rattle.inlining.proofs.Arguments.{put_one, put_as, put_nothing, ended_kept, ended_none, ended_some, giving_size, type_in}
use Rattle.inlining.proofs.helper.put_ended.Goals as goal

pub returns-in-Some : goal.returns-in-Some
returns-in-Some c = λ e.
    put_as answers.Pushed Nothing _ c.args.counts.now c.args.counts.now (statements c.args.out.now.items) (statements c.args.out.now.items)
    (ended_kept (renaming_of c.args.f.now) (giving c.args.span (type_in c.args.ty) c.args.name.now e) (renaming_of c.args.g.now) c.args.kept c.in-Some.field-0 (last_value (statements c.args.m.now.body)) c.in-Some.is)
    (put_nothing c.args.counts.now (statements c.args.out.now.items))

pub returns-in-None-last_value : goal.returns-in-None-last_value
returns-in-None-last_value c = λ e.
    put_as answers.Pushed Nothing _ c.args.counts.now c.args.counts.now (statements c.args.out.now.items) (statements c.args.out.now.items)
    (ended_none (renaming_of c.args.f.now) (giving c.args.span (type_in c.args.ty) c.args.name.now e) (renaming_of c.args.g.now) c.args.kept (last_value (statements c.args.m.now.body)) c.in-None.is
    (c.in-None-last_value.ensures ∙ ap (λ (l : List Stmt). last_value (statements l)) c.as_slice.ensures))
    (put_nothing c.args.counts.now (statements c.args.out.now.items))

pub returns-in-Some-last_value : goal.returns-in-Some-last_value
returns-in-Some-last_value c =
    IfOk-weaker c.push_giving.result _ _ (λ w h e.
    put_as w (Then (giving c.args.span (type_in c.args.ty) (renaming_of c.args.f.now c.args.name.now) (renamed (renaming_of c.args.g.now) (expression c.in-Some-last_value.value.now))) Nothing) _ c.args.counts.now c.push_giving.new.counts (statements c.args.out.now.items) (statements c.push_giving.new.out.items)
    (ended_some (renaming_of c.args.f.now) (renaming_of c.args.g.now) c.args.span (type_in c.args.ty) c.args.name.now e (expression c.in-Some-last_value.value.now) c.args.kept (last_value (statements c.args.m.now.body)) c.in-None.is
    (c.in-Some-last_value.ensures ∙ ap (λ (l : List Stmt). last_value (statements l)) c.as_slice.ensures))
    (put_one w (giving c.args.span (type_in c.args.ty) (renaming_of c.args.f.now c.args.name.now) (renamed (renaming_of c.args.g.now) (expression c.in-Some-last_value.value.now))) c.args.counts.now c.push_giving.new.counts (statements c.args.out.now.items) (statements c.push_giving.new.out.items)
    (giving_size c.args.span (type_in c.args.ty) (renaming_of c.args.f.now c.args.name.now) (renamed (renaming_of c.args.g.now) (expression c.in-Some-last_value.value.now))) h)) c.push_giving.ensures
