use Rattle.std.proofs.Common.{List, ◌∙◌, ap, sym}
use Rattle.java_ast.specs.declared.tree.Stmt.{Stmt}
use Rattle.java_ast.specs.Reading.{statements}
use Rattle.java_ast.specs.Path.{first_branch, either_branch, branch_of}
use Rattle.java_ast.proofs.Nodes.{if_is, if_else_is, for_each_is, while_is}
use Rattle.java_ast.proofs.path.branch.Goals as goal

pub returns-in-None : goal.returns-in-None
returns-in-None c =
    c.only_branch.ensures
    ∙ ap (λ (ss : List Stmt). first_branch c.args.number (statements ss)) c.deref.ensures.value
    ∙ ap (branch_of c.args.number) (sym (if_is c.args.s.now c.in-If.cond c.in-If.yes c.in-If.other c.in-If.is c.in-None.is))

pub returns-in-Some : goal.returns-in-Some
returns-in-Some c =
    c.one_branch.ensures
    ∙ ap (λ (ss : List Stmt). either_branch c.args.number (statements ss) (statements c.deref-in-Some-2.result.now)) c.deref-in-Some.ensures.value
    ∙ ap (λ (ss : List Stmt). either_branch c.args.number (statements c.in-If.yes.items) (statements ss)) c.deref-in-Some-2.ensures.value
    ∙ ap (branch_of c.args.number) (sym (if_else_is c.args.s.now c.in-If.cond c.in-If.yes c.in-Some.other c.in-If.other c.in-If.is c.in-Some.is))

pub returns-in-ForEach : goal.returns-in-ForEach
returns-in-ForEach c =
    c.only_branch-in-ForEach.ensures
    ∙ ap (λ (ss : List Stmt). first_branch c.args.number (statements ss)) c.deref-in-ForEach.ensures.value
    ∙ ap (branch_of c.args.number) (sym (for_each_is c.args.s.now c.in-ForEach.ty c.in-ForEach.name c.in-ForEach.list c.in-ForEach.body c.in-ForEach.is))

pub returns-in-While : goal.returns-in-While
returns-in-While c =
    c.only_branch-in-While.ensures
    ∙ ap (λ (ss : List Stmt). first_branch c.args.number (statements ss)) c.deref-in-While.ensures.value
    ∙ ap (branch_of c.args.number) (sym (while_is c.args.s.now c.in-While.cond c.in-While.body c.in-While.is))
