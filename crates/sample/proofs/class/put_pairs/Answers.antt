use Rattle.std.proofs.Common.{◌≡◌, OnOk, [], ◌∷◌, ◌++◌, codes, map, ap, ap₂, subst, ◌∙◌}
use Rattle.java_ast.specs.declared.tree.Op.TheVariants as ops
use Rattle.java_ast.specs.Path.{and_then}
use Rattle.java_ast.specs.Reading.{expression, method, statements}
use Rattle.java_ast.specs.Tree.{Binary}
use Rattle.sample.specs.declared.build.Given.TheVariants as given
use Rattle.sample.specs.Class.{nowhere, one, adding, where_so, over_rows, over_users}
use Rattle.sample.specs.Given.{given_type, given_start}
use Rattle.sample_data.specs.Tables.{Role}
use Rattle.sample.proofs.class.put_pairs.Goals as goal

pub returns : goal.returns
returns c =
    let ordered = ap (λ p. Binary nowhere ops.Eq (expression p.0.value) (expression p.1.value)) c.operands-left.ensures in
    let cond = c.in_ok-cond.ensures ∙ ordered ∙ ap₂ (Binary nowhere ops.Eq) c.in_ok-user.ensures c.in_ok-role.ensures in
    let add = c.in_ok-add.ensures ∙ ap (λ value. one (adding (codes "out") value)) c.in_ok-field.ensures in
    let walked = c.in_ok-walked.ensures ∙ ap₂ (λ test yes. one (where_so test yes)) cond add in
    let body = c.in_ok-put_walk.ensures ∙ ap₂ (λ before ss. and_then before (one (over_rows Role (codes "r") ss))) (ap statements c.new-body.ensures.items) walked in
    subst (λ ss. OnOk c.over_users.result (map method c.over_users.new.methods ≡ map method c.args.methods.now ++ over_users (given_type given.Texts) (codes "pairs") (codes "out") (given_start given.Texts) ss ∷ [])) body c.over_users.ensures
