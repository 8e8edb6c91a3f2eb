use Rattle.std.proofs.Common.{◌≡◌, OnOk, [], ◌∷◌, ◌++◌, codes, map, ap, ap₂, subst, ◌∙◌}
use Rattle.java_ast.specs.declared.tree.Op.TheVariants as ops
use Rattle.java_ast.specs.Reading.{method}
use Rattle.java_ast.specs.Tree.{Assign, Binary}
use Rattle.sample.specs.declared.build.Given.TheVariants as given
use Rattle.sample.specs.Class.{nowhere, one, over_users}
use Rattle.sample.specs.Given.{given_type, given_start}
use Rattle.sample.proofs.class.put_total.Goals as goal

pub returns : goal.returns
returns c =
    let sum = c.in_ok-binary.ensures ∙ ap₂ (Binary nowhere ops.Add) c.in_ok-sum.ensures c.in_ok-age.ensures in
    let body = c.in_ok-body.ensures ∙ ap (λ value. one (Assign nowhere (codes "sum") value)) sum in
    subst (λ ss. OnOk c.over_users.result (map method c.over_users.new.methods ≡ map method c.args.methods.now ++ over_users (given_type given.Sum) (codes "total") (codes "sum") (given_start given.Sum) ss ∷ [])) body c.over_users.ensures
