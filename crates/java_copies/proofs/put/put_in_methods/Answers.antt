use Rattle.std.proofs.lemmas.Result.{on_ok_weaker}
use Rattle.java_ast.specs.Tree.{PlainMethod}
use Rattle.java_ast.specs.Reading.{statements}
use Rattle.java_ast.specs.Path.{with_body, replaced_in}
use Rattle.java_copies.proofs.Moved.{method_set, no_method_set}
use Rattle.java_copies.proofs.put.put_in_methods.Goals as goal

pub returns-in_default : goal.returns-in_default
returns-in_default c =
    no_method_set c.args.at (λ (m : PlainMethod). with_body m (replaced_in c.args.path.now c.args.number c.args.first (statements c.args.others.items) m.body)) c.args.methods.now.items c.in_default.ensures.item.3

pub returns : goal.returns
returns c =
    on_ok_weaker c.put_in_method.result (method_set c.args.at (λ (m : PlainMethod). with_body m (replaced_in c.args.path.now c.args.number c.args.first (statements c.args.others.items) m.body)) c.args.methods.now.items c.in-Some.m.now c.put_in_method.new.m c.in-Some.m.now
    c.in-Some.ensures.item.3.0 c.in-Some.ensures.item.1) c.put_in_method.ensures
