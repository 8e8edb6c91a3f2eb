use Rattle.std.specs.Prelude.{◌++◌}
use Rattle.std.proofs.Common.{◌∙◌, ap, sym, take, drop, map-id}
use Rattle.std.proofs.lemmas.Iterator.{items_from_drains}
use Rattle.std.proofs.lemmas.Iterator.Adapters.{YieldsList-from_vec}
use Rattle.java_ast.proofs.lists.put_between.Goals as goal

pub returns : goal.returns
returns g c =
    let got = c.in_ok-splice.ensures.items in
    let made = got.2 in
    let drained = got.3 in
    let long = c.args.others.ok in
    let same = sym (map-id got.1) ∙ items_from_drains got.1 (drained.1.0, drained.1.1, λ _. (drained.0, drained.1.2)) (YieldsList-from_vec c.args.others.items made.0 (made.1 ∙ long.0)) in
    got.4 ∙ ap (λ l. take c.args.start c.args.list.now.items ++ (l ++ drop c.args.end c.args.list.now.items)) same
