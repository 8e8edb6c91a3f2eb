use Rattle.std.proofs.Common.{◌≡◌, ℕ, List, rules, ap}
use Rattle.java_ast.specs.declared.tree.Op.TheVariants as ops
use Rattle.java_ast.specs.Reading.{expression}
use Rattle.java_ast.specs.Tree as plain
use Rattle.java_grammar.proofs.plain.sum.Goals as goal

pub returns-clause-ok : goal.returns-clause-ok
returns-clause-ok c =
    let same : c.in_ok-clone.field-0 ≡ c.args.name.now = search rules in
    rw (c.binary-node.ensures, c.in_ok-left.ensures.ok) (ap (λ (w : List ℕ). plain.Binary c.args.at ops.Add (plain.Var c.args.at w) (expression c.args.value.value)) same)
