use Rattle.std.proofs.Common.{[], ◌∷◌, ap, ◌∙◌}
use Rattle.java_ast.specs.Path.{and_then}
use Rattle.java_ast.specs.Reading.{statement, statements}
use Rattle.java_ast.proofs.Joined.{appended}
use Rattle.sample.specs.Class.{one}
use Rattle.sample.proofs.build.put.Goals as goal

pub returns : goal.returns
returns c =
    ap statements c.in_ok-push.ensures.items
    ∙ appended c.args.block.now.items (record { span = c.nowhere-span.result; node = c.args.node } ∷ [])
    ∙ ap (λ at. and_then (statements c.args.block.now.items) (one (statement (record { span = at; node = c.args.node })))) c.nowhere-span.ensures
