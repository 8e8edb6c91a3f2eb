use Rattle.std.proofs.lemmas.Result.{on_ok_weaker}
use Rattle.java_ast.specs.Reading.{spelled, expression}
use Rattle.java_calls.specs.ProgramNames.{type_names, expression_names}
use Rattle.inlining.proofs.Noted.{given_noted}
use Rattle.inlining.proofs.names.note_declared.Goals as goal

pub returns : goal.returns
returns c =
    on_ok_weaker c.note_expression.result (given_noted c.args.name.now (type_names (spelled c.args.ty.now)) (expression_names (expression c.args.value.now)) c.args.tails.now c.put.new.self c.note_type.new.tails c.note_expression.new.tails
    c.in_ok-put.ensures c.in_ok-note_type.ensures) c.note_expression.ensures
