use Rattle.std.proofs.Common.{map}
use Rattle.std.proofs.lemmas.Result.{IfOk-weaker}
use Rattle.java_ast.specs.Reading.{expression}
use Rattle.rewrite_core.proofs.Arguing.{arguments_are}
use Rattle.rewrite_core.proofs.values.arguments_of.Goals as goal

pub returns : goal.returns
returns c = IfOk-weaker c.list_entries.result _ _ (λ es. arguments_are c.args.at (map expression c.args.entries.now) es.items c.args.numbers.now) c.list_entries.ensures
