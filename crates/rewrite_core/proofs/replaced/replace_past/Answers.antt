use Rattle.std.proofs.Common.{false, [], refl}
use Rattle.java_ast.specs.Reading.{program as plain_program}
use Rattle.rewrite_core.proofs.AllTries.{all_replaced}
use Rattle.rewrite_core.proofs.replaced.replace_past.Goals as goal

pub returns : goal.returns
returns g c =
    all_replaced _ _ c.args.schema.now c.args.size c.args.budget [] (plain_program c.args.typed.now.program) false c.in_ok-all.all c.in_ok-all.ensures c.in_ok-all.all.verdicts c.in_ok-all.all.program refl refl c.requires.typed
