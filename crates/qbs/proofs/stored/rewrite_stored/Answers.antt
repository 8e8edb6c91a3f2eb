use Rattle.java_ast.specs.Reading.{program as plain_program}
use Rattle.qbs.proofs.Banked.{rewritten_by_bank}
use Rattle.qbs.proofs.stored.rewrite_stored.Goals as goal

pub returns : goal.returns
returns g c =
    rewritten_by_bank _ _ _ c.args.bank.now c.args.schema.now c.args.size c.args.budget c.args.source.now (plain_program c.args.typed.now.program) c.rewrite_with.result
    (λ f k a h. c.requires.exact f k a h) c.rewrite_with.ensures
