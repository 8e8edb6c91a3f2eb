use Rattle.std.proofs.Common.{⊎_elim}
use Rattle.java_ast.specs.Reading.{program as plain_program}
use Rattle.rewrite_core.proofs.PrunedTries.{pruned_by}
use Rattle.rewrite_core.proofs.rewriting.rewrite_past.Goals as goal

pub returns : goal.returns
returns g c =
    pruned_by _ _ _ _ c.args.schema.now c.args.size c.args.budget c.args.source.now (plain_program c.args.typed.now.program) c.rewrite_with.result c.rewrite_with.ensures
    (λ f x d. ⊎_elim (λ x. x) (λ h. absurd (c.requires.never h.0 h.1 h.2)) d) (λ f x h. h.0)
