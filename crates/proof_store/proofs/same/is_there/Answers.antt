use Rattle.std.proofs.Common.{◌∙◌}
use Rattle.qbs_base.specs.Tables.{NamedRows}
use Rattle.proof_store.proofs.Equal.{is_below}
use Rattle.proof_store.proofs.same.is_there.Goals as goal

pub returns : goal.returns
returns c = c.is_some.ensures ∙ is_below (λ (t : NamedRows). t.0) c.args.db.now c.args.n c.name.result c.name.ensures
