use Rattle.std.proofs.Common.{◌∙◌}
use Rattle.java_mean.proofs.Scoped.{has_lem}
use Rattle.java_mean.proofs.scope.Scope.has.Goals as goal

pub returns : goal.returns
returns c = c.contains_key.ensures ∙ has_lem c.as_slice.result.now c.self.inside.names.entries ∙ rw (c.as_slice.ensures, c.self.view_is)
