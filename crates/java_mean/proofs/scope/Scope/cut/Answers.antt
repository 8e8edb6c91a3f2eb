use Rattle.std.proofs.Common.{◌∙◌, ap, take}
use Rattle.java_mean.proofs.Scoped.{cut_lem, seen}
use Rattle.java_mean.proofs.scope.Scope.cut.Goals as goal

pub returns : goal.returns
returns c = ap seen c.truncate.ensures.entries ∙ cut_lem c.args.len c.self.inside.names.entries ∙ ap (take c.args.len) c.self.view_is
