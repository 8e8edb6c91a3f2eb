use Rattle.std.proofs.Common.{◌∙◌, ap, take}
use Rattle.java_types.proofs.Lent.{lent, take_lent}
use Rattle.java_types.proofs.walked.Walked.cut.Goals as goal

pub returns : goal.returns
returns c = ap lent c.truncate.ensures.items ∙ take_lent c.args.len c.self.inside.names.items ∙ ap (take c.args.len) c.self.view_is
