use Rattle.std.proofs.Common.{map}
use Rattle.loop_text.specs.Sites.Reading.{site_of}
use Rattle.loop_text.proofs.Indexed.IndexedUnder.{others_under}
use Rattle.loop_text.proofs.updates.best.has_update_under.Goals as goal

pub returns : goal.returns
returns c = others_under (map site_of c.args.all.now) c.args.n c.args.number c.updates_under.result.now c.some_other.result c.updates_under.ensures c.some_other.ensures
