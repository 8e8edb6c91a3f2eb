use Rattle.std.proofs.Common.{map}
use Rattle.loop_text.specs.Sites.Reading.{site_of}
use Rattle.loop_text.proofs.Indexed.IndexedBreaks.{besides}
use Rattle.loop_text.proofs.updates.targets.is_beside_some_break.Goals as goal

pub returns : goal.returns
returns c = besides (map site_of c.args.all.now) c.args.n (site_of c.args.s.now) c.as_slice.result.now c.some_ends_elsewhere.result c.as_slice.ensures c.some_ends_elsewhere.ensures
