use Rattle.std.proofs.Common.{map}
use Rattle.loop_text.specs.Sites.Reading.{site_of}
use Rattle.loop_text.proofs.Indexed.IndexedBest.{best_named}
use Rattle.loop_text.proofs.conditions.leaves.is_best.Goals as goal

pub returns : goal.returns
returns c = best_named (map site_of c.args.all.now) c.args.number c.args.m.now c.updates.result.now c.some_takes_under.result c.updates.ensures c.some_takes_under.ensures
