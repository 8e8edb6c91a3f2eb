use Rattle.std.proofs.Common.{map}
use Rattle.loop_text.specs.Kernel.KernelStatements.{updates_local}
use Rattle.loop_text.specs.Sites.Reading.{site_of}
use Rattle.loop_text.proofs.Indexed.IndexedSites.{none_listed, one_listed}
use Rattle.loop_text.proofs.updates.targets.is_updated.Goals as goal

pub returns-in-None : goal.returns-in-None
returns-in-None c = none_listed (updates_local (map site_of c.args.all.now) c.args.d) (map site_of c.args.all.now) c.flag_updates.result.now c.flag_updates.ensures c.in-None.ensures.cases

pub returns-in-Some : goal.returns-in-Some
returns-in-Some c = one_listed (updates_local (map site_of c.args.all.now) c.args.d) (map site_of c.args.all.now) c.flag_updates.result.now _ _ c.flag_updates.ensures c.in-Some.ensures.cases.0
