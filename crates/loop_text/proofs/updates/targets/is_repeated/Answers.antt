use Rattle.std.specs.Option.{option_copied}
use Rattle.std.proofs.Common.{map}
use Rattle.loop_text.specs.Sites.Reading.{site_of}
use Rattle.loop_text.proofs.Indexed.IndexedRepeats.{repeats}
use Rattle.loop_text.proofs.updates.targets.is_repeated.Goals as goal

pub returns : goal.returns
returns c = repeats (map site_of c.args.all.now) c.args.n (site_of c.args.s.now) (option_copied c.target_of.result) c.is_repeated_target.result c.target_of.ensures c.is_repeated_target.ensures
