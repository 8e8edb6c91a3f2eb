use Rattle.std.proofs.Common.{map}
use Rattle.loop_text.specs.Kernel.KernelStatements.{updates_local}
use Rattle.loop_text.specs.Sites.Reading.{form_in_code, site_of}
use Rattle.loop_text.proofs.Indexed.IndexedFirst.{form_first}
use Rattle.loop_text.proofs.updates.starts.form_of_flag.Goals as goal

pub returns : goal.returns
returns c = form_first (map site_of c.args.all.now) (updates_local (map site_of c.args.all.now) c.args.d) c.flag_updates.result.now (form_in_code c.form_of_first.result) c.flag_updates.ensures c.form_of_first.ensures
