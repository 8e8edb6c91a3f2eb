use Rattle.std.proofs.Common.{map}
use Rattle.loop_text.specs.Kernel.KernelStarts.{updates_name}
use Rattle.loop_text.specs.Sites.Reading.{form_in_code, site_of}
use Rattle.loop_text.proofs.Indexed.IndexedFirst.{form_first}
use Rattle.loop_text.proofs.updates.starts.form_of_name.Goals as goal

pub returns : goal.returns
returns c = form_first (map site_of c.args.all.now) (updates_name c.args.x.now) c.updates.result.now (form_in_code c.form_of_first.result) c.updates.ensures c.form_of_first.ensures
