use Rattle.std.proofs.Common.{map}
use Rattle.loop_text.specs.Sites.Reading.{site_of}
use Rattle.loop_text.proofs.Indexed.BoundFound.{bindings_rise, bound_found}
use Rattle.loop_text.proofs.sites.bindings.binding_at.Goals as goal

pub last_below-requires : goal.last_below-requires
last_below-requires c = bindings_rise c.args.x.now (map site_of c.args.sites.now) c.bindings.result.now c.bindings.ensures

pub returns : goal.returns
returns c = bound_found c.args.x.now c.args.n (map site_of c.args.sites.now) c.bindings.result.now c.last_below.result c.bindings.ensures c.last_below.ensures
