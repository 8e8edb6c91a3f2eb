use Rattle.std.proofs.Common.{rules, w64, sym}
use mir.Val.{SFits}
use Rattle.store_parts.proofs.Longs.{long_fits}
use Rattle.store_parts.proofs.limits.is_long.Goals as goal

pub returns : goal.returns
returns c =
    let f : SFits w64 c.args.n = search rules in
    sym (long_fits c.args.n f)
