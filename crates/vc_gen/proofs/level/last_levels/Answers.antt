use Rattle.std.proofs.Common.{◌≡◌, length, min, rules, arith}
use Rattle.std.proofs.lemmas.Grind.{common_steps}
use Rattle.kernel_lang.proofs.Dropped.{last_of}
use Rattle.vc_gen.specs.Levels.{layer_seen}
use Rattle.vc_gen.proofs.level.last_levels.Goals as goal

pub returns : goal.returns
returns c =
    let e : c.min.result ≡ min c.args.n (length c.args.levels.now) = first_of (search rules, grind (arith, common_steps)) in
    last_of layer_seen c.args.n c.min.result c.args.levels.now e
