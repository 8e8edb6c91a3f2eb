use Rattle.std.proofs.Common.{map}
use Rattle.loop_setting.specs.Reading.{fragment_in_code}
use Rattle.loop_text.specs.Sites.Reading.{site_of}
use Rattle.lowering.proofs.Located.SettingThere.{setting_built}
use Rattle.lowering.proofs.lowered_there.setting_there.Goals as goal

pub returns : goal.returns
returns c =
    setting_built c.args.schema.now c.fragment.result.types.now (fragment_in_code c.fragment.result) (map site_of c.args.sites.now) c.args.there.now c.fragment.ensures.types c.fragment.ensures.fragment c.requires
