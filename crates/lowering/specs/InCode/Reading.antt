-- What the code holds as plain records.
use Rattle.std.specs.Prelude.{map}
use Rattle.java_mean.specs.Visible.{type_at}
use Rattle.java_types.specs.Texts.{read_by}
use Rattle.java_loops.specs.Kernel.Setting.{Setting}
use Rattle.loop_setting.specs.Reading.{fragment_in_code}
use Rattle.loop_setting.specs.declared.places.setting.Setting as settings
use Rattle.loop_text.specs.Sites.Reading.{site_of}

abbrev pub setting_in_code : settings.Setting → Setting
setting_in_code w = record { schema = w.schema.now; read = read_by w.schema.now; types = type_at w.fragment.types.now; fragment = fragment_in_code w.fragment; sites = map site_of w.sites.now }
