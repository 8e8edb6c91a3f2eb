-- Names that a list holds and finds.
use Rattle.std.specs.Prelude.{◌≡◌}
use Rattle.loop_setting.specs.declared.kept.name_list.NameList.{NameList}
use Rattle.java_mean.specs.Visible.{names_seen}
use Rattle.java_ast.specs.Names.{names_lent}

-- the names that are found are those that are held
abbrev pub IsListed : NameList → Type 0
IsListed l = names_seen l.seen ≡ names_lent l.names
