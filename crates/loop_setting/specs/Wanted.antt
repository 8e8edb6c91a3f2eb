-- How the wanted variables of a fragment are found: which to begin with, and which follow from one.
use Rattle.std.specs.Prelude.{ℕ, Bool, true, ◌&&◌, List}
use Rattle.std.specs.Map.{lookup}
use Rattle.std.specs.Str.{bytes_eq}
use Rattle.java_ast.specs.Tree.{Statement, Statements, Nothing, Then}
use Rattle.loop_setting.specs.declared.kept.setters.Setters.{Setters}
use Rattle.loop_text.specs.Statements.Fragment.{Fragment, is_dropped}
use Rattle.loop_text.specs.Statements.Wanted.{found}
pub use Rattle.loop_text.specs.Statements.Wanted.{AreWanted, HasAll, HasFollowing, drops, following, keeps_setting, keeps_visible, kept_numbers, mentioned_by_visible, mentioned_where, setting, wanted_first}

-- the statements under a name
abbrev pub under : Setters → List ℕ → List Statement
under setters x = found (lookup (λ k. bytes_eq x k.now) setters.groups.entries)

-- whether all of these statements are dropped
abbrev pub all_dropped : Fragment → Statements → Bool
all_dropped f Nothing = true
all_dropped f (Then s ss) = is_dropped f s && all_dropped f ss
