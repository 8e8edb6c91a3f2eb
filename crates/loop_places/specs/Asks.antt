-- What the tests round a place ask.
use Rattle.std.specs.Prelude.{ℕ, Bool, nat_eq, if◌then◌else◌}
use Rattle.std.specs.declared.option.Option.{Option}
use Rattle.std.specs.declared.option.Option.TheVariants.{Some, None}
use Rattle.java_ast.specs.Reading.{expression}
use Rattle.java_ast.specs.Tree.{Expression}
use Rattle.loop_places.specs.declared.asks.Asks as code
use Rattle.loop_text.specs.Sites.Sites.{Test}

-- the number of an `if` among the sites, its condition, and whether that has to hold
pub record Asks : Type 0 where
  pub number : ℕ
  pub holds : Bool
  pub condition : Expression

abbrev pub asks_of : code.Asks → Asks
asks_of a = record { number = a.number; holds = a.holds; condition = expression a.condition.now }

-- what a test asks at this level, where it stands there
abbrev pub asked_at : Test → ℕ → Option Asks
asked_at t level = if nat_eq t.level level then Some (record { number = t.number; holds = t.holds; condition = t.condition }) else None
