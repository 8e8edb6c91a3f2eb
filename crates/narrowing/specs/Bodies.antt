-- What of a for-each may be narrowed: its table and its condition.
use Rattle.std.specs.Prelude.{ℕ, List}
use Rattle.std.specs.declared.option.Option.{Option}
use Rattle.std.specs.declared.option.Option.TheVariants.{Some, None}
use Rattle.qbs_base.specs.declared.span.Span.{Span}
use Rattle.java_ast.specs.Tree.{Expression, Fetch, Statement, If, Statements, Nothing, Then}

-- the table that is fetched, behind the place of the fetch
abbrev pub table_fetched : Expression → Option (Span × List ℕ)
table_fetched (Fetch at name) = Some (at, name)
table_fetched _ = None

-- the condition of an `if` without `else`
abbrev pub condition_in : Statement → Option Expression
condition_in (If at c a) = Some c
condition_in _ = None

-- the condition of a body that is one `if` without `else`
abbrev pub only_condition : Statements → Option Expression
only_condition (Then s Nothing) = condition_in s
only_condition _ = None
