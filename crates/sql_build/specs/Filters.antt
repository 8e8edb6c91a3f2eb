-- Filters with more conditions.
use Rattle.sql_ast.specs.Tree.{Condition, Both, Filter, Everything, Where}

-- a WHERE with one condition more
abbrev pub with_also : Filter → Condition → Filter
with_also Everything c = Where c
with_also (Where a) c = Where (Both a c)
