-- Conditions that are no chains.
use Rattle.std.specs.Prelude.{Bool, true, false}
use Rattle.sql_ast.specs.Written.{WrittenCondition, Both, Either, Not, Compare, Bare, Exists, Within}

-- no AND, OR or NOT of others
abbrev pub is_part : WrittenCondition → Bool
is_part (Both a b) = false
is_part (Either a b) = false
is_part (Not a) = false
is_part (Compare cmp a b) = true
is_part (Bare col) = true
is_part (Exists parts filter_) = true
is_part (Within opnd negated col parts filter_) = true
