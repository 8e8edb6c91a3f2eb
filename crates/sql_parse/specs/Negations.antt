-- A condition behind some NOTs.
use Rattle.std.specs.Prelude.{ℕ, zero, suc, if◌then◌else◌, List, [], ◌∷◌, codes}
use Rattle.sql_ast.specs.Reader.{is_word}
use Rattle.sql_ast.specs.Tokens.{Token}
use Rattle.sql_ast.specs.Written.{WrittenCondition, Not}

-- how many NOTs stand at the front, and what stands behind them
unfoldable pub negations : List Token → ℕ × List Token
negations [] = (0, [])
negations (t ∷ ts) = if is_word (codes "NOT") t then (suc (negations ts).0, (negations ts).1) else (0, t ∷ ts)

unfoldable pub nots : ℕ → WrittenCondition → WrittenCondition
nots zero a = a
nots (suc n) a = Not (nots n a)
