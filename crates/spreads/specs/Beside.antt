-- What a for-each and the statements behind it name, its list left out.
use Rattle.std.specs.Prelude.{ℕ, List, ◌∷◌, ◌++◌}
use Rattle.java_ast.specs.Names.{Names, mentioned_among}
use Rattle.java_ast.specs.Tree.{Statements}
use Rattle.spreads.specs.Alone.{all_declared_within}

-- of a for-each with this variable and body
abbrev pub beside : List ℕ → Statements → Statements → Names
beside y body p = (mentioned_among body ++ mentioned_among p) ++ ((y ∷ all_declared_within body) ++ all_declared_within p)
