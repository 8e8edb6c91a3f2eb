-- A list that is declared for one for-each.
use Rattle.std.specs.Prelude.{ℕ, List, [], ◌∷◌, ◌++◌, Bool, false, ◌&&◌, length, nat_eq}
use Rattle.std.specs.List.{filter}
use Rattle.std.specs.Str.{bytes_eq}
use Rattle.java_ast.specs.Names.{Names, mentioned_among}
use Rattle.java_ast.specs.Tree.{Expression, Var, Statement, Declare, If, IfElse, ForEach, While, Statements, Nothing, Then}

-- the names that a statement declares, at any depth
abbrev mutual
  pub declared_within : Statement → Names
  declared_within (Declare at ty x e) = x ∷ []
  declared_within (If at c a) = all_declared_within a
  declared_within (IfElse at c a b) = all_declared_within a ++ all_declared_within b
  declared_within (ForEach at ty x e b) = x ∷ all_declared_within b
  declared_within (While at c b) = all_declared_within b
  declared_within _ = []

  pub all_declared_within : Statements → Names
  all_declared_within Nothing = []
  all_declared_within (Then s ss) = declared_within s ++ all_declared_within ss

-- how often statements mention or declare the name
abbrev pub times_named : List ℕ → Statements → ℕ
times_named x p = length (filter (bytes_eq x) (mentioned_among p ++ all_declared_within p))

abbrev pub is_variable : List ℕ → Expression → Bool
is_variable x (Var at y) = bytes_eq x y
is_variable x _ = false

-- the first of these statements walks the variable, and nothing else in them names it
abbrev pub walks_alone : List ℕ → Statements → Bool
walks_alone x (Then (ForEach at ty y e body) p) = is_variable x e && nat_eq (times_named x (Then (ForEach at ty y e body) p)) 1
walks_alone x _ = false
