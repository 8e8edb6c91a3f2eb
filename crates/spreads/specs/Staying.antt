-- What stays as it is in a loop: expressions in which no variable is assigned there.
use Rattle.std.specs.Prelude.{[], ◌∷◌, ◌++◌, Bool, true, false, not, ◌&&◌}
use Rattle.java_ast.specs.Names.{Names, is_among}
use Rattle.java_ast.specs.Tree.{Expression, Lit, Var, Field, Expressions, NoMore, And, Statement, Assign, If, IfElse, ForEach, While, Statements, Nothing, Then}

-- the targets of assignments, at any depth
abbrev mutual
  pub assigned_in : Statement → Names
  assigned_in (Assign at x e) = x ∷ []
  assigned_in (If at c a) = assigned_among a
  assigned_in (IfElse at c a b) = assigned_among a ++ assigned_among b
  assigned_in (ForEach at ty x e b) = assigned_among b
  assigned_in (While at c b) = assigned_among b
  assigned_in _ = []

  pub assigned_among : Statements → Names
  assigned_among Nothing = []
  assigned_among (Then s ss) = assigned_in s ++ assigned_among ss

-- a literal, a variable or a field of a row variable, where the variable isn't assigned
abbrev pub stays : Names → Expression → Bool
stays assigned (Lit at value) = true
stays assigned (Var at x) = not (is_among assigned x)
stays assigned (Field at (Var at' x) column) = not (is_among assigned x)
stays assigned _ = false

abbrev pub all_stay : Names → Expressions → Bool
all_stay assigned NoMore = true
all_stay assigned (And e es) = stays assigned e && all_stay assigned es
