-- The names of variables that a program mentions, sets and declares.
use Rattle.std.specs.Prelude.{ℕ, Bool, List, [], ◌∷◌, ◌++◌, if◌then◌else◌, map}
use Rattle.std.specs.Borrow.{Bor}
use Rattle.std.specs.List.{flat_map, list_any}
use Rattle.std.specs.Str.{bytes_eq}
use Rattle.std.specs.declared.option.Option.{Option}
use Rattle.std.specs.declared.option.Option.TheVariants.{Some, None}
use Rattle.java_ast.specs.Tree.{Expression, Expressions, NoMore, And, Statement, Statements, Nothing, Then, PlainParam}
use Rattle.java_ast.specs.Tree as plain

abbrev pub Names : Type 0
Names = List (List ℕ)

abbrev pub is_among : Names → List ℕ → Bool
is_among names x = list_any (bytes_eq x) names

-- a name behind others, where it isn't among them
abbrev pub with_name : Names → List ℕ → Names
with_name xs x = if is_among xs x then xs else xs ++ x ∷ []

-- names behind others, each once, in the order of their first occurrences
abbrev pub with_names : Names → Names → Names
with_names xs [] = xs
with_names xs (y ∷ ys) = with_names (with_name xs y) ys

-- names that are lent
abbrev pub names_lent : List (Bor (List ℕ)) → Names
names_lent xs = map (λ x. x.now) xs

-- the names in an expression
abbrev mutual
  pub names_in : Expression → Names
  names_in (plain.Lit at value) = []
  names_in (plain.Var at x) = x ∷ []
  names_in (plain.Field at row column) = names_in row
  names_in (plain.Binary at op a b) = names_in a ++ names_in b
  names_in (plain.Not at e) = names_in e
  names_in (plain.Equals at a b) = names_in a ++ names_in b
  names_in (plain.Size at x) = x ∷ []
  names_in (plain.Get at x e) = x ∷ names_in e
  names_in (plain.Contains at x e) = x ∷ names_in e
  names_in (plain.Fetch at table) = []
  names_in (plain.Query at element text arguments) = names_among arguments
  names_in (plain.QueryLong at text arguments) = names_among arguments
  names_in (plain.QueryBoolean at text arguments) = names_among arguments
  names_in (plain.NewList at) = []
  names_in (plain.NewSet at) = []
  names_in (plain.NewSetOf at query) = names_in query

  pub names_among : Expressions → Names
  names_among NoMore = []
  names_among (And e es) = names_in e ++ names_among es

-- the names in some expressions, as those that the queries of a rewrite read
abbrev pub names_read : List Expression → Names
names_read es = flat_map names_in es

abbrev pub names_of_returned : Option Expression → Names
names_of_returned None = []
names_of_returned (Some e) = names_in e

-- The names that statements mention, other than to declare them: those in expressions, and those that
-- are assigned, added to or sorted.
abbrev mutual
  pub mentioned_in : Statement → Names
  mentioned_in (plain.Declare at ty x e) = names_in e
  mentioned_in (plain.Assign at x e) = x ∷ names_in e
  mentioned_in (plain.Add at x e) = x ∷ names_in e
  mentioned_in (plain.Sort at x keys downs) = x ∷ []
  mentioned_in (plain.If at c a) = names_in c ++ mentioned_among a
  mentioned_in (plain.IfElse at c a b) = names_in c ++ (mentioned_among a ++ mentioned_among b)
  mentioned_in (plain.ForEach at ty x e b) = names_in e ++ mentioned_among b
  mentioned_in (plain.While at c b) = names_in c ++ mentioned_among b
  mentioned_in (plain.Print at e) = names_in e
  mentioned_in (plain.Return at e) = names_of_returned e
  mentioned_in (plain.Break at) = []

  pub mentioned_among : Statements → Names
  mentioned_among Nothing = []
  mentioned_among (Then s ss) = mentioned_in s ++ mentioned_among ss

-- the names that are assigned or added to, in text order
abbrev mutual
  pub updated_in : Statement → Names
  updated_in (plain.Declare at ty x e) = []
  updated_in (plain.Assign at x e) = x ∷ []
  updated_in (plain.Add at x e) = x ∷ []
  updated_in (plain.Sort at x keys downs) = []
  updated_in (plain.If at c a) = updated_among a
  updated_in (plain.IfElse at c a b) = updated_among a ++ updated_among b
  updated_in (plain.ForEach at ty x e b) = updated_among b
  updated_in (plain.While at c b) = updated_among b
  updated_in (plain.Print at e) = []
  updated_in (plain.Return at e) = []
  updated_in (plain.Break at) = []

  pub updated_among : Statements → Names
  updated_among Nothing = []
  updated_among (Then s ss) = updated_in s ++ updated_among ss

-- the variables that the statements of a block declare there
abbrev pub declared_by : Statement → Names
declared_by (plain.Declare at ty x e) = x ∷ []
declared_by _ = []

abbrev pub declared_among : Statements → Names
declared_among Nothing = []
declared_among (Then s ss) = declared_by s ++ declared_among ss

-- the variable that a loop declares for its body
abbrev pub walking : Statement → Names
walking (plain.ForEach at ty x e b) = x ∷ []
walking _ = []

abbrev pub names_of_params : List PlainParam → Names
names_of_params [] = []
names_of_params (p ∷ ps) = p.name ∷ names_of_params ps
