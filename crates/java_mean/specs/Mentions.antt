-- What holds of each variable that statements mention: those in expressions, and those that are assigned,
-- added to or sorted. A declaration alone doesn't mention its variable. And what holds of each that they declare.
use Rattle.std.specs.Prelude.{ℕ, List}
use Rattle.std.specs.declared.option.Option.{Option}
use Rattle.std.specs.declared.option.Option.TheVariants.{Some, None}
use Rattle.java_ast.specs.Tree.{Expression, Lit, Var, Field, Binary, Not, Equals, Size, Get, Contains, Fetch, Query, QueryLong, QueryBoolean, NewList, NewSet, NewSetOf, Expressions, NoMore, And, Statement, Declare, Assign, Add, Sort, If, IfElse, ForEach, While, Print, Return, Break, Statements, Nothing, Then}

-- each variable in an expression is so, and each in a list of expressions
abbrev mutual
  pub EachIn : (List ℕ → Type 0) → Expression → Type 0
  EachIn P (Lit at value) = Unit {0}
  EachIn P (Var at x) = P x
  EachIn P (Field at e f) = EachIn P e
  EachIn P (Binary at op a b) = EachIn P a × EachIn P b
  EachIn P (Not at e) = EachIn P e
  EachIn P (Equals at a b) = EachIn P a × EachIn P b
  EachIn P (Size at x) = P x
  EachIn P (Get at x e) = P x × EachIn P e
  EachIn P (Contains at x e) = P x × EachIn P e
  EachIn P (Fetch at t) = Unit {0}
  EachIn P (Query at ty text es) = EachAmong P es
  EachIn P (QueryLong at text es) = EachAmong P es
  EachIn P (QueryBoolean at text es) = EachAmong P es
  EachIn P (NewList at) = Unit {0}
  EachIn P (NewSet at) = Unit {0}
  EachIn P (NewSetOf at e) = EachIn P e

  pub EachAmong : (List ℕ → Type 0) → Expressions → Type 0
  EachAmong P NoMore = Unit {0}
  EachAmong P (And e es) = EachIn P e × EachAmong P es

abbrev pub EachReturned : (List ℕ → Type 0) → Option Expression → Type 0
EachReturned P None = Unit {0}
EachReturned P (Some e) = EachIn P e

-- each variable that a statement mentions is so, and each that a list of statements mentions
abbrev mutual
  pub EachMentionedIn : (List ℕ → Type 0) → Statement → Type 0
  EachMentionedIn P (Declare at ty x e) = EachIn P e
  EachMentionedIn P (Assign at x e) = P x × EachIn P e
  EachMentionedIn P (Add at x e) = P x × EachIn P e
  EachMentionedIn P (Sort at x keys down) = P x
  EachMentionedIn P (If at c a) = EachIn P c × EachMentioned P a
  EachMentionedIn P (IfElse at c a b) = EachIn P c × (EachMentioned P a × EachMentioned P b)
  EachMentionedIn P (ForEach at ty x e body) = EachIn P e × EachMentioned P body
  EachMentionedIn P (While at c body) = EachIn P c × EachMentioned P body
  EachMentionedIn P (Print at e) = EachIn P e
  EachMentionedIn P (Return at e) = EachReturned P e
  EachMentionedIn P (Break at) = Unit {0}

  pub EachMentioned : (List ℕ → Type 0) → Statements → Type 0
  EachMentioned P Nothing = Unit {0}
  EachMentioned P (Then a p) = EachMentionedIn P a × EachMentioned P p

-- each variable that a statement declares is so, at any depth, and each that a list of statements declares
abbrev mutual
  pub EachDeclaredIn : (List ℕ → Type 0) → Statement → Type 0
  EachDeclaredIn P (Declare at ty x e) = P x
  EachDeclaredIn P (If at c a) = EachDeclared P a
  EachDeclaredIn P (IfElse at c a b) = EachDeclared P a × EachDeclared P b
  EachDeclaredIn P (ForEach at ty x e body) = P x × EachDeclared P body
  EachDeclaredIn P (While at c body) = EachDeclared P body
  EachDeclaredIn P _ = Unit {0}

  pub EachDeclared : (List ℕ → Type 0) → Statements → Type 0
  EachDeclared P Nothing = Unit {0}
  EachDeclared P (Then a p) = EachDeclaredIn P a × EachDeclared P p
