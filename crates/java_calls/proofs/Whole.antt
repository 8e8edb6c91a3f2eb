-- The calls that are the whole values of statements.
use Rattle.std.proofs.Common.{List, [], ◌∷◌, ◌++◌, Option, Some, None}
use Rattle.java_ast.specs.Tree.{Statement, Declare, Assign, Add, Sort, If, IfElse, ForEach, While, Print, Return, Break, Statements, Nothing, Then}
use Rattle.java_calls.specs.Called.{Call, call_of}

-- a statement and the call that is its value
abbrev pub Whole : Type 0
Whole = Statement × Call

abbrev pub whole_of : Statement → Option Call → List Whole
whole_of s None = []
whole_of s (Some call) = (s, call) ∷ []

abbrev mutual
  pub whole_calls : Statement → List Whole
  whole_calls (Declare at ty x e) = whole_of (Declare at ty x e) (call_of e)
  whole_calls (Assign at x e) = whole_of (Assign at x e) (call_of e)
  whole_calls (If at c a) = all_whole_calls a
  whole_calls (IfElse at c a b) = all_whole_calls a ++ all_whole_calls b
  whole_calls (ForEach at ty x e body) = all_whole_calls body
  whole_calls (While at c body) = all_whole_calls body
  whole_calls _ = []

  pub all_whole_calls : Statements → List Whole
  all_whole_calls Nothing = []
  all_whole_calls (Then s ss) = whole_calls s ++ all_whole_calls ss
