-- Every name that the tree of a program keeps.
use Rattle.std.specs.Prelude.{ℕ, List, [], ◌∷◌, ◌++◌, Bool, ◌==◌, if◌then◌else◌}
use Rattle.std.specs.List.{flat_map}
use Rattle.std.specs.declared.option.Option.{Option}
use Rattle.std.specs.declared.option.Option.TheVariants.{Some, None}
use Rattle.java_ast.specs.Names.{Names}
use Rattle.java_ast.specs.Tree.{Spelled, Table, ListOf, SetOf, Expression, Lit, Var, Field, Binary, Not, Equals, Size, Get, Contains, Fetch, Query, QueryLong, QueryBoolean, NewList, NewSet, NewSetOf, Expressions, NoMore, And, Statement, Declare, Assign, Add, Sort, If, IfElse, ForEach, While, Print, Return, Break, Statements, Nothing, Then, PlainParam, PlainMethod, PlainProgram}
use Rattle.call_parts.specs.Called.{is_single_name}

abbrev pub type_names : Spelled → Names
type_names (Table name) = name ∷ []
type_names (ListOf e) = type_names e
type_names (SetOf e) = type_names e
type_names _ = []

-- names in texts of queries aren't meant, and called names are
abbrev mutual
  pub expression_names : Expression → Names
  expression_names (Lit at value) = []
  expression_names (Var at x) = x ∷ []
  expression_names (Field at row column) = column ∷ expression_names row
  expression_names (Binary at op a b) = expression_names a ++ expression_names b
  expression_names (Not at e) = expression_names e
  expression_names (Equals at a b) = expression_names a ++ expression_names b
  expression_names (Size at x) = x ∷ []
  expression_names (Get at x e) = x ∷ expression_names e
  expression_names (Contains at x e) = x ∷ expression_names e
  expression_names (Fetch at table) = table ∷ []
  expression_names (Query at element text es) = type_names element ++ argument_names es
  expression_names (QueryLong at text es) = if is_single_name text then text ∷ argument_names es else argument_names es
  expression_names (QueryBoolean at text es) = argument_names es
  expression_names (NewList at) = []
  expression_names (NewSet at) = []
  expression_names (NewSetOf at query) = expression_names query

  pub argument_names : Expressions → Names
  argument_names NoMore = []
  argument_names (And e es) = expression_names e ++ argument_names es

abbrev pub returned_names : Option Expression → Names
returned_names None = []
returned_names (Some e) = expression_names e

abbrev mutual
  pub statement_names : Statement → Names
  statement_names (Declare at ty x e) = x ∷ type_names ty ++ expression_names e
  statement_names (Assign at x e) = x ∷ expression_names e
  statement_names (Add at x e) = x ∷ expression_names e
  statement_names (Sort at x keys downs) = x ∷ keys
  statement_names (If at c a) = expression_names c ++ block_names a
  statement_names (IfElse at c a b) = expression_names c ++ (block_names a ++ block_names b)
  statement_names (ForEach at ty x e body) = x ∷ type_names ty ++ (expression_names e ++ block_names body)
  statement_names (While at c body) = expression_names c ++ block_names body
  statement_names (Print at e) = expression_names e
  statement_names (Return at e) = returned_names e
  statement_names (Break at) = []

  pub block_names : Statements → Names
  block_names Nothing = []
  block_names (Then s ss) = statement_names s ++ block_names ss

abbrev pub result_names : Option Spelled → Names
result_names None = []
result_names (Some ty) = type_names ty

abbrev pub method_names : PlainMethod → Names
method_names m = m.name ∷ result_names m.result ++ (flat_map (λ (p : PlainParam). p.name ∷ type_names p.ty) m.params ++ block_names m.body)

-- a byte in front of the first of some names
abbrev pub onto_first : ℕ → Names → Names
onto_first b [] = (b ∷ []) ∷ []
onto_first b (part ∷ parts) = (b ∷ part) ∷ parts

-- what stands between the dots; the star of an import ends in no number
abbrev pub dotted_parts : List ℕ → Names
dotted_parts [] = [] ∷ []
dotted_parts (b ∷ bs) = if b == 46 then [] ∷ dotted_parts bs else onto_first b (dotted_parts bs)

abbrev pub package_names : Option (List ℕ) → Names
package_names None = []
package_names (Some name) = dotted_parts name

abbrev pub names_of : PlainProgram → Names
names_of p = package_names p.«package» ++ (flat_map dotted_parts p.imports ++ (p.name ∷ flat_map method_names p.methods))
