-- The programs of the grammar: what the grammar asks of their names, their types, the keys of their sorts and the queries
-- that sets are made of.
use Rattle.std.specs.Prelude.{◌≡◌, ℕ, List, [], ◌∷◌, Bool, true, false, Option, Some, None}
use Rattle.java_ast.specs.Tree.{Spelled, Int, Long, Boolean, String, BoxedInteger, BoxedLong, BoxedBoolean, Table, ListOf, SetOf, Expression, Lit, Var, Field, Binary, Not, Equals, Size, Get, Contains, Fetch, Query, QueryLong, QueryBoolean, NewList, NewSet, NewSetOf, Expressions, NoMore, And, Statement, Declare, Assign, Add, Sort, If, IfElse, ForEach, While, Print, Return, Break, Statements, Nothing, Then, PlainParam, PlainMethod, PlainProgram}
use Rattle.java_grammar.specs.Words.{is_name, is_table, is_variable}
use Rattle.java_grammar.specs.Written.{parts_of, is_star}

abbrev pub IsName : List ℕ → Type 0
IsName name = is_name name ≡ true

abbrev pub IsTable : List ℕ → Type 0
IsTable name = is_table name ≡ true

abbrev pub IsVariable : List ℕ → Type 0
IsVariable name = is_variable name ≡ true

abbrev pub IsScalarType : Spelled → Type 0
IsScalarType Int = Unit {0}
IsScalarType Long = Unit {0}
IsScalarType Boolean = Unit {0}
IsScalarType String = Unit {0}
IsScalarType _ = ⊥

-- what a list or a set is of
abbrev pub IsElement : Spelled → Type 0
IsElement BoxedInteger = Unit {0}
IsElement BoxedLong = Unit {0}
IsElement BoxedBoolean = Unit {0}
IsElement String = Unit {0}
IsElement (Table name) = IsTable name
IsElement _ = ⊥

abbrev pub IsType : Spelled → Type 0
IsType Int = Unit {0}
IsType Long = Unit {0}
IsType Boolean = Unit {0}
IsType String = Unit {0}
IsType (Table name) = IsTable name
IsType (ListOf element) = IsElement element
IsType (SetOf element) = IsElement element
IsType _ = ⊥

abbrev pub IsQuery : Expression → Type 0
IsQuery (Query at element text arguments) = Unit {0}
IsQuery (QueryLong at text arguments) = Unit {0}
IsQuery (QueryBoolean at text arguments) = Unit {0}
IsQuery _ = ⊥

abbrev mutual
  pub InExpression : Expression → Type 0
  InExpression (Lit at value) = Unit {0}
  InExpression (Var at name) = IsVariable name
  InExpression (Field at row name) = InExpression row × IsName name
  InExpression (Binary at op a b) = InExpression a × InExpression b
  InExpression (Not at e) = InExpression e
  InExpression (Equals at a b) = InExpression a × InExpression b
  InExpression (Size at name) = IsVariable name
  InExpression (Get at name e) = IsVariable name × InExpression e
  InExpression (Contains at name e) = IsVariable name × InExpression e
  InExpression (Fetch at table) = IsTable table
  InExpression (Query at element text arguments) = IsElement element × InExpressions arguments
  InExpression (QueryLong at text arguments) = InExpressions arguments
  InExpression (QueryBoolean at text arguments) = InExpressions arguments
  InExpression (NewList at) = Unit {0}
  InExpression (NewSet at) = Unit {0}
  InExpression (NewSetOf at query) = IsQuery query × InExpression query

  pub InExpressions : Expressions → Type 0
  InExpressions NoMore = Unit {0}
  InExpressions (And e es) = InExpression e × InExpressions es

-- each key is a name and has a direction
abbrev pub AreKeys : List (List ℕ) → List Bool → Type 0
AreKeys [] [] = Unit {0}
AreKeys (key ∷ keys) (down ∷ downs) = IsName key × AreKeys keys downs
AreKeys _ _ = ⊥

-- there is a key
abbrev pub IsSome : List (List ℕ) → Type 0
IsSome [] = ⊥
IsSome (key ∷ keys) = Unit {0}

abbrev pub InReturn : Option Expression → Type 0
InReturn None = Unit {0}
InReturn (Some e) = InExpression e

abbrev mutual
  pub InStatement : Statement → Type 0
  InStatement (Declare at ty name value) = IsType ty × IsName name × InExpression value
  InStatement (Assign at name value) = IsName name × InExpression value
  InStatement (Add at name value) = IsName name × InExpression value
  InStatement (Sort at name keys downs) = IsName name × IsSome keys × AreKeys keys downs
  InStatement (If at cond first) = InExpression cond × InStatements first
  InStatement (IfElse at cond first other) = InExpression cond × InStatements first × InStatements other
  InStatement (ForEach at ty name list body) = IsType ty × IsName name × InExpression list × InStatements body
  InStatement (While at cond body) = InExpression cond × InStatements body
  InStatement (Print at value) = InExpression value
  InStatement (Return at value) = InReturn value
  InStatement (Break at) = Unit {0}

  pub InStatements : Statements → Type 0
  InStatements Nothing = Unit {0}
  InStatements (Then s ss) = InStatement s × InStatements ss

abbrev pub InResult : Option Spelled → Type 0
InResult None = Unit {0}
InResult (Some ty) = IsType ty

abbrev pub InParams : List PlainParam → Type 0
InParams [] = Unit {0}
InParams (p ∷ ps) = IsScalarType p.ty × IsName p.name × InParams ps

pub record InMethod (m : PlainMethod) : Type 0 where
  pub result : InResult m.result
  pub name : IsName m.name
  pub params : InParams m.params
  pub body : InStatements m.body

abbrev pub InMethods : List PlainMethod → Type 0
InMethods [] = Unit {0}
InMethods (m ∷ ms) = InMethod m × InMethods ms

-- names behind the first part of a dotted name
abbrev pub AreNames : List (List ℕ) → Type 0
AreNames [] = Unit {0}
AreNames (part ∷ parts) = (is_name part ≡ true) × (is_star part ≡ false) × AreNames parts

-- of which the last may be a star
abbrev pub AreNamesOrStar : List (List ℕ) → Type 0
AreNamesOrStar [] = Unit {0}
AreNamesOrStar (part ∷ []) = IsName part
AreNamesOrStar (part ∷ further ∷ parts) = (is_name part ≡ true) × (is_star part ≡ false) × AreNamesOrStar (further ∷ parts)

-- the first part is a name
abbrev pub InDotted : (List (List ℕ) → Type 0) → List (List ℕ) → Type 0
InDotted Rest [] = ⊥
InDotted Rest (part ∷ parts) = (is_name part ≡ true) × (is_star part ≡ false) × Rest parts

abbrev pub InPackage : Option (List ℕ) → Type 0
InPackage None = Unit {0}
InPackage (Some name) = InDotted AreNames (parts_of name)

abbrev pub InImports : List (List ℕ) → Type 0
InImports [] = Unit {0}
InImports (name ∷ names) = InDotted AreNamesOrStar (parts_of name) × InImports names

pub record IsInGrammar (p : PlainProgram) : Type 0 where
  pub «package» : InPackage p.«package»
  pub imports : InImports p.imports
  pub name : IsName p.name
  pub methods : InMethods p.methods
