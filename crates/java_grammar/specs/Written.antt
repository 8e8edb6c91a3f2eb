-- Programs that can be written as texts: their names are names, their texts are UTF-8 and their integers have 64 bits.
use Rattle.std.specs.Prelude.{◌≡◌, ℕ, pos, negsuc, ◌<◌, ◌^◌, List, [], ◌∷◌, Bool, true, false, ◌==◌, ◌&&◌, ◌||◌, if◌then◌else◌}
use Rattle.std.specs.declared.option.Option.{Option}
use Rattle.std.specs.declared.option.Option.TheVariants.{Some, None}
use Rattle.std.specs.Str.{IsUtf8}
use Rattle.qbs_base.specs.declared.scalar.Scalar.{Scalar}
use Rattle.qbs_base.specs.declared.scalar.Scalar.TheVariants as scalars
use Rattle.java_ast.specs.Tree.{Spelled, Table, ListOf, SetOf, Expression, Lit, Var, Field, Binary, Not, Equals, Size, Get, Contains, Fetch, Query, QueryLong, QueryBoolean, NewList, NewSet, NewSetOf, Expressions, NoMore, And, Statement, Declare, Assign, Add, Sort, If, IfElse, ForEach, While, Print, Return, Break, Statements, Nothing, Then, PlainParam, PlainMethod, PlainProgram}
use Rattle.qbs_base.specs.Bytes.{is_name_start, is_name_part}

abbrev pub are_name_parts : List ℕ → Bool
are_name_parts [] = true
are_name_parts (b ∷ bs) = is_name_part b && are_name_parts bs

-- an ASCII letter or `_`, and behind it letters, digits and `_`
abbrev pub is_word : List ℕ → Bool
is_word [] = false
is_word (b ∷ bs) = is_name_start b && are_name_parts bs

abbrev pub IsWord : List ℕ → Type 0
IsWord name = is_word name ≡ true

abbrev pub IsText : List ℕ → Type 0
IsText text = IsUtf8 text

-- ---- dotted names

-- a byte in front of the first of some lists
abbrev pub onto_first : ℕ → List (List ℕ) → List (List ℕ)
onto_first b [] = (b ∷ []) ∷ []
onto_first b (part ∷ parts) = (b ∷ part) ∷ parts

-- what stands between the dots
abbrev pub parts_of : List ℕ → List (List ℕ)
parts_of [] = [] ∷ []
parts_of (b ∷ bs) = if b == 46 then [] ∷ parts_of bs else onto_first b (parts_of bs)

abbrev pub AreWords : List (List ℕ) → Type 0
AreWords [] = Unit {0}
AreWords (part ∷ parts) = IsWord part × AreWords parts

-- whether it is the star that may end an import
abbrev pub is_star : List ℕ → Bool
is_star [] = false
is_star (b ∷ []) = b == 42
is_star (b ∷ c ∷ bs) = false

-- words, of which the last may be a star
abbrev pub AreWordsOrStar : List (List ℕ) → Type 0
AreWordsOrStar [] = Unit {0}
AreWordsOrStar (part ∷ []) = (is_star part || is_word part) ≡ true
AreWordsOrStar (part ∷ further ∷ parts) = IsWord part × AreWordsOrStar (further ∷ parts)

-- ---- trees

abbrev pub WrittenType : Spelled → Type 0
WrittenType (Table name) = IsWord name
WrittenType (ListOf element) = WrittenType element
WrittenType (SetOf element) = WrittenType element
WrittenType _ = Unit {0}

abbrev pub WrittenScalar : Scalar → Type 0
WrittenScalar (scalars.Long (pos n)) = n < 2 ^ 63
WrittenScalar (scalars.Long (negsuc n)) = n < 2 ^ 63
WrittenScalar (scalars.Bool b) = Unit {0}
WrittenScalar (scalars.Text text) = IsText text

abbrev mutual
  pub WrittenExpression : Expression → Type 0
  WrittenExpression (Lit at value) = WrittenScalar value
  WrittenExpression (Var at name) = IsWord name
  WrittenExpression (Field at row name) = WrittenExpression row × IsWord name
  WrittenExpression (Binary at op a b) = WrittenExpression a × WrittenExpression b
  WrittenExpression (Not at e) = WrittenExpression e
  WrittenExpression (Equals at a b) = WrittenExpression a × WrittenExpression b
  WrittenExpression (Size at name) = IsWord name
  WrittenExpression (Get at name e) = IsWord name × WrittenExpression e
  WrittenExpression (Contains at name e) = IsWord name × WrittenExpression e
  WrittenExpression (Fetch at table) = IsWord table
  WrittenExpression (Query at element text arguments) = WrittenType element × IsText text × WrittenExpressions arguments
  WrittenExpression (QueryLong at text arguments) = IsText text × WrittenExpressions arguments
  WrittenExpression (QueryBoolean at text arguments) = IsText text × WrittenExpressions arguments
  WrittenExpression (NewList at) = Unit {0}
  WrittenExpression (NewSet at) = Unit {0}
  WrittenExpression (NewSetOf at query) = WrittenExpression query

  pub WrittenExpressions : Expressions → Type 0
  WrittenExpressions NoMore = Unit {0}
  WrittenExpressions (And e es) = WrittenExpression e × WrittenExpressions es

-- each key has a direction
abbrev pub WrittenKeys : List (List ℕ) → List Bool → Type 0
WrittenKeys [] [] = Unit {0}
WrittenKeys (key ∷ keys) (down ∷ downs) = IsWord key × WrittenKeys keys downs
WrittenKeys _ _ = ⊥

abbrev pub WrittenReturn : Option Expression → Type 0
WrittenReturn None = Unit {0}
WrittenReturn (Some e) = WrittenExpression e

abbrev mutual
  pub WrittenStatement : Statement → Type 0
  WrittenStatement (Declare at ty name value) = WrittenType ty × IsWord name × WrittenExpression value
  WrittenStatement (Assign at name value) = IsWord name × WrittenExpression value
  WrittenStatement (Add at name value) = IsWord name × WrittenExpression value
  WrittenStatement (Sort at name keys downs) = IsWord name × WrittenKeys keys downs
  WrittenStatement (If at cond first) = WrittenExpression cond × WrittenStatements first
  WrittenStatement (IfElse at cond first other) = WrittenExpression cond × WrittenStatements first × WrittenStatements other
  WrittenStatement (ForEach at ty name list body) = WrittenType ty × IsWord name × WrittenExpression list × WrittenStatements body
  WrittenStatement (While at cond body) = WrittenExpression cond × WrittenStatements body
  WrittenStatement (Print at value) = WrittenExpression value
  WrittenStatement (Return at value) = WrittenReturn value
  WrittenStatement (Break at) = Unit {0}

  pub WrittenStatements : Statements → Type 0
  WrittenStatements Nothing = Unit {0}
  WrittenStatements (Then s ss) = WrittenStatement s × WrittenStatements ss

abbrev pub WrittenParams : List PlainParam → Type 0
WrittenParams [] = Unit {0}
WrittenParams (p ∷ ps) = WrittenType p.ty × IsWord p.name × WrittenParams ps

abbrev pub WrittenResult : Option Spelled → Type 0
WrittenResult None = Unit {0}
WrittenResult (Some ty) = WrittenType ty

abbrev pub WrittenMethods : List PlainMethod → Type 0
WrittenMethods [] = Unit {0}
WrittenMethods (m ∷ ms) = (WrittenResult m.result × IsWord m.name × WrittenParams m.params × WrittenStatements m.body) × WrittenMethods ms

abbrev pub WrittenPackage : Option (List ℕ) → Type 0
WrittenPackage None = Unit {0}
WrittenPackage (Some name) = AreWords (parts_of name)

abbrev pub WrittenImports : List (List ℕ) → Type 0
WrittenImports [] = Unit {0}
WrittenImports (name ∷ names) = AreWordsOrStar (parts_of name) × WrittenImports names

pub record IsWritten (p : PlainProgram) : Type 0 where
  pub «package» : WrittenPackage p.«package»
  pub imports : WrittenImports p.imports
  pub name : IsWord p.name
  pub methods : WrittenMethods p.methods
