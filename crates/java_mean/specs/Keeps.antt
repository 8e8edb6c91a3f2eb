-- What it is for a program to keep what another does.
use Rattle.std.specs.Prelude.{◌≡◌, ℕ, List, [], ◌∷◌, Option}
use Rattle.qbs_base.specs.declared.scalar.Scalar.{Scalar}
use Rattle.qbs_base.specs.declared.scalar.Value.{Value}
use Rattle.qbs_base.specs.Values.{Schema, Database, IsDatabaseOf}
use Rattle.java_ast.specs.Tree.{PlainMethod, PlainProgram}
use Rattle.java_mean.specs.Queries.{Reader}
use Rattle.java_mean.specs.Types.{AreArguments}
use Rattle.java_mean.specs.Outcome.{Done, outcome, world}

-- wherever the first method is done, the second is done with the same, on every database of the
-- schema, for every way to find the queries of texts, for arguments of the types and any turns
abbrev pub IsDoneAlike : Schema → PlainMethod → PlainMethod → Type 0
IsDoneAlike schema m m' =
    (reader : Reader schema) (db : Database) → IsDatabaseOf schema db
    → (args : List Scalar) → AreArguments schema m.params args
    → (n : ℕ) (lines : List (List ℕ)) (value : Option Value)
    → outcome (world schema reader db) m args n ≡ Done lines value
    → outcome (world schema reader db) m' args n ≡ Done lines value

pub record KeepsMethod (schema : Schema) (m m' : PlainMethod) : Type 0 where
  pub name : m.name ≡ m'.name
  pub params : m.params ≡ m'.params
  pub result : m.result ≡ m'.result
  pub done : IsDoneAlike schema m m'

-- the same methods, and each is kept
abbrev pub KeepsMethods : Schema → List PlainMethod → List PlainMethod → Type 0
KeepsMethods schema [] [] = Unit {0}
KeepsMethods schema (m ∷ ms) (n ∷ ns) = KeepsMethod schema m n × KeepsMethods schema ms ns
KeepsMethods schema _ _ = ⊥

-- the second program does what the first does, wherever the first is done
abbrev pub Keeps : PlainProgram → PlainProgram → Schema → Type 0
Keeps p q schema = KeepsMethods schema p.methods q.methods
