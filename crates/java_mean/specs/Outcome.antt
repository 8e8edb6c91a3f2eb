-- What a call of a method comes to.
use Rattle.std.specs.Prelude.{ℕ, List, [], ◌∷◌, Result, Ok, Err}
use Rattle.std.specs.Option.{option_map}
use Rattle.std.specs.declared.option.Option.{Option}
use Rattle.std.specs.declared.option.Option.TheVariants.{None}
use Rattle.qbs_base.specs.declared.span.Span.{Span}
use Rattle.qbs_base.specs.declared.scalar.Scalar.{Scalar}
use Rattle.qbs_base.specs.declared.scalar.Value.{Value}
use Rattle.qbs_base.specs.declared.scalar.Value.TheVariants.{One}
use Rattle.qbs_base.specs.Values.{Schema, Database}
use Rattle.sql_ast.specs.Tree.{PlainQuery}
use Rattle.java_ast.specs.Tree.{PlainParam, PlainMethod}
use Rattle.java_mean.specs.declared.ending.RunFault.{RunFault}
use Rattle.java_mean.specs.declared.ending.Ending.{Ending}
use Rattle.java_mean.specs.declared.ending.Ending.TheVariants as endings
use Rattle.java_mean.specs.Queries.{Reader, query_answer}
use Rattle.java_mean.specs.Store.{Store, put, plainly}
use Rattle.java_mean.specs.World.{World}
use Rattle.java_mean.specs.Statement.{State, Passed, GoesOn, Leaves, Returns, meanings}

-- the printed lines and the returned value or none; a fault and its place; too few turns; or
-- stuck, as no well-typed program is
pub data Outcome : Type 0 where
  Done : List (List ℕ) → Option Value → Outcome
  Faulted : RunFault → Span → Outcome
  OutOfTurns : Outcome
  Stuck : Outcome

-- the parameters with the arguments' values
abbrev pub store_of : List PlainParam → List Scalar → Store
store_of [] args = []
store_of (p ∷ ps) [] = []
store_of (p ∷ ps) (x ∷ xs) = put (store_of ps xs) p.name (plainly (One x))

abbrev pub start : PlainMethod → List Scalar → ℕ → State
start m args n = record { store = store_of m.params args; lines = []; turns = n }

abbrev pub finished : Result Passed Ending → Outcome
finished (Ok (GoesOn s)) = Done s.lines None
finished (Ok (Leaves s)) = Stuck
finished (Ok (Returns s v)) = Done s.lines v
finished (Err (endings.Faulted fault at)) = Faulted fault at
finished (Err endings.OutOfTurns) = OutOfTurns
finished (Err endings.Stuck) = Stuck

-- the outcome of a method on these arguments, with so many turns
abbrev pub outcome : World → PlainMethod → List Scalar → ℕ → Outcome
outcome w m args n = finished (meanings m.body w (start m args n))

-- what a program runs on where these are the queries of texts, on this database
abbrev pub world_with : Schema → (List ℕ → Option PlainQuery) → Database → World
world_with schema read db = record { schema = schema; db = db; ask = λ text args. option_map (query_answer db args) (read text) }

abbrev pub world : (schema : Schema) → Reader schema → Database → World
world schema reader db = world_with schema reader.read db
