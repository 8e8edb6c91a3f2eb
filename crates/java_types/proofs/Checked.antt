-- What a program that was checked is sure of: its literals fit, as it carries.
use Rattle.std.specs.Prelude.{◌≡◌, ◌≢◌, ℕ, List, Some, None, slice_get}
use Rattle.qbs_base.specs.declared.scalar.Scalar.{Scalar}
use Rattle.qbs_base.specs.declared.scalar.Value.{Value}
use Rattle.qbs_base.specs.Values.{Schema, Database, IsDatabaseOf}
use Rattle.java_ast.specs.Reading.{program}
use Rattle.java_ast.specs.Tree.{PlainMethod, PlainProgram, Statements}
use Rattle.java_mean.specs.Asks.{frame_of, result_type}
use Rattle.java_mean.specs.Numbers.{NumbersFit}
use Rattle.java_mean.specs.Outcome.{Done, Stuck, outcome, start, world_with}
use Rattle.java_mean.specs.Reaches.{Reaches}
use Rattle.java_mean.specs.Refines.{Hole, fill, types_at, IsResult, IsTypedPlace}
use Rattle.java_mean.specs.Statement.{State}
use Rattle.java_mean.specs.Types.{types_of_params, IsTyped, AreArguments}
use Rattle.java_mean.specs.WellTyped.{IsWellTyped}
use Rattle.java_mean.proofs.Bridge.{never_stuck, result_is}
use Rattle.java_mean.proofs.Reached.{stores_typed}
use Rattle.java_mean.proofs.TypedPlaces.{places_typed}
use Rattle.java_types.specs.Texts.{read_by}
use Rattle.java_types.specs.declared.checking.Typed.{Typed}

pub plain_never : (schema : Schema) (p : PlainProgram) (n : ℕ) (m : PlainMethod) (db : Database) (args : List Scalar) (turns : ℕ) → IsWellTyped schema (read_by schema) p → NumbersFit p → slice_get p.methods n ≡ Some m → IsDatabaseOf schema db → AreArguments schema m.params args → outcome (world_with schema (read_by schema) db) m args turns ≢ Stuck
plain_never schema p n m db args turns t f e d a = never_stuck schema (read_by schema) p n m db args turns t f e d a

pub checked_never : (schema : Schema) (typed : Typed) (n : ℕ) (m : PlainMethod) (db : Database) (args : List Scalar) (turns : ℕ) → IsWellTyped schema (read_by schema) (program typed.program) → slice_get (program typed.program).methods n ≡ Some m → IsDatabaseOf schema db → AreArguments schema m.params args → outcome (world_with schema (read_by schema) db) m args turns ≢ Stuck
checked_never schema typed n m db args turns t e d a = never_stuck schema (read_by schema) (program typed.program) n m db args turns t typed.numbers e d a

pub checked_result : (schema : Schema) (typed : Typed) (n : ℕ) (m : PlainMethod) (db : Database) (args : List Scalar) (turns : ℕ) → IsWellTyped schema (read_by schema) (program typed.program) → slice_get (program typed.program).methods n ≡ Some m → IsDatabaseOf schema db → AreArguments schema m.params args → (lines : List (List ℕ)) (v : Value) → outcome (world_with schema (read_by schema) db) m args turns ≡ Done lines (Some v) → IsResult schema (result_type schema m.result) (Some v)
checked_result schema typed n m db args turns t e d a lines v o = result_is schema (read_by schema) (program typed.program) n m db args turns t typed.numbers e d a lines v o

pub checked_place : (schema : Schema) (typed : Typed) (n : ℕ) (m : PlainMethod) (hole : Hole) (part : Statements) → IsWellTyped schema (read_by schema) (program typed.program) → slice_get (program typed.program).methods n ≡ Some m → m.body ≡ fill hole part → IsTypedPlace (frame_of schema (read_by schema) m) None (types_of_params schema m.params) hole part
checked_place schema typed n m hole part t e is = places_typed schema (read_by schema) (program typed.program) n m hole part t typed.numbers e is

pub checked_stores : (schema : Schema) (typed : Typed) (n : ℕ) (m : PlainMethod) (hole : Hole) (part : Statements) → IsWellTyped schema (read_by schema) (program typed.program) → slice_get (program typed.program).methods n ≡ Some m → m.body ≡ fill hole part → (db : Database) (args : List Scalar) → IsDatabaseOf schema db → AreArguments schema m.params args → (turns : ℕ) (s : State) → Reaches (world_with schema (read_by schema) db) part hole (start m args turns) s → IsTyped schema (types_at schema (types_of_params schema m.params) hole) s.store
checked_stores schema typed n m hole part t e is db args d a turns s r = stores_typed schema (read_by schema) (program typed.program) n m hole part t typed.numbers e is db args d a turns s r
