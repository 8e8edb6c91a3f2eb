-- The known queries of a lowered loop, as emission asks for them.
use Rattle.std.specs.Prelude.{◌≡◌, ℕ, List, [], ◌∷◌}
use Rattle.std.specs.List.{AllByRecursion}
use Rattle.std.specs.declared.option.Option.{Option}
use Rattle.std.specs.declared.option.Option.TheVariants.{Some, None}
use Rattle.qbs_base.specs.Values.{Schema}
use Rattle.sql_ast.specs.Tree.{PlainQuery}
use Rattle.sql_ast.specs.Valid.{IsQueryOf}
use Rattle.java_ast.specs.Tree.{PlainProgram}
use Rattle.java_mean.specs.Numbers.{NumbersFit}
use Rattle.java_mean.specs.WellTyped.{IsWellTyped}
use Rattle.java_loops.specs.Kernel.Kernel.{broken, setting_at}
use Rattle.java_loops.specs.Kernel.Setting.{Setting}
use Rattle.java_loops.specs.Lowering.Lowered.{Lowering}
use Rattle.sql_parts.specs.Given.{AreKnownTo}

-- the queries that are found
abbrev pub queries_in : List (Option PlainQuery) → List PlainQuery
queries_in [] = []
queries_in (Some q ∷ os) = q ∷ queries_in os
queries_in (None ∷ os) = queries_in os

-- the setting of the loop to which a path leads in a well-typed program whose literals have 64 bits, where the loop breaks no
-- rule of the kernel form
pub record IsKernelLoop (schema : Schema) (read : List ℕ → Option PlainQuery) (p : PlainProgram) (path : List ℕ) (w : Setting) : Type 0 where
  pub typed : IsWellTyped schema read p
  pub numbers : NumbersFit p
  pub there : setting_at schema read path p ≡ Some w
  pub unbroken : broken w ≡ None

-- the known queries of a lowered loop are queries of the schema
abbrev pub HasQueriesOf : Schema → Lowering → Type 0
HasQueriesOf schema l = AllByRecursion (IsQueryOf schema) (queries_in l.known)

-- they are as emission asks for them: of one column without a limit, with arguments of their parameters' types, and of the
-- types of what is tested against them
abbrev pub HasKnownQueries : Schema → Lowering → Type 0
HasKnownQueries schema l = AreKnownTo schema l.fragment (queries_in l.known) l.arguments
