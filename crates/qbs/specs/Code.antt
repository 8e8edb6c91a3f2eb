-- What only the code's contracts speak of: a command's last steps as a function.
use Rattle.std.specs.Prelude.{◌≡◌, ℕ, ◌++◌, List, [], ◌∷◌, Bool, true, false, Result, Ok, Err, slice_get}
use Rattle.std.specs.declared.option.Option.{Option}
use Rattle.std.specs.declared.option.Option.TheVariants.{Some, None}
use Rattle.qbs_base.specs.declared.scalar.Scalar.{Scalar}
use Rattle.qbs_base.specs.declared.scalar.Ty.{Ty}
use Rattle.qbs_base.specs.declared.scalar.Value.{Value}
use Rattle.qbs_base.specs.Values.{Schema, Database}
use Rattle.java_ast.specs.Tree.{PlainMethod, PlainProgram}
use Rattle.java_mean.specs.declared.rule.TypeRule.{TypeRule}
use Rattle.java_mean.specs.declared.rule.TypeRule.TheVariants as types
use Rattle.java_mean.specs.Outcome.{outcome, world_with}
use Rattle.java_mean.specs.Rules.{has_order}
use Rattle.java_types.specs.Texts.{read_by}
use Rattle.sql_ast.specs.Meaning.{query_answer}
use Rattle.sql_ast.specs.Tree.{PlainQuery}
use Rattle.sql_ast.specs.Valid.{params_in}
use Rattle.deliveries.specs.declared.plan.Plan.{Plan}
use Rattle.plans.specs.Calls.{Call, arguments, method_named, word_refusal}
use Rattle.plans.specs.Results.{names_of}
use Rattle.deliveries.specs.Steps.{Ends}
use Rattle.plans.specs.Tables.{TableFault, loaded, data_refusal}
use Rattle.qbs.specs.declared.run.Asked.{Asked}
use Rattle.qbs.specs.Make.{method_text, IsResult, IsNotDone, outcome_over}
use Rattle.qbs.specs.Run.{comes_to}
use Rattle.qbs.specs.Sql.{answer_plan}

-- what the words of a run ask for, as the code holds it
abbrev pub call_in : Asked → Call
call_in c = record { method = c.method.now; words = c.words.now }

-- ---- The last steps of `run`, from left to right

abbrev pub run_over : Schema → PlainMethod → List Scalar → ℕ → Result Database TableFault → Ends
run_over tables m args turns (Err fault) plan = plan ≡ data_refusal fault
run_over tables m args turns (Ok db) plan = comes_to tables (outcome (world_with tables (read_by tables) db) m args turns) plan

abbrev pub run_on : Schema → List (List ℕ) → PlainMethod → ℕ → Result (List Scalar) TypeRule → Ends
run_on tables texts m turns (Err rule) plan = plan ≡ word_refusal rule
run_on tables texts m turns (Ok args) plan = run_over tables m args turns (loaded tables texts) plan

abbrev pub run_named : Schema → List (List ℕ) → List (List ℕ) → ℕ → Option PlainMethod → Ends
run_named tables texts words turns None plan = plan ≡ word_refusal types.Unknown
run_named tables texts words turns (Some m) plan = run_on tables texts m turns (arguments m.params words) plan

abbrev pub run_called : Schema → List (List ℕ) → Call → ℕ → PlainProgram → Ends
run_called tables texts call turns p = run_named tables texts call.words turns (method_named call.method p.methods)

-- ---- The last steps of `sql`

abbrev pub answer_over : Schema → PlainQuery → Result Database TableFault → Plan
answer_over tables q (Err fault) = data_refusal fault
answer_over tables q (Ok db) = answer_plan tables (query_answer db [] q)

abbrev pub answer_with : Schema → List (List ℕ) → PlainQuery → List Ty → Plan
answer_with tables texts q (ty ∷ tys) = word_refusal types.Arity
answer_with tables texts q [] = answer_over tables q (loaded tables texts)

abbrev pub answer_ordered : Schema → List (List ℕ) → PlainQuery → Bool → Plan
answer_ordered tables texts q false = word_refusal types.UnorderedQuery
answer_ordered tables texts q true = answer_with tables texts q (params_in q)

abbrev pub answer_of : Schema → List (List ℕ) → Option PlainQuery → Plan
answer_of tables texts None = word_refusal types.BadQuery
answer_of tables texts (Some q) = answer_ordered tables texts q (has_order (Some q))

-- ---- A run of `make`

-- the method with this number is done, and its result is written behind what was
pub record HasRun (tables : Schema) (db : Database) (ms : List PlainMethod) (n : ℕ) (old new : List ℕ) : Type 0 where
  pub method : PlainMethod
  pub value : Option Value
  pub there : slice_get ms n ≡ Some method
  pub done : IsResult (outcome_over tables db method) value
  pub written : new ≡ old ++ method_text (names_of tables) method.name value

-- it isn't done
abbrev pub HasNoRun : Schema → Database → List PlainMethod → ℕ → Ends
HasNoRun tables db ms n plan = (m : PlainMethod) × (slice_get ms n ≡ Some m) × IsNotDone (outcome_over tables db m) plan
