-- The command `make`: a class of four methods is rewritten, and each method is run over tables with so many users.
use Rattle.std.specs.Prelude.{◌≡◌, ℕ, Bool, true, false, List, [], ◌∷◌, ◌++◌, codes, length}
use Rattle.std.specs.Fmt.{decimal}
use Rattle.std.specs.List.{AllByRecursion, count_by}
use Rattle.std.specs.declared.option.Option.{Option}
use Rattle.std.specs.declared.option.Option.TheVariants.{Some, None}
use Rattle.qbs_base.specs.declared.scalar.Value.{Value}
use Rattle.qbs_base.specs.declared.scalar.Value.TheVariants as values
use Rattle.qbs_base.specs.declared.status.Status.{Status}
use Rattle.qbs_base.specs.Printed.{value_text}
use Rattle.qbs_base.specs.Values.{Schema, Database}
use Rattle.java_ast.specs.Tree.{PlainMethod, PlainProgram}
use Rattle.java_mean.specs.Outcome.{Outcome, Done, Faulted, OutOfTurns, Stuck, outcome, world_with}
use Rattle.java_types.specs.Texts.{read_by}
use Rattle.verdicts.specs.declared.verdict.Said.{Said}
use Rattle.verdicts.specs.declared.verdict.Said.TheVariants as says
use Rattle.verdicts.specs.declared.verdict.LoopVerdict.{LoopVerdict}
use Rattle.rewrite_core.specs.Rewriting.{verdicts_of}
use Rattle.rewrite_core.specs.Trying.{all_tried}
use Rattle.sample.specs.Class.{sample_program}
use Rattle.sample_data.specs.Tables.{sample_schema, sample_rows}
use Rattle.deliveries.specs.declared.plan.Plan.{Plan}
use Rattle.plans.specs.Lines.{fault_text}
use Rattle.verdicts.specs.Lines.{line}
use Rattle.deliveries.specs.Plan.{refusal}
use Rattle.plans.specs.Results.{names_of}
use Rattle.deliveries.specs.Steps.{Ends, ends, step}
use Rattle.qbs.specs.Run.{IsChosen}

-- ---- The summary

abbrev pub says_found : Said → Bool
says_found (says.Found k) = true
says_found (says.NoneOf n) = false
says_found (says.Budget b n) = false
says_found (says.Outside rule at) = false

abbrev pub is_found : LoopVerdict → Bool
is_found v = says_found v.said

-- how many loops were tried, and of how many a candidate was found
abbrev pub loops_text : List LoopVerdict → List ℕ
loops_text vs = line (codes "loops " ++ decimal (length vs) ++ codes " found " ++ decimal (count_by is_found vs))

-- how many a list or set has, and else the value
abbrev pub list_text : ℕ → List ℕ
list_text n = line (codes "list " ++ decimal n)

abbrev pub brief_text : List (List ℕ) → Value → List ℕ
brief_text names (values.Many rows) = list_text (length rows)
brief_text names (values.One x) = value_text names (values.One x)
brief_text names (values.Whole row) = value_text names (values.Whole row)

-- nothing where there is none
abbrev pub outcome_text : List (List ℕ) → Option Value → List ℕ
outcome_text names None = line []
outcome_text names (Some value) = brief_text names value

-- a method's name and its result
abbrev pub method_text : List (List ℕ) → List ℕ → Option Value → List ℕ
method_text names method value = method ++ codes " " ++ outcome_text names value

abbrev pub summary : List ℕ → Plan
summary text = record { status = Status.Ok; out = text; rep = [] }

-- ---- The runs

-- a run is done with this result
abbrev pub IsResult : Outcome → Option Value → Type 0
IsResult (Done lines value) v = v ≡ value
IsResult (Faulted fault at) v = ⊥
IsResult OutOfTurns v = ⊥
IsResult Stuck v = ⊥

-- it isn't done; no well-typed method is stuck
abbrev pub IsNotDone : Outcome → Ends
IsNotDone (Done lines value) plan = ⊥
IsNotDone (Faulted fault at) plan = plan ≡ refusal Status.Faulted (fault_text fault at)
IsNotDone OutOfTurns plan = plan ≡ refusal Status.Turns (codes "qbs: turns")
IsNotDone Stuck plan = ⊥

-- what a method without arguments comes to over tables
abbrev pub outcome_over : Schema → Database → PlainMethod → Outcome
outcome_over tables db m = outcome (world_with tables (read_by tables) db) m [] 1000000

-- Methods in their order, behind what is written of those before. The first one that isn't done ends it.
unfoldable pub runs : Schema → Database → List ℕ → List PlainMethod → Ends
runs tables db written [] = ends (summary written)
runs tables db written (m ∷ ms) =
    step (IsResult (outcome_over tables db m)) (IsNotDone (outcome_over tables db m))
    (λ value. runs tables db (written ++ method_text (names_of tables) m.name value) ms)

-- ---- The command

-- the methods take no arguments
abbrev pub TakeNone : List PlainMethod → Type 0
TakeNone ms = AllByRecursion (λ m. m.params ≡ []) ms

-- a program is rewritten, and its methods are run
abbrev pub make_of : Schema → Database → PlainProgram → Ends
make_of tables db p =
    step (IsChosen true tables 4 20000 p) (λ plan. ⊥)
    (λ q. runs tables db (loops_text (verdicts_of (all_tried tables 4 20000 p))) q.methods)

-- with this many users
abbrev pub make : ℕ → Ends
make n = make_of sample_schema (sample_rows n) sample_program
