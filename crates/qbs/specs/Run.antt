-- The command `run`: a method of a program, or of the rewritten one, is run over tables.
use Rattle.std.specs.Prelude.{◌≡◌, ℕ, List, Bool, true, false, codes}
use Rattle.qbs_base.specs.declared.status.Status.{Status}
use Rattle.qbs_base.specs.Values.{Schema, Database}
use Rattle.java_ast.specs.Tree.{PlainProgram}
use Rattle.java_mean.specs.Outcome.{Outcome, Done, Faulted, OutOfTurns, Stuck, outcome, world_with}
use Rattle.java_types.specs.Texts.{read_by}
use Rattle.rewrite_core.specs.Trying.{rewritten}
use Rattle.words.specs.declared.command.Options.{Options}
use Rattle.plans.specs.Calls.{Call, Called, has_call}
use Rattle.plans.specs.Lines.{fault_text}
use Rattle.plans.specs.Opening.{has_program}
use Rattle.deliveries.specs.Limits.{most_schema, most_source}
use Rattle.deliveries.specs.Plan.{Given, refusal}
use Rattle.plans.specs.Results.{output}
use Rattle.deliveries.specs.Steps.{Ends, step, reads}
use Rattle.plans.specs.Tables.{over_tables, has_rows}
use Rattle.qbs.specs.Rewrite.{or_default, size_of, budget_of, IsRewriting}

abbrev pub turns_of : Options → ℕ
turns_of o = or_default 1000000 o.turns

-- ---- Which program is run

-- it is the program itself, or the rewritten one
abbrev pub IsChosen : Bool → Schema → ℕ → ℕ → PlainProgram → PlainProgram → Type 0
IsChosen false tables size budget p q = q ≡ p
IsChosen true tables size budget p q = (q ≡ rewritten tables size budget p) × IsRewriting tables size budget p

abbrev pub chooses : Options → Schema → PlainProgram → (PlainProgram → Ends) → Ends
chooses o tables p next = step (IsChosen o.rewritten tables (size_of o) (budget_of o) p) (λ plan. ⊥) next

-- ---- What it comes to

-- printed lines and the result, or a fault, or too few turns; no well-typed method is stuck
abbrev pub comes_to : Schema → Outcome → Ends
comes_to tables (Done lines value) plan = plan ≡ output tables lines value
comes_to tables (Faulted fault at) plan = plan ≡ refusal Status.Faulted (fault_text fault at)
comes_to tables OutOfTurns plan = plan ≡ refusal Status.Turns (codes "qbs: turns")
comes_to tables Stuck plan = ⊥

abbrev pub comes : Schema → Called → ℕ → Database → Ends
comes tables called turns db = comes_to tables (outcome (world_with tables (read_by tables) db) called.method called.args turns)

-- ---- The command

-- a call of a method of a program over the texts of tables
abbrev pub call_of : Schema → List (List ℕ) → Call → ℕ → PlainProgram → Ends
call_of tables texts call turns p = has_call p call (λ called. has_rows tables texts (λ db. comes tables called turns db))

-- over the bytes of a source and the texts of tables
abbrev pub run_of : Options → Schema → Call → List ℕ → List (List ℕ) → Ends
run_of o tables call source texts = has_program tables source (λ p. chooses o tables p (λ q. call_of tables texts call (turns_of o) q))

abbrev pub run : Given → Options → List ℕ → List ℕ → List ℕ → Call → Ends
run files o schema source folder call =
    reads files schema most_schema (codes "schema") (λ s. reads files source most_source (codes "source") (λ t.
    over_tables files folder s (λ tables texts. run_of o tables call t texts)))
