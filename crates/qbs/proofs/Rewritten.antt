-- What is due for a run of a program or of the rewritten one.
use Rattle.std.proofs.Common.{◌≡◌, ℕ, Bool, true, false, List, Result, Err, refl, subst, inl}
use Rattle.rewrite_core.specs.Trying.{rewritten}
use Rattle.qbs_base.specs.Values.{Schema}
use Rattle.java_ast.specs.Tree.{PlainProgram}
use Rattle.words.specs.declared.command.Options.{Options}
use Rattle.deliveries.specs.declared.plan.Plan.{Plan}
use Rattle.deliveries.specs.declared.fetch.Stop.{Stop}
use Rattle.deliveries.specs.Code.{Goes, OrMemory}
use Rattle.plans.specs.Opening.{IsProgramOf, HasNoProgram}
use Rattle.plans.specs.Calls.{Call}
use Rattle.qbs.specs.Code.{run_called}
use Rattle.qbs.specs.Rewrite.{size_of, budget_of, IsRewriting}
use Rattle.qbs.specs.Run.{IsChosen, chooses, call_of, run_of, turns_of}
use Rattle.qbs.proofs.Going.{goes_on, due_as}
use Rattle.qbs.proofs.Twins.{run_steps}

pub run_lacking : {A : Type 0} (Is : A → Type 0) (o : Options) (tables : Schema) (call : Call) (source : List ℕ) (texts : List (List ℕ)) (stop : Stop) → Goes {A = A} (Err stop) Is (HasNoProgram tables source) → OrMemory (Err stop) (run_of o tables call source texts)
run_lacking Is o tables call source texts (Stop.Due plan) h = inl h
run_lacking Is o tables call source texts Stop.Memory h = tt

pub run_found : (o : Options) (tables : Schema) (call : Call) (source : List ℕ) (texts : List (List ℕ)) (p : PlainProgram) (result : Result Plan Stop) → IsProgramOf tables source p →
    OrMemory result (chooses o tables p (call_of tables texts call (turns_of o))) → OrMemory result (run_of o tables call source texts)
run_found o tables call source texts p result is h =
    goes_on (IsProgramOf tables source) (HasNoProgram tables source) (λ q. chooses o tables q (call_of tables texts call (turns_of o))) p result is h

-- the program itself is run where the rewritten one isn't asked for
pub chosen_plainly : (rewritten : Bool) (tables : Schema) (size budget : ℕ) (p : PlainProgram) → rewritten ≡ false → IsChosen rewritten tables size budget p p
chosen_plainly false tables size budget p plainly = refl
chosen_plainly true tables size budget p plainly = absurd cc

pub chosen_rewritten : (asked : Bool) (tables : Schema) (size budget : ℕ) (p q : PlainProgram) → asked ≡ true → q ≡ rewritten tables size budget p → IsRewriting tables size budget p → IsChosen asked tables size budget p q
chosen_rewritten false tables size budget p q other is rewriting = absurd cc
chosen_rewritten true tables size budget p q other is rewriting = (is, rewriting)

pub run_chosen : (o : Options) (tables : Schema) (call : Call) (texts : List (List ℕ)) (turns : ℕ) (p q : PlainProgram) (result : Result Plan Stop) → turns ≡ turns_of o →
    IsChosen o.rewritten tables (size_of o) (budget_of o) p q →
    OrMemory result (run_called tables texts call turns q) → OrMemory result (chooses o tables p (call_of tables texts call (turns_of o)))
run_chosen o tables call texts turns p q result same chosen h =
    goes_on (IsChosen o.rewritten tables (size_of o) (budget_of o) p) (λ plan. ⊥) (call_of tables texts call (turns_of o)) q result chosen
    (subst (λ (n : ℕ). OrMemory result (call_of tables texts call n q)) same
    (due_as (run_called tables texts call turns q) (call_of tables texts call turns q) result (λ plan due. run_steps tables texts call turns q plan due) h))
