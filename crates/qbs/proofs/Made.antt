-- What is due for `make`: the runs of its methods, one after the other.
use Rattle.std.proofs.Common.{◌≡◌, ℕ, zero, suc, true, ◌++◌, List, [], ◌∷◌, length, drop, Option, Some, None, Result, Err, inl, inr, refl, sym, ap, subst, ◌∙◌}
use Rattle.std.specs.Prelude.{slice_get, IfSome}
use Rattle.qbs_base.specs.declared.scalar.Scalar.{Scalar}
use Rattle.qbs_base.specs.declared.scalar.Value.{Value}
use Rattle.qbs_base.specs.declared.status.Status.{Status}
use Rattle.qbs_base.specs.Values.{Schema, Database}
use Rattle.java_ast.specs.Tree.{PlainParam, PlainMethod, PlainProgram}
use Rattle.java_interp.specs.declared.run.Outcome.{Outcome as CodeOutcome}
use Rattle.java_interp.specs.Reached.{outcome_in}
use Rattle.java_mean.specs.Keeps.{Keeps, KeepsMethods}
use Rattle.java_mean.specs.Outcome.{Outcome}
use Rattle.java_mean.specs.Types.{AreArguments}
use Rattle.java_mean.specs.WellTyped.{IsWellTyped}
use Rattle.java_types.specs.Texts.{read_by}
use Rattle.verdicts.specs.declared.verdict.LoopVerdict.{LoopVerdict}
use Rattle.rewrite_core.specs.Rewriting.{verdicts_of, StandAsTried}
use Rattle.rewrite_core.specs.Trying.{all_tried, rewritten}
use Rattle.sample.specs.Class.{sample_program}
use Rattle.sample_data.specs.Tables.{sample_schema, sample_rows}
use Rattle.sample.proofs.Typed.{well_typed}
use Rattle.deliveries.specs.declared.plan.Plan.{Plan}
use Rattle.deliveries.specs.declared.fetch.Stop.{Stop}
use Rattle.deliveries.specs.Code.{Goes, OrMemory}
use Rattle.plans.specs.Results.{names_of}
use Rattle.plans.proofs.Loading.{drop_held, all_dropped}
use Rattle.qbs.specs.Code.{HasRun, HasNoRun}
use Rattle.qbs.specs.Make.{loops_text, method_text, summary, IsResult, IsNotDone, outcome_over, runs, TakeNone, make_of, make}
use Rattle.qbs.specs.Run.{IsChosen}
use Rattle.qbs.proofs.Going.{goes_on}
use Rattle.qbs.proofs.Rewrote.{is_rewriting}

-- ---- No arguments

pub class_takes_none : TakeNone sample_program.methods
unfolding sample_program
class_takes_none = (refl, (refl, (refl, (refl, tt))))

none_kept : (schema : Schema) (ms ns : List PlainMethod) → KeepsMethods schema ms ns → TakeNone ms → TakeNone ns
none_kept schema [] [] k h = tt
none_kept schema [] (n ∷ ns) k h = absurd k
none_kept schema (m ∷ ms) [] k h = absurd k
none_kept schema (m ∷ ms) (n ∷ ns) k h = (sym k.0.params ∙ h.0, none_kept schema ms ns k.1 h.1)

pub left_takes_none : (schema : Schema) (p q : PlainProgram) → Keeps p q schema → TakeNone p.methods → TakeNone q.methods
left_takes_none schema p q k h = none_kept schema p.methods q.methods k h

none_at : (ms : List PlainMethod) (n : ℕ) → TakeNone ms → IfSome (slice_get ms n) (λ m. m.params ≡ [])
none_at [] n h = tt
none_at (m ∷ ms) zero h = h.0
none_at (m ∷ ms) (suc n) h = none_at ms n h.1

fits_none : (schema : Schema) (o : Option PlainMethod) → IfSome o (λ m. m.params ≡ []) → IfSome o (λ m. AreArguments schema m.params [])
fits_none schema None h = tt
fits_none schema (Some m) h = subst (λ (ps : List PlainParam). AreArguments schema ps []) (sym h) tt

pub no_arguments : (schema : Schema) (ms : List PlainMethod) (n : ℕ) (args : List Scalar) → args ≡ [] → TakeNone ms → IfSome (slice_get ms n) (λ m. AreArguments schema m.params args)
no_arguments schema ms n args none h =
    subst (λ (xs : List Scalar). IfSome (slice_get ms n) (λ m. AreArguments schema m.params xs)) (sym none) (fits_none schema (slice_get ms n) (none_at ms n h))

-- ---- The class

pub sample_plain : (p : PlainProgram) → p ≡ sample_program → TakeNone p.methods
sample_plain p is = subst (λ (q : PlainProgram). TakeNone q.methods) (sym is) class_takes_none

pub sample_typed : (tables : Schema) (p : PlainProgram) → tables ≡ sample_schema → p ≡ sample_program → IsWellTyped tables (read_by tables) p
sample_typed tables p is same =
    subst (λ (t : Schema). IsWellTyped t (read_by t) p) (sym is)
    (subst (λ (q : PlainProgram). IsWellTyped sample_schema (read_by sample_schema) q) (sym same) (well_typed (read_by sample_schema)))

pub sample_made : (tables : Schema) (db : Database) (p : PlainProgram) (n : ℕ) (result : Result Plan Stop) → tables ≡ sample_schema → db ≡ sample_rows n → p ≡ sample_program →
    OrMemory result (make_of tables db p) → OrMemory result (make n)
sample_made tables db p n result is has same h =
    subst (λ (q : PlainProgram). OrMemory result (make_of sample_schema (sample_rows n) q)) same
    (subst (λ (d : Database). OrMemory result (make_of sample_schema d p)) has
    (subst (λ (t : Schema). OrMemory result (make_of t db p)) is h))

-- ---- One run

outcome_at : (tables : Schema) (db : Database) (ms : List PlainMethod) (n : ℕ) (m : PlainMethod) (o : CodeOutcome) → slice_get ms n ≡ Some m → IfSome (slice_get ms n) (λ m. outcome_in o ≡ outcome_over tables db m) → outcome_in o ≡ outcome_over tables db m
outcome_at tables db ms n m o there exact = subst (λ (x : Option PlainMethod). IfSome x (λ m. outcome_in o ≡ outcome_over tables db m)) there exact

pub has_run : (tables : Schema) (db : Database) (ms : List PlainMethod) (n : ℕ) (m : PlainMethod) (o : CodeOutcome) (value : Option Value) (old new : List ℕ) →
    slice_get ms n ≡ Some m → IfSome (slice_get ms n) (λ m. outcome_in o ≡ outcome_over tables db m) → IsResult (outcome_in o) value →
    new ≡ old ++ method_text (names_of tables) m.name value → HasRun tables db ms n old new
has_run tables db ms n m o value old new there exact is written =
    record { method = m; value = value; there = there; done = subst (λ (x : Outcome). IsResult x value) (outcome_at tables db ms n m o there exact) is; written = written }

pub has_no_run : (tables : Schema) (db : Database) (ms : List PlainMethod) (n : ℕ) (m : PlainMethod) (o : CodeOutcome) (stop : Stop) (Is : Unit {0} → Type 0) →
    slice_get ms n ≡ Some m → IfSome (slice_get ms n) (λ m. outcome_in o ≡ outcome_over tables db m) → Goes {A = Option Value} (Err stop) (IsResult (outcome_in o)) (IsNotDone (outcome_in o)) →
    Goes {A = Unit {0}} (Err stop) Is (HasNoRun tables db ms n)
has_no_run tables db ms n m o (Stop.Due plan) Is there exact h = (m, there, subst (λ (x : Outcome). IsNotDone x plan) (outcome_at tables db ms n m o there exact) h)
has_no_run tables db ms n m o Stop.Memory Is there exact h = tt

-- ---- All runs

-- what is due for the runs from one number on is due for all
abbrev pub Leads : Schema → Database → List PlainMethod → List ℕ → List ℕ → ℕ → Type 0
Leads tables db ms start written n = (plan : Plan) → runs tables db written (drop n ms) plan → runs tables db start ms plan

module _ (tables : Schema) (db : Database) (ms : List PlainMethod) (start : List ℕ) where
  pub runs_on : (n : ℕ) (old new : List ℕ) → HasRun tables db ms n old new → Leads tables db ms start old n → Leads tables db ms start new (suc n)
  unfolding runs
  runs_on n old new run leads plan h =
      leads plan
      (subst (λ rest. runs tables db old rest plan) (sym (drop_held ms n run.method run.there))
      (inr (run.value, run.done, subst (λ written. runs tables db written (drop (suc n) ms) plan) run.written h)))

  pub runs_stop : (n : ℕ) (old : List ℕ) (stop : Stop) (Is : Unit {0} → Type 0) → Goes {A = Unit {0}} (Err stop) Is (HasNoRun tables db ms n) → Leads tables db ms start old n → OrMemory (Err stop) (runs tables db start ms)
  unfolding runs
  runs_stop n old Stop.Memory Is h leads = tt
  runs_stop n old (Stop.Due plan) Is h leads = leads plan (subst (λ rest. runs tables db old rest plan) (sym (drop_held ms n h.0 h.1)) (inl h.2))

  pub runs_end : (n : ℕ) (written text rep : List ℕ) → n ≡ length ms → text ≡ written → rep ≡ [] → Leads tables db ms start written n →
      runs tables db start ms (record { status = Status.Ok; out = text; rep = rep })
  unfolding runs
  runs_end n written text rep all is none leads =
      let ended : runs tables db start ms (summary written) = leads (summary written) (subst (λ rest. runs tables db written rest (summary written)) (sym (all_dropped ms n (sym all))) refl) in
      subst (λ (out : List ℕ). runs tables db start ms (record { status = Status.Ok; out = out; rep = rep })) (sym is)
      (subst (λ (r : List ℕ). runs tables db start ms (record { status = Status.Ok; out = written; rep = r })) (sym none) ended)

-- ---- The command

pub made : (tables : Schema) (db : Database) (p q : PlainProgram) (verdicts : List LoopVerdict) (written : List ℕ) (result : Result Plan Stop) →
    q ≡ rewritten tables 4 20000 p → verdicts ≡ verdicts_of (all_tried tables 4 20000 p) →
    IsWellTyped tables (read_by tables) q → Keeps p q tables → StandAsTried (all_tried tables 4 20000 p) q →
    written ≡ loops_text verdicts → OrMemory result (runs tables db written q.methods) → OrMemory result (make_of tables db p)
made tables db p q verdicts written result is said well keeps standing text h =
    goes_on (IsChosen true tables 4 20000 p) (λ plan. ⊥) (λ r. runs tables db (loops_text (verdicts_of (all_tried tables 4 20000 p))) r.methods) q result
    (is, is_rewriting tables 4 20000 p q is well keeps standing)
    (subst (λ (ws : List ℕ). OrMemory result (runs tables db ws q.methods)) (text ∙ ap loops_text said) h)
