-- The bank of a store is one more pruner.
use Rattle.std.proofs.Common.{◌≡◌, ℕ, ◌⊎◌, ⊎_elim, inl, inr, List, Result, Err, IfOk, subst}
use Rattle.std.specs.Borrow.{Bor}
use Rattle.qbs_base.specs.Values.{Schema}
use Rattle.java_ast.specs.Tree.{PlainProgram}
use Rattle.kernel_lang.specs.declared.fragment.KFragment.{KFragment}
use Rattle.kernel_lang.specs.declared.prune.PruneAnswer.{PruneAnswer}
use Rattle.kernel_lang.specs.declared.prune.PruneAnswer.TheVariants as answers
use Rattle.kernel_lang.specs.Plain.{Fragment}
use Rattle.kernel_lang.specs.Whole.{fragment_of}
use Rattle.query_search.specs.Asking.{Promise, MayAnswer}
use Rattle.small_dbs.specs.declared.small.SmallDb.{SmallDb}
use Rattle.small_dbs.specs.Pruned.{OneRefutes}
use Rattle.rewrite_core.specs.declared.rewritten.Rewritten.{Rewritten}
use Rattle.rewrite_core.specs.Results.{IsRewritingOf}
use Rattle.rewrite_core.proofs.PrunedTries.{pruned_by}
use Rattle.proof_store.specs.Asked.{IsAnswered}
use Rattle.proof_store.specs.declared.fault.StoreFault.{StoreFault}
use Rattle.deliveries.specs.declared.fetch.Stop.{Stop}
use Rattle.deliveries.specs.Code.{Goes, StopsWith}
use Rattle.deliveries.specs.Steps.{refused}
use Rattle.plans.proofs.Opened.{refuses}
use Rattle.qbs.specs.Store.{BreaksStore, store_refusal}

-- ---- the store of bytes

pub bank_stops : {A : Type 0} (Is : A → Type 0) (tables : Schema) (bytes : List ℕ) (fault : StoreFault) (stop : Stop) → BreaksStore tables bytes fault → StopsWith (store_refusal fault) stop →
    Goes {A = A} (Err stop) Is (refused (BreaksStore tables bytes) store_refusal)
bank_stops Is tables bytes fault stop breaks due = refuses Is (BreaksStore tables bytes) store_refusal fault stop breaks due

-- ---- what it answers

-- of other names for one fragment and candidate
pub moved : (at : KFragment) (f : Fragment) (of c : List ℕ) (items : List SmallDb) (a : PruneAnswer) → fragment_of at ≡ f → of ≡ c → IsAnswered (fragment_of at) of items a → IsAnswered f c items a
moved at f of c items a e h x = subst (λ (k : Fragment). IsAnswered k c items a) e (subst (λ (l : List ℕ). IsAnswered (fragment_of at) l items a) h x)

-- ---- a rewriting with it

-- by what a further closure answers, which is what the bank answers
pub rewritten_by_bank : {X : Type 0} (D K : Fragment → List ℕ → Type 0) (further : Promise) (items : List SmallDb) (schema : Schema) (size budget : ℕ) (source : List ℕ) (p : PlainProgram) (r : Result Rewritten X) →
    ((f : Bor KFragment) (c : Bor (List ℕ)) (a : PruneAnswer) → further f c a → IsAnswered (fragment_of f.now) c.now items a) →
    IfOk r (IsRewritingOf (λ f c. D f c ⊎ MayAnswer fragment_of further f answers.Drop c) (λ f c. K f c × MayAnswer fragment_of further f answers.Keep c) schema size budget source p) →
    IfOk r (IsRewritingOf (λ f c. D f c ⊎ OneRefutes f c items) (λ f c. K f c × (OneRefutes f c items → ⊥)) schema size budget source p)
rewritten_by_bank D K further items schema size budget source p r exact h =
    pruned_by (λ f c. D f c ⊎ MayAnswer fragment_of further f answers.Drop c) (λ f c. K f c × MayAnswer fragment_of further f answers.Keep c) (λ f c. D f c ⊎ OneRefutes f c items) (λ f c. K f c × (OneRefutes f c items → ⊥)) schema size budget source p r h
    (λ f c d. ⊎_elim (λ x. inl x) (λ x. inr (moved x.0.now f x.1.now c items answers.Drop x.3 x.4 (exact x.0 x.1 answers.Drop x.2))) d)
    (λ f c k. (k.0, moved k.1.0.now f k.1.1.now c items answers.Keep k.1.3 k.1.4 (exact k.1.0 k.1.1 answers.Keep k.1.2)))
