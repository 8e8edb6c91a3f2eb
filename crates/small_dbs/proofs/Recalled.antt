-- What is remembered of a fragment.
use Rattle.std.proofs.Common.{◌≡◌, ◌↔◌, ℕ, Bool, true, false, IsTrue, List, [], length, refl, sym, subst, ◌∙◌}
use Rattle.std.specs.Prelude.{IfOk}
use Rattle.std.specs.declared.option.Option.{Option}
use Rattle.std.specs.declared.option.Option.TheVariants.{Some}
use Rattle.std.specs.declared.result.Result.{Result}
use Rattle.std.specs.declared.result.Result.TheVariants.{Ok, Err}
use Rattle.qbs_base.specs.declared.memory.NoMemory.{NoMemory}
use Rattle.qbs_base.specs.declared.scalar.Value.{Value}
use Rattle.qbs_base.specs.Values.{Schema}
use Rattle.kernel_lang.specs.declared.prune.PruneAnswer.{PruneAnswer}
use Rattle.kernel_lang.specs.Plain.{Fragment}
use Rattle.kernel_lang.specs.Typed.{is_typed}
use Rattle.prune_steps.specs.Answered.{answer_of}
use Rattle.small_dbs.specs.declared.small.SmallDb.{SmallDb}
use Rattle.small_dbs.specs.Endings.{first_endings}
use Rattle.small_dbs.specs.Pruned.{OneRefutes, IsDropped, IsPruned}
use Rattle.small_dbs.specs.Remembered.{where_typed, smalls_for}
use Rattle.small_dbs.specs.Small.{smalls}

pub none_known : (f : Fragment) (items : List SmallDb) (es : List (Option (List Value))) → es ≡ [] → es ≡ first_endings f items (length es)
none_known f items es e = subst (λ (xs : List (Option (List Value))). xs ≡ first_endings f items (length xs)) (sym e) refl

typed_or_not : (schema : Schema) (f : Fragment) (c : List ℕ) (t : Bool) → t ≡ is_typed schema f → OneRefutes f c (where_typed t (smalls schema f)) ↔ IsDropped schema f c
typed_or_not schema f c true e = (λ o. record { typed = sym e; refuted = o }, λ d. d.refuted)
typed_or_not schema f c false e = (λ o. absurd o, λ d. absurd (let x : false ≡ true = e ∙ d.typed in cc))

pub dropped : (schema : Schema) (f : Fragment) (c : List ℕ) (items : List SmallDb) (r : Result Bool NoMemory) → items ≡ smalls_for schema (Some f) → IfOk r (λ b. IsTrue b ↔ OneRefutes f c items)
    → IfOk r (λ b. IsTrue b ↔ IsDropped schema f c)
dropped schema f c items (Err x) e h = tt
dropped schema f c items (Ok b) e h =
    let own : IsTrue b ↔ OneRefutes f c (smalls_for schema (Some f)) = subst (λ (xs : List SmallDb). IsTrue b ↔ OneRefutes f c xs) e h in
    let right = typed_or_not schema f c (is_typed schema f) refl in
    (λ t. right.0 (own.0 t), λ d. own.1 (right.1 d))

pub pruned : (schema : Schema) (f : Fragment) (c : List ℕ) (r : Result Bool NoMemory) (a : PruneAnswer) → IfOk r (λ b. IsTrue b ↔ IsDropped schema f c) → a ≡ answer_of (Some r) → IsPruned schema f c a
pruned schema f c (Ok true) a h e = subst (λ (x : PruneAnswer). IsPruned schema f c x) (sym e) (h.0 refl)
pruned schema f c (Ok false) a h e = subst (λ (x : PruneAnswer). IsPruned schema f c x) (sym e) (λ d. let t : false ≡ true = h.1 d in absurd cc)
pruned schema f c (Err x) a h e = subst (λ (y : PruneAnswer). IsPruned schema f c y) (sym e) tt
