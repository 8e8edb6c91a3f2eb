-- What a bank answers of a candidate.
use Rattle.std.proofs.Common.{◌≡◌, ◌↔◌, Bool, true, false, IsTrue, ℕ, List, refl}
use Rattle.std.specs.Prelude.{IfOk}
use Rattle.std.specs.declared.option.Option.TheVariants.{Some}
use Rattle.std.specs.declared.result.Result.{Result}
use Rattle.std.specs.declared.result.Result.TheVariants.{Ok, Err}
use Rattle.qbs_base.specs.declared.memory.NoMemory.{NoMemory}
use Rattle.kernel_lang.specs.declared.prune.PruneAnswer.{PruneAnswer}
use Rattle.kernel_lang.specs.declared.prune.PruneAnswer.TheVariants as answers
use Rattle.kernel_lang.specs.Plain.{Fragment}
use Rattle.kernel_lang.specs.Refuted.{IsRefuted}
use Rattle.prune_steps.specs.Answered.{answer_of}
use Rattle.small_dbs.specs.declared.small.SmallDb.{SmallDb}
use Rattle.small_dbs.specs.Pruned.{OneRefutes}
use Rattle.small_dbs.proofs.Later.{is_refuted}

pub justified : (f : Fragment) (c : List ℕ) (items : List SmallDb) (r : Result Bool NoMemory) (a : PruneAnswer) → IfOk r (λ b. IsTrue b ↔ OneRefutes f c items)
    → a ≡ answer_of (Some r) → a ≡ answers.Drop → ∥ IsRefuted f c ∥₁
justified f c items (Ok true) a h e d = ∣ is_refuted f c items (h.0 refl) ∣₁
justified f c items (Ok false) a h e d = absurd cc
justified f c items (Err x) a h e d = absurd cc
