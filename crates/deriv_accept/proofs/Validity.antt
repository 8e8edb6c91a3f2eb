-- What is accepted has one value on both sides.
use Rattle.std.proofs.Common.{◌≡◌, Bool, Result, Ok, Err, IfOk, IsTrue, sym, ◌∙◌}
use Rattle.tor_axioms.specs.Accepts.{Proof, Claim, accepts, IsSound}
use Rattle.tor_axioms.specs.Validity.{IsValid, IsValidAnywhere}
use Rattle.tor_axioms.proofs.Accepted.{accepts-sound, accepts-anywhere, accepts-valid}

module _ {E : Type 0} (c : Claim) (d : Proof) where
  pub answer-sound : (r : Result Bool E) → IfOk r (λ answer. answer ≡ accepts c d) → IfOk r (λ answer. IsTrue answer → IsSound c)
  answer-sound (Ok b) e = λ h. accepts-sound c d (sym e ∙ h)
  answer-sound (Err x) e = tt

  pub answer-anywhere : (r : Result Bool E) → IfOk r (λ answer. answer ≡ accepts c d) → IfOk r (λ answer. IsTrue answer → IsValidAnywhere c)
  answer-anywhere (Ok b) e = λ h. accepts-anywhere c d (sym e ∙ h)
  answer-anywhere (Err x) e = tt

  pub answer-valid : (r : Result Bool E) → IfOk r (λ answer. answer ≡ accepts c d) → IfOk r (λ answer. IsTrue answer → IsValid c)
  answer-valid (Ok b) e = λ h. accepts-valid c d (sym e ∙ h)
  answer-valid (Err x) e = tt
