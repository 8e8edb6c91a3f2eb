-- What the accumulators of a fragment end with, one after the other.
use Rattle.std.proofs.Common.{◌≡◌, ℕ, suc, List, [], ◌∷◌, ◌++◌, Option, Some, None, refl, sym, ap, ◌∙◌, append_assoc}
use Rattle.qbs_base.specs.declared.scalar.Value.{Value}
use Rattle.tor_terms.specs.Truth.{World}
use Rattle.kernel_lang.specs.Plain.{Accumulator, Fragment}
use Rattle.kernel_lang.specs.Running.{ends, ends_as, all_end, and_then}

-- values, and what comes after them
abbrev pub prefixed : List Value → Option (List Value) → Option (List Value)
prefixed front None = None
prefixed front (Some vs) = Some (front ++ vs)

pub prefixed_none : (o : Option (List Value)) → prefixed [] o ≡ o
prefixed_none None = refl
prefixed_none (Some vs) = refl

prefixed_more : (front : List Value) (v : Value) (o : Option (List Value)) → prefixed front (and_then (Some v) o) ≡ prefixed (front ++ v ∷ []) o
prefixed_more front v None = refl
prefixed_more front v (Some vs) = ap (λ (ws : List Value). Some ws) (sym (append_assoc front (v ∷ []) vs))

none_after : (o : Option (List Value)) → and_then None o ≡ None
none_after None = refl
none_after (Some vs) = refl

module _ (f : Fragment) (w : World) (a : Accumulator) (rest all : List Accumulator) (front : List Value) (end : Option (List Value)) where
  -- an accumulator that is declared in a loop is none of the source's
  pub passed_over : all ≡ a ∷ rest → (n : ℕ) → a.base ≡ suc n → prefixed front (all_end f w all) ≡ end → prefixed front (all_end f w rest) ≡ end
  passed_over e n b h =
      ap (λ (m : ℕ). prefixed front (ends f w m a (all_end f w rest))) (sym b) ∙ ap (λ (as_ : List Accumulator). prefixed front (all_end f w as_)) (sym e) ∙ h

  pub ended : all ≡ a ∷ rest → a.base ≡ 0 → (v : Value) → ends_as f w a ≡ Some v → prefixed front (all_end f w all) ≡ end → prefixed (front ++ v ∷ []) (all_end f w rest) ≡ end
  ended e b v s h =
      sym (prefixed_more front v (all_end f w rest))
      ∙ ap (λ (o : Option Value). prefixed front (and_then o (all_end f w rest))) (sym s)
      ∙ ap (λ (m : ℕ). prefixed front (ends f w m a (all_end f w rest))) (sym b)
      ∙ ap (λ (as_ : List Accumulator). prefixed front (all_end f w as_)) (sym e)
      ∙ h

  pub overflowed : all ≡ a ∷ rest → a.base ≡ 0 → ends_as f w a ≡ None → prefixed front (all_end f w all) ≡ end → end ≡ None
  overflowed e b s h =
      sym h
      ∙ ap (λ (as_ : List Accumulator). prefixed front (all_end f w as_)) e
      ∙ ap (λ (m : ℕ). prefixed front (ends f w m a (all_end f w rest))) b
      ∙ ap (λ (o : Option Value). prefixed front (and_then o (all_end f w rest))) s
      ∙ ap (prefixed front) (none_after (all_end f w rest))
