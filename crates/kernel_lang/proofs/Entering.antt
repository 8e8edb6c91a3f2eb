-- Formulas that enter a pool.
use Rattle.std.proofs.Common.{◌≡◌, Bool, List, [], ◌∷◌, ◌++◌, refl, sym, ap, ◌∙◌}
use Rattle.std.specs.List.{filter, flat_map}
use Rattle.std.proofs.lemmas.List.{map-append}
use Rattle.std.proofs.lemmas.List.Elements.{filter-append}
use Rattle.tor_terms.specs.Plain.{Form}
use Rattle.tor_terms.specs.Same.{entered}
use Rattle.kernel_lang.specs.Pools.{all_entered, negated, conjuncts}

pub all_entered-append : (pool fs gs : List Form) → all_entered pool (fs ++ gs) ≡ all_entered (all_entered pool fs) gs
all_entered-append pool [] gs = refl
all_entered-append pool (f ∷ fs) gs = all_entered-append (entered (entered pool f) (negated f)) fs gs

-- those that may enter, of two lists
pub both_entered : (may : Form → Bool) (pool fs gs : List Form) → all_entered pool (filter may (fs ++ gs)) ≡ all_entered (all_entered pool (filter may fs)) (filter may gs)
both_entered may pool fs gs = ap (all_entered pool) (filter-append may fs gs) ∙ all_entered-append pool (filter may fs) (filter may gs)

pub ruleset entering = (both_entered, map-append)

-- the conjuncts of one condition more
pub condition_entered : (may : Form → Bool) (pool next : List Form) (f : Form) (rest all end : List Form) → all ≡ f ∷ rest → next ≡ all_entered pool (filter may (conjuncts f))
    → all_entered pool (filter may (flat_map conjuncts all)) ≡ end → all_entered next (filter may (flat_map conjuncts rest)) ≡ end
condition_entered may pool next f rest all end e n h =
    ap (λ (p : List Form). all_entered p (filter may (flat_map conjuncts rest))) n
    ∙ sym (both_entered may pool (conjuncts f) (flat_map conjuncts rest))
    ∙ ap (λ (fs : List Form). all_entered pool (filter may (flat_map conjuncts fs))) (sym e)
    ∙ h
