use Rattle.std.specs.List.{list_any}
use Rattle.std.proofs.Common.{◌≡◌, drop}
use Rattle.tor_terms.specs.Plain.{form_of, forms_of}
use Rattle.tor_terms.specs.Same.{same_form}
use Rattle.lowering.proofs.rules.k8_pools.is_there.Given as goal

abbrev pub invariant-loop-g : goal.invariant-loop-g
invariant-loop-g l = list_any (same_form (form_of l.f)) (forms_of (drop l.g-index l.pool)) ≡ list_any (same_form (form_of l.f)) (forms_of l.pool)
