use Rattle.std.proofs.Common.{◌≡◌, drop}
use Rattle.tor_terms.specs.Plain.{forms_of}
use Rattle.lowering.specs.InCode.Capped.{all_in}
use Rattle.lowering.proofs.rules.k8_pools.enter_all.Given as goal

abbrev pub invariant-loop-f : goal.invariant-loop-f
invariant-loop-f l = all_in (forms_of l.pool) (forms_of (drop l.f-index l.forms)) ≡ all_in (forms_of l.fn.pool) (forms_of l.forms)
