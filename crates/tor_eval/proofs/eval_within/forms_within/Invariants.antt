use Rattle.std.proofs.Common.{◌≡◌, drop}
use Rattle.tor_terms.specs.Truth as spec
use Rattle.tor_terms.specs.Plain.{forms_of}
use Rattle.std.specs.List.{list_all}
use Rattle.tor_eval.proofs.eval_within.forms_within.Given as goal

abbrev pub invariant-loop-f : goal.invariant-loop-f
invariant-loop-f l = list_all (spec.form_within l.atoms l.loops) (forms_of l.fs) ≡ list_all (spec.form_within l.atoms l.loops) (forms_of (drop l.f-index l.fs))
