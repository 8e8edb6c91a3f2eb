use Rattle.std.proofs.Common.{◌≡◌, drop}
use Rattle.tor_terms.specs.Fits as fits
use Rattle.tor_terms.specs.Plain.{forms_of}
use Rattle.std.specs.List.{list_all}
use Rattle.tor_eval.proofs.eval_within.forms_there.Given as goal

abbrev pub invariant-loop-f : goal.invariant-loop-f
invariant-loop-f l = list_all (fits.form_there l.atoms) (forms_of l.fs) ≡ list_all (fits.form_there l.atoms) (forms_of (drop l.f-index l.fs))
