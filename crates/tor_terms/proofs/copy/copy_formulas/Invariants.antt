use Rattle.std.proofs.Common.{◌≡◌, take}
use Rattle.tor_terms.specs.Plain.{forms_of}
use Rattle.tor_terms.proofs.copy.copy_formulas.Given as goal

abbrev pub invariant-loop-f : goal.invariant-loop-f
invariant-loop-f l = forms_of l.copies ≡ forms_of (take l.f-index l.fs)
