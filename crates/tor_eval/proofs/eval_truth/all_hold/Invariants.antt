use Rattle.std.proofs.Common.{◌≡◌, drop}
use Rattle.tor_terms.specs.Plain.{forms_of}
use Rattle.tor_terms.specs.Evaluation as found
use Rattle.tor_eval.proofs.eval_truth.all_hold.Given as goal

abbrev pub invariant-loop-f : goal.invariant-loop-f
invariant-loop-f l = found.selects l.env l.atoms (forms_of l.fs) l.tuple ≡ found.selects l.env l.atoms (forms_of (drop l.f-index l.fs)) l.tuple
