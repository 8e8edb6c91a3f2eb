use Rattle.std.proofs.Common.{◌≡◌, take}
use Rattle.tor_terms.specs.Evaluation as found
use Rattle.std.specs.List.{filter}
use Rattle.tor_terms.specs.Plain.{forms_of}
use Rattle.tor_eval.proofs.eval_lists.selected.Given as goal

abbrev pub invariant-loop-t : goal.invariant-loop-t
invariant-loop-t l = l.kept ≡ filter (found.selects l.env l.atoms (forms_of l.fs)) (take l.t-index l.ts)
