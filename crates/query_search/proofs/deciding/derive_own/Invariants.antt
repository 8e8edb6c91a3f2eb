use Rattle.std.proofs.Common.{◌≡◌, drop}
use Rattle.tor_terms.specs.Plain.{forms_of}
use Rattle.kernel_lang.specs.Plain.{accumulator}
use Rattle.vc_gen.specs.Conditions.{own_conditions}
use Rattle.query_search.specs.Seen.{proofs_in}
use Rattle.query_search.specs.Verdicts.{all_derived}
use Rattle.query_search.proofs.Judged.{behind}
use Rattle.query_search.proofs.deciding.derive_own.Given as goal

abbrev pub invariant-loop-n : goal.invariant-loop-n
invariant-loop-n l =
    behind (proofs_in l.all) (all_derived (drop l.n (own_conditions l.atoms (accumulator l.a, forms_of l.choice)))) ≡ all_derived (own_conditions l.atoms (accumulator l.a, forms_of l.choice))
