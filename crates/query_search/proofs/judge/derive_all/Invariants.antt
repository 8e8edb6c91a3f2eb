use Rattle.std.proofs.Common.{◌≡◌, drop}
use Rattle.vc_gen.specs.Lent.{claims_over}
use Rattle.query_search.specs.Seen.{proofs_in}
use Rattle.query_search.specs.Verdicts.{all_derived}
use Rattle.query_search.proofs.Judged.{behind}
use Rattle.query_search.proofs.judge.derive_all.Given as goal

abbrev pub invariant-loop-condition : goal.invariant-loop-condition
invariant-loop-condition l = behind (proofs_in l.all) (all_derived (claims_over l.atoms (drop l.condition-index l.conditions))) ≡ all_derived (claims_over l.atoms l.conditions)
