use Rattle.vc_gen.proofs.Refused.{refuted-not_derived, nothing-not_derived}
use Rattle.vc_gen.proofs.laws.refuted_candidates_are_not_derived.Goals as goal

pub returns-clause-all : goal.returns-clause-all
returns-clause-all c = refuted-not_derived

pub returns-clause-worked : goal.returns-clause-worked
returns-clause-worked c = nothing-not_derived
