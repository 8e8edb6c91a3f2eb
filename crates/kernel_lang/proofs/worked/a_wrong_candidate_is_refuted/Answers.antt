use Rattle.kernel_lang.proofs.Refuting.{bob_refutes, nothing_refuted}
use Rattle.kernel_lang.proofs.worked.a_wrong_candidate_is_refuted.Goals as goal

pub returns-clause-one_user : goal.returns-clause-one_user
returns-clause-one_user c = bob_refutes

pub returns-clause-refuted : goal.returns-clause-refuted
returns-clause-refuted c = nothing_refuted
