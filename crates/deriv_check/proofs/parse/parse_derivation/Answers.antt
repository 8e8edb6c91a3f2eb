use Rattle.tor_axioms.specs.Accepts.{proof_of}
use Rattle.deriv_parts.specs.Limits.{most_splits}
use Rattle.deriv_check.specs.Answers.{offset_in}
use Rattle.deriv_check.specs.Reading.{read_derivation}
use Rattle.deriv_check.proofs.Derivations.{exact_derivation}
use Rattle.text_readers.proofs.Whole.{answer_found, answer_only, answer_fault}
use Rattle.deriv_check.proofs.parse.parse_derivation.Goals as goal

pub returns-clause-found : goal.returns-clause-found
unfolding read_derivation
returns-clause-found c = answer_found (exact_derivation most_splits) tt offset_in proof_of c.args.bytes.now c.answer_derivation.result c.answer_derivation.ensures

pub returns-clause-only : goal.returns-clause-only
unfolding read_derivation
returns-clause-only c = answer_only (exact_derivation most_splits) tt offset_in proof_of c.args.bytes.now c.answer_derivation.result c.answer_derivation.ensures

pub returns-clause-fault : goal.returns-clause-fault
unfolding read_derivation
returns-clause-fault c = answer_fault (exact_derivation most_splits) tt offset_in proof_of c.args.bytes.now c.answer_derivation.result c.answer_derivation.ensures
