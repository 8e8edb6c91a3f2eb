use Rattle.tor_axioms.specs.Accepts.{proof_of, claim_of}
use Rattle.deriv_accept.proofs.Validity.{answer-sound, answer-anywhere, answer-valid}
use Rattle.deriv_accept.proofs.accept.accepts.Goals as goal

pub returns-clause-sound : goal.returns-clause-sound
returns-clause-sound c = answer-sound (claim_of c.args.vc.now) (proof_of c.args.d.now) c.check.result c.check.ensures

pub returns-clause-anywhere : goal.returns-clause-anywhere
returns-clause-anywhere c = answer-anywhere (claim_of c.args.vc.now) (proof_of c.args.d.now) c.check.result c.check.ensures

pub returns-clause-valid : goal.returns-clause-valid
returns-clause-valid c = answer-valid (claim_of c.args.vc.now) (proof_of c.args.d.now) c.check.result c.check.ensures
