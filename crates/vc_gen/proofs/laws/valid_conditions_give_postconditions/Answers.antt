use Rattle.vc_gen.proofs.Ended.{fragment-ends, fragment-ends-anywhere}
use Rattle.vc_gen.proofs.laws.valid_conditions_give_postconditions.Goals as goal

pub returns-clause-fitting : goal.returns-clause-fitting
returns-clause-fitting c = fragment-ends

pub returns-clause-anywhere : goal.returns-clause-anywhere
returns-clause-anywhere c = fragment-ends-anywhere
