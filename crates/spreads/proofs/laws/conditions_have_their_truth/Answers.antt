use Rattle.spreads.proofs.Stated.{truth_at_row}
use Rattle.spreads.proofs.laws.conditions_have_their_truth.Goals as goal

pub returns : goal.returns
returns c = truth_at_row
