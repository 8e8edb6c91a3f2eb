use Rattle.inlined_types.proofs.Fit.{are_fitting}
use Rattle.inlined_types.proofs.laws.helpers_of_well_typed_programs_fit.Goals as goal

pub returns : goal.returns
returns c = are_fitting
