use Rattle.inlined_types.proofs.Fit.{kept}
use Rattle.inlined_types.proofs.laws.inlined_programs_keep_where_they_are_well_typed.Goals as goal

pub returns : goal.returns
returns c = kept
