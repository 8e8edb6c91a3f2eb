use Rattle.inlined_types.proofs.Computed.{plain, typed, fits, keeps}
use Rattle.inlined_types.proofs.worked.worked_classes_are_well_typed.Goals as goal

pub returns : goal.returns
returns c = record { plain = plain; typed = typed; fitting = fits; kept = keeps }
