use Rattle.spreads.proofs.Computed.{direct_program, declared_program, after_program}
use Rattle.spreads.proofs.worked.worked_programs_stay_well_typed.Goals as goal

pub returns : goal.returns
returns c = record { direct = direct_program; declared = declared_program; after = after_program }
