-- The worked walks compute.
use Rattle.std.proofs.Common.{◌≡◌, [], ◌∷◌, codes, refl}
use Rattle.std.specs.Fmt.{digits}
use Rattle.sql_ast.specs.Worked.{staff_schema}
use Rattle.spreads.specs.WorkedNarrow.{program_of, declaring, users, users_asked}
use Rattle.narrowing.specs.Narrowing.{patch_of, narrowing, all_narrowed}
use Rattle.narrowing.specs.Reports.{report_text}
use Rattle.narrowing.specs.Worked.{walks, said_of}

pub all_walks : all_narrowed staff_schema (70 ∷ []) (walks users) ≡ record { program = walks users_asked; walks = said_of; patches = patch_of users_asked ∷ [] }
unfolding digits narrowing
all_walks = refl

pub declared_walk : (all_narrowed staff_schema [] (program_of (declaring users))).program ≡ program_of (declaring users_asked)
unfolding digits narrowing
declared_walk = refl

pub reported : report_text said_of ≡ codes "loop 1:5 narrowed\nloop 3:5 stays Inside\nloop 4:5 stays List\nloop 5:5 stays Body\nloop 6:5 stays Condition\nloop 7:5 stays Covered\nnarrowed 1\n"
unfolding digits
reported = refl
