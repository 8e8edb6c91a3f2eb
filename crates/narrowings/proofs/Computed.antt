-- The worked programs.
use Rattle.std.proofs.Common.{◌≡◌, [], ◌∷◌, Some, refl}
use Rattle.std.specs.Fmt.{digits}
use Rattle.sql_ast.specs.Worked.{staff_schema}
use Rattle.java_mean.specs.Keeps.{Keeps}
use Rattle.java_mean.specs.Numbers.{NumbersFit}
use Rattle.java_mean.specs.Queries.{Reader}
use Rattle.java_mean.specs.WellTyped.{IsWellTyped}
use Rattle.spreads.specs.Narrowed.{narrowed_at}
use Rattle.spreads.specs.WorkedNarrow.{users, users_asked}
use Rattle.narrowings.specs.Words.{HasWords}
use Rattle.narrowings.specs.Worked.{collecting, collecting_listed}
use Rattle.narrowings.proofs.Program.{narrowed_keeps}
use Rattle.narrowings.proofs.Query.{all_asked}
use Rattle.narrowings.proofs.Typed.{narrowed_sound}

pub words : HasWords staff_schema
words = record {
  tables = ((refl, refl), ((refl, refl), tt));
  columns = ((((refl, refl), refl), (((refl, refl), refl), (((refl, refl), refl), (((refl, refl), refl), (((refl, refl), refl), tt))))), ((((refl, refl), refl), (((refl, refl), refl), tt)), tt));
}

pub typed : (reader : Reader staff_schema) → IsWellTyped staff_schema reader.read (collecting users)
typed reader = refl

pub numbers : NumbersFit (collecting users)
numbers = refl

pub narrowed : narrowed_at staff_schema (0 ∷ 1 ∷ []) (collecting users) ≡ Some (collecting users_asked)
unfolding digits
narrowed = refl

pub kept : Reader staff_schema → Keeps (collecting users) (collecting users_asked) staff_schema
kept reader = narrowed_keeps staff_schema (all_asked staff_schema words) reader (collecting users) (collecting users_asked) (0 ∷ 1 ∷ []) (typed reader) numbers narrowed

pub after : (reader : Reader staff_schema) → IsWellTyped staff_schema reader.read (collecting users_asked)
after reader = (let k = narrowed_sound staff_schema (all_asked staff_schema words) reader (collecting users) (collecting users_asked) (0 ∷ 1 ∷ []) (typed reader) numbers narrowed in k.typed)

-- ---- The list is declared before

pub listed_typed : (reader : Reader staff_schema) → IsWellTyped staff_schema reader.read (collecting_listed users)
listed_typed reader = refl

pub listed_numbers : NumbersFit (collecting_listed users)
listed_numbers = refl

pub listed_narrowed : narrowed_at staff_schema (0 ∷ 2 ∷ []) (collecting_listed users) ≡ Some (collecting_listed users_asked)
unfolding digits
listed_narrowed = refl

pub listed_kept : Reader staff_schema → Keeps (collecting_listed users) (collecting_listed users_asked) staff_schema
listed_kept reader = narrowed_keeps staff_schema (all_asked staff_schema words) reader (collecting_listed users) (collecting_listed users_asked) (0 ∷ 2 ∷ []) (listed_typed reader) listed_numbers listed_narrowed

pub listed_after : (reader : Reader staff_schema) → IsWellTyped staff_schema reader.read (collecting_listed users_asked)
listed_after reader = (let k = narrowed_sound staff_schema (all_asked staff_schema words) reader (collecting_listed users) (collecting_listed users_asked) (0 ∷ 2 ∷ []) (listed_typed reader) listed_numbers listed_narrowed in k.typed)
