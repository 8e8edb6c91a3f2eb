-- A program with the spread of a loop in its place is well typed, by the law of spreads.
use Rattle.qbs_base.specs.Values.{Schema}
use Rattle.java_mean.specs.Queries.{Reader}
use Rattle.java_types.specs.Texts.{read_by}
use Rattle.java_types.proofs.Found.{found_exactly}
use Rattle.spreads.proofs.Sound.{typed, numbers}
use Rattle.rewrite_core.proofs.UnnestSteps.{SpreadsStayTyped}

abbrev reader_of : (schema : Schema) → Reader schema
reader_of schema = record { read = read_by schema; exact = found_exactly schema }

pub spreads_stay_typed : (schema : Schema) → SpreadsStayTyped schema
spreads_stay_typed schema p path s z well fits there is = (typed schema (reader_of schema) p path s z well there is, numbers schema (reader_of schema) p path s z fits there is)
