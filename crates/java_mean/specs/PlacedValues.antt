-- What an expression comes to where all its places are replaced by one.
use Rattle.std.specs.Prelude.{Result, Ok, Err}
use Rattle.qbs_base.specs.declared.span.Span.{Span}
use Rattle.java_mean.specs.declared.ending.Ending.{Ending}
use Rattle.java_mean.specs.declared.ending.Ending.TheVariants.{Faulted, OutOfTurns, Stuck}

-- the same ending, where a fault is one of the expression at this place
abbrev pub ending_at : Span → Ending → Ending
ending_at to (Faulted fault at) = Faulted fault to
ending_at to OutOfTurns = OutOfTurns
ending_at to Stuck = Stuck

-- the same value, or the same ending at this place
abbrev pub result_at : {A : Type 0} → Span → Result A Ending → Result A Ending
result_at to (Ok x) = Ok x
result_at to (Err e) = Err (ending_at to e)
