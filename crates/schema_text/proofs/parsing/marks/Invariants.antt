use Rattle.std.proofs.Common.{◌≡◌, ◌-◌, length}
use Rattle.schema.specs.Tokens.{kinds_of}
use Rattle.schema.specs.Reading.{is_no_mark, mark_at, marked, marks_at}
use Rattle.schema_text.proofs.Loops.{fold}
use Rattle.schema_text.proofs.parsing.marks.Given as goal

abbrev pub invariant-loop : goal.invariant-loop
invariant-loop l = fold is_no_mark mark_at (marked l.marks) (length l.tokens - l.counter) (kinds_of l.rest) ≡ marks_at (kinds_of l.tokens)
