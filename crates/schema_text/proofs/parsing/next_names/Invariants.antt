use Rattle.std.proofs.Common.{◌≡◌, ◌-◌, length}
use Rattle.readers.specs.Reading.{up_to}
use Rattle.readers.proofs.Loops.{with_front}
use Rattle.schema.specs.Tokens.{kinds_of}
use Rattle.schema.specs.Reading.{is_no_comma, next_name_at, names_behind}
use Rattle.schema_text.proofs.parsing.next_names.Given as goal

abbrev pub invariant-loop : goal.invariant-loop
invariant-loop l = with_front l.names.items (up_to is_no_comma next_name_at (length l.tokens - l.counter) (kinds_of l.rest)) ≡ names_behind l.fn.names.items (kinds_of l.tokens)
