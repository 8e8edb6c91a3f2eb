use Rattle.std.proofs.Common.{◌≡◌, ◌-◌, length}
use Rattle.schema.specs.Series.{series_up_to}
use Rattle.schema.specs.Tokens.{kinds_of}
use Rattle.schema.specs.Reading.{is_no_comma, next_item_at, columns_behind}
use Rattle.schema_text.proofs.Loops.{with_columns}
use Rattle.schema_text.proofs.parsing.further.Given as goal

abbrev pub invariant-loop : goal.invariant-loop
invariant-loop l = with_columns l.columns.items (series_up_to is_no_comma next_item_at (length l.tokens - l.counter) (kinds_of l.rest)) ≡ columns_behind l.fn.columns.items (kinds_of l.tokens)
