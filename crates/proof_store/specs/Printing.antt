-- The text of a table by its number.
use Rattle.std.specs.Prelude.{ℕ, List, [], Option, slice_get}
use Rattle.std.specs.Option.{option_map}
use Rattle.std.specs.declared.option.Option.TheVariants.{Some, None}
use Rattle.qbs_base.specs.declared.scalar.Row.{Row}
use Rattle.qbs_base.specs.Values.{Database}
use Rattle.store_parts.specs.Texts.{rows_text}

abbrev pub text_of : Option (List Row) → List ℕ
text_of None = []
text_of (Some rows) = rows_text rows

-- nothing where there is no such table
abbrev pub text_at : Database → ℕ → List ℕ
text_at db number = text_of (option_map (λ t. t.1) (slice_get db number))
