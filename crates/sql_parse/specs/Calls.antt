-- Words of queries that stand before a parenthesis, and items that begin with a word.
use Rattle.std.specs.Prelude.{ℕ, ℤ, if◌then◌else◌, List, ◌∷◌}
use Rattle.std.specs.Str.Parse.{digits_value}
use Rattle.std.specs.declared.option.Option.{Option}
use Rattle.std.specs.declared.option.Option.TheVariants.{Some, None}
use Rattle.sql_ast.specs.declared.tree.Cmp.{Cmp}
use Rattle.sql_ast.specs.Limits.{limit_within}
use Rattle.sql_ast.specs.Names.{◌>>=◌}
use Rattle.sql_ast.specs.Reader.{Read, given, is_word, col_at}
use Rattle.sql_ast.specs.Tokens.{Token, Word, Test, Open, Dot, Star, is_free}
use Rattle.sql_ast.specs.Written.{WrittenCol, WrittenItem, WrittenKind, Sum, Max, Min}
use Rattle.sql_ast.specs.Written as written
use Rattle.sql_parse.specs.declared.queries.Total.{Total}
use Rattle.sql_parse.specs.declared.queries.Total.TheVariants as totals

-- what stands behind a word and an open parenthesis
abbrev pub behind_call : List ℕ → List Token → Option (List Token)
behind_call name (t ∷ Open ∷ ts) = if is_word name t then Some ts else None
behind_call name _ = None

-- the number that digits write, below 2^63
abbrev pub number_within : List ℕ → Option ℕ
number_within digits = limit_within (digits_value 10 digits)

-- what a total makes of its column and of its number over no rows
abbrev pub make_of : Total → WrittenCol → ℤ → WrittenKind
make_of totals.Sum col other = Sum col other
make_of totals.Max col other = Max col other
make_of totals.Min col other = Min col other

-- an alias before `.*`, and what stands behind
abbrev pub whole_of_at : List Token → Option (List ℕ × List Token)
whole_of_at (Word alias ∷ Dot ∷ Star ∷ ts) = Some (alias, ts)
whole_of_at _ = None

-- an item that is not `*` alone
abbrev pub named_item_at : List Token → Read WrittenItem
named_item_at ts =
    given (whole_of_at ts) (λ x. if is_free x.0 then Some (written.Whole (Some x.0), x.1) else None) (col_at ts >>= λ x. Some (written.Column x.0, x.1))

-- a comparison at the front, and what stands behind it
abbrev pub test_at : List Token → Read Cmp
test_at (Test cmp ∷ ts) = Some (cmp, ts)
test_at _ = None
