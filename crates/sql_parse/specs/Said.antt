-- What the code's trees of query texts say.
use Rattle.std.specs.Prelude.{List, map}
use Rattle.std.specs.declared.option.Option.{Option}
use Rattle.std.specs.declared.option.Option.TheVariants.{Some, None}
use Rattle.std.specs.Option.{option_map}
use Rattle.std.specs.Global.{Box}
use Rattle.sql_ast.specs.Written as written
use Rattle.sql_parse.specs.declared.raw.RawCol.{RawCol}
use Rattle.sql_parse.specs.declared.raw.RawPart.{RawPart}
use Rattle.sql_parse.specs.declared.raw.RawOpnd.{RawOpnd}
use Rattle.sql_parse.specs.declared.raw.RawOpnd.TheVariants as opnds
use Rattle.sql_parse.specs.declared.raw.RawCond.{RawCond}
use Rattle.sql_parse.specs.declared.raw.RawCond as conds
use Rattle.sql_parse.specs.declared.raw.RawSource.{RawSource}
use Rattle.sql_parse.specs.declared.raw.RawItem.{RawItem}
use Rattle.sql_parse.specs.declared.raw.RawItem.TheVariants as items
use Rattle.sql_parse.specs.declared.raw.RawKey.{RawKey}
use Rattle.sql_parse.specs.declared.raw.RawKind.{RawKind}
use Rattle.sql_parse.specs.declared.raw.RawKind.TheVariants as kinds
use Rattle.sql_parse.specs.declared.raw.RawListing.{RawListing}
use Rattle.sql_parse.specs.declared.raw.RawNumber.{RawNumber}
use Rattle.sql_parse.specs.declared.raw.RawTruth.{RawTruth}
use Rattle.sql_parse.specs.declared.raw.RawQuery.{RawQuery}
use Rattle.sql_parse.specs.declared.raw.RawQuery.TheVariants as queries

abbrev pub col_of : RawCol → written.WrittenCol
col_of c = record { alias = c.alias; name = c.name }

abbrev pub part_of : RawPart → written.WrittenPart
part_of p = record { table = p.table; alias = p.alias }

abbrev pub parts_of : List RawPart → List written.WrittenPart
parts_of parts = map part_of parts

abbrev pub opnd_of : RawOpnd → written.WrittenOpnd
opnd_of (opnds.Column col) = written.Column (col_of col)
opnd_of (opnds.Lit scalar) = written.Lit scalar
opnd_of (opnds.Param n) = written.Param n

abbrev pub condition_of : RawCond → written.WrittenCondition
condition_of (conds.Both' _ a _ b) = written.Both (condition_of a) (condition_of b)
condition_of (conds.Either' _ a _ b) = written.Either (condition_of a) (condition_of b)
condition_of (conds.Not' _ a) = written.Not (condition_of a)
condition_of (conds.Compare cmp a b) = written.Compare cmp (opnd_of a) (opnd_of b)
condition_of (conds.Bare col) = written.Bare (col_of col)
condition_of (conds.Exists' parts conds.None') = written.Exists (parts_of parts) written.Everything
condition_of (conds.Exists' parts (conds.Some' _ a)) = written.Exists (parts_of parts) (written.Where (condition_of a))
condition_of (conds.Within' opnd negated col parts conds.None') = written.Within (opnd_of opnd) negated (col_of col) (parts_of parts) written.Everything
condition_of (conds.Within' opnd negated col parts (conds.Some' _ a)) = written.Within (opnd_of opnd) negated (col_of col) (parts_of parts) (written.Where (condition_of a))

abbrev pub filter_of : Option (Box RawCond) → written.WrittenFilter
filter_of None = written.Everything
filter_of (Some cond) = written.Where (condition_of cond.value)

abbrev pub source_of : RawSource → List written.WrittenPart × written.WrittenFilter
source_of s = (parts_of s.parts, filter_of s.filter)

abbrev pub item_of : RawItem → written.WrittenItem
item_of (items.Whole alias) = written.Whole alias
item_of (items.Column col) = written.Column (col_of col)

abbrev pub key_of : RawKey → written.WrittenKey
key_of k = record { least = k.least; col = col_of k.col; down = k.down }

abbrev pub keys_of : List RawKey → List written.WrittenKey
keys_of keys = map key_of keys

abbrev pub kind_of : RawKind → written.WrittenKind
kind_of kinds.Count = written.Count
kind_of (kinds.Sum col other) = written.Sum (col_of col) other
kind_of (kinds.Max col other) = written.Max (col_of col) other
kind_of (kinds.Min col other) = written.Min (col_of col) other

abbrev pub listing_of : RawListing → written.WrittenListing
listing_of q =
    record {
      item = item_of q.item;
      from = parts_of q.source.parts;
      filter = filter_of q.source.filter;
      group = option_map col_of q.group;
      keys = keys_of q.keys;
      limit = q.limit;
    }

abbrev pub number_of : RawNumber → written.WrittenNumber
number_of q = record { kind = kind_of q.kind; from = parts_of q.source.parts; filter = filter_of q.source.filter }

abbrev pub truth_of : RawTruth → written.WrittenTruth
truth_of q = record { negated = q.negated; from = parts_of q.source.parts; filter = filter_of q.source.filter }

abbrev pub query_of : RawQuery → written.WrittenQuery
query_of (queries.Listing q) = written.Listing (listing_of q)
query_of (queries.Number q) = written.Number (number_of q)
query_of (queries.Truth q) = written.Truth (truth_of q)
