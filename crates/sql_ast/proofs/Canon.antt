-- What the canonical text of a query says.
use Rattle.std.proofs.Common.{ℕ, suc, ◌+◌, List, [], ◌∷◌, map, length, Option, Some, None}
use Rattle.sql_ast.specs.declared.tree.FromItem.{FromItem}
use Rattle.sql_ast.specs.declared.tree.NumberKind.{NumberKind}
use Rattle.sql_ast.specs.declared.tree.NumberKind.TheVariants as kinds
use Rattle.sql_ast.specs.declared.tree.SqlCol.{SqlCol}
use Rattle.sql_ast.specs.declared.tree.SqlItem.{SqlItem}
use Rattle.sql_ast.specs.declared.tree.SqlItem.TheVariants as items
use Rattle.sql_ast.specs.declared.tree.SqlKey.{SqlKey}
use Rattle.sql_ast.specs.declared.tree.SqlOpnd.{SqlOpnd}
use Rattle.sql_ast.specs.declared.tree.SqlOpnd.TheVariants as opnds
use Rattle.sql_ast.specs.Canonical.{alias_text, column_text}
use Rattle.sql_ast.specs.Tree.{Condition, Both, Either, Not, Compare, Bare, Exists, Within, Filter, Everything, Where, PlainQuery, Listing, Number, Truth}
use Rattle.sql_ast.specs.Written.{WrittenCol, WrittenPart, WrittenOpnd, WrittenCondition, WrittenFilter, WrittenItem, WrittenKey, WrittenKind, WrittenListing, WrittenNumber, WrittenTruth, WrittenQuery}
use Rattle.sql_ast.specs.Written as written

abbrev pub col_of : SqlCol → WrittenCol
col_of col = record { alias = Some (alias_text col.item); name = column_text col.column }

abbrev pub opnd_of : SqlOpnd → WrittenOpnd
opnd_of (opnds.Column col) = written.Column (col_of col)
opnd_of (opnds.Lit scalar) = written.Lit scalar
opnd_of (opnds.Param n) = written.Param n

abbrev pub part_of : ℕ → FromItem → WrittenPart
part_of n from = record { table = from.name; alias = Some (alias_text n) }

-- FROM items, the first with this number
abbrev pub parts_of : ℕ → List FromItem → List WrittenPart
parts_of n [] = []
parts_of n (from ∷ froms) = part_of n from ∷ parts_of (suc n) froms

abbrev mutual
  pub condition_of : ℕ → Condition → WrittenCondition
  condition_of around (Both a b) = written.Both (condition_of around a) (condition_of around b)
  condition_of around (Either a b) = written.Either (condition_of around a) (condition_of around b)
  condition_of around (Not a) = written.Not (condition_of around a)
  condition_of around (Compare cmp a b) = written.Compare cmp (opnd_of a) (opnd_of b)
  condition_of around (Bare col) = written.Bare (col_of col)
  condition_of around (Exists from filter_) = written.Exists (parts_of (suc around) from) (filter_of (around + length from) filter_)
  condition_of around (Within opnd negated col from filter_) = written.Within (opnd_of opnd) negated (col_of col) (parts_of (suc around) from) (filter_of (around + length from) filter_)

  pub filter_of : ℕ → Filter → WrittenFilter
  filter_of around Everything = written.Everything
  filter_of around (Where a) = written.Where (condition_of around a)

abbrev pub item_of : SqlItem → WrittenItem
item_of (items.Whole n) = written.Whole (Some (alias_text n))
item_of (items.Column col) = written.Column (col_of col)

abbrev pub group_of : Option SqlCol → Option WrittenCol
group_of None = None
group_of (Some col) = Some (col_of col)

abbrev pub key_of : SqlKey → WrittenKey
key_of key = record { least = key.least; col = col_of key.col; down = key.down }

abbrev pub kind_of : NumberKind → WrittenKind
kind_of kinds.Count = written.Count
kind_of (kinds.Sum col other) = written.Sum (col_of col) other
kind_of (kinds.Max col other) = written.Max (col_of col) other
kind_of (kinds.Min col other) = written.Min (col_of col) other

abbrev pub written_of : PlainQuery → WrittenQuery
written_of (Listing q) =
    written.Listing (record { item = item_of q.item; from = parts_of 1 q.from; filter = filter_of (length q.from) q.filter; group = group_of q.group; keys = map key_of q.keys; limit = q.limit })
written_of (Number q) = written.Number (record { kind = kind_of q.kind; from = parts_of 1 q.from; filter = filter_of (length q.from) q.filter })
written_of (Truth q) = written.Truth (record { negated = q.negated; from = parts_of 1 q.from; filter = filter_of (length q.from) q.filter })
