-- The canonical text of a query: keywords in capitals, FROM item number n with the alias `tn`, every
-- column with its alias, parentheses only where precedence and left association ask for them.
use Rattle.std.specs.Prelude.{ℕ, ℤ, suc, ◌+◌, Bool, true, false, List, [], ◌∷◌, ◌++◌, length, nat_lt, nat_eq, codes, if◌then◌else◌}
use Rattle.std.specs.List.{flat_map}
use Rattle.std.specs.Fmt.{decimal, signed_decimal}
use Rattle.std.specs.declared.option.Option.{Option}
use Rattle.std.specs.declared.option.Option.TheVariants.{Some, None}
use Rattle.qbs_base.specs.declared.scalar.Scalar.{Scalar}
use Rattle.qbs_base.specs.declared.scalar.Scalar.TheVariants as scalars
use Rattle.sql_ast.specs.declared.tree.Cmp.{Cmp}
use Rattle.sql_ast.specs.declared.tree.Cmp.TheVariants as tests
use Rattle.sql_ast.specs.declared.tree.FromItem.{FromItem}
use Rattle.sql_ast.specs.declared.tree.NumberKind.{NumberKind}
use Rattle.sql_ast.specs.declared.tree.NumberKind.TheVariants as kinds
use Rattle.sql_ast.specs.declared.tree.SqlCol.{SqlCol}
use Rattle.sql_ast.specs.declared.tree.SqlColumn.{SqlColumn}
use Rattle.sql_ast.specs.declared.tree.SqlColumn.TheVariants as columns
use Rattle.sql_ast.specs.declared.tree.SqlItem.{SqlItem}
use Rattle.sql_ast.specs.declared.tree.SqlItem.TheVariants as items
use Rattle.sql_ast.specs.declared.tree.SqlKey.{SqlKey}
use Rattle.sql_ast.specs.declared.tree.SqlOpnd.{SqlOpnd}
use Rattle.sql_ast.specs.declared.tree.SqlOpnd.TheVariants as opnds
use Rattle.sql_ast.specs.Tree.{Condition, Both, Either, Not, Compare, Bare, Exists, Within, Filter, Everything, Where, PlainListing, PlainNumber, PlainTruth, PlainQuery, Listing, Number, Truth}

-- things with a comma and a space between them
abbrev pub listed : {X : Type 0} → (X → List ℕ) → List X → List ℕ
listed text [] = []
listed text (x ∷ xs) = text x ++ flat_map (λ y. codes ", " ++ text y) xs

abbrev pub alias_text : ℕ → List ℕ
alias_text n = codes "t" ++ decimal n

abbrev pub column_text : SqlColumn → List ℕ
column_text columns.Pos = codes "_pos"
column_text (columns.Named name number) = name

abbrev pub col_text : SqlCol → List ℕ
col_text col = alias_text col.item ++ codes "." ++ column_text col.column

-- a text's bytes, each quote twice
abbrev pub doubled : List ℕ → List ℕ
doubled [] = []
doubled (b ∷ bs) = if nat_eq b 39 then 39 ∷ 39 ∷ doubled bs else b ∷ doubled bs

abbrev pub scalar_text : Scalar → List ℕ
scalar_text (scalars.Long n) = signed_decimal n
scalar_text (scalars.Bool true) = codes "TRUE"
scalar_text (scalars.Bool false) = codes "FALSE"
scalar_text (scalars.Text text) = codes "'" ++ doubled text ++ codes "'"

abbrev pub opnd_text : SqlOpnd → List ℕ
opnd_text (opnds.Column col) = col_text col
opnd_text (opnds.Lit scalar) = scalar_text scalar
opnd_text (opnds.Param n) = codes "?" ++ decimal n

abbrev pub cmp_text : Cmp → List ℕ
cmp_text tests.Eq = codes " = "
cmp_text tests.Ne = codes " <> "
cmp_text tests.Lt = codes " < "
cmp_text tests.Le = codes " <= "
cmp_text tests.Gt = codes " > "
cmp_text tests.Ge = codes " >= "

abbrev pub from_item_text : ℕ → FromItem → List ℕ
from_item_text n from = from.name ++ codes " " ++ alias_text n

-- FROM items after the first, the next one with this number
abbrev pub further_items_text : ℕ → List FromItem → List ℕ
further_items_text n [] = []
further_items_text n (from ∷ froms) = codes ", " ++ from_item_text n from ++ further_items_text (suc n) froms

-- FROM items, where so many stand in the SELECTs around
abbrev pub from_text : ℕ → List FromItem → List ℕ
from_text around [] = []
from_text around (from ∷ froms) = from_item_text (suc around) from ++ further_items_text (suc (suc around)) froms

-- how tightly a condition binds: OR least, then AND, then NOT
abbrev pub rank_of : Condition → ℕ
rank_of (Either a b) = 0
rank_of (Both a b) = 1
rank_of (Not a) = 2
rank_of (Compare cmp a b) = 3
rank_of (Bare col) = 3
rank_of (Exists from filter_) = 3
rank_of (Within opnd negated col from filter_) = 3

abbrev pub opening : Bool → List ℕ
opening true = codes "("
opening false = []

abbrev pub closing : Bool → List ℕ
closing true = codes ")"
closing false = []

abbrev pub in_text : Bool → List ℕ
in_text true = codes " NOT IN (SELECT "
in_text false = codes " IN (SELECT "

-- conditions and WHERE, where so many FROM items stand in the SELECTs around; a condition that binds
-- less tightly than its place wants stands in parentheses
abbrev mutual
  pub condition_text : ℕ → ℕ → Condition → List ℕ
  condition_text around rank (Either a b) = opening (nat_lt 0 rank) ++ condition_text around 0 a ++ codes " OR " ++ condition_text around 1 b ++ closing (nat_lt 0 rank)
  condition_text around rank (Both a b) = opening (nat_lt 1 rank) ++ condition_text around 1 a ++ codes " AND " ++ condition_text around 2 b ++ closing (nat_lt 1 rank)
  condition_text around rank (Not a) = codes "NOT " ++ condition_text around 2 a
  condition_text around rank (Compare cmp a b) = opnd_text a ++ cmp_text cmp ++ opnd_text b
  condition_text around rank (Bare col) = col_text col
  condition_text around rank (Exists from filter_) = codes "EXISTS (SELECT 1 FROM " ++ from_text around from ++ filter_text (around + length from) filter_ ++ codes ")"
  condition_text around rank (Within opnd negated col from filter_) = opnd_text opnd ++ in_text negated ++ col_text col ++ codes " FROM " ++ from_text around from ++ filter_text (around + length from) filter_ ++ codes ")"

  pub filter_text : ℕ → Filter → List ℕ
  filter_text around Everything = []
  filter_text around (Where a) = codes " WHERE " ++ condition_text around 0 a

abbrev pub item_text : SqlItem → List ℕ
item_text (items.Whole n) = alias_text n ++ codes ".*"
item_text (items.Column col) = col_text col

abbrev pub group_text : Option SqlCol → List ℕ
group_text None = []
group_text (Some col) = codes " GROUP BY " ++ col_text col

abbrev pub down_text : Bool → List ℕ
down_text true = codes " DESC"
down_text false = []

abbrev pub least_text : Bool → SqlCol → List ℕ
least_text true col = codes "MIN(" ++ col_text col ++ codes ")"
least_text false col = col_text col

abbrev pub key_text : SqlKey → List ℕ
key_text key = least_text key.least key.col ++ down_text key.down

abbrev pub keys_text : List SqlKey → List ℕ
keys_text [] = []
keys_text (key ∷ keys) = codes " ORDER BY " ++ listed key_text (key ∷ keys)

abbrev pub limit_text : Option ℕ → List ℕ
limit_text None = []
limit_text (Some n) = codes " LIMIT " ++ decimal n

-- the column of a total, and the number over no rows
abbrev pub total_text : SqlCol → ℤ → List ℕ
total_text col other = col_text col ++ codes "), " ++ signed_decimal other ++ codes ")"

abbrev pub kind_text : NumberKind → List ℕ
kind_text kinds.Count = codes "COUNT(*)"
kind_text (kinds.Sum col other) = codes "COALESCE(SUM(" ++ total_text col other
kind_text (kinds.Max col other) = codes "COALESCE(MAX(" ++ total_text col other
kind_text (kinds.Min col other) = codes "COALESCE(MIN(" ++ total_text col other

-- FROM and WHERE of a query's outermost SELECT
abbrev pub source_text : List FromItem → Filter → List ℕ
source_text from filter_ = codes " FROM " ++ from_text 0 from ++ filter_text (length from) filter_

abbrev pub listing_text : PlainListing → List ℕ
listing_text q = codes "SELECT " ++ item_text q.item ++ source_text q.from q.filter ++ group_text q.group ++ keys_text q.keys ++ limit_text q.limit

abbrev pub number_text : PlainNumber → List ℕ
number_text q = codes "SELECT " ++ kind_text q.kind ++ source_text q.from q.filter

abbrev pub exists_text : Bool → List ℕ
exists_text true = codes "SELECT NOT EXISTS (SELECT 1"
exists_text false = codes "SELECT EXISTS (SELECT 1"

abbrev pub truth_text : PlainTruth → List ℕ
truth_text q = exists_text q.negated ++ source_text q.from q.filter ++ codes ")"

abbrev pub canonical : PlainQuery → List ℕ
canonical (Listing q) = listing_text q
canonical (Number q) = number_text q
canonical (Truth q) = truth_text q
