-- Which queries select rows of one table in their order, all of them or those of a condition that the source language can say.
use Rattle.std.specs.Prelude.{List, [], ◌∷◌, Bool, true, false, not, ◌&&◌, nat_eq}
use Rattle.std.specs.declared.option.Option.{Option}
use Rattle.std.specs.declared.option.Option.TheVariants.{Some, None}
use Rattle.qbs_base.specs.declared.scalar.Ty.{Ty}
use Rattle.qbs_base.specs.declared.scalar.Ty.TheVariants as tys
use Rattle.qbs_base.specs.Columns.{same_ty}
use Rattle.qbs_base.specs.Values.{Schema}
use Rattle.sql_ast.specs.declared.tree.SqlItem.{SqlItem}
use Rattle.sql_ast.specs.declared.tree.SqlItem.TheVariants as items
use Rattle.sql_ast.specs.declared.tree.SqlKey.{SqlKey}
use Rattle.sql_ast.specs.declared.tree.SqlOpnd.{SqlOpnd}
use Rattle.sql_ast.specs.declared.tree.SqlOpnd.TheVariants as opnds
use Rattle.sql_ast.specs.Keys.{is_position}
use Rattle.sql_ast.specs.Meaning.{nth}
use Rattle.sql_ast.specs.Tree.{Condition, Both, Either, Not, Compare, Bare, Exists, Within, Filter, Everything, Where, PlainListing}
use Rattle.sql_ast.specs.Typing.{ty_of_opnd, orders}

-- no position: the source language has none
abbrev pub is_plain_operand : SqlOpnd → Bool
is_plain_operand (opnds.Column col) = not (is_position col.column)
is_plain_operand (opnds.Lit scalar) = true
is_plain_operand (opnds.Param n) = true

abbrev pub is_text : Option Ty → Bool
is_text (Some ty) = same_ty ty tys.Text
is_text None = false

abbrev pub is_text_operand : Schema → PlainListing → SqlOpnd → Bool
is_text_operand schema q o = is_text (ty_of_opnd (nth q.params) schema q.from o)

-- columns that the source language knows, texts compared by `=`, `<>` and `!=` alone, and no inner SELECT
abbrev pub is_plain_condition : Schema → PlainListing → Condition → Bool
is_plain_condition schema q (Both a b) = is_plain_condition schema q a && is_plain_condition schema q b
is_plain_condition schema q (Either a b) = is_plain_condition schema q a && is_plain_condition schema q b
is_plain_condition schema q (Not a) = is_plain_condition schema q a
is_plain_condition schema q (Compare cmp a b) = is_plain_operand a && (is_plain_operand b && not (orders cmp && is_text_operand schema q a))
is_plain_condition schema q (Bare col) = not (is_position col.column)
is_plain_condition schema q (Exists from filter_) = false
is_plain_condition schema q (Within opnd negated col from filter_) = false

abbrev pub is_plain_filter : Schema → PlainListing → Filter → Bool
is_plain_filter schema q Everything = true
is_plain_filter schema q (Where a) = is_plain_condition schema q a

abbrev pub is_first_row : SqlItem → Bool
is_first_row (items.Whole n) = nat_eq n 1
is_first_row (items.Column col) = false

-- `_pos` ascending, and no other key
abbrev pub by_position_alone : List SqlKey → Bool
by_position_alone (key ∷ []) = is_position key.col.column && (not key.down && not key.least)
by_position_alone _ = false

abbrev pub is_none : {A : Type 0} → Option A → Bool
is_none None = true
is_none (Some x) = false

abbrev pub has_one : {A : Type 0} → List A → Bool
has_one (x ∷ []) = true
has_one _ = false

-- rows of one table in their order, all or those of a condition
abbrev pub is_select : Schema → PlainListing → Bool
is_select schema q =
    has_one q.from && (is_first_row q.item && (is_none q.group && (is_none q.limit && (by_position_alone q.keys && is_plain_filter schema q q.filter))))
