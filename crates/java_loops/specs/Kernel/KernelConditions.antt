-- K7: what conditions are built of.
use Rattle.std.specs.Prelude.{ℕ, Bool, true, false, not, ◌&&◌, ◌||◌, List, [], ◌∷◌, if◌then◌else◌}
use Rattle.std.specs.declared.option.Option.{Option}
use Rattle.std.specs.declared.option.Option.TheVariants.{Some, None}
use Rattle.qbs_base.specs.declared.span.Span.{Span}
use Rattle.java_ast.specs.Tree.{Expression, Expressions, NoMore, And, Statements}
use Rattle.java_ast.specs.Tree as plain
use Rattle.java_mean.specs.declared.types.JavaType.{JavaType}
use Rattle.java_mean.specs.declared.types.JavaType.TheVariants.{Of}
use Rattle.java_mean.specs.declared.types.Single.TheVariants.{ScalarOf, RowOf}
use Rattle.java_mean.specs.Rules.{at_of}
use Rattle.sql_ast.specs.declared.tree.SqlItem.{SqlItem}
use Rattle.sql_ast.specs.declared.tree.SqlItem.TheVariants as items
use Rattle.sql_ast.specs.Tree.{PlainQuery, Listing}
use Rattle.java_ast.specs.Names.{is_among, names_among, updated_in}
use Rattle.java_loops.specs.Kernel.Setting.{Setting}
use Rattle.loop_text.specs.Statements.Setting.{is_found}
use Rattle.loop_text.specs.Sites.Sites.{Site, binding_at, place_where, first_place, first_broken}
use Rattle.loop_text.specs.Kernel.KernelConditions.{leaves, is_excepted, is_outer, is_literal, is_row_column, Asked, first_setting, behind_setting, sets_some, reads_flag, is_compared, condition_of}
pub use Rattle.loop_text.specs.Kernel.KernelConditions.{asked_by, asked_by_query, asked_for, asked_in, asked_in_found}

-- ---- Operands

abbrev pub is_scalar_type : Option JavaType → Bool
is_scalar_type (Some (Of (ScalarOf ty))) = true
is_scalar_type _ = false

abbrev pub is_row_type : Option JavaType → Bool
is_row_type (Some (Of (RowOf n))) = true
is_row_type _ = false

-- a variable from outside of the loop that the loop doesn't set
abbrev pub is_steady : Setting → ℕ → List ℕ → Bool
is_steady w n x = is_outer (binding_at w.sites n x) && not (is_among (updated_in w.fragment.loop) x)

abbrev pub is_entry_row : Setting → ℕ → Expression → Bool
is_entry_row w n (plain.Var at x) = is_row_type (w.types x) && is_steady w n x
is_entry_row w n _ = false

-- an entry value: a scalar variable, or a field of a row variable, from outside of the loop and not set in it
abbrev pub is_entry : Setting → ℕ → Expression → Bool
is_entry w n (plain.Var at x) = is_scalar_type (w.types x) && is_steady w n x
is_entry w n (plain.Field at e f) = is_entry_row w n e
is_entry w n _ = false

abbrev pub is_operand : Setting → ℕ → Expression → Bool
is_operand w n e = is_row_column w.sites n e || (is_literal e || is_entry w n e)

abbrev pub broken_operand : Setting → ℕ → Expression → Option Span
broken_operand w n e = place_where (not (is_operand w n e)) (at_of e)

-- a comparison has at least one field of a loop variable
abbrev pub broken_comparison : Setting → ℕ → Span → Expression → Expression → Option Span
broken_comparison w n at a b =
    first_place (broken_operand w n a)
    (first_place (broken_operand w n b) (place_where (not (is_row_column w.sites n a || is_row_column w.sites n b)) at))

-- ---- Known lists

abbrev pub is_column_item : SqlItem → Bool
is_column_item (items.Column col) = true
is_column_item _ = false

-- a query of one column without LIMIT
abbrev pub is_column_query : Option PlainQuery → Bool
is_column_query (Some (Listing q)) = is_column_item q.item && not (is_found q.limit)
is_column_query _ = false

abbrev pub are_entries : Setting → ℕ → Expressions → Bool
are_entries w n NoMore = true
are_entries w n (And e es) = is_entry w n e && are_entries w n es

abbrev pub is_known_query : Setting → ℕ → Statements → Option Asked → Bool
is_known_query w n behind None = false
is_known_query w n behind (Some a) = is_column_query (w.read a.text) && (are_entries w n a.arguments && not (sets_some (names_among a.arguments) behind))

-- exactly one statement of the run sets the variable, by such a query of entry values that nothing behind it sets
abbrev pub is_known : Setting → ℕ → List ℕ → Bool
is_known w n ids =
    not (is_found (first_setting ids (behind_setting ids w.fragment.run)))
    && is_known_query w n (behind_setting ids w.fragment.run) (asked_for w.fragment.run ids)

-- the smallest expression in a leaf of the `if` with this number that breaks the rule
abbrev pub broken_leaf : Setting → ℕ → Expression → Option Span
broken_leaf w n (plain.Binary at op a b) = if is_compared op then broken_comparison w n at a b else Some at
broken_leaf w n (plain.Equals at a b) = broken_comparison w n at a b
broken_leaf w n (plain.Field at e f) = place_where (not (is_row_column w.sites n (plain.Field at e f))) at
broken_leaf w n (plain.Var at x) = place_where (not (reads_flag w.sites n (binding_at w.sites n x))) at
broken_leaf w n (plain.Contains at ids e) = place_where (not (is_row_column w.sites n e && is_known w n ids)) at
broken_leaf w n e = Some (at_of e)

abbrev pub broken_unless_excepted : Setting → ℕ → Expression → Option Span
broken_unless_excepted w n e = if is_excepted w.sites n e then None else broken_leaf w n e

abbrev pub broken_leaves : Setting → ℕ → List Expression → Option Span
broken_leaves w n [] = None
broken_leaves w n (e ∷ es) = first_place (broken_unless_excepted w n e) (broken_leaves w n es)

abbrev pub broken_condition : Setting → ℕ → Option Expression → Option Span
broken_condition w n None = None
broken_condition w n (Some c) = broken_leaves w n (leaves c)

abbrev pub broken_condition_at : Setting → ℕ → Site → Option Span
broken_condition_at w n s = broken_condition w n (condition_of s.statement)

-- Conditions are built of comparisons with a field of a loop variable, boolean fields, flags behind their loops, and
-- `ids.contains(x.f)` with a known list. The conjunct that a best value is compared by is excepted.
abbrev pub broken_conditions : Setting → Option Span
broken_conditions w = first_broken (broken_condition_at w) 0 w.sites
