-- The law of order complete queries.
use Rattle.std.proofs.Common.{◌≡◌, suc, Bool, true, false, IsTrue, ◌||◌, List, length, Option, Some, None, refl, ap, ◌∙◌, map}
use Rattle.std.specs.List.{AllByRecursion}
use Rattle.std.specs.List.Sorted.{ties}
use Rattle.qbs_base.specs.declared.scalar.Row.{Row}
use Rattle.qbs_base.specs.declared.scalar.Scalar.{Scalar}
use Rattle.qbs_base.specs.Sort.{stable_sort}
use Rattle.qbs_base.specs.Values.{Database}
use Rattle.qbs_base.proofs.Order.{all_kept, sort_of_permutation, stable_sort_moves, rises_stable_sort, rises_from_sorted, sorted_from_rises}
use Rattle.sql_ast.specs.declared.tree.SqlCol.{SqlCol}
use Rattle.sql_ast.specs.Answers.{AreOrdered, AreRows, Answers, IsOrderComplete, HasOneAnswer}
use Rattle.sql_ast.specs.Keys.{groups_by, name_positions}
use Rattle.sql_ast.specs.Meaning.{Combination, product, passes, true_ones, before, item_of, cut, ordered_rows, rows_from, listing_rows}
use Rattle.sql_ast.specs.Tree.{PlainListing, Listing}
use Rattle.sql_ast.proofs.Combinations.{Fits, product_fits, same_positions}
use Rattle.sql_ast.proofs.Marks.{positions_decided}
use Rattle.sql_ast.proofs.Order.{before_order, before_same}

true_ones_fit : (db : Database) (params : List Scalar) (q : PlainListing) → AllByRecursion (Fits db q.from) (true_ones db params q.from q.filter)
true_ones_fit db params q = all_kept (Fits db q.from) (Fits db q.from) (passes db params q.filter) (λ c h e. h) (product db q.from) (product_fits db q.from)

only_equals_tie : (db : Database) (q : PlainListing) → IsTrue (name_positions (length q.from) q.keys) → (c d : Combination) → Fits db q.from c → Fits db q.from d → ties (before q.keys) c d ≡ true → c ≡ d
only_equals_tie db q h c d f g t = same_positions db q.from c d f g (λ i l. before_same q.keys (suc i) c d ((positions_decided q.keys (length q.from)).0 h i l) t)

an_order : (q : PlainListing) (found : List Combination) → AreOrdered q found (ordered_rows q found)
an_order q found = record {
  order = stable_sort (before q.keys) found;
  permutation = stable_sort_moves (before q.keys) (before_order q.keys) found;
  sorted = sorted_from_rises (before q.keys) (before_order q.keys) (stable_sort (before q.keys) found) (rises_stable_sort (before q.keys) (before_order q.keys) found);
  rows_are = refl;
}

pub an_answer : (q : PlainListing) (db : Database) (params : List Scalar) → Answers q db params (listing_rows db params q)
an_answer q db params = go q.group
  where
    go : (group : Option SqlCol) → AreRows q group (true_ones db params q.from q.filter) (rows_from q group (true_ones db params q.from q.filter))
    go None = an_order q (true_ones db params q.from q.filter)
    go (Some col) = refl

ordered_once : (q : PlainListing) (db : Database) (params : List Scalar) → IsTrue (name_positions (length q.from) q.keys) → (rows : List Row) → AreOrdered q (true_ones db params q.from q.filter) rows → rows ≡ ordered_rows q (true_ones db params q.from q.filter)
ordered_once q db params h rows a =
    a.rows_are ∙ ap (λ cs. map (item_of q.item) (cut q.limit cs))
    (sort_of_permutation (before q.keys) (before_order q.keys) (Fits db q.from) (only_equals_tie db q h) (true_ones db params q.from q.filter) a.order (true_ones_fit db params q) a.permutation (rises_from_sorted (before q.keys) (before_order q.keys) a.order a.sorted))

only_answer : (q : PlainListing) (db : Database) (params : List Scalar) → IsOrderComplete (Listing q) → (rows : List Row) → Answers q db params rows → rows ≡ listing_rows db params q
only_answer q db params h rows a = go q.group h a
  where
    go : (group : Option SqlCol) → IsTrue ((elim group as (λ _. Bool) [ Some col ↦ groups_by q col | None ↦ false ]) || name_positions (length q.from) q.keys) → AreRows q group (true_ones db params q.from q.filter) rows → rows ≡ rows_from q group (true_ones db params q.from q.filter)
    go (Some col) h a = a
    go None h a = ordered_once q db params h rows a

pub has_one_answer : (q : PlainListing) (db : Database) (params : List Scalar) → IsOrderComplete (Listing q) → HasOneAnswer q db params
has_one_answer q db params h = record { answers = an_answer q db params; only = only_answer q db params h }
