-- A known query within another: its rows are those that the query has by itself, and its list has the same members.
use Rattle.std.proofs.Common.{◌≡◌, ℕ, zero, suc, ◌+◌, Bool, true, false, cond, not, ◌&&◌, ◌||◌, List, [], ◌∷◌, ◌++◌, map, length, slice_get, refl, sym, ap, ap₂, ◌∙◌, arith, append_assoc, nat_eq}
use Rattle.std.specs.List.{AllByRecursion, filter, list_any}
use Rattle.std.specs.Str.{bytes_eq}
use Rattle.std.specs.declared.option.Option.{Option}
use Rattle.std.specs.declared.option.Option.TheVariants.{Some, None}
use Rattle.std.proofs.lemmas.List.Sorted.{list_any-IsPermutation}
use Rattle.qbs_base.specs.declared.scalar.Row.{Row}
use Rattle.qbs_base.specs.declared.scalar.Scalar.{Scalar}
use Rattle.qbs_base.specs.Scalar.{compared, scalar_same}
use Rattle.qbs_base.specs.Sort.{stable_sort}
use Rattle.qbs_base.specs.Values.{Schema, Database}
use Rattle.qbs_base.proofs.Moves.{moves_sort, permutation_from_moves}
use Rattle.tor_terms.proofs.Scalars.{scalar_same-true}
use Rattle.sql_ast.specs.declared.tree.FromItem.{FromItem}
use Rattle.sql_ast.specs.declared.tree.SqlCol.{SqlCol}
use Rattle.sql_ast.specs.declared.tree.SqlColumn.{SqlColumn}
use Rattle.sql_ast.specs.declared.tree.SqlColumn.TheVariants as columns
use Rattle.sql_ast.specs.declared.tree.SqlItem.{SqlItem}
use Rattle.sql_ast.specs.declared.tree.SqlItem.TheVariants as items
use Rattle.sql_ast.specs.declared.tree.SqlOpnd.{SqlOpnd}
use Rattle.sql_ast.specs.declared.tree.SqlOpnd.TheVariants as opnds
use Rattle.sql_ast.specs.Grouped.{firsts, grouped, least_position, sooner}
use Rattle.sql_ast.specs.Keys.{same_column, same_col, takes_column, is_least_position, groups_by}
use Rattle.sql_ast.specs.Meaning.{Combination, nth, cell_of, column_of, operand_of, holds, is_true, turned_if, truth_of, passes, product, true_ones, before, plain_row, item_of, position_of, same_value, rows_from, cut}
use Rattle.sql_ast.specs.Tree.{Condition, Both, Either, Not, Compare, Bare, Exists, Within, Filter, Everything, Where, PlainListing}
use Rattle.sql_ast.specs.Typing.{listing_groups}
use Rattle.sql_ast.specs.Valid.{IsColOf, IsOpndOf, IsConditionOf, IsFilterOf}
use Rattle.sql_parts.specs.Emitted.{moved_col, entry_param, moved_opnd, moved, moved_filter}
use Rattle.sql_parts.specs.Given.{value_or, values_at}
use Rattle.sql_parts.proofs.Tools.{any_agree, any_map, any_filter, eq_true}
use Rattle.kernel_lang.proofs.Listing.{and_left, and_right}

-- ---- a condition that is numbered on means the same of what follows

behind : (c d : Combination) (i : ℕ) → slice_get (c ++ d) (length c + i) ≡ slice_get d i
behind [] d i = let e : 0 + i ≡ i = omega arith in ap (slice_get d) e
behind (b ∷ c) d i = let e : length (b ∷ c) + i ≡ suc (length c + i) = omega arith in ap (slice_get (b ∷ (c ++ d))) e ∙ behind c d i

-- all arguments have values
abbrev pub AreThere : List Scalar → List ℕ → Type 0
AreThere values args = AllByRecursion (λ k. (x : Scalar) × (slice_get values k ≡ Some x)) args

module _ (schema : Schema) (db : Database) (values : List Scalar) (args : List ℕ) (there : AreThere values args) (c : Combination) where
  nth_behind : (froms : List FromItem) (i : ℕ) (from : FromItem) → nth froms i ≡ Some from → (d : Combination) → nth (c ++ d) (length c + i) ≡ nth d i
  nth_behind froms zero from e d = absurd cc
  nth_behind froms (suc i) from e d = let n : length c + suc i ≡ suc (length c + i) = omega arith in ap (nth (c ++ d)) n ∙ behind c d i

  col_same : (froms : List FromItem) (col : SqlCol) → IsColOf schema froms col → (d : Combination) → column_of (c ++ d) (moved_col (length c) col) ≡ column_of d col
  col_same froms col is d = ap (λ o. elim o as (λ _. Option Scalar) [ Some place ↦ cell_of place col.column | None ↦ None ]) (nth_behind froms col.item is.from is.item d)

  value_there : (o : Option Scalar) (x : Scalar) → o ≡ Some x → o ≡ Some (value_or o)
  value_there None x e = absurd cc
  value_there (Some y) x e = refl

  arg_at : (ks : List ℕ) → AreThere values ks → (m : ℕ) (e : Combination) → operand_of values e (entry_param (slice_get ks m)) ≡ slice_get (values_at values ks) m
  arg_at [] h m e = refl
  arg_at (k ∷ ks) h zero e = value_there (slice_get values k) h.0.0 h.0.1
  arg_at (k ∷ ks) h (suc m) e = arg_at ks h.1 m e

  arg_same : (m : ℕ) (e : Combination) → operand_of values e (entry_param (nth args m)) ≡ nth (values_at values args) m
  arg_same zero e = refl
  arg_same (suc m) e = arg_at args there m e

  opnd_same : (froms : List FromItem) (a : SqlOpnd) → IsOpndOf schema froms a → (d : Combination) → operand_of values (c ++ d) (moved_opnd (length c) args a) ≡ operand_of (values_at values args) d a
  opnd_same froms (opnds.Column col) is d = col_same froms col is d
  opnd_same froms (opnds.Lit x) is d = refl
  opnd_same froms (opnds.Param m) is d = arg_same m (c ++ d)

  mutual
    test_same : (froms : List FromItem) (s : Condition) → IsConditionOf schema froms s → (d : Combination) → truth_of db values (moved (length c) args s) (c ++ d) ≡ truth_of db (values_at values args) s d
    test_same froms (Both a b) is d = ap₂ (λ x y. x && y) (test_same froms a is.0 d) (test_same froms b is.1 d)
    test_same froms (Either a b) is d = ap₂ (λ x y. x || y) (test_same froms a is.0 d) (test_same froms b is.1 d)
    test_same froms (Not a) is d = ap not (test_same froms a is d)
    test_same froms (Compare cmp a b) is d = ap₂ (holds cmp) (opnd_same froms a is.0 d) (opnd_same froms b is.1 d)
    test_same froms (Bare col) is d = ap is_true (col_same froms col is d)
    test_same froms (Exists from filter_) is d =
        any_agree (λ e. passes db values (moved_filter (length c) args filter_) ((c ++ d) ++ e)) (λ e. passes db (values_at values args) filter_ (d ++ e))
        (λ e. ap (passes db values (moved_filter (length c) args filter_)) (append_assoc c d e) ∙ filter_same (froms ++ from) filter_ is.1 (d ++ e)) (product db from)
    test_same froms (Within a negated col from filter_) is d =
        ap (turned_if negated)
        (any_agree
        (λ e. passes db values (moved_filter (length c) args filter_) ((c ++ d) ++ e) && compared scalar_same (operand_of values (c ++ d) (moved_opnd (length c) args a)) (column_of ((c ++ d) ++ e) (moved_col (length c) col)))
        (λ e. passes db (values_at values args) filter_ (d ++ e) && compared scalar_same (operand_of (values_at values args) d a) (column_of (d ++ e) col))
        (λ e.
        ap₂ (λ x y. x && y) (ap (passes db values (moved_filter (length c) args filter_)) (append_assoc c d e) ∙ filter_same (froms ++ from) filter_ is.3 (d ++ e))
        (ap₂ (compared scalar_same) (opnd_same froms a is.0 d) (ap (λ k. column_of k (moved_col (length c) col)) (append_assoc c d e) ∙ col_same (froms ++ from) col is.2 (d ++ e))))
        (product db from))

    filter_same : (froms : List FromItem) (f : Filter) → IsFilterOf schema froms f → (d : Combination) → passes db values (moved_filter (length c) args f) (c ++ d) ≡ passes db (values_at values args) f d
    filter_same froms Everything is d = refl
    filter_same froms (Where a) is d = test_same froms a is d

  pub found_same : (froms : List FromItem) (f : Filter) (col : SqlCol) (x : Option Scalar) → IsFilterOf schema froms f → IsColOf schema froms col
      → list_any (λ d. passes db values (moved_filter (length c) args f) (c ++ d) && compared scalar_same x (column_of (c ++ d) (moved_col (length c) col))) (product db froms)
      ≡ list_any (compared scalar_same x) (map (λ d. column_of d col) (true_ones db (values_at values args) froms f))
  found_same froms f col x is_filter is_col =
      any_agree (λ d. passes db values (moved_filter (length c) args f) (c ++ d) && compared scalar_same x (column_of (c ++ d) (moved_col (length c) col))) (λ d. passes db (values_at values args) f d && compared scalar_same x (column_of d col))
      (λ d. ap₂ (λ s t. s && t) (filter_same froms f is_filter d) (ap (compared scalar_same x) (col_same froms col is_col d))) (product db froms)
      ∙ any_filter (passes db (values_at values args) f) (compared scalar_same x) (λ d. column_of d col) (product db froms)

-- ---- the members of an answer

abbrev pub cell_in : Row → Option Scalar
cell_in r = slice_get r.cells 0

pub cell_plain : (o : Option Scalar) → cell_in (plain_row o) ≡ o
cell_plain None = refl
cell_plain (Some x) = refl

pub same_value-true : (x y : Option Scalar) → same_value x y ≡ true → x ≡ y
same_value-true None None e = refl
same_value-true (Some x) (Some y) e = ap Some (scalar_same-true x y e)
same_value-true None (Some y) e = absurd cc
same_value-true (Some x) None e = absurd cc

module _ (p : Option Scalar → Bool) where
  any_others : (x : Option Scalar) (ys : List (Option Scalar)) → p x ≡ false → list_any p (filter (λ y. not (same_value x y)) ys) ≡ list_any p ys
  any_others x [] h = refl
  any_others x (y ∷ ys) h = go (same_value x y) refl (any_others x ys h)
    where
      go : (b : Bool) → same_value x y ≡ b → list_any p (filter (λ z. not (same_value x z)) ys) ≡ list_any p ys → list_any p (cond (not b) (y ∷ filter (λ z. not (same_value x z)) ys) (filter (λ z. not (same_value x z)) ys)) ≡ (p y || list_any p ys)
      go true e r = r ∙ sym (ap (λ b. b || list_any p ys) (ap p (sym (same_value-true x y e)) ∙ h))
      go false e r = ap (λ b. p y || b) r

  pub any_firsts : (xs : List (Option Scalar)) → list_any p (firsts same_value xs) ≡ list_any p xs
  any_firsts [] = refl
  any_firsts (x ∷ xs) = go (p x) refl (any_firsts xs)
    where
      go : (b : Bool) → p x ≡ b → list_any p (firsts same_value xs) ≡ list_any p xs → (p x || list_any p (filter (λ y. not (same_value x y)) (firsts same_value xs))) ≡ (p x || list_any p xs)
      go true e r = ap (λ b. b || list_any p (filter (λ y. not (same_value x y)) (firsts same_value xs))) e ∙ sym (ap (λ b. b || list_any p xs) e)
      go false e r = ap (λ b. p x || b) (any_others x (firsts same_value xs) e ∙ r)

  any_sorted : {X : Type 0} (q : X → Bool) (lt : X → X → Bool) (xs : List X) → list_any q (stable_sort lt xs) ≡ list_any q xs
  any_sorted q lt xs = sym (list_any-IsPermutation q xs (stable_sort lt xs) (permutation_from_moves xs (stable_sort lt xs) (moves_sort lt xs)))

  seconds : (col : SqlCol) (n : ℕ) (cs : List Combination) → map (λ (b : ℕ × Option Scalar). b.1) (map (λ c. (position_of c n, column_of c col)) cs) ≡ map (λ c. column_of c col) cs
  seconds col n [] = refl
  seconds col n (c ∷ cs) = ap (λ (vs : List (Option Scalar)). column_of c col ∷ vs) (seconds col n cs)

  any_cells : (os : List (Option Scalar)) → list_any p (map cell_in (map plain_row os)) ≡ list_any p os
  any_cells [] = refl
  any_cells (o ∷ os) = ap₂ (λ a b. a || b) (ap p (cell_plain o)) (any_cells os)

  any_items : (col : SqlCol) (cs : List Combination) → list_any p (map cell_in (map (item_of (items.Column col)) cs)) ≡ list_any (λ c. p (column_of c col)) cs
  any_items col [] = refl
  any_items col (c ∷ cs) = ap₂ (λ a b. a || b) (ap p (cell_plain (column_of c col))) (any_items col cs)

  any_ungrouped : (keys : List _) (col : SqlCol) (found : List Combination) → list_any p (map cell_in (map (item_of (items.Column col)) (stable_sort (before keys) found))) ≡ list_any p (map (λ c. column_of c col) found)
  any_ungrouped keys col found = any_items col (stable_sort (before keys) found) ∙ any_sorted (λ c. p (column_of c col)) (before keys) found ∙ sym (any_map p (λ c. column_of c col) found)

  any_grouped : (col : SqlCol) (n : ℕ) (found : List Combination) → list_any p (map cell_in (map plain_row (grouped same_value (map (λ c. (position_of c n, column_of c col)) found)))) ≡ list_any p (map (λ c. column_of c col) found)
  any_grouped col n found =
      let bs : List (ℕ × Option Scalar) = map (λ c. (position_of c n, column_of c col)) found in
      any_cells (grouped same_value bs)
      ∙ any_sorted p (λ v u. sooner (least_position same_value bs v) (least_position same_value bs u)) (firsts same_value (map (λ (b : ℕ × Option Scalar). b.1) bs))
      ∙ any_firsts (map (λ (b : ℕ × Option Scalar). b.1) bs)
      ∙ ap (list_any p) (seconds col n found)

-- columns of one number have one value
same_cell : (a b : SqlColumn) → same_column a b ≡ true → (o : Option (ℕ × Row)) → elim o as (λ _. Option Scalar) [ Some place ↦ cell_of place a | None ↦ None ] ≡ elim o as (λ _. Option Scalar) [ Some place ↦ cell_of place b | None ↦ None ]
same_cell a b e None = refl
same_cell columns.Pos columns.Pos e (Some place) = refl
same_cell (columns.Named name number) (columns.Named other number') e (Some place) = ap (slice_get place.1.cells) (eq_true number number' (and_right (bytes_eq name other) (nat_eq number number') e))
same_cell columns.Pos (columns.Named name number) e (Some place) = absurd cc
same_cell (columns.Named name number) columns.Pos e (Some place) = absurd cc

same_col-value : (a b : SqlCol) → same_col a b ≡ true → (c : Combination) → column_of c a ≡ column_of c b
same_col-value a b e c =
    same_cell a.column b.column (and_right (nat_eq a.item b.item) (same_column a.column b.column) e) (nth c a.item)
    ∙ ap (λ n. elim (nth c n) as (λ _. Option Scalar) [ Some place ↦ cell_of place b.column | None ↦ None ]) (eq_true a.item b.item (and_left (nat_eq a.item b.item) (same_column a.column b.column) e))

all_columns : (a b : SqlCol) → same_col a b ≡ true → (cs : List Combination) → map (λ c. column_of c b) cs ≡ map (λ c. column_of c a) cs
all_columns a b e [] = refl
all_columns a b e (c ∷ cs) = ap₂ (λ (x : Option Scalar) xs. x ∷ xs) (sym (same_col-value a b e c)) (all_columns a b e cs)

-- a test of the rows of a query of one column is one of that column of the combinations found
pub any_rows : (p : Option Scalar → Bool) (q : PlainListing) (col : SqlCol) → q.item ≡ items.Column col → q.limit ≡ None → listing_groups q ≡ true → (found : List Combination)
    → list_any p (map cell_in (rows_from q q.group found)) ≡ list_any p (map (λ c. column_of c col) found)
any_rows p q col item whole groups found = go q.group groups
  where
    go : (group : Option SqlCol) → elim group as (λ _. Bool) [ Some col ↦ groups_by q col | None ↦ not (list_any (λ key. key.least) q.keys) ] ≡ true → list_any p (map cell_in (rows_from q group found)) ≡ list_any p (map (λ c. column_of c col) found)
    go None e =
        ap₂ (λ (i : SqlItem) (l : Option ℕ). list_any p (map cell_in (map (item_of i) (cut l (stable_sort (before q.keys) found))))) item whole
        ∙ any_ungrouped p q.keys col found
    go (Some other) e =
        ap (λ (l : Option ℕ). list_any p (map cell_in (map plain_row (cut l (grouped same_value (map (λ c. (position_of c other.item, column_of c other)) found)))))) whole
        ∙ any_grouped p other other.item found
        ∙ ap (list_any p) (all_columns col other taken found)
      where
        taken : same_col col other ≡ true
        taken = ap (takes_column other) (sym item) ∙ and_right (nat_eq (length q.from) 1) (takes_column other q.item) (and_left (nat_eq (length q.from) 1 && takes_column other q.item) (is_least_position q.keys) e)
