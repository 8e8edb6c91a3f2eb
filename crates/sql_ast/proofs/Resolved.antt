-- The names of a canonical text stand for the query that it is the text of.
use Rattle.std.proofs.Common.{◌≡◌, ℕ, zero, suc, ◌+◌, ◌<◌, ◌≤◌, ◌^◌, Bool, true, false, List, [], ◌∷◌, ◌++◌, map, length, Option, Some, None, refl, sym, ap, ◌∙◌, subst, arith, length-append}
use Rattle.std.specs.List.{AllByRecursion, list_any}
use Rattle.std.specs.Prelude.{slice_get}
use Rattle.std.specs.Str.{bytes_eq}
use Rattle.std.proofs.lemmas.Fmt.{decimal_injective}
use Rattle.std.proofs.lemmas.Slice.Eq.{bytes_eq-Decides}
use Rattle.qbs_base.specs.declared.columns.Column.{Column}
use Rattle.qbs_base.specs.declared.columns.Table.{Table}
use Rattle.qbs_base.specs.Values.{Schema}
use Rattle.sql_ast.specs.declared.tree.FromItem.{FromItem}
use Rattle.sql_ast.specs.declared.tree.SqlCol.{SqlCol}
use Rattle.sql_ast.specs.declared.tree.SqlColumn.{SqlColumn}
use Rattle.sql_ast.specs.declared.tree.SqlOpnd.{SqlOpnd}
use Rattle.sql_ast.specs.declared.tree.SqlOpnd.TheVariants as opnds
use Rattle.sql_ast.specs.Canonical.{alias_text, column_text}
use Rattle.sql_ast.specs.Meaning.{nth}
use Rattle.sql_ast.specs.Names.{◌>>=◌, each_of, Known, Scope, known_part, are_distinct, known_parts, innermost, item_named, column_named, named_col, named_opnd, froms_of, inside, named_condition, named_filter}
use Rattle.sql_ast.specs.Tree.{Condition, Both, Either, Not, Compare, Bare, Exists, Within, Filter, Everything, Where}
use Rattle.sql_ast.specs.Valid.{IsFromItem, AreItems, IsColOf, IsOpndOf, IsConditionOf, IsFilterOf}
use Rattle.sql_ast.proofs.Canon.{col_of, opnd_of, parts_of, condition_of, filter_of}

abbrev pub columns_of : Schema → FromItem → List Column
columns_of schema from = elim (slice_get schema from.table) as (λ _. List Column) [ Some table ↦ table.columns | None ↦ [] ]

-- what is known of a FROM item with this number
abbrev pub known_at : Schema → ℕ → FromItem → Known
known_at schema n from = record { alias = alias_text n; columns = columns_of schema from; from = from }

abbrev pub knowns : Schema → ℕ → List FromItem → List Known
knowns schema n [] = []
knowns schema n (from ∷ froms) = known_at schema n from ∷ knowns schema (suc n) froms

pub knowns_append : (schema : Schema) (n : ℕ) (xs ys : List FromItem) → knowns schema n (xs ++ ys) ≡ knowns schema n xs ++ knowns schema (n + length xs) ys
knowns_append schema n [] ys = let e : n ≡ n + 0 = omega arith in ap (λ m. knowns schema m ys) e
knowns_append schema n (x ∷ xs) ys = let e : suc n + length xs ≡ n + suc (length xs) = omega arith in ap (λ (ks : List Known). known_at schema n x ∷ ks) (knowns_append schema (suc n) xs ys ∙ ap (λ m. knowns schema (suc n) xs ++ knowns schema m ys) e)

-- ---- aliases

same_alias : (m n : ℕ) → m < 2 ^ 64 → n < 2 ^ 64 → alias_text m ≡ alias_text n → m ≡ n
same_alias m n small few e = decimal_injective m n small few (ap (λ (w : List ℕ). elim w as (λ _. List ℕ) [ [] ↦ [] | b ∷ bs ↦ bs ]) e)

other_alias : (m n : ℕ) → m < 2 ^ 64 → n < 2 ^ 64 → (m ≡ n → ⊥) → bytes_eq (alias_text m) (alias_text n) ≡ false
other_alias m n small few ne = go (bytes_eq (alias_text m) (alias_text n)) refl
  where
    go : (b : Bool) → bytes_eq (alias_text m) (alias_text n) ≡ b → bytes_eq (alias_text m) (alias_text n) ≡ false
    go false e = e
    go true e = absurd (ne (same_alias m n small few ((bytes_eq-Decides (alias_text m) (alias_text n)).0 e)))

itself : (w : List ℕ) → bytes_eq w w ≡ true
itself w = (bytes_eq-Decides w w).1 refl

none_innermost : (schema : Schema) (m n : ℕ) (froms : List FromItem) → n < m → m + length froms ≤ 2 ^ 64 → innermost m (alias_text n) (knowns schema m froms) ≡ None
none_innermost schema m n [] lt few = refl
none_innermost schema m n (from ∷ froms) lt few =
    let later = none_innermost schema (suc m) n froms (omega (arith, lt)) (omega (arith, few)) in
    let other = other_alias m n (omega (arith, few)) (omega (arith, lt, few)) (λ e. omega (arith, lt, e)) in
    rw (later, other) refl

abbrev pub Found : Type 0
Found = ℕ × Known

abbrev pub found : ℕ → Known → Option Found
found n known = Some (n, known)

some_is : {A : Type 0} (x y : A) → (let a : Option A = Some x in a) ≡ Some y → x ≡ y
some_is {A} x y e = ap (λ (o : Option A). elim o as (λ _. A) [ Some z ↦ z | None ↦ x ]) e

found_innermost : (schema : Schema) (m k : ℕ) (froms : List FromItem) (from : FromItem) → slice_get froms k ≡ Some from → (n : ℕ) → n ≡ m + k → m + length froms ≤ 2 ^ 64 → innermost m (alias_text n) (knowns schema m froms) ≡ found n (known_at schema n from)
found_innermost schema m k [] from e n at few = absurd cc
found_innermost schema m zero (x ∷ froms) from e n at few =
    let same : m ≡ n = omega (arith, at) in
    subst (λ n. innermost m (alias_text n) (knowns schema m (x ∷ froms)) ≡ found n (known_at schema n from)) same
    (let later = none_innermost schema (suc m) m froms (omega arith) (omega (arith, few)) in
    rw (later, itself (alias_text m)) (ap (λ (y : FromItem). found m (known_at schema m y)) (some_is x from e)))
found_innermost schema m (suc k) (x ∷ froms) from e n at few =
    let later = found_innermost schema (suc m) k froms from e n (omega (arith, at)) (omega (arith, few)) in
    rw later refl

-- ---- FROM items

columns_held : (schema : Schema) (from : FromItem) (table : Table) → slice_get schema from.table ≡ Some table → table.columns ≡ columns_of schema from
columns_held schema from table e = ap (λ (o : Option Table). elim o as (λ _. List Column) [ Some t ↦ t.columns | None ↦ [] ]) (sym e)

parts_known : (schema : Schema) (n : ℕ) (froms : List FromItem) → AllByRecursion (IsFromItem schema) froms → each_of (known_part schema) (parts_of n froms) ≡ (let x : Option (List Known) = Some (knowns schema n froms) in x)
parts_known schema n [] h = refl
parts_known schema n (from ∷ froms) h =
    let f = h.0 in
    let later = parts_known schema (suc n) froms h.1 in
    rw (f.number, f.held, later)
    (ap (λ (cs : List Column). let x : Option (List Known) = Some (record { alias = alias_text n; columns = cs; from = from } ∷ knowns schema (suc n) froms) in x) (columns_held schema from f.table f.held))

none_same : (schema : Schema) (n m : ℕ) (froms : List FromItem) → n < m → m + length froms ≤ 2 ^ 64 → list_any (bytes_eq (alias_text n)) (map (λ known. known.alias) (knowns schema m froms)) ≡ false
none_same schema n m [] lt few = refl
none_same schema n m (from ∷ froms) lt few =
    let other = other_alias n m (omega (arith, lt, few)) (omega (arith, few)) (λ e. omega (arith, lt, e)) in
    let later = none_same schema n (suc m) froms (omega (arith, lt)) (omega (arith, few)) in
    rw (other, later) refl

all_distinct : (schema : Schema) (n : ℕ) (froms : List FromItem) → n + length froms ≤ 2 ^ 64 → are_distinct (map (λ known. known.alias) (knowns schema n froms)) ≡ true
all_distinct schema n [] few = refl
all_distinct schema n (from ∷ froms) few =
    let none = none_same schema n (suc n) froms (omega arith) (omega (arith, few)) in
    let later = all_distinct schema (suc n) froms (omega (arith, few)) in
    rw (none, later) refl

pub items_known : (schema : Schema) (around own : List FromItem) (n : ℕ) → n ≡ length around → AreItems schema around own → known_parts schema (parts_of (suc n) own) ≡ (let x : Option (List Known) = Some (knowns schema (suc n) own) in x)
items_known schema around own n e a =
    let first = parts_known schema (suc n) own a.each in
    let few : suc n + length own ≤ 2 ^ 64 = omega (arith, a.few, e, length-append around own) in
    let second = all_distinct schema (suc n) own few in
    rw (first, second) refl

pub froms_known : (schema : Schema) (n : ℕ) (froms : List FromItem) → froms_of (knowns schema n froms) ≡ froms
froms_known schema n [] = refl
froms_known schema n (from ∷ froms) = ap (λ (fs : List FromItem). from ∷ fs) (froms_known schema (suc n) froms)

-- ---- columns and conditions

-- the items of a scope are those of these FROM items
abbrev pub IsScope : Schema → List FromItem → Scope → Type 0
IsScope schema froms scope = scope.outer ++ scope.own ≡ knowns schema 1 froms

pub item_known : (schema : Schema) (froms : List FromItem) (scope : Scope) (n : ℕ) (from : FromItem) → IsScope schema froms scope → length froms < 2 ^ 64 → nth froms n ≡ Some from → item_named scope (Some (alias_text n)) ≡ found n (known_at schema n from)
item_known schema froms scope zero from s few e = absurd cc
item_known schema froms scope (suc k) from s few e = ap (innermost 1 (alias_text (suc k))) s ∙ found_innermost schema 1 k froms from e (suc k) (omega arith) (omega (arith, few))

abbrev with_column : SqlCol → Option SqlColumn → Option SqlCol
with_column col o = o >>= λ column. (let x : Option SqlCol = Some (record { item = col.item; column = column }) in x)

pub col_known : (schema : Schema) (froms : List FromItem) (scope : Scope) (col : SqlCol) → IsScope schema froms scope → length froms < 2 ^ 64 → IsColOf schema froms col → named_col scope (col_of col) ≡ Some col
col_known schema froms scope col s few c =
    ap (λ (o : Option Found). o >>= λ f. column_named f.1.columns (column_text col.column) >>= λ column. (let x : Option SqlCol = Some (record { item = f.0; column = column }) in x)) (item_known schema froms scope col.item c.from s few c.item)
    ∙ ap (λ (o : Option Table). with_column col (column_named (elim o as (λ _. List Column) [ Some table ↦ table.columns | None ↦ [] ]) (column_text col.column))) c.held
    ∙ ap (with_column col) c.column

opnd_known : (schema : Schema) (froms : List FromItem) (scope : Scope) (a : SqlOpnd) → IsScope schema froms scope → length froms < 2 ^ 64 → IsOpndOf schema froms a → named_opnd scope (opnd_of a) ≡ Some a
opnd_known schema froms scope (opnds.Column col) s few h = let c = col_known schema froms scope col s few h in rw c refl
opnd_known schema froms scope (opnds.Lit scalar) s few h = refl
opnd_known schema froms scope (opnds.Param n) s few h = refl

inner_scope : (schema : Schema) (froms own : List FromItem) (n : ℕ) (scope : Scope) → n ≡ length froms → IsScope schema froms scope → IsScope schema (froms ++ own) (inside scope (knowns schema (suc n) own))
inner_scope schema froms own n scope e s =
    ap (λ (ks : List Known). ks ++ knowns schema (suc n) own) s
    ∙ (let k : suc n ≡ 1 + length froms = omega (arith, e) in ap (λ m. knowns schema 1 froms ++ knowns schema m own) k)
    ∙ sym (knowns_append schema 1 froms own)

few_more : (n : ℕ) (froms from : List FromItem) → n ≡ length froms → n + length from ≡ length (froms ++ from)
few_more n froms from e = omega (arith, e, length-append froms from)

mutual
  pub condition_known : (schema : Schema) (froms : List FromItem) (n : ℕ) (scope : Scope) (c : Condition) → n ≡ length froms → IsScope schema froms scope → length froms < 2 ^ 64 → IsConditionOf schema froms c → named_condition schema scope (condition_of n c) ≡ Some c
  condition_known schema froms n scope (Both a b) e s few h =
      let x = condition_known schema froms n scope a e s few h.0 in let y = condition_known schema froms n scope b e s few h.1 in rw (x, y) refl
  condition_known schema froms n scope (Either a b) e s few h =
      let x = condition_known schema froms n scope a e s few h.0 in let y = condition_known schema froms n scope b e s few h.1 in rw (x, y) refl
  condition_known schema froms n scope (Not a) e s few h = let x = condition_known schema froms n scope a e s few h in rw x refl
  condition_known schema froms n scope (Compare cmp a b) e s few h =
      let x = opnd_known schema froms scope a s few h.0 in let y = opnd_known schema froms scope b s few h.1 in rw (x, y) refl
  condition_known schema froms n scope (Bare col) e s few h = let x = col_known schema froms scope col s few h in rw x refl
  condition_known schema froms n scope (Exists from f) e s few h =
      let own = items_known schema froms from n e h.0 in
      let inner = filter_known schema (froms ++ from) (n + length from) (inside scope (knowns schema (suc n) from)) f (few_more n froms from e) (inner_scope schema froms from n scope e s) h.0.few h.1 in
      rw (own, inner, froms_known schema (suc n) from) refl
  condition_known schema froms n scope (Within a negated col from f) e s few h =
      let x = opnd_known schema froms scope a s few h.0 in
      let own = items_known schema froms from n e h.1 in
      let c = col_known schema (froms ++ from) (inside scope (knowns schema (suc n) from)) col (inner_scope schema froms from n scope e s) h.1.few h.2 in
      let inner = filter_known schema (froms ++ from) (n + length from) (inside scope (knowns schema (suc n) from)) f (few_more n froms from e) (inner_scope schema froms from n scope e s) h.1.few h.3 in
      rw (x, own, c, inner, froms_known schema (suc n) from) refl

  pub filter_known : (schema : Schema) (froms : List FromItem) (n : ℕ) (scope : Scope) (f : Filter) → n ≡ length froms → IsScope schema froms scope → length froms < 2 ^ 64 → IsFilterOf schema froms f → named_filter schema scope (filter_of n f) ≡ Some f
  filter_known schema froms n scope Everything e s few h = refl
  filter_known schema froms n scope (Where a) e s few h = let x = condition_known schema froms n scope a e s few h in rw x refl
