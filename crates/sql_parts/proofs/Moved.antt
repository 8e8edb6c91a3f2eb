-- A known query within another keeps the types of its operands.
use Rattle.std.proofs.Common.{◌≡◌, ℕ, zero, suc, ◌+◌, ◌<◌, ◌≤◌, ◌^◌, max, Bool, true, false, cond, not, ◌&&◌, List, [], ◌∷◌, ◌++◌, length, slice_get, position, refl, sym, ap, ap₂, ◌∙◌, subst, arith, append_assoc, nat_eq, nat_lt}
use Rattle.std.specs.List.{prefix_len}
use Rattle.std.specs.Prelude.{codes}
use Rattle.std.specs.Str.{bytes_eq}
use Rattle.std.specs.declared.option.Option.{Option}
use Rattle.std.specs.declared.option.Option.TheVariants.{Some, None}
use Rattle.std.proofs.lemmas.List.{length-append}
use Rattle.qbs_base.specs.Folded.{is_some}
use Rattle.qbs_base.specs.declared.columns.Column.{Column}
use Rattle.qbs_base.specs.declared.scalar.Ty.{Ty}
use Rattle.qbs_base.specs.declared.scalar.Ty.TheVariants as tys
use Rattle.qbs_base.specs.Values.{Schema}
use Rattle.qbs_base.specs.Columns.{same_ty}
use Rattle.sql_ast.specs.declared.tree.Cmp.{Cmp}
use Rattle.sql_ast.specs.declared.tree.Cmp.TheVariants as tests
use Rattle.sql_ast.specs.declared.tree.FromItem.{FromItem}
use Rattle.sql_ast.specs.declared.tree.SqlCol.{SqlCol}
use Rattle.sql_ast.specs.declared.tree.SqlColumn.{SqlColumn}
use Rattle.sql_ast.specs.declared.tree.SqlColumn.TheVariants as columns
use Rattle.sql_ast.specs.declared.tree.SqlOpnd.{SqlOpnd}
use Rattle.sql_ast.specs.declared.tree.SqlOpnd.TheVariants as opnds
use Rattle.sql_ast.specs.Canonical.{column_text}
use Rattle.sql_ast.specs.Meaning.{nth}
use Rattle.sql_ast.specs.Names.{◌>>=◌, column_named}
use Rattle.sql_ast.specs.Tree.{Condition, Both, Either, Not, Compare, Bare, Exists, Within, Filter, Everything, Where}
use Rattle.sql_ast.specs.Typing.{ty_of_scalar, ty_of_column, ty_of_col, ty_beside, tys_beside, filter_tys, is_compared_by, pair_fits, ty_of_opnd, is_of, condition_fits, filter_fits, opnd_param, last_param, filter_param}
use Rattle.sql_ast.specs.Valid.{AreItems, IsColOf, IsOpndOf, IsConditionOf, IsFilterOf}
use Rattle.sql_parts.specs.Emitted.{moved_col, entry_param, moved_opnd, moved, moved_filter}
use Rattle.sql_parts.specs.Given.{AreCounted, FilterIsCounted}
use Rattle.sql_parts.proofs.Grammar.{HasType, IsCompared, IsWithin, Good, GoodFilter}
use Rattle.sql_parts.proofs.Tools.{eq_true, eq_itself, lt_of}
use Rattle.kernel_lang.proofs.Listing.{and_left, and_right, some_eq}

pub behind : {X : Type 0} (c d : List X) (i : ℕ) → slice_get (c ++ d) (length c + i) ≡ slice_get d i
behind [] d i = let e : 0 + i ≡ i = omega arith in ap (slice_get d) e
behind (b ∷ c) d i = let e : length (b ∷ c) + i ≡ suc (length c + i) = omega arith in ap (slice_get (b ∷ (c ++ d))) e ∙ behind c d i

same_is : (a b : Ty) → same_ty a b ≡ true → a ≡ b
same_is tys.Long tys.Long e = refl
same_is tys.Bool tys.Bool e = refl
same_is tys.Text tys.Text e = refl
same_is tys.Long tys.Bool e = absurd cc
same_is tys.Long tys.Text e = absurd cc
same_is tys.Bool tys.Long e = absurd cc
same_is tys.Bool tys.Text e = absurd cc
same_is tys.Text tys.Long e = absurd cc
same_is tys.Text tys.Bool e = absurd cc

there_at : {X : Type 0} (xs : List X) (n : ℕ) → n < length xs → (x : X) × (slice_get xs n ≡ Some x)
there_at [] n h = absurd (omega (arith, h))
there_at (x ∷ xs) zero h = (x, refl)
there_at (x ∷ xs) (suc n) h = there_at xs n (omega (arith, h))

position_there : {X : Type 0} (p : X → Bool) (xs : List X) (n : ℕ) → position p xs ≡ Some n → (x : X) × (slice_get xs n ≡ Some x)
position_there {X} p xs n e = go (prefix_len (λ x. not (p x)) xs) (nat_lt (prefix_len (λ x. not (p x)) xs) (length xs)) refl e
  where
    go : (k : ℕ) (b : Bool) → nat_lt k (length xs) ≡ b → cond b (Some k) None ≡ Some n → (x : X) × (slice_get xs n ≡ Some x)
    go k false is e = absurd cc
    go k true is e = there_at xs n (let same : k ≡ n = some_eq k n e in let l : k < length xs = lt_of k (length xs) is in omega (arith, same, l))

-- a column that is named has a type
column_there : (held : List Column) (name : List ℕ) (column : SqlColumn) → column_named held name ≡ Some column → (ty : Ty) × (ty_of_column held column ≡ Some ty)
column_there held name columns.Pos e = (tys.Long, refl)
column_there held name (columns.Named own number) e = go (bytes_eq name (codes "_pos")) (position (λ column. bytes_eq column.name name) held) refl e
  where
    go : (b : Bool) (o : Option ℕ) → position (λ column. bytes_eq column.name name) held ≡ o → cond b (Some columns.Pos) (o >>= λ number. Some (columns.Named name number)) ≡ Some (columns.Named own number) → (ty : Ty) × (ty_of_column held (columns.Named own number) ≡ Some ty)
    go true o is e = absurd cc
    go false None is e = absurd cc
    go false (Some n) is e =
        let same : n ≡ number = cc in
        let x = position_there (λ column. bytes_eq column.name name) held n is in
        (x.0.ty, ap (λ o. o >>= λ column. Some column.ty) (ap (slice_get held) (sym same) ∙ x.1))

col_there : (schema : Schema) (froms : List FromItem) (col : SqlCol) → IsColOf schema froms col → (ty : Ty) × (ty_of_col schema froms col ≡ Some ty)
col_there schema froms col is =
    let c = column_there is.table.columns (column_text col.column) col.column is.column in
    (c.0, ap (λ o. o >>= λ from. slice_get schema from.table >>= λ table. ty_of_column table.columns col.column) is.item ∙ ap (λ o. o >>= λ table. ty_of_column table.columns col.column) is.held ∙ c.1)

-- ---- within other FROM items

module _ (schema : Schema) (types : List Ty) (outer : List FromItem) (args : List ℕ) (P : ℕ → Option Ty) (known : (m : ℕ) (k : ℕ) → nth args m ≡ Some k → P m ≡ slice_get types k) (arg_there : (m : ℕ) → 1 ≤ m → m ≤ length args → (k : ℕ) × (ty : Ty) × ((nth args m ≡ Some k) × (P m ≡ Some ty))) where
  nth_behind : (froms : List FromItem) (i : ℕ) (from : FromItem) → nth froms i ≡ Some from → nth (outer ++ froms) (length outer + i) ≡ Some from
  nth_behind froms zero from e = absurd cc
  nth_behind froms (suc i) from e = let n : length outer + suc i ≡ suc (length outer + i) = omega arith in ap (nth (outer ++ froms)) n ∙ behind outer froms i ∙ e

  pub col_named : (froms : List FromItem) (col : SqlCol) → IsColOf schema froms col → IsColOf schema (outer ++ froms) (moved_col (length outer) col)
  col_named froms col is = record { from = is.from; item = nth_behind froms col.item is.from is.item; table = is.table; held = is.held; column = is.column; word = is.word }

  pub col_typed : (froms : List FromItem) (col : SqlCol) → IsColOf schema froms col → ty_of_col schema (outer ++ froms) (moved_col (length outer) col) ≡ ty_of_col schema froms col
  col_typed froms col is =
      ap (λ o. o >>= λ from. slice_get schema from.table >>= λ table. ty_of_column table.columns col.column) (nth_behind froms col.item is.from is.item)
      ∙ sym (ap (λ o. o >>= λ from. slice_get schema from.table >>= λ table. ty_of_column table.columns col.column) is.item)

  opnd_has : (froms : List FromItem) (a : SqlOpnd) → IsOpndOf schema froms a → opnd_param a ≤ length args → (ty : Ty) × ((ty_of_opnd P schema froms a ≡ Some ty) × HasType schema types (outer ++ froms) (moved_opnd (length outer) args a) ty)
  opnd_has froms (opnds.Column col) is l = let c = col_there schema froms col is in (c.0, (c.1, (col_named froms col is, col_typed froms col is ∙ c.1)))
  opnd_has froms (opnds.Lit x) is l = (ty_of_scalar x, (refl, (is, refl)))
  opnd_has froms (opnds.Param m) is l =
      let (k, ty, h) = arg_there m is.0 l in
      (ty, (h.1, subst (λ o. HasType schema types (outer ++ froms) (entry_param o) ty) (sym h.0) (sym (known m k h.0) ∙ h.1)))

  pair_good : (froms : List FromItem) (cmp : Cmp) (a b : SqlOpnd) → IsOpndOf schema froms a → IsOpndOf schema froms b → opnd_param a ≤ length args → opnd_param b ≤ length args → pair_fits cmp (ty_of_opnd P schema froms a) (ty_of_opnd P schema froms b) ≡ true
      → IsCompared schema types (outer ++ froms) cmp (moved_opnd (length outer) args a) (moved_opnd (length outer) args b)
  pair_good froms cmp a b is_a is_b la lb fits =
      let (s, p) = opnd_has froms a is_a la in
      let (t, q) = opnd_has froms b is_b lb in
      let pair : (same_ty s t && is_compared_by cmp s) ≡ true = sym (ap₂ (pair_fits cmp) p.0 q.0) ∙ fits in
      let same : s ≡ t = same_is s t (and_left (same_ty s t) (is_compared_by cmp s) pair) in
      record { ty = s; first = p.1; second = subst (HasType schema types (outer ++ froms) (moved_opnd (length outer) args b)) (sym same) q.1; fits = and_right (same_ty s t) (is_compared_by cmp s) pair }

  items_good : (n : ℕ) (around own : List FromItem) → AreItems schema around own → length (outer ++ around) ≤ n → n + length own < 2 ^ 64 → AreItems schema (outer ++ around) own
  items_good n around own is l few = record { some = is.some; few = let c = length-append (outer ++ around) own in omega (arith, c, l, few); each = is.each }

  longer : (n : ℕ) (around own : List FromItem) → length (outer ++ around) ≤ n → length (outer ++ (around ++ own)) ≤ n + length own
  longer n around own l = let c = length-append outer (around ++ own) in let d = length-append around own in let e = length-append outer around in omega (arith, c, d, e, l)

  max_left : (a b n : ℕ) → max a b ≤ n → a ≤ n
  max_left a b n h = omega (arith, h)

  max_right : (a b n : ℕ) → max a b ≤ n → b ≤ n
  max_right a b n h = omega (arith, h)

  mutual
    good : (n : ℕ) (froms : List FromItem) (t : Condition) → length (outer ++ froms) ≤ n → AreCounted n t → IsConditionOf schema froms t → last_param t ≤ length args → condition_fits P schema froms t ≡ true → Good schema types (outer ++ froms) (moved (length outer) args t)
    good n froms (Both a b) l counted is last fits = (
      good n froms a l counted.0 is.0 (max_left (last_param a) (last_param b) (length args) last) (and_left (condition_fits P schema froms a) (condition_fits P schema froms b) fits),
      good n froms b l counted.1 is.1 (max_right (last_param a) (last_param b) (length args) last) (and_right (condition_fits P schema froms a) (condition_fits P schema froms b) fits),
    )
    good n froms (Either a b) l counted is last fits = (
      good n froms a l counted.0 is.0 (max_left (last_param a) (last_param b) (length args) last) (and_left (condition_fits P schema froms a) (condition_fits P schema froms b) fits),
      good n froms b l counted.1 is.1 (max_right (last_param a) (last_param b) (length args) last) (and_right (condition_fits P schema froms a) (condition_fits P schema froms b) fits),
    )
    good n froms (Not a) l counted is last fits = good n froms a l counted is last fits
    good n froms (Compare cmp a b) l counted is last fits = pair_good froms cmp a b is.0 is.1 (max_left (opnd_param a) (opnd_param b) (length args) last) (max_right (opnd_param a) (opnd_param b) (length args) last) fits
    good n froms (Bare col) l counted is last fits =
        let c = col_there schema froms col is in
        let bool : tys.Bool ≡ c.0 = same_is tys.Bool c.0 (ap (is_of tys.Bool) (sym c.1) ∙ fits) in
        (col_named froms col is, col_typed froms col is ∙ c.1 ∙ ap Some (sym bool))
    good n froms (Exists from f) l counted is last fits =
        (items_good n froms from is.0 l counted.0, subst (λ fs. GoodFilter schema types fs (moved_filter (length outer) args f)) (sym (append_assoc outer froms from)) (good_filter (n + length from) (froms ++ from) f (longer n froms from l) counted.1 is.1 last fits))
    good n froms (Within a negated col from f) l counted is last fits =
        let (s, p) = opnd_has froms a is.0 (max_left (opnd_param a) (filter_param f) (length args) last) in
        let c = col_there schema (froms ++ from) col is.2 in
        let pair : (same_ty s c.0 && is_compared_by tests.Eq s) ≡ true = sym (ap₂ (pair_fits tests.Eq) p.0 c.1) ∙ and_left (pair_fits tests.Eq (ty_of_opnd P schema froms a) (ty_of_col schema (froms ++ from) col)) (filter_fits P schema (froms ++ from) f) fits in
        let same : s ≡ c.0 = same_is s c.0 (and_left (same_ty s c.0) (is_compared_by tests.Eq s) pair) in
        let within : IsWithin schema types (outer ++ froms) (outer ++ (froms ++ from)) (moved_opnd (length outer) args a) (moved_col (length outer) col) =
        record { ty = s; opnd = p.1; is_col = col_named (froms ++ from) col is.2; col_type = col_typed (froms ++ from) col is.2 ∙ c.1 ∙ ap Some (sym same) } in (
          subst (λ fs. IsWithin schema types (outer ++ froms) fs (moved_opnd (length outer) args a) (moved_col (length outer) col)) (sym (append_assoc outer froms from)) within,
          items_good n froms from is.1 l counted.0,
          subst (λ fs. GoodFilter schema types fs (moved_filter (length outer) args f)) (sym (append_assoc outer froms from))
              (good_filter (n + length from) (froms ++ from) f (longer n froms from l) counted.1 is.3 (max_right (opnd_param a) (filter_param f) (length args) last) (and_right (pair_fits tests.Eq (ty_of_opnd P schema froms a) (ty_of_col schema (froms ++ from) col)) (filter_fits P schema (froms ++ from) f) fits)),
        )

    pub good_filter : (n : ℕ) (froms : List FromItem) (f : Filter) → length (outer ++ froms) ≤ n → FilterIsCounted n f → IsFilterOf schema froms f → filter_param f ≤ length args → filter_fits P schema froms f ≡ true → GoodFilter schema types (outer ++ froms) (moved_filter (length outer) args f)
    good_filter n froms Everything l counted is last fits = tt
    good_filter n froms (Where a) l counted is last fits = good n froms a l counted is last fits

  -- ---- what a parameter is compared with, its entry is compared with

  module _ (m k : ℕ) (at : nth args m ≡ Some k) where
    some_append : (xs ys us vs : List Ty) → (is_some xs ≡ true → is_some us ≡ true) → (is_some ys ≡ true → is_some vs ≡ true) → is_some (xs ++ ys) ≡ true → is_some (us ++ vs) ≡ true
    some_append [] ys us vs f g h = later us vs (g h)
      where
        later : (us vs : List Ty) → is_some vs ≡ true → is_some (us ++ vs) ≡ true
        later [] vs h = h
        later (u ∷ us) vs h = refl
    some_append (x ∷ xs) ys us vs f g h = first us vs (f refl)
      where
        first : (us vs : List Ty) → is_some us ≡ true → is_some (us ++ vs) ≡ true
        first [] vs h = absurd cc
        first (u ∷ us) vs h = refl

    beside : (froms : List FromItem) (a : SqlOpnd) (col : SqlCol) → IsColOf schema froms col → is_some (ty_beside schema froms m a (opnds.Column col)) ≡ true
        → is_some (ty_beside schema (outer ++ froms) (suc k) (moved_opnd (length outer) args a) (opnds.Column (moved_col (length outer) col))) ≡ true
    beside froms (opnds.Column c) col is h = absurd cc
    beside froms (opnds.Lit x) col is h = absurd cc
    beside froms (opnds.Param i) col is h = go (nat_eq i m) refl h
      where
        c : (ty : Ty) × (ty_of_col schema froms col ≡ Some ty)
        c = col_there schema froms col is

        go : (b : Bool) → nat_eq i m ≡ b → is_some (cond b (elim (ty_of_col schema froms col) as (λ _. List Ty) [ Some ty ↦ ty ∷ [] | None ↦ [] ]) []) ≡ true
            → is_some (ty_beside schema (outer ++ froms) (suc k) (entry_param (nth args i)) (opnds.Column (moved_col (length outer) col))) ≡ true
        go false e h = absurd cc
        go true e h =
            ap (λ n. is_some (ty_beside schema (outer ++ froms) (suc k) (entry_param (nth args n)) (opnds.Column (moved_col (length outer) col)))) (eq_true i m e)
            ∙ ap (λ o. is_some (ty_beside schema (outer ++ froms) (suc k) (entry_param o) (opnds.Column (moved_col (length outer) col)))) at
            ∙ ap₂ (λ b o. is_some (cond b (elim o as (λ _. List Ty) [ Some ty ↦ ty ∷ [] | None ↦ [] ]) [])) (eq_itself (suc k)) (col_typed froms col is ∙ c.1)

    pair_beside : (froms : List FromItem) (a b : SqlOpnd) → IsOpndOf schema froms b → is_some (ty_beside schema froms m a b) ≡ true → is_some (ty_beside schema (outer ++ froms) (suc k) (moved_opnd (length outer) args a) (moved_opnd (length outer) args b)) ≡ true
    pair_beside froms a (opnds.Column col) is h = beside froms a col is h
    pair_beside froms (opnds.Column c) (opnds.Lit x) is h = absurd cc
    pair_beside froms (opnds.Lit y) (opnds.Lit x) is h = absurd cc
    pair_beside froms (opnds.Param n) (opnds.Lit x) is h = absurd cc
    pair_beside froms (opnds.Column c) (opnds.Param i) is h = absurd cc
    pair_beside froms (opnds.Lit y) (opnds.Param i) is h = absurd cc
    pair_beside froms (opnds.Param n) (opnds.Param i) is h = absurd cc

    mutual
      tys_moved : (froms : List FromItem) (t : Condition) → IsConditionOf schema froms t → is_some (tys_beside schema froms m t) ≡ true → is_some (tys_beside schema (outer ++ froms) (suc k) (moved (length outer) args t)) ≡ true
      tys_moved froms (Both a b) is h = some_append (tys_beside schema froms m a) (tys_beside schema froms m b) (tys_beside schema (outer ++ froms) (suc k) (moved (length outer) args a)) (tys_beside schema (outer ++ froms) (suc k) (moved (length outer) args b)) (tys_moved froms a is.0) (tys_moved froms b is.1) h
      tys_moved froms (Either a b) is h = some_append (tys_beside schema froms m a) (tys_beside schema froms m b) (tys_beside schema (outer ++ froms) (suc k) (moved (length outer) args a)) (tys_beside schema (outer ++ froms) (suc k) (moved (length outer) args b)) (tys_moved froms a is.0) (tys_moved froms b is.1) h
      tys_moved froms (Not a) is h = tys_moved froms a is h
      tys_moved froms (Compare cmp a b) is h =
          some_append (ty_beside schema froms m a b) (ty_beside schema froms m b a) (ty_beside schema (outer ++ froms) (suc k) (moved_opnd (length outer) args a) (moved_opnd (length outer) args b)) (ty_beside schema (outer ++ froms) (suc k) (moved_opnd (length outer) args b) (moved_opnd (length outer) args a))
          (pair_beside froms a b is.1) (pair_beside froms b a is.0) h
      tys_moved froms (Bare col) is h = absurd cc
      tys_moved froms (Exists from f) is h = in_filter froms from f is.1 h
      tys_moved froms (Within a negated col from f) is h =
          some_append (ty_beside schema (froms ++ from) m a (opnds.Column col)) (filter_tys schema (froms ++ from) m f) (ty_beside schema ((outer ++ froms) ++ from) (suc k) (moved_opnd (length outer) args a) (opnds.Column (moved_col (length outer) col))) (filter_tys schema ((outer ++ froms) ++ from) (suc k) (moved_filter (length outer) args f))
          (λ x. ap (λ fs. is_some (ty_beside schema fs (suc k) (moved_opnd (length outer) args a) (opnds.Column (moved_col (length outer) col)))) (append_assoc outer froms from) ∙ beside (froms ++ from) a col is.2 x) (in_filter froms from f is.3) h

      in_filter : (froms from : List FromItem) (f : Filter) → IsFilterOf schema (froms ++ from) f → is_some (filter_tys schema (froms ++ from) m f) ≡ true → is_some (filter_tys schema ((outer ++ froms) ++ from) (suc k) (moved_filter (length outer) args f)) ≡ true
      in_filter froms from Everything is h = absurd cc
      in_filter froms from (Where a) is h = ap (λ fs. is_some (tys_beside schema fs (suc k) (moved (length outer) args a))) (append_assoc outer froms from) ∙ tys_moved (froms ++ from) a is h

    pub filter_moved : (froms : List FromItem) (f : Filter) → IsFilterOf schema froms f → is_some (filter_tys schema froms m f) ≡ true → is_some (filter_tys schema (outer ++ froms) (suc k) (moved_filter (length outer) args f)) ≡ true
    filter_moved froms Everything is h = absurd cc
    filter_moved froms (Where a) is h = tys_moved froms a is h
