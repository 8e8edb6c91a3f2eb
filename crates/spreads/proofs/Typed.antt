-- The comparisons of a select's condition have operands of known types.
use Rattle.std.proofs.Common.{◌≡◌, ℕ, zero, suc, ◌≤◌, Bool, true, false, not, ◌&&◌, cond, List, [], ◌∷◌, ◌++◌, length, codes, Option, Some, refl, sym, ap, ◌∙◌, subst, arith, length-append}
use Rattle.std.specs.Prelude.{slice_get, max}
use Rattle.std.specs.Str.{bytes_eq}
use Rattle.std.proofs.Math.Nat.{le-max_left, le-max_right}
use Rattle.qbs_base.specs.declared.columns.Column.{Column}
use Rattle.qbs_base.specs.declared.columns.Table.{Table}
use Rattle.qbs_base.specs.declared.scalar.Ty.{Ty}
use Rattle.qbs_base.specs.declared.scalar.Ty.TheVariants as tys
use Rattle.qbs_base.specs.Columns.{columns_at, column_number, same_ty}
use Rattle.qbs_base.specs.Values.{Schema}
use Rattle.sql_ast.specs.declared.tree.Cmp.{Cmp}
use Rattle.sql_ast.specs.declared.tree.FromItem.{FromItem}
use Rattle.sql_ast.specs.declared.tree.SqlCol.{SqlCol}
use Rattle.sql_ast.specs.declared.tree.SqlColumn.{SqlColumn}
use Rattle.sql_ast.specs.declared.tree.SqlColumn.TheVariants as columns
use Rattle.sql_ast.specs.declared.tree.SqlOpnd.{SqlOpnd}
use Rattle.sql_ast.specs.declared.tree.SqlOpnd.TheVariants as opnds
use Rattle.sql_ast.specs.Canonical.{column_text}
use Rattle.sql_ast.specs.Keys.{is_position}
use Rattle.sql_ast.specs.Meaning.{nth}
use Rattle.sql_ast.specs.Names.{◌>>=◌, column_named}
use Rattle.sql_ast.specs.Tree.{Condition, Both, Either, Not, Compare, Bare, Exists, Within, Filter, Everything, Where, PlainListing, Listing}
use Rattle.sql_ast.specs.Typing.{ty_of_scalar, ty_of_column, ty_of_col, ty_of_param, orders, is_compared_by, pair_fits, ty_of_opnd, is_of, opnd_param, condition_fits, filter_fits, last_param, filter_param, tys_up_to}
use Rattle.sql_ast.specs.Valid.{IsColOf, IsOpndOf}
use Rattle.sql_ast.proofs.Tools.{some_is, bind_some, slice_get_after}
use Rattle.java_mean.proofs.Numbered.{Found, first, later, position_step}
use Rattle.select_parts.specs.Selects.{is_plain_operand, is_plain_condition, is_plain_filter, is_text, is_text_operand}
use Rattle.spreads.proofs.Chosen.{both_so, SelectIs}
use Rattle.spreads.proofs.Known.{HasColumns, FilterHas, TextKnown}
use Rattle.spreads.proofs.Truth.{ColIs, OpndIs, ComparedIs, ConditionIs, FilterIs}

-- ---- Parameters

data LastOr (k n : ℕ) : Type 0 where
  below : k ≤ n → LastOr k n
  last : k ≡ suc n → LastOr k n

one_more : (k n : ℕ) → LastOr k n → LastOr (suc k) (suc n)
one_more k n (below h) = below (omega (arith, h))
one_more k n (last e) = last (ap suc e)

last_or : (k n : ℕ) → k ≤ suc n → LastOr k n
last_or zero n h = below (omega arith)
last_or (suc zero) zero h = last refl
last_or (suc (suc k)) zero h = absurd (omega (arith, h))
last_or (suc k) (suc n) h = one_more k n (last_or k n (omega (arith, h)))

get_front : {X : Type 0} (xs ys : List X) (n : ℕ) (x : X) → slice_get xs n ≡ Some x → slice_get (xs ++ ys) n ≡ Some x
get_front [] ys n x e = absurd cc
get_front (z ∷ zs) ys zero x e = e
get_front (z ∷ zs) ys (suc n) x e = get_front zs ys n x e

nth_front : {X : Type 0} (xs ys : List X) (n : ℕ) (x : X) → nth xs n ≡ Some x → nth (xs ++ ys) n ≡ Some x
nth_front xs ys zero x e = absurd cc
nth_front xs ys (suc n) x e = get_front xs ys n x e

-- a parameter that has a type, and has it in the list
record ParamIs (params : ℕ → Option Ty) (types : List Ty) (k : ℕ) : Type 0 where
  pub ty : Ty
  pub here : params k ≡ Some ty
  pub there : nth types k ≡ Some ty

record UpTo (params : ℕ → Option Ty) (n : ℕ) (types : List Ty) : Type 0 where
  pub many : length types ≡ n
  pub each : (k : ℕ) → 1 ≤ k → k ≤ n → ParamIs params types k

at_last : (params : ℕ → Option Ty) (types : List Ty) (ty : Ty) (n k : ℕ) → length types ≡ n → params (suc n) ≡ Some ty → k ≡ suc n → ParamIs params (types ++ ty ∷ []) k
at_last params types ty n k many p e =
    record { ty = ty; here = ap params e ∙ p; there = ap (nth (types ++ ty ∷ [])) e ∙ ap (λ (m : ℕ). nth (types ++ ty ∷ []) (suc m)) (sym many) ∙ slice_get_after types ty }

further : (params : ℕ → Option Ty) (types : List Ty) (ty : Ty) (n k : ℕ) → UpTo params n types → params (suc n) ≡ Some ty → 1 ≤ k → LastOr k n → ParamIs params (types ++ ty ∷ []) k
further params types ty n k u p one (below h) = let i = u.each k one h in record { ty = i.ty; here = i.here; there = nth_front types (ty ∷ []) k i.ty i.there }
further params types ty n k u p one (last e) = at_last params types ty n k u.many p e

up_to : (params : ℕ → Option Ty) (n : ℕ) (types : List Ty) → tys_up_to params n ≡ Some types → UpTo params n types
up_to params zero types e = record { many = ap (λ (z : List Ty). length z) (sym (some_is [] types e)); each = λ k one h. absurd (omega (arith, one, h)) }
up_to params (suc n) types e =
    let a = bind_some (tys_up_to params n) (λ ts. params (suc n) >>= λ ty. (let o : Option (List Ty) = Some (ts ++ ty ∷ []) in o)) types e in
    let b = bind_some (params (suc n)) (λ ty. (let o : Option (List Ty) = Some (a.0 ++ ty ∷ []) in o)) types a.2 in
    let u = up_to params n a.0 a.1 in
    let here : UpTo params (suc n) (a.0 ++ b.0 ∷ []) = record { many = (let m = u.many in omega (arith, m, length-append a.0 (b.0 ∷ []))); each = λ k one h. further params a.0 b.0 n k u b.1 one (last_or k n h) } in
    subst (UpTo params (suc n)) (some_is (a.0 ++ b.0 ∷ []) types b.2) here

-- ---- Columns

columns_known : (schema : Schema) (n : ℕ) (table : Table) → slice_get schema n ≡ Some table → columns_at schema n ≡ table.columns
columns_known [] n table e = absurd cc
columns_known (t ∷ ts) zero table e = ap (λ (z : Table). z.columns) (some_is t table e)
columns_known (t ∷ ts) (suc n) table e = columns_known ts n table e

abbrev HeldAt : List Column → ℕ → Type 0
HeldAt cs n = (column : Column) × (slice_get cs n ≡ Some column)

held_step : (c : Column) (cs : List Column) (f : List ℕ) (n : ℕ) → ((m : ℕ) → column_number cs f ≡ Some m → HeldAt cs m) → Found (λ (u : Column). bytes_eq u.name f) c cs n → HeldAt (c ∷ cs) n
held_step c cs f n rest (first t z) = (c, ap (slice_get (c ∷ cs)) z)
held_step c cs f n rest (later m t z k) = (let r = rest m k in (r.0, ap (slice_get (c ∷ cs)) z ∙ r.1))

held_at : (cs : List Column) (f : List ℕ) (n : ℕ) → column_number cs f ≡ Some n → HeldAt cs n
held_at [] f n e = absurd cc
held_at (c ∷ cs) f n e = held_step c cs f n (λ m k. held_at cs f m k) (position_step (λ (u : Column). bytes_eq u.name f) c cs n e)

only_item : (from other : FromItem) (n : ℕ) → nth (from ∷ []) n ≡ Some other → (n ≡ 1) × (from ≡ other)
only_item from other zero e = absurd cc
only_item from other (suc zero) e = (refl, some_is from other e)
only_item from other (suc (suc n)) e = absurd cc

-- a column by its name
record NamedIs (held : List Column) (column : SqlColumn) : Type 0 where
  pub number : ℕ
  pub there : column_number held (column_text column) ≡ Some number
  pub is : column ≡ columns.Named (column_text column) number

named_is : (held : List Column) (column : SqlColumn) → not (is_position column) ≡ true → column_named held (column_text column) ≡ Some column → NamedIs held column
named_is held column p e = by_test (bytes_eq (column_text column) (codes "_pos")) e
  where
    by_test : (b : Bool) → cond b (let x : Option SqlColumn = Some columns.Pos in x) (column_number held (column_text column) >>= λ number. (let x : Option SqlColumn = Some (columns.Named (column_text column) number) in x)) ≡ Some column → NamedIs held column
    by_test true e = (let same : columns.Pos ≡ column = some_is columns.Pos column e in let is : is_position column ≡ true = ap is_position (sym same) in absurd cc)
    by_test false e =
        let r = bind_some (column_number held (column_text column)) (λ number. (let x : Option SqlColumn = Some (columns.Named (column_text column) number) in x)) column e in
        record { number = r.0; there = r.1; is = sym (some_is (columns.Named (column_text column) r.0) column r.2) }

module _ (schema : Schema) (q : PlainListing) (from : FromItem) (alone : q.from ≡ from ∷ []) where
  -- a column with its type
  record ColTyped (col : SqlCol) : Type 0 where
    pub ty : Ty
    pub is : ColIs schema from.table ty col
    pub typed : ty_of_col schema q.from col ≡ Some ty

  col_typed : (col : SqlCol) → not (is_position col.column) ≡ true → IsColOf schema q.from col → ColTyped col
  col_typed col p k =
      let one = only_item from k.from col.item (ap (λ z. nth z col.item) (sym alone) ∙ k.item) in
      let held : slice_get schema from.table ≡ Some k.table = ap (λ (z : FromItem). slice_get schema z.table) one.1 ∙ k.held in
      let known = columns_known schema from.table k.table held in
      let named = named_is k.table.columns col.column p k.column in
      let there : column_number (columns_at schema from.table) (column_text col.column) ≡ Some named.number = ap (λ z. column_number z (column_text col.column)) known ∙ named.there in
      let column = held_at (columns_at schema from.table) (column_text col.column) named.number there in
      let column_held : slice_get k.table.columns named.number ≡ Some column.0 = ap (λ z. slice_get z named.number) (sym known) ∙ column.1 in
      record {
        ty = column.0.ty;
        is = record { number = named.number; column = column.0; item = one.0; named = named.is; there = there; held = column.1; is = refl };
        typed =
            ap (λ o. o >>= λ (f : FromItem). slice_get schema f.table >>= λ (table : Table). ty_of_column table.columns col.column) k.item
            ∙ ap (λ o. o >>= λ (table : Table). ty_of_column table.columns col.column) k.held
            ∙ ap (ty_of_column k.table.columns) named.is
            ∙ ap (λ o. o >>= λ (column : Column). (let x : Option Ty = Some column.ty in x)) column_held;
      }

  record OpndTyped (params : ℕ → Option Ty) (o : SqlOpnd) : Type 0 where
    pub ty : Ty
    pub is : OpndIs schema from.table q.params ty o
    pub here : ty_of_opnd params schema q.from o ≡ Some ty
    pub there : ty_of_opnd (nth q.params) schema q.from o ≡ Some ty

  -- types of the parameters up to this number
  abbrev Params : (ℕ → Option Ty) → Type 0
  Params params = (k : ℕ) → 1 ≤ k → k ≤ filter_param q.filter → ParamIs params q.params k

  opnd_typed : (params : ℕ → Option Ty) → Params params → (o : SqlOpnd) → is_plain_operand o ≡ true → IsOpndOf schema q.from o → opnd_param o ≤ filter_param q.filter → OpndTyped params o
  opnd_typed params ps (opnds.Column col) p k h = let c = col_typed col p k in record { ty = c.ty; is = c.is; here = c.typed; there = c.typed }
  opnd_typed params ps (opnds.Lit x) p k h = record { ty = ty_of_scalar x; is = refl; here = refl; there = refl }
  opnd_typed params ps (opnds.Param n) p k h = let i = ps n k.0 h in record { ty = i.ty; is = i.there; here = i.here; there = i.there }

  same_so : (a b : Ty) → same_ty a b ≡ true → a ≡ b
  same_so tys.Long tys.Long e = refl
  same_so tys.Long tys.Bool e = absurd cc
  same_so tys.Long tys.Text e = absurd cc
  same_so tys.Bool tys.Long e = absurd cc
  same_so tys.Bool tys.Bool e = refl
  same_so tys.Bool tys.Text e = absurd cc
  same_so tys.Text tys.Long e = absurd cc
  same_so tys.Text tys.Bool e = absurd cc
  same_so tys.Text tys.Text e = refl

  not_so : (b : Bool) → not b ≡ true → b ≡ false
  not_so true e = absurd cc
  not_so false e = refl

  is_bool : (o : Option Ty) (ty : Ty) → o ≡ Some ty → is_of tys.Bool o ≡ true → ty ≡ tys.Bool
  is_bool o ty e h = (let there : same_ty tys.Bool ty ≡ true = ap (is_of tys.Bool) (sym e) ∙ h in sym (same_so tys.Bool ty there))

  compared_is : (params : ℕ → Option Ty) → Params params → (cmp : Cmp) (a b : SqlOpnd) → is_plain_condition schema q (Compare cmp a b) ≡ true → IsOpndOf schema q.from a × IsOpndOf schema q.from b → condition_fits params schema q.from (Compare cmp a b) ≡ true → opnd_param a ≤ filter_param q.filter → opnd_param b ≤ filter_param q.filter → ComparedIs schema from.table q cmp a b
  compared_is params ps cmp a b p k f h i =
      let p1 = both_so (is_plain_operand a) (is_plain_operand b && not (orders cmp && is_text_operand schema q a)) p in
      let p2 = both_so (is_plain_operand b) (not (orders cmp && is_text_operand schema q a)) p1.1 in
      let x = opnd_typed params ps a p1.0 k.0 h in
      let y = opnd_typed params ps b p2.0 k.1 i in
      let fits : pair_fits cmp (Some x.ty) (Some y.ty) ≡ true = ap (λ o. pair_fits cmp o (Some y.ty)) (sym x.here) ∙ ap (pair_fits cmp (ty_of_opnd params schema q.from a)) (sym y.here) ∙ f in
      let both = both_so (same_ty x.ty y.ty) (is_compared_by cmp x.ty) fits in
      let text : is_text_operand schema q a ≡ same_ty x.ty tys.Text = ap is_text x.there in
      record {
        ty = x.ty;
        first = x.is;
        second = subst (λ z. OpndIs schema from.table q.params z b) (sym (same_so x.ty y.ty both.0)) y.is;
        may = both.1;
        text = text;
        plain = ap (λ z. orders cmp && z) (sym text) ∙ not_so (orders cmp && is_text_operand schema q a) p2.1;
      }

  left_of : (a b n : ℕ) → max a b ≤ n → a ≤ n
  left_of a b n h = omega (arith, h, le-max_left a b)

  right_of : (a b n : ℕ) → max a b ≤ n → b ≤ n
  right_of a b n h = omega (arith, h, le-max_right a b)

  condition_is : (params : ℕ → Option Ty) → Params params → (c : Condition) → is_plain_condition schema q c ≡ true → HasColumns schema q.from c → condition_fits params schema q.from c ≡ true → last_param c ≤ filter_param q.filter → ConditionIs schema from.table q c
  condition_is params ps (Both a b) p k f h =
      let p' = both_so (is_plain_condition schema q a) (is_plain_condition schema q b) p in
      let f' = both_so (condition_fits params schema q.from a) (condition_fits params schema q.from b) f in
      (condition_is params ps a p'.0 k.0 f'.0 (left_of (last_param a) (last_param b) (filter_param q.filter) h), condition_is params ps b p'.1 k.1 f'.1 (right_of (last_param a) (last_param b) (filter_param q.filter) h))
  condition_is params ps (Either a b) p k f h =
      let p' = both_so (is_plain_condition schema q a) (is_plain_condition schema q b) p in
      let f' = both_so (condition_fits params schema q.from a) (condition_fits params schema q.from b) f in
      (condition_is params ps a p'.0 k.0 f'.0 (left_of (last_param a) (last_param b) (filter_param q.filter) h), condition_is params ps b p'.1 k.1 f'.1 (right_of (last_param a) (last_param b) (filter_param q.filter) h))
  condition_is params ps (Not a) p k f h = condition_is params ps a p k f h
  condition_is params ps (Compare cmp a b) p k f h = compared_is params ps cmp a b p k f (left_of (opnd_param a) (opnd_param b) (filter_param q.filter) h) (right_of (opnd_param a) (opnd_param b) (filter_param q.filter) h)
  condition_is params ps (Bare col) p k f h =
      let c = col_typed col p k in
      subst (λ z. ColIs schema from.table z col) (is_bool (ty_of_col schema q.from col) c.ty c.typed f) c.is
  condition_is params ps (Exists from' filter_) p k f h = absurd cc
  condition_is params ps (Within opnd negated col from' filter_) p k f h = absurd cc

  filter_is : (params : ℕ → Option Ty) → Params params → (f : Filter) → is_plain_filter schema q f ≡ true → FilterHas schema q.from f → filter_fits params schema q.from f ≡ true → filter_param f ≤ filter_param q.filter → FilterIs schema from.table q f
  filter_is params ps Everything p k f h = tt
  filter_is params ps (Where c) p k f h = condition_is params ps c p k f h

pub select_typed : (schema : Schema) (q : PlainListing) (is : SelectIs schema q) → TextKnown schema (Listing q) → FilterIs schema is.from.table q q.filter
select_typed schema q is k =
    let u = up_to (ty_of_param schema q.from q.filter) (filter_param q.filter) q.params k.params in
    filter_is schema q is.from is.alone (ty_of_param schema q.from q.filter) u.each q.filter is.plain k.names.filter_ k.types (omega arith)
