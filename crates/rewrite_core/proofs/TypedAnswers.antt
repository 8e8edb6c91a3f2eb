-- The type of what an emitted query answers: what its accumulator's update collects.
use Rattle.std.proofs.Common.{◌≡◌, ℕ, zero, suc, ◌+◌, Bool, true, false, ◌||◌, List, [], ◌∷◌, map, slice_get, Option, Some, None, refl, ap, ◌∙◌, cond, arith, nat_eq}
use Rattle.std.specs.Option.{option_map}
use Rattle.qbs_base.specs.declared.columns.Column.{Column}
use Rattle.qbs_base.specs.declared.columns.Table.{Table}
use Rattle.qbs_base.specs.declared.scalar.Ty.{Ty}
use Rattle.qbs_base.specs.declared.scalar.Ty.TheVariants as tys
use Rattle.qbs_base.specs.Values.{Schema}
use Rattle.tor_terms.specs.declared.term.Elem.{Elem}
use Rattle.tor_terms.specs.declared.term.Elem.TheVariants as elems
use Rattle.tor_terms.specs.Truth.{has_loop}
use Rattle.kernel_lang.specs.declared.parts.ListDef.{ListDef}
use Rattle.kernel_lang.specs.declared.parts.Update.{Update}
use Rattle.kernel_lang.specs.declared.parts.Update.TheVariants as updates
use Rattle.kernel_lang.specs.Plain.{Fragment}
use Rattle.kernel_lang.specs.Pools.{Member}
use Rattle.kernel_lang.specs.Typed as kernel
use Rattle.kernel_lang.specs.Typed.{place_type}
use Rattle.kernel_lang.specs.Validity.{element_of, element_within}
use Rattle.sql_ast.specs.declared.tree.FromItem.{FromItem}
use Rattle.sql_ast.specs.Meaning.{nth}
use Rattle.sql_ast.specs.Tree.{Filter, PlainQuery, Listing, Number, Truth}
use Rattle.sql_ast.specs.Names.{◌>>=◌}
use Rattle.sql_ast.specs.Typing.{ty_of_col}
use Rattle.sql_parts.specs.Emitted.{item, query_by, query_of, where_of}
use Rattle.sql_parts.specs.Numbered.{with_filter, in_order}
use Rattle.sql_parts.proofs.Tools.{eq_true}
use Rattle.sql_parts.specs.Scopes.{Ground, numbered, number_in, outermost, def_of, from_item, from_items, column}
use Rattle.java_mean.specs.Asks.{item_type, answer_type}
use Rattle.java_mean.specs.declared.types.JavaType.{JavaType}
use Rattle.java_mean.specs.declared.types.JavaType.TheVariants.{Of, Listed, Distinct}
use Rattle.java_mean.specs.declared.types.Single.{Single}
use Rattle.java_mean.specs.declared.types.Single.TheVariants.{ScalarOf, RowOf}
use Rattle.java_mean.specs.Types.{made_of}
use Rattle.java_loops.specs.Lowering.Collected.{row_of_list, scalar_in_column, element_type, collected_type}

-- ---- FROM items

-- the place of a loop in a chain
record LoopThere (n : ℕ) (js : List ℕ) (j : ℕ) : Type 0 where
  index : ℕ
  number : number_in (numbered n js) j ≡ suc (n + index)
  there : slice_get js index ≡ Some j

loop_there : (n : ℕ) (js : List ℕ) (j : ℕ) → has_loop js j ≡ true → LoopThere n js j
loop_there n [] j h = absurd cc
loop_there n (k ∷ ks) j h = by_same (nat_eq k j) refl h (loop_there (suc n) ks j)
  where
    by_same : (b : Bool) → nat_eq k j ≡ b → (b || has_loop ks j) ≡ true → (has_loop ks j ≡ true → LoopThere (suc n) ks j) → LoopThere n (k ∷ ks) j
    by_same true e i later =
        let same : k ≡ j = eq_true k j e in
        record { index = 0; number = ap (λ b. cond b (suc n) (number_in (numbered (suc n) ks) j)) e ∙ (let z : suc n ≡ suc (n + 0) = omega arith in z); there = ap (λ z. Some z) same }
    by_same false e i later =
        let l : LoopThere (suc n) ks j = later i in
        record { index = suc l.index; number = ap (λ b. cond b (suc n) (number_in (numbered (suc n) ks) j)) e ∙ l.number ∙ (let z : suc (suc n + l.index) ≡ suc (n + suc l.index) = omega arith in z); there = l.there }

get_mapped : {A B : Type 0} (f : A → B) (xs : List A) (k : ℕ) (x : A) → slice_get xs k ≡ Some x → slice_get (map f xs) k ≡ Some (f x)
get_mapped f [] k x e = absurd cc
get_mapped {A} f (y ∷ ys) zero x e = let same : y ≡ x = cc in ap (λ z. Some (f z)) same
get_mapped f (y ∷ ys) (suc k) x e = get_mapped f ys k x e

-- the FROM item with the number of a loop is that of the loop
item_there : (g : Ground) (js : List ℕ) (j : ℕ) → has_loop js j ≡ true → nth (from_items g js) (number_in (outermost js).loops j) ≡ Some (from_item g j)
item_there g js j h =
    let l : LoopThere 0 js j = loop_there 0 js j h in
    let index : suc (0 + l.index) ≡ suc l.index = omega arith in
    ap (nth (from_items g js)) (l.number ∙ index) ∙ get_mapped (from_item g) js l.index j l.there

-- ---- Elements

column_there : (o : Option Column) (ty : Ty) → kernel.column_type o ≡ Some ty → (column : Column) × (o ≡ Some column) × (column.ty ≡ ty)
column_there (Some column) ty e = (column, refl, cc)
column_there None ty e = absurd cc

table_there : (o : Option Table) (c : ℕ) (ty : Ty) → kernel.table_column o c ≡ Some ty → (table : Table) × (o ≡ Some table) × (kernel.column_type (slice_get table.columns c) ≡ Some ty)
table_there (Some table) c ty e = (table, refl, e)
table_there None c ty e = absurd cc

list_there : (schema : Schema) (o : Option ListDef) (c : ℕ) (ty : Ty) → kernel.list_column schema o c ≡ Some ty → (d : ListDef) × (o ≡ Some d) × (kernel.table_column (slice_get schema d.table) c ≡ Some ty)
list_there schema (Some d) c ty e = (d, refl, e)
list_there schema None c ty e = absurd cc

module _ (schema : Schema) (f : Fragment) (g : Ground) (same : g.lists ≡ f.lists) (js : List ℕ) where
  -- a column has the type of its place
  column_typed : (j c : ℕ) (ty : Ty) → has_loop js j ≡ true → place_type schema f (j, c) ≡ Some ty → ty_of_col schema (from_items g js) (column g (number_in (outermost js).loops j) j c) ≡ Some ty
  column_typed j c ty h e =
      let d = list_there schema (slice_get f.lists j) c ty e in
      let t = table_there (slice_get schema d.0.table) c ty d.2 in
      let k = column_there (slice_get t.0.columns c) ty t.2 in
      let table : (from_item g j).table ≡ d.0.table = ap (λ ls. (def_of (slice_get ls j)).table) same ∙ ap (λ o. (def_of o).table) d.1 in
      ap (λ o. o >>= λ (from : FromItem). slice_get schema from.table >>= λ table. slice_get table.columns c >>= λ column. Some column.ty) (item_there g js j h)
      ∙ ap (λ n. slice_get schema n >>= λ table. slice_get table.columns c >>= λ column. Some column.ty) table
      ∙ ap (λ o. o >>= λ table. slice_get table.columns c >>= λ column. Some column.ty) t.1
      ∙ ap (λ o. o >>= λ column. Some column.ty) k.1
      ∙ ap (λ z. Some z) k.2

  row_typed : (j : ℕ) (d : ListDef) → has_loop js j ≡ true → slice_get f.lists j ≡ Some d → option_map (λ (from : FromItem). RowOf from.table) (nth (from_items g js) (number_in (outermost js).loops j)) ≡ Some (RowOf d.table)
  row_typed j d h e =
      ap (option_map (λ (from : FromItem). RowOf from.table)) (item_there g js j h)
      ∙ ap (λ ls. Some (RowOf (def_of (slice_get ls j)).table)) same ∙ ap (λ o. Some (RowOf (def_of o).table)) e

  row_found : (o : Option ListDef) (a : Single) → row_of_list o ≡ Some a → (d : ListDef) × (o ≡ Some d) × (RowOf d.table ≡ a)
  row_found (Some d) a e = (d, refl, cc)
  row_found None a e = absurd cc

  scalar_found : (o : Option Ty) (a : Single) → scalar_in_column o ≡ Some a → (ty : Ty) × (o ≡ Some ty) × (ScalarOf ty ≡ a)
  scalar_found (Some ty) a e = (ty, refl, cc)
  scalar_found None a e = absurd cc

  -- an element has the type that is collected
  item_typed : (e : Elem) (a : Single) → element_within js (Some e) ≡ true → element_type schema f e ≡ Some a → item_type schema (from_items g js) (item g (outermost js) e) ≡ Some a
  item_typed (elems.Whole j) a h e = let d = row_found (slice_get f.lists j) a e in row_typed j d.0 h d.1 ∙ ap (λ z. Some z) d.2
  item_typed (elems.Field j c) a h e = let t = scalar_found (place_type schema f (j, c)) a e in ap (option_map ScalarOf) (column_typed j c t.0 h t.1) ∙ ap (λ z. Some z) t.2

-- ---- Queries

-- a filter has no say in the type of an answer
filter_same : (schema : Schema) (q : PlainQuery) (filter_ : Filter) (types : List Ty) → answer_type schema (with_filter q filter_ types) ≡ answer_type schema q
filter_same schema (Listing q) filter_ types = refl
filter_same schema (Number q) filter_ types = refl
filter_same schema (Truth q) filter_ types = refl

-- the type of the query itself, of which a set is made
abbrev pub listed_of : JavaType → JavaType
listed_of (Distinct a) = Listed a
listed_of k = k

pub made_found : (k : Single → JavaType) (o : Option Single) (type : JavaType) → made_of k o ≡ Some type → (a : Single) × (o ≡ Some a) × (k a ≡ type)
made_found k (Some a) type e = (a, refl, cc)
made_found k None type e = absurd cc

pub some_same : {A : Type 0} (x y : A) → Some x ≡ Some y → x ≡ y
some_same x y e = cc

module _ (schema : Schema) (f : Fragment) (g : Ground) (same : g.lists ≡ f.lists) (m : Member) where
  by_update : (u : Update) (filter_ : Filter) (type : JavaType) → element_within m.0.chain (element_of u) ≡ true → ((j : ℕ) → u ≡ updates.PushNew (elems.Whole j) → ⊥) → collected_type schema f u ≡ Some type → answer_type schema (query_by u g m filter_) ≡ Some (listed_of type)
  by_update (updates.Push e) filter_ type h column e' =
      let a = made_found Listed (element_type schema f e) type e' in
      ap (made_of Listed) (item_typed schema f g same m.0.chain e a.0 h a.1) ∙ ap (λ k. Some (listed_of k)) a.2
  by_update (updates.PushNew (elems.Field j c)) filter_ type h column e' =
      let a = made_found Distinct (element_type schema f (elems.Field j c)) type e' in
      ap (made_of Listed) (item_typed schema f g same m.0.chain (elems.Field j c) a.0 h a.1) ∙ ap (λ k. Some (listed_of k)) a.2
  by_update (updates.PushNew (elems.Whole j)) filter_ type h column e' = absurd (column j refl)
  by_update updates.Tick filter_ type h column e' = ap (λ k. Some (listed_of k)) (some_same (Of (ScalarOf tys.Long)) type e')
  by_update (updates.Plus e) filter_ type h column e' = ap (λ k. Some (listed_of k)) (some_same (Of (ScalarOf tys.Long)) type e')
  by_update (updates.Best way e) filter_ type h column e' = ap (λ k. Some (listed_of k)) (some_same (Of (ScalarOf tys.Long)) type e')
  by_update updates.Mark filter_ type h column e' = ap (λ k. Some (listed_of k)) (some_same (Of (ScalarOf tys.Bool)) type e')

  -- The emitted query of an accumulator answers what the update collects, a set's members in a list.
  pub answer_typed : (types : List Ty) (type : JavaType) → element_within m.0.chain (element_of m.0.update) ≡ true → ((j : ℕ) → m.0.update ≡ updates.PushNew (elems.Whole j) → ⊥) → collected_type schema f m.0.update ≡ Some type → answer_type schema (in_order types (query_of g m)).query ≡ Some (listed_of type)
  answer_typed types type h column e = filter_same schema (query_of g m) _ _ ∙ by_update m.0.update (where_of g m) type h column e
