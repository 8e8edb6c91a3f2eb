-- The tables and columns of a schema are named as queries name them.
use Rattle.std.proofs.Common.{◌≡◌, ℕ, zero, suc, ◌+◌, ◌<◌, Bool, true, false, cond, not, ◌||◌, List, [], ◌∷◌, map, length, slice_get, codes, position, refl, sym, ap, ap₂, ◌∙◌, subst, arith, nat_lt}
use Rattle.std.specs.List.{AllByRecursion, IsDistinct, list_any, prefix_len}
use Rattle.std.specs.Str.{bytes_eq, str_eq_ignore_ascii_case, str_to_ascii_lowercase}
use Rattle.std.specs.declared.option.Option.TheVariants.{Some, None}
use Rattle.std.proofs.lemmas.Slice.Eq.{bytes_eq-Decides}
use Rattle.qbs_base.specs.declared.columns.Column.{Column}
use Rattle.qbs_base.specs.declared.columns.Table.{Table}
use Rattle.qbs_base.specs.declared.scalar.Ty.TheVariants as tys
use Rattle.qbs_base.specs.Values.{Schema}
use Rattle.schema.specs.Bytes.{begins_with}
use Rattle.schema.specs.Bytes as ddl
use Rattle.schema.specs.Rules.{AreColumns, IsSchema, AreNamed}
use Rattle.schema.specs.Words.{spells, is_among, query_words, is_reserved_word, is_type_word, is_reserved, is_reserved_table}
use Rattle.sql_ast.specs.declared.tree.FromItem.{FromItem}
use Rattle.sql_ast.specs.declared.tree.SqlColumn.TheVariants as columns
use Rattle.sql_ast.specs.Meaning.{nth}
use Rattle.sql_ast.specs.Names.{◌>>=◌}
use Rattle.sql_ast.specs.Tokens.{is_name}
use Rattle.sql_ast.specs.Typing.{ty_of_column, ty_of_col}
use Rattle.sql_ast.specs.Valid.{IsWord, IsFromItem, IsColOf}
use Rattle.sql_parts.specs.Scopes.{column}
use Rattle.sql_parts.specs.Scopes as scopes
use Rattle.sql_build.specs.Keys as keys
use Rattle.sql_parts.proofs.Tools.{get_map, lt_true}
use Rattle.kernel_lang.proofs.Listing.{all_at, some_eq}

-- ---- words

name_same : (bs : List ℕ) → ddl.is_name bs ≡ is_name bs
name_same [] = refl
name_same (b ∷ bs) = refl

or_false : (a b : Bool) → (a || b) ≡ false → (a ≡ false) × (b ≡ false)
or_false false b h = (refl, h)
or_false true b h = absurd cc

eq_sym : (a b : List ℕ) → bytes_eq a b ≡ bytes_eq b a
eq_sym a b = go (bytes_eq a b) refl (bytes_eq b a) refl
  where
    itself : (w : List ℕ) → bytes_eq w w ≡ true
    itself w = (bytes_eq-Decides w w).1 refl

    go : (s : Bool) → bytes_eq a b ≡ s → (t : Bool) → bytes_eq b a ≡ t → bytes_eq a b ≡ bytes_eq b a
    go true e true d = e ∙ sym d
    go false e false d = e ∙ sym d
    go true e false d = e ∙ sym (itself b) ∙ ap (λ (w : List ℕ). bytes_eq b w) (sym ((bytes_eq-Decides a b).0 e))
    go false e true d = ap (λ (w : List ℕ). bytes_eq a w) ((bytes_eq-Decides b a).0 d) ∙ itself a ∙ sym d

-- a word that is among none of the words is free of them
free_from : (name : List ℕ) (words : List (List ℕ)) → is_among spells words name ≡ false → list_any (str_eq_ignore_ascii_case name) words ≡ false
free_from name [] h = refl
free_from name (w ∷ words) h =
    let parts = or_false (spells w name) (is_among spells words name) h in
    ap₂ (λ a b. a || b) (eq_sym (str_to_ascii_lowercase name) (str_to_ascii_lowercase w) ∙ parts.0) (free_from name words parts.1)

pub is_word : (name : List ℕ) → ddl.is_name name ≡ true → is_reserved name ≡ false → IsWord name
is_word name named free =
    let query = (or_false (begins_with 95 name) (is_among spells query_words name) (or_false (begins_with 95 name || is_among spells query_words name) (is_reserved_word name) free).0).1 in
    (sym (name_same name) ∙ named, ap not (free_from name query_words query))

not_position : (name : List ℕ) → is_reserved name ≡ false → bytes_eq name (codes "_pos") ≡ false
not_position name free = go (bytes_eq name (codes "_pos")) refl
  where
    go : (b : Bool) → bytes_eq name (codes "_pos") ≡ b → bytes_eq name (codes "_pos") ≡ false
    go false e = e
    go true e = let same : name ≡ codes "_pos" = (bytes_eq-Decides name (codes "_pos")).0 e in let no : true ≡ false = sym (ap is_reserved same) ∙ free in absurd cc

-- ---- numbers of names

before_it : {X : Type 0} (f : X → List ℕ) (xs : List X) (n : ℕ) (x : X) → IsDistinct bytes_eq (map f xs) → slice_get xs n ≡ Some x → prefix_len (λ y. not (bytes_eq (f y) (f x))) xs ≡ n
unfolding IsDistinct
before_it f [] n x d e = absurd cc
before_it {X} f (y ∷ ys) zero x d e = ap (λ b. cond b (1 + prefix_len (λ y. not (bytes_eq (f y) (f x))) ys) 0) (ap (λ (z : X). not (bytes_eq (f z) (f x))) (some_eq y x e) ∙ ap not ((bytes_eq-Decides (f x) (f x)).1 refl))
before_it f (y ∷ ys) (suc n) x d e =
    let other : bytes_eq (f y) (f x) ≡ false = all_at (λ z. bytes_eq (f y) z ≡ false) (map f ys) n (f x) d.0 (get_map f ys n x e) in
    let later = before_it f ys n x d.1 e in
    let one : 1 + prefix_len (λ y. not (bytes_eq (f y) (f x))) ys ≡ suc n = omega (arith, later) in
    ap (λ b. cond (not b) (1 + prefix_len (λ y. not (bytes_eq (f y) (f x))) ys) 0) other ∙ one

within : {X : Type 0} (xs : List X) (n : ℕ) (x : X) → slice_get xs n ≡ Some x → n < length xs
within [] n x e = absurd cc
within (y ∷ xs) zero x e = omega arith
within (y ∷ xs) (suc n) x e = let l = within xs n x e in omega (arith, l)

pub position_is : {X : Type 0} (f : X → List ℕ) (xs : List X) (n : ℕ) (x : X) → IsDistinct bytes_eq (map f xs) → slice_get xs n ≡ Some x → position (λ y. bytes_eq (f y) (f x)) xs ≡ Some n
position_is f xs n x d e =
    ap (λ k. cond (nat_lt k (length xs)) (Some k) None) (before_it f xs n x d e) ∙ ap (λ b. cond b (Some n) None) (lt_true n (length xs) (within xs n x e))

-- ---- FROM items and columns

module _ (schema : Schema) (is : IsSchema schema) (named : AreNamed schema) where
  table_word : (n : ℕ) (t : Table) → slice_get schema n ≡ Some t → IsWord t.name
  table_word n t e = is_word t.name (all_at (λ t. ddl.is_name t.name ≡ true) schema n t named.names e) (or_false (is_reserved t.name) (is_type_word t.name) (all_at (λ t. is_reserved_table t.name ≡ false) schema n t is.free e)).0

  -- the item of a table
  pub is_item : (from : FromItem) (t : Table) → slice_get schema from.table ≡ Some t → from.name ≡ t.name → IsFromItem schema from
  is_item from t e same = record {
    table = t;
    number = subst (λ name. position (λ held. bytes_eq held.name name) schema ≡ Some from.table) (sym same) (position_is (λ t. t.name) schema from.table t is.distinct e);
    held = e;
    word = subst IsWord (sym same) (table_word from.table t e);
  }

  module _ (froms : List FromItem) (n : ℕ) (from : FromItem) (at : nth froms n ≡ Some from) (t : Table) (there : slice_get schema from.table ≡ Some t) where
    -- the position of an item
    pub is_position : IsColOf schema froms (keys.position n)
    is_position = record { from = from; item = at; table = t; held = there; column = refl; word = (refl, refl) }

    pub position_long : ty_of_col schema froms (keys.position n) ≡ Some tys.Long
    position_long = ap (λ o. o >>= λ from. slice_get schema from.table >>= λ table. ty_of_column table.columns columns.Pos) at ∙ ap (λ o. o >>= λ table. ty_of_column table.columns columns.Pos) there

    -- a column of an item
    pub is_column : (k : ℕ) (c : Column) → slice_get t.columns k ≡ Some c → IsColOf schema froms (record { item = n; column = columns.Named c.name k })
    is_column k c e =
        let own : AreColumns t.columns = all_at (λ t. AreColumns t.columns) schema from.table t is.columns there in
        let free : is_reserved c.name ≡ false = all_at (λ c. is_reserved c.name ≡ false) t.columns k c own.free e in
        let word : ddl.is_name c.name ≡ true = all_at (λ c. ddl.is_name c.name ≡ true) t.columns k c (all_at (λ t. AllByRecursion (λ c. ddl.is_name c.name ≡ true) t.columns) schema from.table t named.columns there) e in
        record {
          from = from;
          item = at;
          table = t;
          held = there;
          column =
              ap (λ b. cond b (Some columns.Pos) (position (λ column. bytes_eq column.name c.name) t.columns >>= λ number. Some (columns.Named c.name number))) (not_position c.name free)
              ∙ ap (λ o. o >>= λ number. Some (columns.Named c.name number)) (position_is (λ c. c.name) t.columns k c own.distinct e);
          word = is_word c.name word free;
        }

    pub column_has : (k : ℕ) (c : Column) (name : List ℕ) → slice_get t.columns k ≡ Some c → ty_of_col schema froms (record { item = n; column = columns.Named name k }) ≡ Some c.ty
    column_has k c name e =
        ap (λ o. o >>= λ from. slice_get schema from.table >>= λ table. ty_of_column table.columns (columns.Named name k)) at
        ∙ ap (λ o. o >>= λ table. ty_of_column table.columns (columns.Named name k)) there
        ∙ ap (λ o. o >>= λ column. Some column.ty) e
