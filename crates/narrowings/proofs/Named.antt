-- The tables and columns of a schema are named as queries name them.
use Rattle.std.proofs.Common.{◌≡◌, ℕ, Bool, true, false, not, ◌||◌, List, [], ◌∷◌, codes, refl, sym, ap, ap₂, ◌∙◌}
use Rattle.std.specs.List.{AllByRecursion, list_any}
use Rattle.std.specs.Str.{bytes_eq, str_eq_ignore_ascii_case, str_to_ascii_lowercase}
use Rattle.std.proofs.lemmas.Slice.Eq.{bytes_eq-Decides}
use Rattle.qbs_base.specs.declared.columns.Column.{Column}
use Rattle.qbs_base.specs.declared.columns.Table.{Table}
use Rattle.qbs_base.specs.Values.{Schema}
use Rattle.schema.specs.Bytes.{begins_with}
use Rattle.schema.specs.Bytes as ddl
use Rattle.schema.specs.Rules.{AreColumns, IsSchema, AreNamed}
use Rattle.schema.specs.Words.{spells, is_among, query_words, is_reserved_word, is_type_word, is_reserved, is_reserved_table}
use Rattle.sql_ast.specs.Tokens.{is_name}
use Rattle.sql_ast.specs.Valid.{IsWord}
use Rattle.narrowings.specs.Words.{IsColumnWord, HasWords}

name_same : (bs : List ℕ) → ddl.is_name bs ≡ is_name bs
name_same [] = refl
name_same (b ∷ bs) = refl

or_false : (a b : Bool) → (a || b) ≡ false → (a ≡ false) × (b ≡ false)
or_false false b h = (refl, h)
or_false true b h = absurd cc

eq_sym : (a b : List ℕ) → bytes_eq a b ≡ bytes_eq b a
eq_sym a b = go (bytes_eq a b) refl (bytes_eq b a) refl
  where
    itself : (w : List ℕ) → bytes_eq w w ≡ true
    itself w = (bytes_eq-Decides w w).1 refl

    go : (s : Bool) → bytes_eq a b ≡ s → (t : Bool) → bytes_eq b a ≡ t → bytes_eq a b ≡ bytes_eq b a
    go true e true d = e ∙ sym d
    go false e false d = e ∙ sym d
    go true e false d = e ∙ sym (itself b) ∙ ap (λ (w : List ℕ). bytes_eq b w) (sym ((bytes_eq-Decides a b).0 e))
    go false e true d = ap (λ (w : List ℕ). bytes_eq a w) ((bytes_eq-Decides b a).0 d) ∙ itself a ∙ sym d

-- a word that is among none of the words is free of them
free_from : (name : List ℕ) (words : List (List ℕ)) → is_among spells words name ≡ false → list_any (str_eq_ignore_ascii_case name) words ≡ false
free_from name [] h = refl
free_from name (w ∷ words) h =
    let parts = or_false (spells w name) (is_among spells words name) h in
    ap₂ (λ a b. a || b) (eq_sym (str_to_ascii_lowercase name) (str_to_ascii_lowercase w) ∙ parts.0) (free_from name words parts.1)

word_of : (name : List ℕ) → ddl.is_name name ≡ true → is_reserved name ≡ false → IsWord name
word_of name named free =
    let query = (or_false (begins_with 95 name) (is_among spells query_words name) (or_false (begins_with 95 name || is_among spells query_words name) (is_reserved_word name) free).0).1 in
    (sym (name_same name) ∙ named, ap not (free_from name query_words query))

no_position : (name : List ℕ) → is_reserved name ≡ false → bytes_eq name (codes "_pos") ≡ false
no_position name free = go (bytes_eq name (codes "_pos")) refl
  where
    go : (b : Bool) → bytes_eq name (codes "_pos") ≡ b → bytes_eq name (codes "_pos") ≡ false
    go false e = e
    go true e = let same : name ≡ codes "_pos" = (bytes_eq-Decides name (codes "_pos")).0 e in let out : true ≡ false = sym (ap is_reserved same) ∙ free in absurd cc

tables_so : (ts : List Table) → AllByRecursion (λ (t : Table). ddl.is_name t.name ≡ true) ts → AllByRecursion (λ (t : Table). is_reserved_table t.name ≡ false) ts → AllByRecursion (λ (t : Table). IsWord t.name) ts
tables_so [] h k = tt
tables_so (t ∷ ts) h k = (word_of t.name h.0 (or_false (is_reserved t.name) (is_type_word t.name) k.0).0, tables_so ts h.1 k.1)

columns_so : (cs : List Column) → AllByRecursion (λ (c : Column). ddl.is_name c.name ≡ true) cs → AllByRecursion (λ (c : Column). is_reserved c.name ≡ false) cs → AllByRecursion IsColumnWord cs
columns_so [] h k = tt
columns_so (c ∷ cs) h k = ((word_of c.name h.0 k.0, no_position c.name k.0), columns_so cs h.1 k.1)

all_columns : (ts : List Table) → AllByRecursion (λ (t : Table). AllByRecursion (λ (c : Column). ddl.is_name c.name ≡ true) t.columns) ts → AllByRecursion (λ (t : Table). AreColumns t.columns) ts → AllByRecursion (λ (t : Table). AllByRecursion IsColumnWord t.columns) ts
all_columns [] h k = tt
all_columns (t ∷ ts) h k = (columns_so t.columns h.0 (let own = k.0 in own.free), all_columns ts h.1 k.1)

pub have_words : (schema : Schema) → IsSchema schema → AreNamed schema → HasWords schema
have_words schema is named = record { tables = tables_so schema named.names is.free; columns = all_columns schema named.columns is.columns }
