-- The element type with which an ask is spelled is that of its variable, and the table of rows that are taken whole is the one
-- that is spelled.
use Rattle.std.proofs.Common.{◌≡◌, ℕ, List, [], slice_get, get_or, bytes_eq, Option, Some, None, refl, sym, ap, ◌∙◌}
use Rattle.std.proofs.lemmas.List.Quantifiers.{position-Some}
use Rattle.std.proofs.lemmas.Option.{slice_get-get_or}
use Rattle.qbs_base.specs.Columns.{table_number}
use Rattle.qbs_base.specs.declared.columns.Table.{Table}
use Rattle.qbs_base.specs.Values.{Schema}
use Rattle.sql_parts.specs.Scopes.{table_name}
use Rattle.java_ast.specs.Path.{found_in}
use Rattle.java_ast.specs.Tree as tree
use Rattle.java_ast.specs.Tree.{Spelled}
use Rattle.java_mean.specs.declared.types.JavaType.TheVariants.{Of, Listed, Distinct}
use Rattle.java_mean.specs.declared.types.Single.{Single}
use Rattle.java_mean.specs.declared.types.Single.TheVariants.{RowOf}
use Rattle.java_mean.specs.Types.{row_type, single_spelled, made_of, type_spelled}
use Rattle.java_mean.proofs.Puts.{names_equal}
use Rattle.java_loops.specs.Lowering.Spelling.{element_spelled}
use Rattle.rewrite_core.specs.Asked.{spelled_or_text}

-- ---- Elements

made_listed : (o : Option Single) (a : Single) → made_of Listed o ≡ Some (Listed a) → o ≡ Some a
made_listed (Some b) a e = cc
made_listed None a e = absurd cc

made_distinct : (o : Option Single) (a : Single) → made_of Distinct o ≡ Some (Distinct a) → o ≡ Some a
made_distinct (Some b) a e = cc
made_distinct None a e = absurd cc

listed_not_distinct : (o : Option Single) (a : Single) → made_of Listed o ≡ Some (Distinct a) → ⊥
listed_not_distinct (Some b) a e = absurd cc
listed_not_distinct None a e = absurd cc

distinct_not_listed : (o : Option Single) (a : Single) → made_of Distinct o ≡ Some (Listed a) → ⊥
distinct_not_listed (Some b) a e = absurd cc
distinct_not_listed None a e = absurd cc

one_not_listed : (o : Option Single) (a : Single) → made_of Of o ≡ Some (Listed a) → ⊥
one_not_listed (Some b) a e = absurd cc
one_not_listed None a e = absurd cc

one_not_distinct : (o : Option Single) (a : Single) → made_of Of o ≡ Some (Distinct a) → ⊥
one_not_distinct (Some b) a e = absurd cc
one_not_distinct None a e = absurd cc

module _ (schema : Schema) where
  abbrev ElementIs : Option Spelled → Single → Type 0
  ElementIs o a = single_spelled schema (spelled_or_text (element_spelled o)) ≡ Some a

  -- a list that is spelled has elements that are spelled
  list_spelled : (ty : Spelled) (a : Single) → type_spelled schema ty ≡ Some (Listed a) → ElementIs (Some ty) a
  list_spelled (tree.ListOf e) a h = made_listed (single_spelled schema e) a h
  list_spelled (tree.SetOf e) a h = absurd (distinct_not_listed (single_spelled schema e) a h)
  list_spelled (tree.Table name) a h = absurd (one_not_listed (row_type (table_number schema name)) a h)
  list_spelled tree.Int a h = absurd cc
  list_spelled tree.Long a h = absurd cc
  list_spelled tree.Boolean a h = absurd cc
  list_spelled tree.String a h = absurd cc
  list_spelled tree.BoxedInteger a h = absurd cc
  list_spelled tree.BoxedLong a h = absurd cc
  list_spelled tree.BoxedBoolean a h = absurd cc

  set_spelled : (ty : Spelled) (a : Single) → type_spelled schema ty ≡ Some (Distinct a) → ElementIs (Some ty) a
  set_spelled (tree.SetOf e) a h = made_distinct (single_spelled schema e) a h
  set_spelled (tree.ListOf e) a h = absurd (listed_not_distinct (single_spelled schema e) a h)
  set_spelled (tree.Table name) a h = absurd (one_not_distinct (row_type (table_number schema name)) a h)
  set_spelled tree.Int a h = absurd cc
  set_spelled tree.Long a h = absurd cc
  set_spelled tree.Boolean a h = absurd cc
  set_spelled tree.String a h = absurd cc
  set_spelled tree.BoxedInteger a h = absurd cc
  set_spelled tree.BoxedLong a h = absurd cc
  set_spelled tree.BoxedBoolean a h = absurd cc

  -- The elements of a list are spelled as what declares it spells them.
  pub list_element : (o : Option Spelled) (a : Single) → found_in (type_spelled schema) o ≡ Some (Listed a) → ElementIs o a
  list_element (Some ty) a h = list_spelled ty a h
  list_element None a h = absurd cc

  pub set_element : (o : Option Spelled) (a : Single) → found_in (type_spelled schema) o ≡ Some (Distinct a) → ElementIs o a
  set_element (Some ty) a h = set_spelled ty a h
  set_element None a h = absurd cc

  -- ---- Tables

  row_found : (o : Option ℕ) (n : ℕ) → row_type o ≡ Some (RowOf n) → o ≡ Some n
  row_found (Some m) n e = cc
  row_found None n e = absurd cc

  -- what is spelled as the rows of a table has its name
  record NamesTable (e : Spelled) (n : ℕ) : Type 0 where
    name : List ℕ
    is : e ≡ tree.Table name
    number : table_number schema name ≡ Some n

  names_table : (e : Spelled) (n : ℕ) → single_spelled schema e ≡ Some (RowOf n) → NamesTable e n
  names_table (tree.Table name) n h = record { name = name; is = refl; number = row_found (table_number schema name) n h }
  names_table (tree.ListOf e) n h = absurd cc
  names_table (tree.SetOf e) n h = absurd cc
  names_table tree.Int n h = absurd cc
  names_table tree.Long n h = absurd cc
  names_table tree.Boolean n h = absurd cc
  names_table tree.String n h = absurd cc
  names_table tree.BoxedInteger n h = absurd cc
  names_table tree.BoxedLong n h = absurd cc
  names_table tree.BoxedBoolean n h = absurd cc

  abbrev no_table : Table
  no_table = record { name = []; columns = [] }

  -- the table with a name's number has the name
  table_named : (name : List ℕ) (n : ℕ) → table_number schema name ≡ Some n → table_name (slice_get schema n) ≡ name
  table_named name n h =
      let p = position-Some (λ (t : Table). bytes_eq t.name name) schema n no_table h in
      ap table_name (slice_get-get_or schema n no_table p.0) ∙ names_equal (get_or schema n no_table).name name p.1

  -- Rows of the table that is spelled are spelled by its name.
  pub table_spelled : (e : Spelled) (n : ℕ) → single_spelled schema e ≡ Some (RowOf n) → single_spelled schema (tree.Table (table_name (slice_get schema n))) ≡ Some (RowOf n)
  table_spelled e n h =
      let t : NamesTable e n = names_table e n h in
      ap (λ z. row_type (table_number schema z)) (table_named t.name n t.number) ∙ ap row_type t.number

  -- What is spelled as the rows of a table is spelled by the table's name.
  pub table_is : (e : Spelled) (n : ℕ) → single_spelled schema e ≡ Some (RowOf n) → e ≡ tree.Table (table_name (slice_get schema n))
  table_is e n h =
      let t : NamesTable e n = names_table e n h in
      t.is ∙ ap tree.Table (sym (table_named t.name n t.number))
