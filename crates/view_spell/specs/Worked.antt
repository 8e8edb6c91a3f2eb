-- Worked patches, marks and queries.
use Rattle.std.specs.Prelude.{ℕ, Bool, true, false, List, [], ◌∷◌, codes, None}
use Rattle.qbs_base.specs.declared.columns.Column.{Column}
use Rattle.qbs_base.specs.declared.scalar.Ty.TheVariants as types
use Rattle.qbs_base.specs.Values.{Schema}
use Rattle.sql_ast.specs.declared.tree.Cmp.TheVariants as cmps
use Rattle.sql_ast.specs.declared.tree.SqlCol.{SqlCol}
use Rattle.sql_ast.specs.declared.tree.SqlColumn.TheVariants as columns
use Rattle.sql_ast.specs.declared.tree.SqlItem.TheVariants as items
use Rattle.sql_ast.specs.declared.tree.SqlOpnd.TheVariants as operands
use Rattle.sql_ast.specs.Tree.{PlainListing, Compare, Where}
use Rattle.text_patches.specs.declared.patch.TextPatch.{TextPatch}
use Rattle.view_spell.specs.declared.marks.Mark.{Mark}

-- ---- Patches

abbrev pub source : List ℕ
source = codes "one two three"

abbrev pub patch : ℕ → ℕ → List ℕ → TextPatch
patch from to text = record { from = from; to = to; text = text }

-- the second word, and the third one
abbrev pub second : List TextPatch
second = patch 4 7 (codes "2") ∷ []

abbrev pub third : List TextPatch
third = patch 8 13 (codes "3") ∷ []

-- a patch that begins before the last one ends
abbrev pub crossing : List TextPatch
crossing = patch 4 7 (codes "2") ∷ patch 6 13 (codes "3") ∷ []

abbrev pub at_first : Mark
at_first = record { byte = 0; written = 0 }

-- ---- Queries

abbrev pub column : List ℕ → Bool → Column
column name primary = record { name = name; ty = types.Long; not_null = true; primary = primary }

-- users, each with a role, and roles by their keys
abbrev pub schema : Schema
schema =
    record { name = codes "role"; columns = column (codes "id") true ∷ [] }
    ∷ record { name = codes "user"; columns = column (codes "id") true ∷ column (codes "role_id") false ∷ [] }
    ∷ []

abbrev pub named : ℕ → List ℕ → ℕ → SqlCol
named item name number = record { item = item; column = columns.Named name number }

-- `FROM user t1, role t2 WHERE t1.role_id = t2.id`
abbrev pub joined : ℕ → PlainListing
joined listed =
    record {
      item = items.Whole listed;
      from = record { name = codes "user"; table = 1 } ∷ record { name = codes "role"; table = 0 } ∷ [];
      filter = Where (Compare cmps.Eq (operands.Column (named 1 (codes "role_id") 1)) (operands.Column (named 2 (codes "id") 0)));
      group = None;
      keys = [];
      limit = None;
      params = [];
    }
