-- The text of the schema is read as the schema.
use Rattle.std.proofs.Common.{◌≡◌, ℕ, List, Result, Ok, Err, refl, sym, ap, ◌∙◌}
use Rattle.qbs_base.specs.declared.columns.Table.{Table}
use Rattle.schema.specs.declared.fault.SchemaFault.{SchemaFault}
use Rattle.readers.specs.Reading.{up_to, chain}
use Rattle.schema.specs.Naming.{declared_before, first_broken}
use Rattle.schema.specs.Reading.{sized_at, type_at, mark_at, marks_at, rest_at, next_name_at, next_names_at, names_at, key_at, typed_at, column_at, primary_at, item_at, next_item_at, columns_at, head_at, columns_behind, body_at, tail_at, draft_at, drafts_at, tables_at, read_of}
use Rattle.schema.specs.Schemas.{schema_of}
use Rattle.schema.specs.Series.{series_up_to}
use Rattle.schema.specs.Tokens.{piece_of, tokens_from}
use Rattle.sample_data.specs.Tables.{sample_schema, sample_text}

abbrev some_tables : List Table → Result (List Table) SchemaFault
some_tables tables = Ok tables

abbrev fault_of : SchemaFault → Result (List Table) SchemaFault
fault_of fault = Err fault

pub read_as : schema_of sample_text ≡ some_tables sample_schema
unfolding schema_of sample_schema read_of tables_at drafts_at up_to tokens_from piece_of draft_at head_at body_at column_at rest_at type_at marks_at columns_at series_up_to next_item_at item_at tail_at declared_before first_broken sized_at mark_at next_name_at next_names_at names_at key_at typed_at primary_at columns_behind chain
read_as = refl

pub no_fault : (bytes : List ℕ) (fault : SchemaFault) → bytes ≡ sample_text → schema_of bytes ≡ fault_of fault → ⊥
no_fault bytes fault is h = let e : some_tables sample_schema ≡ fault_of fault = sym read_as ∙ ap schema_of (sym is) ∙ h in absurd cc

pub is_schema : (bytes : List ℕ) (tables : List Table) → bytes ≡ sample_text → schema_of bytes ≡ some_tables tables → tables ≡ sample_schema
is_schema bytes tables is h = let e : some_tables tables ≡ some_tables sample_schema = sym h ∙ ap schema_of is ∙ read_as in cc
