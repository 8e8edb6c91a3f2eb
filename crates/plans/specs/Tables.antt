-- The tables of a schema, as files of a folder.
use Rattle.std.specs.Prelude.{◌≡◌, ℕ, suc, ◌<◌, ◌^◌, List, [], ◌∷◌, ◌++◌, length, codes, IfSome, Result, Ok, Err, ⊤, slice_get}
use Rattle.std.specs.List.{AllByRecursion}
use Rattle.std.specs.declared.option.Option.{Option}
use Rattle.std.specs.declared.option.Option.TheVariants.{Some, None}
use Rattle.qbs_base.specs.declared.status.Status.{Status}
use Rattle.qbs_base.specs.Named.{at_name}
use Rattle.qbs_base.specs.Tables.{with_row}
use Rattle.qbs_base.specs.declared.columns.Table.{Table}
use Rattle.qbs_base.specs.declared.scalar.Row.{Row}
use Rattle.qbs_base.specs.Values.{Schema, Database, IsRowOf}
use Rattle.schema.specs.declared.fault.DataFault.{DataFault}
use Rattle.schema.specs.Rows.{table_rows}
use Rattle.schema.specs.Schemas.{schema_of}
use Rattle.deliveries.specs.Limits.{most_tables}
use Rattle.deliveries.specs.declared.plan.Plan.{Plan}
use Rattle.deliveries.specs.declared.fetch.Stop.{Stop}
use Rattle.plans.specs.Lines.{data_text}
use Rattle.plans.specs.Opening.{has_schema}
use Rattle.deliveries.specs.Named.{AreFilesRead, AreFilesUnread, IsNamed, ReadsFiles}
use Rattle.deliveries.specs.Plan.{Given, refusal}
use Rattle.deliveries.specs.Steps.{Ends, step, refused, finds}

-- the file of a table in a folder
abbrev pub table_file : List ℕ → List ℕ → List ℕ
table_file folder table = folder ++ codes "/" ++ table ++ codes ".csv"

-- the files of tables in a folder, in their order
abbrev pub table_files : List ℕ → List Table → List (List ℕ)
table_files folder [] = []
table_files folder (table ∷ tables) = table_file folder table.name ∷ table_files folder tables

-- each text is that of its table's file, in order and all within a limit
abbrev pub AreRead : Given → List ℕ → List Table → ℕ → List (List ℕ) → Type 0
AreRead files folder tables left texts = AreFilesRead files (table_files folder tables) left texts

-- the first file that isn't read, behind those before it
abbrev pub AreNotRead : Given → List ℕ → List Table → ℕ → Ends
AreNotRead files folder tables left plan = AreFilesUnread files (table_files folder tables) left (codes "tables") plan

-- the files of all tables are read in order
abbrev pub reads_tables : Given → List ℕ → List Table → (List (List ℕ) → Ends) → Ends
reads_tables files folder tables next = step (AreRead files folder tables most_tables) (AreNotRead files folder tables most_tables) next

-- the bytes are a schema, and then the files of its tables are read
abbrev pub over_tables : Given → List ℕ → List ℕ → (Schema → List (List ℕ) → Ends) → Ends
over_tables files folder schema next = has_schema schema (λ tables. reads_tables files folder tables (λ texts. next tables texts))

-- what is wrong with the rows of a table of this name
pub record TableFault : Type 0 where
  pub table : List ℕ
  pub fault : DataFault

abbrev pub with_rows : List ℕ → Result (List Row) DataFault → Result Database TableFault → Result Database TableFault
with_rows name (Err fault) further = Err (record { table = name; fault = fault })
with_rows name (Ok rows) (Err fault) = Err fault
with_rows name (Ok rows) (Ok db) = Ok ((name, rows) ∷ db)

-- the tables from this number on with the rows that their texts have, or the first fault
unfoldable pub loaded_from : Schema → ℕ → List Table → List (List ℕ) → Result Database TableFault
loaded_from schema n (table ∷ tables) (text ∷ texts) = with_rows table.name (table_rows schema n text) (loaded_from schema (suc n) tables texts)
loaded_from schema n _ _ = Ok []

-- the database of a schema that the texts of its tables have
abbrev pub loaded : Schema → List (List ℕ) → Result Database TableFault
loaded schema texts = loaded_from schema 0 schema texts

-- a file is one of the tables' files
abbrev pub IsFileOf : List ℕ → List Table → List ℕ → Type 0
IsFileOf folder tables name = IsNamed (table_files folder tables) name

-- a file is that of a table of the schema
pub record IsTableFile (told : List ℕ → Option (List ℕ)) (schema folder name : List ℕ) : Type 0 where
  pub bytes : List ℕ
  pub tables : List Table
  pub read : IfSome (told schema) (λ all. bytes ≡ all)
  pub is_schema : schema_of bytes ≡ Ok tables
  pub file : IsFileOf folder tables name

abbrev pub data_refusal : TableFault → Plan
data_refusal fault = refusal Status.Data (data_text fault.table fault.fault)

abbrev pub LacksRows : Schema → List (List ℕ) → TableFault → Type 0
LacksRows tables texts fault = loaded tables texts ≡ Err fault

abbrev pub HasRows : Schema → List (List ℕ) → Database → Type 0
HasRows tables texts db = loaded tables texts ≡ Ok db

-- the texts of the tables have rows of them
abbrev pub has_rows : Schema → List (List ℕ) → (Database → Ends) → Ends
has_rows tables texts next = finds (HasRows tables texts) (LacksRows tables texts) data_refusal next

-- ---- What the readers of tables promise

-- texts were put behind those that were there, or what is due without them
abbrev pub Reads : {A : Type 0} → Given → List ℕ → List Table → ℕ → List (List ℕ) → List (List ℕ) → Result A Stop → Type 0
Reads files folder tables left old new result = ReadsFiles files (table_files folder tables) left (codes "tables") old new result

-- with these rows more in the table with that number
abbrev pub with_rows_at : Database → ℕ → List Row → Database
with_rows_at db number [] = db
with_rows_at db number (row ∷ rows) = with_rows_at (with_row db number row) number rows

-- no table has the name of the schema's table with that number
abbrev pub IsFresh : Schema → ℕ → Database → Type 0
IsFresh schema number db = (table : Table) → slice_get schema number ≡ Some table → at_name db table.name ≡ None

-- the next table, with rows of it
pub record IsNext (schema : Schema) (number : ℕ) (text : List ℕ) (old new : Database) : Type 0 where
  pub table : Table
  pub rows : List Row
  pub held : slice_get schema number ≡ Some table
  pub read : table_rows schema number text ≡ Ok rows
  pub added : new ≡ old ++ (table.name, rows) ∷ []
  pub typed : AllByRecursion (IsRowOf number table.columns) rows
  pub few : length rows < 2 ^ 63

-- the refusal of the next table's rows
pub record IsNoNext (schema : Schema) (number : ℕ) (text : List ℕ) (plan : Plan) : Type 0 where
  pub table : Table
  pub fault : DataFault
  pub held : slice_get schema number ≡ Some table
  pub read : table_rows schema number text ≡ Err fault
  pub due : plan ≡ data_refusal (record { table = table.name; fault = fault })

abbrev pub LoadsNext : {A : Type 0} → Schema → ℕ → List ℕ → Database → Database → Result A Stop → Type 0
LoadsNext schema number text old new (Ok done) = IsNext schema number text old new
LoadsNext schema number text old new (Err (Stop.Due plan)) = IsNoNext schema number text plan
LoadsNext schema number text old new (Err Stop.Memory) = ⊤

-- the database of the texts, or the refusal of the first table whose text isn't one
abbrev pub Loads : Schema → List (List ℕ) → Result Database Stop → Type 0
Loads schema texts (Ok db) = HasRows schema texts db
Loads schema texts (Err (Stop.Due plan)) = refused (LacksRows schema texts) data_refusal plan
Loads schema texts (Err Stop.Memory) = ⊤
