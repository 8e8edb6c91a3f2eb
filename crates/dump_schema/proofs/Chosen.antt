-- The columns and tables that are taken.
use Rattle.std.proofs.Common.{◌≡◌, ℕ, suc, ◌+◌, ◌<◌, ◌≤◌, Bool, true, false, cond, List, [], ◌∷◌, ◌++◌, map, length, Option, Some, None, refl, sym, subst, ◌∙◌, ap, arith}
use Rattle.std.specs.List.{AllByRecursion, flat_map}
use Rattle.std.proofs.lemmas.List.{append-nil, length-append}
use Rattle.qbs_base.specs.declared.scalar.Ty.{Ty}
use Rattle.qbs_base.specs.declared.columns.Column.{Column}
use Rattle.qbs_base.specs.declared.columns.Table.{Table}
use Rattle.schema.specs.Bytes.{is_name}
use Rattle.schema.specs.Words.{is_reserved}
use Rattle.schema.specs.Rules.{AreColumns}
use Rattle.dump_tables.specs.declared.table.DumpColumn.{DumpColumn}
use Rattle.dump_tables.specs.declared.table.DumpTable.{DumpTable}
use Rattle.dump_text.specs.declared.entry.Part.{Part}
use Rattle.dump_text.specs.declared.entry.Part.TheVariants as parts
use Rattle.dump_text.specs.declared.entry.Entry.{Entry}
use Rattle.dump_text.specs.declared.entry.Entry.TheVariants as entries
use Rattle.dump_text.specs.Entries.{columns_of, tables_of}
use Rattle.dump_text.specs.Text.{has_column}
use Rattle.dump_schema.specs.declared.reason.Reason.{Reason}
use Rattle.dump_schema.specs.declared.reason.Reason.TheVariants.{ManyColumns, ManyTables, NoColumn}
use Rattle.dump_schema.specs.declared.choice.ColumnChoice.{ColumnChoice}
use Rattle.dump_schema.specs.declared.choice.Choice.{Choice}
use Rattle.dump_schema.specs.Choices.{is_chosen, columns_for}
use Rattle.dump_schema.specs.Names.{name_in, is_column_word, is_table_word, reason_of, twin_of}
use Rattle.dump_schema.specs.Columns as columns
use Rattle.dump_schema.specs.Columns.{type_of, part_of, parts_from, missing_part, missing_parts}
use Rattle.dump_schema.specs.Entries as specs
use Rattle.dump_schema.specs.Entries.{entry_of, entries_from, twin_parts, parts_of}
use Rattle.dump_schema.proofs.Among.{AreTaken, none_taken, one_taken, IsFree, free}

-- ---- names

named : (bs name : List ℕ) → name_in bs ≡ Some name → is_name name ≡ true
named bs name e = by_test (is_name bs) refl e
  where
    by_test : (b : Bool) → is_name bs ≡ b → cond b (Some bs) None ≡ Some name → is_name name ≡ true
    by_test true is f = let same : bs ≡ name = cc in subst (λ (x : List ℕ). is_name x ≡ true) same is
    by_test false is f = absurd cc

-- ---- one column

abbrev IsLine : List (List ℕ) → Part → Type 0
IsLine taken (parts.Comment bs) = Unit {0}
IsLine taken (parts.Column w) = (is_name w.column.name ≡ true) × IsFree (is_column_word w.column.name) 32 taken w.column.name

by_reason : (taken : List (List ℕ)) (c : DumpColumn) (t : Ty) (name : List ℕ) (o : Option Reason) → is_name name ≡ true → reason_of (is_column_word name) 32 ManyColumns taken name ≡ o
    → IsLine taken (columns.free_part taken c t name o)
by_reason taken c t name (Some r) is e = tt
by_reason taken c t name None is e = (is, free (is_column_word name) 32 ManyColumns taken name e)

by_name : (taken : List (List ℕ)) (c : DumpColumn) (t : Ty) (o : Option (List ℕ)) → name_in c.name ≡ o → IsLine taken (columns.named_part taken c t o)
by_name taken c t None e = tt
by_name taken c t (Some name) e = by_reason taken c t name (reason_of (is_column_word name) 32 ManyColumns taken name) (named c.name name e) refl

by_type : (taken : List (List ℕ)) (c : DumpColumn) (o : Option Ty) → IsLine taken (columns.typed_part taken c o)
by_type taken c None = tt
by_type taken c (Some t) = by_name taken c t (name_in c.name) refl

line : (taken : List (List ℕ)) (c : DumpColumn) → IsLine taken (part_of taken c)
unfolding part_of
line taken c = by_type taken c (type_of c.sort)

-- ---- all columns of a table

abbrev column_names : List Column → List (List ℕ)
column_names cs = map (λ c. c.name) cs

-- columns that may stand behind columns of these names
pub record AreBehind (taken : List (List ℕ)) (cs : List Column) : Type 0 where
  pub taken_names : AreTaken 32 taken (column_names cs)
  pub allowed : AllByRecursion (λ c. is_column_word c.name ≡ false) cs
  pub named : AllByRecursion (λ c. is_name c.name ≡ true) cs

with_line : (taken : List (List ℕ)) (p : Part) (ps : List Part) → IsLine taken p → AreBehind (columns.taken_after taken p) (columns_of ps) → AreBehind taken (columns_of (p ∷ ps))
with_line taken (parts.Comment bs) ps is b = b
with_line taken (parts.Column w) ps is b = record {
  taken_names = one_taken 32 taken w.column.name (column_names (columns_of ps)) is.1.new b.taken_names;
  allowed = (is.1.allowed, b.allowed);
  named = (is.0, b.named);
}

room_after : (taken : List (List ℕ)) (p : Part) → length taken ≤ 32 → IsLine taken p → length (columns.taken_after taken p) ≤ 32
room_after taken (parts.Comment bs) few is = few
room_after taken (parts.Column w) few is =
    let len : length (taken ++ w.column.name ∷ []) ≡ length taken + 1 = length-append taken (w.column.name ∷ []) in
    let room = is.1.room in
    omega arith

lines : (chosen : Option (List (List ℕ))) (taken : List (List ℕ)) (cs : List DumpColumn) → length taken ≤ 32 → AreBehind taken (columns_of (parts_from chosen taken cs))
unfolding parts_from
lines chosen taken [] few = record { taken_names = none_taken 32 taken few; allowed = tt; named = tt }
lines chosen taken (c ∷ cs) few =
    by_choice (is_chosen chosen c.name) (lines chosen (columns.taken_after taken (part_of taken c)) cs (room_after taken (part_of taken c) few (line taken c))) (lines chosen taken cs few)
  where
    by_choice : (b : Bool) → AreBehind (columns.taken_after taken (part_of taken c)) (columns_of (parts_from chosen (columns.taken_after taken (part_of taken c)) cs)) → AreBehind taken (columns_of (parts_from chosen taken cs))
        → AreBehind taken (columns_of (cond b (part_of taken c ∷ parts_from chosen (columns.taken_after taken (part_of taken c)) cs) (parts_from chosen taken cs)))
    by_choice true more less = with_line taken (part_of taken c) (parts_from chosen (columns.taken_after taken (part_of taken c)) cs) (line taken c) more
    by_choice false more less = less

-- ---- comments among lines

columns_append : (ps qs : List Part) → columns_of (ps ++ qs) ≡ columns_of ps ++ columns_of qs
columns_append [] qs = refl
columns_append (parts.Comment bs ∷ ps) qs = columns_append ps qs
columns_append (parts.Column w ∷ ps) qs = ap (λ (cs : List Column). w.column ∷ cs) (columns_append ps qs)

no_column : (cs : List DumpColumn) (name : List ℕ) → columns_of (missing_part cs name) ≡ []
no_column cs name = by_test (columns.has_name cs name)
  where
    by_test : (b : Bool) → columns_of (cond b [] (columns.missing name ∷ [])) ≡ []
    by_test true = refl
    by_test false = refl

no_columns : (cs : List DumpColumn) (names : List (List ℕ)) → columns_of (flat_map (missing_part cs) names) ≡ []
no_columns cs [] = refl
no_columns cs (n ∷ ns) = columns_append (missing_part cs n) (flat_map (missing_part cs) ns) ∙ rw (no_column cs n, no_columns cs ns) refl

none_missing : (chosen : Option (List (List ℕ))) (cs : List DumpColumn) → columns_of (missing_parts chosen cs) ≡ []
none_missing None cs = refl
none_missing (Some names) cs = no_columns cs names

no_twin : (twin : Option (List ℕ)) → columns_of (twin_parts twin) ≡ []
no_twin None = refl
no_twin (Some twin) = refl

table_columns : (taken : List (List ℕ)) (t : DumpTable) (chosen : Option (List (List ℕ))) → columns_of (parts_of taken t chosen) ≡ columns_of (parts_from chosen [] t.columns)
table_columns taken t chosen =
    columns_append (twin_parts (twin_of taken t.name)) (parts_from chosen [] t.columns ++ missing_parts chosen t.columns)
    ∙ ap (λ (cs : List Column). cs ++ columns_of (parts_from chosen [] t.columns ++ missing_parts chosen t.columns)) (no_twin (twin_of taken t.name))
    ∙ columns_append (parts_from chosen [] t.columns) (missing_parts chosen t.columns)
    ∙ ap (λ (cs : List Column). columns_of (parts_from chosen [] t.columns) ++ cs) (none_missing chosen t.columns)
    ∙ append-nil (columns_of (parts_from chosen [] t.columns))

-- ---- one table

pub record IsFilled (cs : List Column) : Type 0 where
  pub columns : AreColumns cs
  pub named : AllByRecursion (λ c. is_name c.name ≡ true) cs
  pub some : 0 < length cs

some_column : (ps : List Part) → has_column ps ≡ true → 0 < length (columns_of ps)
some_column [] e = absurd cc
some_column (parts.Comment bs ∷ ps) e = some_column ps e
some_column (parts.Column w ∷ ps) e = omega arith

free_columns : (cs : List Column) → AllByRecursion (λ c. is_column_word c.name ≡ false) cs → AllByRecursion (λ c. is_reserved c.name ≡ false) cs
unfolding is_column_word
free_columns [] all = tt
free_columns (c ∷ cs) all = (all.0, free_columns cs all.1)

column_len : (cs : List Column) → length (column_names cs) ≡ length cs
column_len [] = refl
column_len (c ∷ cs) = ap (λ (n : ℕ). suc n) (column_len cs)

are_columns : (cs : List Column) → AreBehind [] cs → AreColumns cs
are_columns cs b =
    let few = b.taken_names.few in
    let len : length (column_names cs) ≡ length cs = column_len cs in
    record { few = omega arith; distinct = b.taken_names.distinct; free = free_columns cs b.allowed }

is_filled : (taken : List (List ℕ)) (t : DumpTable) (chosen : Option (List (List ℕ))) → has_column (parts_of taken t chosen) ≡ true → IsFilled (columns_of (parts_of taken t chosen))
is_filled taken t chosen e =
    let behind : AreBehind [] (columns_of (parts_of taken t chosen)) = subst (λ (cs : List Column). AreBehind [] cs) (sym (table_columns taken t chosen)) (lines chosen [] t.columns (omega arith)) in
    record { columns = are_columns (columns_of (parts_of taken t chosen)) behind; named = behind.named; some = some_column (parts_of taken t chosen) e }

abbrev IsEntry : List (List ℕ) → Entry → Type 0
IsEntry taken (entries.Comment bs) = Unit {0}
IsEntry taken (entries.Table t) = (is_name t.name ≡ true) × IsFree (is_table_word t.name) 64 taken t.name × IsFilled (columns_of t.parts)

fills : (taken : List (List ℕ)) (t : DumpTable) (name : List ℕ) (chosen : Option (List (List ℕ))) → is_name name ≡ true → IsFree (is_table_word name) 64 taken name
    → IsEntry taken (specs.filled_entry t name (parts_of taken t chosen))
fills taken t name chosen is f = by_test (has_column (parts_of taken t chosen)) refl
  where
    by_test : (b : Bool) → has_column (parts_of taken t chosen) ≡ b
        → IsEntry taken (cond b (entries.Table (record { name = name; parts = parts_of taken t chosen })) (specs.left_out t NoColumn))
    by_test true e = (is, f, is_filled taken t chosen e)
    by_test false e = tt

entry_by_reason : (choices : List ColumnChoice) (taken : List (List ℕ)) (t : DumpTable) (name : List ℕ) (o : Option Reason) → is_name name ≡ true
    → reason_of (is_table_word name) 64 ManyTables taken name ≡ o → IsEntry taken (specs.free_entry choices taken t name o)
entry_by_reason choices taken t name (Some r) is e = tt
entry_by_reason choices taken t name None is e = fills taken t name (columns_for choices t.name) is (free (is_table_word name) 64 ManyTables taken name e)

entry_by_name : (choices : List ColumnChoice) (taken : List (List ℕ)) (t : DumpTable) (o : Option (List ℕ)) → name_in t.name ≡ o → IsEntry taken (specs.named_entry choices taken t o)
entry_by_name choices taken t None e = tt
entry_by_name choices taken t (Some name) e = entry_by_reason choices taken t name (reason_of (is_table_word name) 64 ManyTables taken name) (named t.name name e) refl

pub entry : (choices : List ColumnChoice) (taken : List (List ℕ)) (t : DumpTable) → IsEntry taken (entry_of choices taken t)
unfolding entry_of
entry choices taken t = entry_by_name choices taken t (name_in t.name) refl

-- ---- all tables

abbrev pub table_names : List Table → List (List ℕ)
table_names ts = map (λ t. t.name) ts

-- tables that may stand behind tables of these names
pub record AreAllowed (taken : List (List ℕ)) (ts : List Table) : Type 0 where
  pub taken_names : AreTaken 64 taken (table_names ts)
  pub allowed : AllByRecursion (λ t. is_table_word t.name ≡ false) ts
  pub named : AllByRecursion (λ t. is_name t.name ≡ true) ts
  pub columns : AllByRecursion (λ t. AreColumns t.columns) ts
  pub column_names : AllByRecursion (λ t. AllByRecursion (λ c. is_name c.name ≡ true) t.columns) ts
  pub some : AllByRecursion (λ t. 0 < length t.columns) ts

with_entry : (taken : List (List ℕ)) (e : Entry) (es : List Entry) → IsEntry taken e → AreAllowed (specs.taken_after taken e) (tables_of es) → AreAllowed taken (tables_of (e ∷ es))
with_entry taken (entries.Comment bs) es is a = a
with_entry taken (entries.Table t) es is a = record {
  taken_names = one_taken 64 taken t.name (table_names (tables_of es)) is.1.new a.taken_names;
  allowed = (is.1.allowed, a.allowed);
  named = (is.0, a.named);
  columns = (is.2.columns, a.columns);
  column_names = (is.2.named, a.column_names);
  some = (is.2.some, a.some);
}

entry_room : (taken : List (List ℕ)) (e : Entry) → length taken ≤ 64 → IsEntry taken e → length (specs.taken_after taken e) ≤ 64
entry_room taken (entries.Comment bs) few is = few
entry_room taken (entries.Table t) few is =
    let len : length (taken ++ t.name ∷ []) ≡ length taken + 1 = length-append taken (t.name ∷ []) in
    let room = is.1.room in
    omega arith

pub all_entries : (choice : Choice) (taken : List (List ℕ)) (ts : List DumpTable) → length taken ≤ 64 → AreAllowed taken (tables_of (entries_from choice taken ts))
unfolding entries_from
all_entries choice taken [] few = record { taken_names = none_taken 64 taken few; allowed = tt; named = tt; columns = tt; column_names = tt; some = tt }
all_entries choice taken (t ∷ ts) few =
    by_choice (is_chosen choice.tables t.name)
    (all_entries choice (specs.taken_after taken (entry_of choice.columns taken t)) ts (entry_room taken (entry_of choice.columns taken t) few (entry choice.columns taken t))) (all_entries choice taken ts few)
  where
    by_choice : (b : Bool) → AreAllowed (specs.taken_after taken (entry_of choice.columns taken t)) (tables_of (entries_from choice (specs.taken_after taken (entry_of choice.columns taken t)) ts)) → AreAllowed taken (tables_of (entries_from choice taken ts))
        → AreAllowed taken (tables_of (cond b (entry_of choice.columns taken t ∷ entries_from choice (specs.taken_after taken (entry_of choice.columns taken t)) ts) (entries_from choice taken ts)))
    by_choice true more less = with_entry taken (entry_of choice.columns taken t) (entries_from choice (specs.taken_after taken (entry_of choice.columns taken t)) ts) (entry choice.columns taken t) more
    by_choice false more less = less
