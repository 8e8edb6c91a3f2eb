-- What the text of entries declares.
use Rattle.std.proofs.Common.{◌≡◌, ℕ, ◌<◌, Bool, true, false, ◌||◌, List, [], ◌∷◌, ◌++◌, map, length, refl, sym, ap, subst, ◌∙◌, arith, append_assoc, codes}
use Rattle.std.specs.List.{AllByRecursion}
use Rattle.std.proofs.lemmas.List.{append-nil}
use Rattle.qbs_base.specs.declared.scalar.Ty.{Ty}
use Rattle.qbs_base.specs.declared.scalar.Ty.TheVariants as ty
use Rattle.qbs_base.specs.declared.columns.Column.{Column}
use Rattle.qbs_base.specs.declared.columns.Table.{Table}
use Rattle.schema.specs.declared.token.Kind.{Kind}
use Rattle.schema.specs.declared.token.Kind.TheVariants.{Word, Sign}
use Rattle.schema.specs.declared.token.Sign.TheVariants.{Open, Close, Comma, Semicolon}
use Rattle.schema.specs.declared.draft.Marks.{Marks}
use Rattle.schema.specs.Bytes.{is_name}
use Rattle.schema.specs.Marks.{keyed}
use Rattle.schema.specs.Grammar as grammar
use Rattle.schema.specs.Grammar.{HasType, HasMarks, HasRest, HasColumns, HasTable, HasSchema}
use Rattle.schema.specs.Tokens.{tokens_of, kinds_of}
use Rattle.qbs_base.specs.Places.{first_place}
use Rattle.dump_text.specs.declared.entry.WrittenColumn.{WrittenColumn}
use Rattle.dump_text.specs.declared.entry.WrittenTable.{WrittenTable}
use Rattle.dump_text.specs.declared.entry.Part.{Part}
use Rattle.dump_text.specs.declared.entry.Part.TheVariants as parts
use Rattle.dump_text.specs.declared.entry.Entry.{Entry}
use Rattle.dump_text.specs.declared.entry.Entry.TheVariants as entries
use Rattle.dump_text.specs.Text.{comment_text, note_text, type_text, text_if, has_column, written_text, remark_text, parts_text, table_text, entry_text, further_text, text_of}
use Rattle.dump_text.specs.Entries.{columns_of, tables_of, AreSound}
use Rattle.dump_text.proofs.Lexed.{kinds_from, kinds_are, apart, word_read, comment_read}

-- ---- the tokens that are meant

abbrev mark_kinds : Bool → Bool → List Kind
mark_kinds true true = Word (codes "NOT") ∷ Word (codes "NULL") ∷ Word (codes "PRIMARY") ∷ Word (codes "KEY") ∷ []
mark_kinds true false = Word (codes "NOT") ∷ Word (codes "NULL") ∷ []
mark_kinds false true = Word (codes "PRIMARY") ∷ Word (codes "KEY") ∷ []
mark_kinds false false = []

abbrev rest_kinds : Column → List Kind
rest_kinds c = Word (type_text c.ty) ∷ mark_kinds c.not_null c.primary

-- columns behind another one
abbrev further_kinds : List Column → List Kind
further_kinds [] = []
further_kinds (c ∷ cs) = Sign Comma ∷ Word c.name ∷ (rest_kinds c ++ further_kinds cs)

abbrev column_kinds : List Column → List Kind
column_kinds [] = []
column_kinds (c ∷ cs) = Word c.name ∷ (rest_kinds c ++ further_kinds cs)

abbrev table_kinds : Table → List Kind
table_kinds t = Word (codes "CREATE") ∷ Word (codes "TABLE") ∷ Word t.name ∷ Sign Open ∷ (column_kinds t.columns ++ (Sign Close ∷ Sign Semicolon ∷ []))

abbrev schema_kinds : List Table → List Kind
schema_kinds [] = []
schema_kinds (t ∷ ts) = table_kinds t ++ schema_kinds ts

-- ---- the tokens that stand there

type_is_name : (t : Ty) → is_name (type_text t) ≡ true
type_is_name ty.Long = refl
type_is_name ty.Bool = refl
type_is_name ty.Text = refl

-- nothing behind the marks of a column goes on with a word
tail_apart : (comma : Bool) (note rest : List ℕ) → apart (text_if comma (codes ",") ++ (note_text note ++ (codes "\n" ++ rest))) ≡ true
tail_apart true note rest = refl
tail_apart false [] rest = refl
tail_apart false (b ∷ bs) rest = refl

marks_apart : (n p : Bool) (rest : List ℕ) → apart rest ≡ true → apart (text_if n (codes " NOT NULL") ++ (text_if p (codes " PRIMARY KEY") ++ rest)) ≡ true
marks_apart true p rest e = refl
marks_apart false true rest e = refl
marks_apart false false rest e = e

primary_read : (rest : List ℕ) → apart rest ≡ true → kinds_from 0 (codes " PRIMARY KEY" ++ rest) ≡ Word (codes "PRIMARY") ∷ Word (codes "KEY") ∷ kinds_from 0 rest
primary_read rest e = ap (λ (ks : List Kind). Word (codes "PRIMARY") ∷ ks) (word_read (codes "KEY") rest refl e)

not_null_read : (rest : List ℕ) → apart rest ≡ true → kinds_from 0 (codes " NOT NULL" ++ rest) ≡ Word (codes "NOT") ∷ Word (codes "NULL") ∷ kinds_from 0 rest
not_null_read rest e = ap (λ (ks : List Kind). Word (codes "NOT") ∷ ks) (word_read (codes "NULL") rest refl e)

marks_read : (n p : Bool) (rest : List ℕ) → apart rest ≡ true
    → kinds_from 0 (text_if n (codes " NOT NULL") ++ (text_if p (codes " PRIMARY KEY") ++ rest)) ≡ mark_kinds n p ++ kinds_from 0 rest
marks_read true true rest e = not_null_read (codes " PRIMARY KEY" ++ rest) refl ∙ ap (λ (ks : List Kind). Word (codes "NOT") ∷ Word (codes "NULL") ∷ ks) (primary_read rest e)
marks_read true false rest e = not_null_read rest e
marks_read false true rest e = primary_read rest e
marks_read false false rest e = refl

abbrev comma_kinds : Bool → List Kind
comma_kinds true = Sign Comma ∷ []
comma_kinds false = []

note_read : (note rest : List ℕ) → kinds_from 0 (note_text note ++ (codes "\n" ++ rest)) ≡ kinds_from 0 rest
note_read [] rest = refl
note_read (b ∷ bs) rest = comment_read (b ∷ bs) rest

tail_read : (comma : Bool) (note rest : List ℕ) → kinds_from 0 (text_if comma (codes ",") ++ (note_text note ++ (codes "\n" ++ rest))) ≡ comma_kinds comma ++ kinds_from 0 rest
tail_read true note rest = ap (λ (ks : List Kind). Sign Comma ∷ ks) (note_read note rest)
tail_read false note rest = note_read note rest

-- the line of a column, its text taken apart to the right
spread : (w : WrittenColumn) (ps : List Part) (rest : List ℕ)
    → written_text w ps ++ rest
    ≡ codes "    " ++ (w.column.name ++ (codes " " ++ (type_text w.column.ty ++ (text_if w.column.not_null (codes " NOT NULL") ++ (text_if w.column.primary (codes " PRIMARY KEY")
    ++ (text_if (has_column ps) (codes ",") ++ (note_text w.note ++ (codes "\n" ++ rest))))))))
spread w ps rest = simp append_assoc

written_read : (w : WrittenColumn) (ps : List Part) (rest : List ℕ) → is_name w.column.name ≡ true
    → kinds_from 0 (written_text w ps ++ rest) ≡ Word w.column.name ∷ (rest_kinds w.column ++ (comma_kinds (has_column ps) ++ kinds_from 0 rest))
written_read w ps rest name =
    let c = w.column in
    let tail = text_if (has_column ps) (codes ",") ++ (note_text w.note ++ (codes "\n" ++ rest)) in
    let marks = text_if c.not_null (codes " NOT NULL") ++ (text_if c.primary (codes " PRIMARY KEY") ++ tail) in
    ap (λ (bs : List ℕ). kinds_from 0 bs) (spread w ps rest)
    ∙ word_read c.name (codes " " ++ (type_text c.ty ++ marks)) name refl
    ∙ ap (λ (ks : List Kind). Word c.name ∷ ks) (word_read (type_text c.ty) marks (type_is_name c.ty) (marks_apart c.not_null c.primary tail (tail_apart (has_column ps) w.note rest)))
    ∙ ap (λ (ks : List Kind). Word c.name ∷ Word (type_text c.ty) ∷ ks) (marks_read c.not_null c.primary tail (tail_apart (has_column ps) w.note rest))
    ∙ ap (λ (ks : List Kind). Word c.name ∷ (rest_kinds c ++ ks)) (tail_read (has_column ps) w.note rest)

remark_read : (bs rest : List ℕ) → kinds_from 0 (remark_text bs ++ rest) ≡ kinds_from 0 rest
remark_read bs rest = ap (λ (text : List ℕ). kinds_from 0 (codes "    " ++ text)) (append_assoc (comment_text bs) (codes "\n") rest) ∙ comment_read bs rest

-- a comma and the columns that follow
comma_first : (ps : List Part) (ks : List Kind) → comma_kinds (has_column ps) ++ (column_kinds (columns_of ps) ++ ks) ≡ further_kinds (columns_of ps) ++ ks
comma_first [] ks = refl
comma_first (parts.Column w ∷ ps) ks = refl
comma_first (parts.Comment bs ∷ ps) ks = comma_first ps ks

abbrev AreNames : List Column → Type 0
AreNames cs = AllByRecursion (λ c. is_name c.name ≡ true) cs

parts_read : (ps : List Part) (rest : List ℕ) → AreNames (columns_of ps) → kinds_from 0 (parts_text ps ++ rest) ≡ column_kinds (columns_of ps) ++ kinds_from 0 rest
parts_read [] rest names = refl
parts_read (parts.Comment bs ∷ ps) rest names =
    ap (λ (text : List ℕ). kinds_from 0 text) (append_assoc (remark_text bs) (parts_text ps) rest) ∙ remark_read bs (parts_text ps ++ rest) ∙ parts_read ps rest names
parts_read (parts.Column w ∷ ps) rest names =
    let front = λ (ks : List Kind). Word w.column.name ∷ (rest_kinds w.column ++ ks) in
    ap (λ (text : List ℕ). kinds_from 0 text) (append_assoc (written_text w ps) (parts_text ps) rest)
    ∙ written_read w ps (parts_text ps ++ rest) names.0
    ∙ ap (λ (ks : List Kind). front (comma_kinds (has_column ps) ++ ks)) (parts_read ps rest names.1)
    ∙ ap front (comma_first ps (kinds_from 0 rest))
    ∙ ap (λ (ks : List Kind). Word w.column.name ∷ ks) (sym (append_assoc (rest_kinds w.column) (further_kinds (columns_of ps)) (kinds_from 0 rest)))

spread_table : (t : WrittenTable) (rest : List ℕ) → table_text t ++ rest ≡ codes "CREATE TABLE " ++ (t.name ++ (codes " (\n" ++ (parts_text t.parts ++ (codes ");\n" ++ rest))))
spread_table t rest = simp append_assoc

abbrev table_at : WrittenTable → Table
table_at t = record { name = t.name; columns = columns_of t.parts }

table_read : (t : WrittenTable) (rest : List ℕ) → is_name t.name ≡ true → AreNames (columns_of t.parts) → kinds_from 0 (table_text t ++ rest) ≡ table_kinds (table_at t) ++ kinds_from 0 rest
table_read t rest name names =
    let front = λ (ks : List Kind). Word (codes "CREATE") ∷ Word (codes "TABLE") ∷ ks in
    let behind = λ (ks : List Kind). front (Word t.name ∷ Sign Open ∷ ks) in
    ap (λ (text : List ℕ). kinds_from 0 text) (spread_table t rest)
    ∙ ap front (word_read t.name (codes " (\n" ++ (parts_text t.parts ++ (codes ");\n" ++ rest))) name refl)
    ∙ ap behind (parts_read t.parts (codes ");\n" ++ rest) names)
    ∙ ap behind (sym (append_assoc (column_kinds (columns_of t.parts)) (Sign Close ∷ Sign Semicolon ∷ []) (kinds_from 0 rest)))

-- ---- entries

pub record AreWritten (tables : List Table) : Type 0 where
  pub names : AllByRecursion (λ t. is_name t.name ≡ true) tables
  pub columns : AllByRecursion (λ t. AreNames t.columns) tables

entry_read : (e : Entry) (es : List Entry) (rest : List ℕ) → AreWritten (tables_of (e ∷ es)) → kinds_from 0 (entry_text e ++ rest) ≡ schema_kinds (tables_of (e ∷ [])) ++ kinds_from 0 rest
entry_read (entries.Comment bs) es rest w = ap (λ (text : List ℕ). kinds_from 0 text) (append_assoc (comment_text bs) (codes "\n") rest) ∙ comment_read bs rest
entry_read (entries.Table t) es rest w =
    table_read t rest w.names.0 w.columns.0 ∙ ap (λ (ks : List Kind). ks ++ kinds_from 0 rest) (sym (append-nil (table_kinds (table_at t))))

others : (e : Entry) (es : List Entry) → AreWritten (tables_of (e ∷ es)) → AreWritten (tables_of es)
others (entries.Comment bs) es w = w
others (entries.Table t) es w = record { names = w.names.1; columns = w.columns.1 }

one_more : (e : Entry) (es : List Entry) → schema_kinds (tables_of (e ∷ [])) ++ schema_kinds (tables_of es) ≡ schema_kinds (tables_of (e ∷ es))
one_more (entries.Comment bs) es = refl
one_more (entries.Table t) es = ap (λ (ks : List Kind). ks ++ schema_kinds (tables_of es)) (append-nil (table_kinds (table_at t)))

further_read : (es : List Entry) → AreWritten (tables_of es) → kinds_from 0 (further_text es) ≡ schema_kinds (tables_of es)
further_read [] w = refl
further_read (e ∷ es) w =
    entry_read e es (further_text es) w ∙ ap (λ (ks : List Kind). schema_kinds (tables_of (e ∷ [])) ++ ks) (further_read es (others e es w)) ∙ one_more e es

text_read : (es : List Entry) → AreWritten (tables_of es) → kinds_from 0 (text_of es) ≡ schema_kinds (tables_of es)
unfolding text_of
text_read [] w = refl
text_read (e ∷ es) w =
    entry_read e es (further_text es) w ∙ ap (λ (ks : List Kind). schema_kinds (tables_of (e ∷ [])) ++ ks) (further_read es (others e es w)) ∙ one_more e es

-- ---- the grammar

type_has : (t : Ty) → HasType (Word (type_text t) ∷ []) t
type_has ty.Long = grammar.long refl
type_has ty.Bool = grammar.truth refl
type_has ty.Text = grammar.text refl

abbrev marks_of : Bool → Bool → Marks
marks_of n p = record { not_null = n; primary = p }

marks_have : (n p : Bool) → HasMarks (mark_kinds n p) (marks_of n p)
marks_have true true = grammar.not_null refl refl (grammar.primary refl refl grammar.unmarked)
marks_have true false = grammar.not_null refl refl grammar.unmarked
marks_have false true = grammar.primary refl refl grammar.unmarked
marks_have false false = grammar.unmarked

rest_has : (c : Column) → HasRest (rest_kinds c) (c.ty, marks_of c.not_null c.primary)
rest_has c = grammar.typed (type_has c.ty) (marks_have c.not_null c.primary)

further_have : (cs : List Column) → HasColumns (further_kinds cs) cs []
further_have [] = grammar.none
further_have (c ∷ cs) = grammar.more (rest_has c) (further_have cs)

or_false : (b : Bool) → (b || false) ≡ b
or_false true = refl
or_false false = refl

none_keyed : (cs : List Column) → map (keyed []) cs ≡ cs
none_keyed [] = refl
none_keyed (c ∷ cs) =
    ap (λ (p : Bool). record { name = c.name; ty = c.ty; not_null = c.not_null; primary = p } ∷ map (keyed []) cs) (or_false c.primary) ∙ ap (λ (ds : List Column). c ∷ ds) (none_keyed cs)

table_has : (name : List ℕ) (c : Column) (cs : List Column) → HasTable (table_kinds (record { name = name; columns = c ∷ cs })) (record { name = name; columns = c ∷ cs })
table_has name c cs =
    let made : HasTable (Word (codes "CREATE") ∷ Word (codes "TABLE") ∷ Word name ∷ Sign Open ∷ Word c.name ∷ (rest_kinds c ++ (further_kinds cs ++ (Sign Close ∷ Sign Semicolon ∷ []))))
    (record { name = name; columns = map (keyed []) (c ∷ cs) }) = grammar.table refl refl (rest_has c) (further_have cs) in
    let columns = subst (λ (ds : List Column). HasTable (Word (codes "CREATE") ∷ Word (codes "TABLE") ∷ Word name ∷ Sign Open ∷ Word c.name ∷ (rest_kinds c ++ (further_kinds cs ++ (Sign Close ∷ Sign Semicolon ∷ []))))
    (record { name = name; columns = ds })) (none_keyed (c ∷ cs)) made in
    subst (λ (ks : List Kind). HasTable (Word (codes "CREATE") ∷ Word (codes "TABLE") ∷ Word name ∷ Sign Open ∷ Word c.name ∷ ks) (record { name = name; columns = c ∷ cs }))
    (sym (append_assoc (rest_kinds c) (further_kinds cs) (Sign Close ∷ Sign Semicolon ∷ []))) columns

table_has_some : (t : Table) → 0 < length t.columns → HasTable (table_kinds t) t
table_has_some t some = by_columns t.columns some
  where
    by_columns : (cs : List Column) → 0 < length cs → HasTable (table_kinds (record { name = t.name; columns = cs })) (record { name = t.name; columns = cs })
    by_columns [] some = absurd (omega arith)
    by_columns (c ∷ cs) some = table_has t.name c cs

schema_has : (ts : List Table) → AllByRecursion (λ t. 0 < length t.columns) ts → HasSchema (schema_kinds ts) ts
schema_has [] some = grammar.empty
schema_has (t ∷ ts) some = grammar.followed (table_has_some t some.0) (schema_has ts some.1)

pub declared : (es : List Entry) → AreSound es → HasSchema (kinds_of (tokens_of (text_of es))) (tables_of es)
declared es s =
    let written : AreWritten (tables_of es) = record { names = s.named.names; columns = s.named.columns } in
    let kinds = kinds_are first_place 0 (text_of es) ∙ text_read es written in
    subst (λ (ks : List Kind). HasSchema ks (tables_of es)) (sym kinds) (schema_has (tables_of es) s.some)
