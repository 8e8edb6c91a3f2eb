-- What is drawn of a dump is sound.
use Rattle.std.proofs.Common.{◌≡◌, ℕ, suc, Bool, true, false, cond, List, [], ◌∷◌, ◌++◌, length, eqb, Option, Some, None, Result, Ok, Err, refl, sym, subst, ◌∙◌, ap, arith, codes}
use Rattle.std.specs.Prelude.{IfOk}
use Rattle.std.specs.List.{AllByRecursion, flat_map}
use Rattle.schema.specs.Words.{is_reserved_table}
use Rattle.std.proofs.lemmas.List.{append-nil}
use Rattle.qbs_base.specs.declared.columns.Table.{Table}
use Rattle.schema.specs.Grammar.{HasSchema}
use Rattle.schema.specs.Rules.{IsSchema}
use Rattle.schema.specs.Tokens.{tokens_of, kinds_of}
use Rattle.dump_tables.specs.declared.table.DumpTable.{DumpTable}
use Rattle.dump_text.specs.declared.entry.Entry.{Entry}
use Rattle.dump_text.specs.declared.entry.Entry.TheVariants as entries
use Rattle.dump_text.specs.Entries.{tables_of, AreSound}
use Rattle.dump_text.specs.Text.{text_of}
use Rattle.dump_text.proofs.Declared.{declared}
use Rattle.dump_schema.specs.declared.choice.ColumnChoice.{ColumnChoice}
use Rattle.dump_schema.specs.declared.choice.Choice.{Choice}
use Rattle.dump_schema.specs.Entries.{has_name, missing, missing_entry, missing_tables, missing_choices, unchosen, unchosen_comment, unchosen_entry, remarks, entries_from, entries_of}
use Rattle.dump_schema.specs.Names.{is_table_word}
use Rattle.dump_schema.proofs.Chosen.{AreAllowed, all_entries, table_names}

tables_append : (es fs : List Entry) → tables_of (es ++ fs) ≡ tables_of es ++ tables_of fs
tables_append [] fs = refl
tables_append (entries.Comment bs ∷ es) fs = tables_append es fs
tables_append (entries.Table t ∷ es) fs = ap (λ (ts : List Table). tables_of (entries.Table t ∷ []) ++ ts) (tables_append es fs)

no_table : (option : List ℕ) (ts : List DumpTable) (name : List ℕ) → tables_of (missing_entry option ts name) ≡ []
no_table option ts name = by_test (has_name ts name)
  where
    by_test : (b : Bool) → tables_of (cond b [] (missing option name ∷ [])) ≡ []
    by_test true = refl
    by_test false = refl

no_tables : (ts : List DumpTable) (names : List (List ℕ)) → tables_of (flat_map (missing_entry (codes "--tables") ts) names) ≡ []
no_tables ts [] = refl
no_tables ts (n ∷ ns) =
    tables_append (missing_entry (codes "--tables") ts n) (flat_map (missing_entry (codes "--tables") ts) ns) ∙ rw (no_table (codes "--tables") ts n, no_tables ts ns) refl

none_missing : (chosen : Option (List (List ℕ))) (ts : List DumpTable) → tables_of (missing_tables chosen ts) ≡ []
none_missing None ts = refl
none_missing (Some names) ts = no_tables ts names

no_choices : (choices : List ColumnChoice) (ts : List DumpTable) → tables_of (missing_choices choices ts) ≡ []
no_choices [] ts = refl
no_choices (c ∷ cs) ts = tables_append (missing_entry (codes "--columns") ts c.table) (missing_choices cs ts) ∙ rw (no_table (codes "--columns") ts c.table, no_choices cs ts) refl

no_unchosen : (n : ℕ) → tables_of (unchosen_entry n) ≡ []
no_unchosen n = by_test (eqb n 0)
  where
    by_test : (b : Bool) → tables_of (cond b [] (unchosen_comment n ∷ [])) ≡ []
    by_test true = refl
    by_test false = refl

no_remarks : (choice : Choice) (ts : List DumpTable) → tables_of (remarks choice ts) ≡ []
no_remarks choice ts =
    tables_append (unchosen_entry (unchosen choice.tables ts)) (missing_tables choice.tables ts ++ missing_choices choice.columns ts)
    ∙ ap (λ (us : List Table). us ++ tables_of (missing_tables choice.tables ts ++ missing_choices choice.columns ts)) (no_unchosen (unchosen choice.tables ts))
    ∙ tables_append (missing_tables choice.tables ts) (missing_choices choice.columns ts)
    ∙ ap (λ (us : List Table). us ++ tables_of (missing_choices choice.columns ts)) (none_missing choice.tables ts)
    ∙ no_choices choice.columns ts

all_tables : (choice : Choice) (ts : List DumpTable) → tables_of (entries_of choice ts) ≡ tables_of (entries_from choice [] ts)
unfolding entries_of
all_tables choice ts =
    tables_append (entries_from choice [] ts) (remarks choice ts)
    ∙ ap (λ (us : List Table). tables_of (entries_from choice [] ts) ++ us) (no_remarks choice ts)
    ∙ append-nil (tables_of (entries_from choice [] ts))

free_tables : (ts : List Table) → AllByRecursion (λ t. is_table_word t.name ≡ false) ts → AllByRecursion (λ t. is_reserved_table t.name ≡ false) ts
unfolding is_table_word
free_tables [] all = tt
free_tables (t ∷ ts) all = (all.0, free_tables ts all.1)

table_len : (ts : List Table) → length (table_names ts) ≡ length ts
table_len [] = refl
table_len (t ∷ ts) = ap (λ (n : ℕ). suc n) (table_len ts)

is_schema : (ts : List Table) → AreAllowed [] ts → IsSchema ts
is_schema ts a =
    let few = a.taken_names.few in
    let len : length (table_names ts) ≡ length ts = table_len ts in
    record { few = omega arith; distinct = a.taken_names.distinct; free = free_tables ts a.allowed; columns = a.columns }

pub sound : (choice : Choice) (ts : List DumpTable) → AreSound (entries_of choice ts)
sound choice ts =
    let a : AreAllowed [] (tables_of (entries_of choice ts)) = subst (λ (us : List Table). AreAllowed [] us) (sym (all_tables choice ts)) (all_entries choice [] ts (omega arith)) in
    record { schema = is_schema (tables_of (entries_of choice ts)) a; named = record { names = a.named; columns = a.column_names }; some = a.some }

pub drawn_declares : (choice : Choice) (ts : List DumpTable) (text : List ℕ) → text ≡ text_of (entries_of choice ts) → HasSchema (kinds_of (tokens_of text)) (tables_of (entries_of choice ts))
drawn_declares choice ts text e = subst (λ (bs : List ℕ). HasSchema (kinds_of (tokens_of bs)) (tables_of (entries_of choice ts))) (sym e) (declared (entries_of choice ts) (sound choice ts))

pub all_declare : {X E : Type 0} (r : Result X E) (text : X → List ℕ) (choice : Choice) (ts : List DumpTable) → IfOk r (λ d. text d ≡ text_of (entries_of choice ts))
    → IfOk r (λ d. HasSchema (kinds_of (tokens_of (text d))) (tables_of (entries_of choice ts)))
all_declare (Ok d) text choice ts e = drawn_declares choice ts (text d) e
all_declare (Err x) text choice ts e = tt

pub all_sound : {X E : Type 0} (r : Result X E) (choice : Choice) (ts : List DumpTable) → IfOk r (λ d. IsSchema (tables_of (entries_of choice ts)))
all_sound (Ok d) choice ts = (sound choice ts).schema
all_sound (Err x) choice ts = tt
