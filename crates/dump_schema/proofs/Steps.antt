-- One step of a walk over a dump.
use Rattle.std.proofs.Common.{◌≡◌, ℕ, zero, suc, ◌+◌, ◌<◌, ◌≤◌, length, get_or, drop, arith, add-one, Bool, true, false, cond, eqb, List, [], ◌∷◌, ◌++◌, Option, Result, Ok, Err, OnOk, refl, sym, ap, ◌∙◌, append_assoc}
use Rattle.std.proofs.lemmas.List.{append-nil, drop_all}
use Rattle.std.proofs.lemmas.Bool.Decides.{nat_tests}
use Rattle.dump_tables.specs.declared.table.DumpColumn.{DumpColumn}
use Rattle.dump_tables.specs.declared.table.DumpTable.{DumpTable}
use Rattle.dump_text.specs.declared.entry.Part.{Part}
use Rattle.dump_text.specs.declared.entry.Entry.{Entry}
use Rattle.dump_schema.specs.declared.choice.Choice.{Choice}
use Rattle.dump_schema.specs.declared.columns.Lines.{Lines}
use Rattle.dump_schema.specs.declared.tables.Drawing.{Drawing}
use Rattle.dump_schema.specs.Choices.{is_chosen, pieces, with_first}
use Rattle.dump_schema.specs.Columns as columns
use Rattle.dump_schema.specs.Columns.{part_of, parts_from}
use Rattle.dump_schema.specs.Entries as entries
use Rattle.dump_schema.specs.Entries.{entry_of, entries_from}
use Rattle.dump_schema.specs.Going.{begun_with, all_parts, all_entries}

item_at : {X : Type 0} (xs : List X) (i : ℕ) (x : X) → i < length xs → x ≡ get_or xs i x → drop i xs ≡ x ∷ drop (suc i) xs
item_at [] i x lt e = absurd (omega arith)
item_at (y ∷ xs) zero x lt e = ap (λ (z : _). z ∷ xs) (sym e)
item_at (y ∷ xs) (suc i) x lt e = item_at xs i x (omega arith) e

pub drop_item : {X : Type 0} (xs : List X) (i : ℕ) (x : X) → i < length xs → x ≡ get_or xs i x → drop i xs ≡ x ∷ drop (i + 1) xs
drop_item xs i x lt e = rw add-one (item_at xs i x lt e)

same_item : (xs : List ℕ) (i : ℕ) → i < length xs → get_or xs i 0 ≡ get_or xs i (get_or xs i 0)
same_item [] i lt = absurd (omega arith)
same_item (x ∷ xs) zero lt = refl
same_item (x ∷ xs) (suc i) lt = by_rest xs i (get_or xs i 0) (omega arith)
  where
    by_rest : (ys : List ℕ) (k d : ℕ) → k < length ys → get_or ys k 0 ≡ get_or ys k d
    by_rest [] k d lt = absurd (omega arith)
    by_rest (y ∷ ys) zero d lt = refl
    by_rest (y ∷ ys) (suc k) d lt = by_rest ys k d (omega arith)

pub drop_at : (xs : List ℕ) (i : ℕ) → i < length xs → drop i xs ≡ get_or xs i 0 ∷ drop (i + 1) xs
drop_at xs i lt = drop_item xs i (get_or xs i 0) lt (same_item xs i lt)

-- ---- pieces

first_is : (b : ℕ) (ps : List (List ℕ)) → begun_with [] (with_first b ps) ≡ with_first b ps
first_is b [] = refl
first_is b (p ∷ ps) = refl

begun : (b : ℕ) (t : Bool) (ps qs : List (List ℕ)) → begun_with [] (cond t ([] ∷ ps) (with_first b qs)) ≡ cond t ([] ∷ ps) (with_first b qs)
begun b true ps qs = refl
begun b false ps qs = first_is b qs

-- there is a piece at least
pub begun_none : (mark : ℕ) (bs : List ℕ) → begun_with [] (pieces mark bs) ≡ pieces mark bs
unfolding pieces
begun_none mark [] = refl
begun_none mark (b ∷ bs) = begun b (eqb b mark) (pieces mark bs) (pieces mark bs)

longer : (current : List ℕ) (b : ℕ) (ps : List (List ℕ)) → begun_with (current ++ b ∷ []) ps ≡ begun_with current (with_first b ps)
longer current b [] = refl
longer current b (p ∷ ps) = ap (λ (q : List ℕ). q ∷ ps) (append_assoc current (b ∷ []) p)

mark_is : (mark b : ℕ) → b ≡ mark → eqb b mark ≡ true
mark_is mark b e = grind (arith, nat_tests)

no_mark : (mark b : ℕ) → (b ≡ mark → ⊥) → eqb b mark ≡ false
no_mark mark b e = grind (arith, nat_tests)

pub cut : (mark b : ℕ) (done : List (List ℕ)) (current piece left fresh : List ℕ) (all : List (List ℕ)) → b ≡ mark → piece ≡ current → left ≡ fresh → fresh ≡ [] → all ≡ done ++ piece ∷ []
    → (bs : List ℕ) → all ++ begun_with left (pieces mark bs) ≡ done ++ begun_with current (pieces mark (b ∷ bs))
unfolding pieces
cut mark b done current piece left fresh all is same new none e bs =
    rw (e, same, new, none, begun_none mark bs, mark_is mark b is)
    (append_assoc done (current ∷ []) (pieces mark bs) ∙ ap (λ (c : List ℕ). done ++ c ∷ pieces mark bs) (sym (append-nil current)))

pub grown : (mark b : ℕ) (done : List (List ℕ)) (current more : List ℕ) → (b ≡ mark → ⊥) → more ≡ current ++ b ∷ []
    → (bs : List ℕ) → done ++ begun_with more (pieces mark bs) ≡ done ++ begun_with current (pieces mark (b ∷ bs))
unfolding pieces
grown mark b done current more not e bs = rw (e, no_mark mark b not) (ap (λ (ps : List (List ℕ)). done ++ ps) (longer current b (pieces mark bs)))

pub begin_pieces : (mark : ℕ) (done : List (List ℕ)) (current bs : List ℕ) → done ≡ [] → current ≡ [] → done ++ begun_with current (pieces mark bs) ≡ pieces mark bs
begin_pieces mark done current bs none empty = rw (none, empty) (begun_none mark bs)

pub finish_pieces : (mark : ℕ) (done new all : List (List ℕ)) (current bs : List ℕ) (i : ℕ) → length bs ≤ i → done ++ begun_with current (pieces mark (drop i bs)) ≡ all → new ≡ done ++ current ∷ [] → new ≡ all
unfolding pieces
finish_pieces mark done new all current bs i over so_far e =
    let none = drop_all i bs over in
    e ∙ ap (λ (c : List ℕ). done ++ c ∷ []) (sym (append-nil current)) ∙ (rw none at so_far)

-- ---- columns

pub took_column : {A E : Type 0} (r : Result A E) (chosen : Option (List (List ℕ))) (c : DumpColumn) (l m : Lines) (p : Part) → true ≡ is_chosen chosen c.name → p ≡ part_of l.taken c
    → OnOk r (m.parts ≡ l.parts ++ p ∷ []) → OnOk r (m.taken ≡ columns.taken_after l.taken p) → OnOk r ((cs : List DumpColumn) → all_parts chosen m cs ≡ all_parts chosen l (c ∷ cs))
unfolding parts_from
took_column (Err x) chosen c l m p test is_part parts taken = tt
took_column (Ok x) chosen c l m p test is_part parts taken =
    λ cs. rw (parts, taken, is_part, ← test) (append_assoc l.parts (part_of l.taken c ∷ []) (parts_from chosen (columns.taken_after l.taken (part_of l.taken c)) cs))

pub passed_column : (chosen : Option (List (List ℕ))) (c : DumpColumn) (l : Lines) → false ≡ is_chosen chosen c.name → (cs : List DumpColumn) → all_parts chosen l cs ≡ all_parts chosen l (c ∷ cs)
unfolding parts_from
passed_column chosen c l test cs = rw (← test) refl

no_line : (chosen : Option (List (List ℕ))) (l : Lines) → all_parts chosen l [] ≡ l.parts
unfolding parts_from
no_line chosen l = append-nil l.parts

pub finish_columns : (chosen : Option (List (List ℕ))) (l : Lines) (cs : List DumpColumn) (i : ℕ) (front new more : List Part) → length cs ≤ i → all_parts chosen l (drop i cs) ≡ front ++ parts_from chosen [] cs
    → new ≡ l.parts ++ more → new ≡ front ++ (parts_from chosen [] cs ++ more)
finish_columns chosen l cs i front new more over so_far e =
    let none = drop_all i cs over in
    let all : l.parts ≡ front ++ parts_from chosen [] cs = sym (no_line chosen l) ∙ (rw none at so_far) in
    e ∙ ap (λ (ps : List Part). ps ++ more) all ∙ append_assoc front (parts_from chosen [] cs) more

-- ---- tables

pub took_table : {A E : Type 0} (r : Result A E) (choice : Choice) (t : DumpTable) (d e : Drawing) (entry : Entry) → true ≡ is_chosen choice.tables t.name → entry ≡ entry_of choice.columns d.taken t
    → OnOk r (e.entries ≡ d.entries ++ entry ∷ []) → OnOk r (e.taken ≡ entries.taken_after d.taken entry) → OnOk r ((ts : List DumpTable) → all_entries choice e ts ≡ all_entries choice d (t ∷ ts))
unfolding entries_from
took_table (Err x) choice t d e entry test is_entry all taken = tt
took_table (Ok x) choice t d e entry test is_entry all taken =
    λ ts. rw (all, taken, is_entry, ← test) (append_assoc d.entries (entry_of choice.columns d.taken t ∷ []) (entries_from choice (entries.taken_after d.taken (entry_of choice.columns d.taken t)) ts))

pub passed_table : (choice : Choice) (t : DumpTable) (d : Drawing) → false ≡ is_chosen choice.tables t.name → (ts : List DumpTable) → all_entries choice d ts ≡ all_entries choice d (t ∷ ts)
unfolding entries_from
passed_table choice t d test ts = rw (← test) refl

pub finish_tables : (choice : Choice) (d : Drawing) (ts : List DumpTable) (i : ℕ) (all : List Entry) → length ts ≤ i → all_entries choice d (drop i ts) ≡ all → d.entries ≡ all
unfolding entries_from
finish_tables choice d ts i all over so_far =
    let none = drop_all i ts over in
    sym (append-nil d.entries) ∙ (rw none at so_far)
