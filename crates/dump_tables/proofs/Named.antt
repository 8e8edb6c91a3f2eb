-- Tables keep their names, and are found by them.
use Rattle.std.proofs.Common.{◌≡◌, ℕ, zero, suc, ◌<◌, ◌≤◌, arith, Bool, true, false, List, [], ◌∷◌, ◌++◌, length, drop, get_or, Option, Some, None, refl, sym, ap, ◌∙◌, if◌then◌else◌}
use Rattle.std.proofs.lemmas.Option.{slice_get_read, slice_get_past}
use Rattle.std.specs.Prelude.{bytes_eq, nat_lt, slice_get, slice_set, codes}
use Rattle.dump_items.specs.declared.item.Item.{Item}
use Rattle.dump_tables.specs.declared.table.DumpTable.{DumpTable}
use Rattle.dump_tables.specs.declared.numbers.Numbers.{Numbers}
use Rattle.dump_tables.specs.Words.{is_name, begins, without, meaning}
use Rattle.dump_tables.specs.Parts.{parts}
use Rattle.dump_tables.specs.Columns.{is_constraint, primary_key_in, keyed, key_names, with_column, column_of, most_columns, with_element, with_elements}
use Rattle.dump_tables.specs.Tables.{added, with_added, with_altered_column, with_action, with_actions, new_table, made_table, last_or, number_of, with_table_at}
use Rattle.dump_tables.specs.Numbered.{number_under, AreNumbered}

-- ---- Names stay

either : (b : Bool) (t u : DumpTable) (name : List ℕ) → t.name ≡ name → u.name ≡ name → (if b then t else u).name ≡ name
either true t u name p q = p
either false t u name p q = q

element_name : (t : DumpTable) (e : List Item) → (with_element t e).name ≡ t.name
unfolding with_element
element_name t [] = refl
element_name t (i ∷ is) =
    either (is_constraint i is) _ _ t.name
    (either (primary_key_in (i ∷ is)) (keyed t (key_names (i ∷ is))) t t.name refl refl)
    (either (is_name i.kind) (with_column t (column_of i is)) t t.name (either (nat_lt (length t.columns) most_columns) _ t t.name refl refl) refl)

elements_name : (t : DumpTable) (es : List (List Item)) → (with_elements t es).name ≡ t.name
unfolding with_elements
elements_name t [] = refl
elements_name t (e ∷ es) = elements_name (with_element t e) es ∙ element_name t e

altered_column_name : (t : DumpTable) (is : List Item) → (with_altered_column t is).name ≡ t.name
altered_column_name t [] = refl
altered_column_name t (i ∷ is) =
    either (begins (codes "SET" ∷ codes "NOT" ∷ codes "NULL" ∷ []) is) _ _ t.name refl
    (either (begins (codes "DROP" ∷ codes "NOT" ∷ codes "NULL" ∷ []) is) _ t t.name refl refl)

action_name : (t : DumpTable) (a : List Item) → (with_action t a).name ≡ t.name
unfolding with_action
action_name t a =
    let column : List Item = without (codes "COLUMN" ∷ []) (drop 1 a) in
    either (begins (codes "ADD" ∷ []) a) (with_added t (drop 1 a)) (if begins (codes "ALTER" ∷ []) a then with_altered_column t column else t) t.name
    (elements_name t (added (drop 1 a)))
    (either (begins (codes "ALTER" ∷ []) a) (with_altered_column t column) t t.name (altered_column_name t column) refl)

pub actions_name : (t : DumpTable) (more : List (List Item)) → (with_actions t more).name ≡ t.name
unfolding with_actions
actions_name t [] = refl
actions_name t (a ∷ more) = actions_name (with_action t a) more ∙ action_name t a

pub made_name : (name : Item) (elements : List Item) (t : DumpTable) → t ≡ made_table name elements → t.name ≡ meaning name
made_name name elements t is = ap (λ (u : DumpTable). u.name) is ∙ elements_name (new_table name) (parts 0 elements)

-- ---- The last table of a name

one_more : (b c : Bool) (n : ℕ) (o : Option ℕ) → last_or (if b then Some n else o) c ≡ (if b then Some (suc n) else last_or o c)
one_more true c n o = refl
one_more false c n o = refl

last_added : (x : List ℕ) (ts : List DumpTable) (t : DumpTable) → number_of x (ts ++ t ∷ []) ≡ (if bytes_eq t.name x then Some (length ts) else number_of x ts)
unfolding number_of
last_added x [] t = refl
last_added x (s ∷ ts) t =
    ap (λ (o : Option ℕ). last_or o (bytes_eq s.name x)) (last_added x ts t)
    ∙ one_more (bytes_eq t.name x) (bytes_eq s.name x) (length ts) (number_of x ts)

same_name : (s t u : DumpTable) → Some s ≡ Some t → u.name ≡ t.name → u.name ≡ s.name
same_name s t u h e = let same : s ≡ t = cc in e ∙ ap (λ (v : DumpTable). v.name) (sym same)

last_changed : (x : List ℕ) (ts : List DumpTable) (n : ℕ) (t u : DumpTable) → slice_get ts n ≡ Some t → u.name ≡ t.name → number_of x (slice_set ts n u) ≡ number_of x ts
unfolding number_of
last_changed x [] n t u h e = refl
last_changed x (s ∷ ts) zero t u h e = ap (λ (name : List ℕ). last_or (number_of x ts) (bytes_eq name x)) (same_name s t u h e)
last_changed x (s ∷ ts) (suc n) t u h e = ap (λ (o : Option ℕ). last_or o (bytes_eq s.name x)) (last_changed x ts n t u h e)

pub numbered_added : (old new : Numbers) (ts all : List DumpTable) (t : DumpTable) (name : List ℕ) (n : ℕ)
    → ((x : List ℕ) → number_under new x ≡ (if bytes_eq name x then Some n else number_under old x)) → n ≡ length ts → t.name ≡ name → AreNumbered old ts
    → all ≡ ts ++ t ∷ [] → AreNumbered new all
numbered_added old new ts all t name n put last named h is_all x =
    put x
    ∙ ap (λ (o : Option ℕ). if bytes_eq name x then Some n else o) (h x)
    ∙ ap (λ (m : ℕ). if bytes_eq name x then Some m else number_of x ts) last
    ∙ ap (λ (k : List ℕ). if bytes_eq k x then Some (length ts) else number_of x ts) (sym named)
    ∙ sym (last_added x ts t)
    ∙ ap (λ (us : List DumpTable). number_of x us) (sym is_all)

changed_by : (ts : List DumpTable) (n : ℕ) (more : List (List Item)) (x : List ℕ) (o : Option DumpTable) → slice_get ts n ≡ o → number_of x (with_table_at ts n more) ≡ number_of x ts
changed_by ts n more x None h = rw (h, with_table_at) refl
changed_by ts n more x (Some t) h = rw (h, with_table_at) (last_changed x ts n t (with_actions t more) h (actions_name t more))

pub numbered_changed : (numbers : Numbers) (ts all : List DumpTable) (n : ℕ) (more : List (List Item)) → AreNumbered numbers ts → all ≡ with_table_at ts n more → AreNumbered numbers all
numbered_changed numbers ts all n more h is_all x = h x ∙ sym (changed_by ts n more x (slice_get ts n) refl) ∙ ap (λ (us : List DumpTable). number_of x us) (sym is_all)

pub changed_at : (ts all : List DumpTable) (n : ℕ) (t u : DumpTable) (more : List (List Item)) → n < length ts → t ≡ get_or ts n t → u ≡ with_actions t more
    → all ≡ slice_set ts n u → all ≡ with_table_at ts n more
changed_at ts all n t u more lt is to set = rw (slice_get_read ts (length ts) n t refl lt is, with_table_at) (set ∙ ap (λ (v : DumpTable). slice_set ts n v) to)

pub unchanged_at : (ts : List DumpTable) (n : ℕ) (more : List (List Item)) → length ts ≤ n → ts ≡ with_table_at ts n more
unchanged_at ts n more le = rw (slice_get_past ts n le, with_table_at) refl

pub begun : (ts : List DumpTable) (numbers : Numbers) → ts ≡ [] → ((x : List ℕ) → number_under numbers x ≡ None) → AreNumbered numbers ts
unfolding number_of
begun ts numbers e none x = none x ∙ ap (λ (us : List DumpTable). number_of x us) (sym e)

-- ---- Nothing is added

pub nothing_added : (t : DumpTable) (is : List Item) → length is < 1 → t ≡ with_added t is
unfolding with_elements
nothing_added t [] h = refl
nothing_added t (i ∷ is) h = absurd (omega arith)
