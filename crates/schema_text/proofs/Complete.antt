-- What has tokens by the grammar is read from them.
use Rattle.std.proofs.Common.{◌≡◌, ℕ, Bool, true, false, ◌||◌, List, [], ◌∷◌, ◌++◌, map, Some, Ok, refl, sym, ap, subst, ◌∙◌, append_assoc, inl, inr, ◌⊎◌}
use Rattle.std.specs.Prelude.{codes}
use Rattle.std.specs.Str.{bytes_eq, str_to_ascii_lowercase}
use Rattle.std.proofs.lemmas.Slice.Eq.{bytes_eq-Decides}
use Rattle.readers.specs.Reading.{Read, token_at, both, made, either, many, is_over, HasMany}
use Rattle.readers.proofs.Again.{Leads, Again, Any, both_again, made_again, many_again}
use Rattle.qbs_base.specs.declared.scalar.Ty.{Ty}
use Rattle.qbs_base.specs.declared.scalar.Ty.TheVariants as ty
use Rattle.qbs_base.specs.declared.columns.Column.{Column}
use Rattle.qbs_base.specs.declared.columns.Table.{Table}
use Rattle.schema.specs.declared.token.Kind.{Kind}
use Rattle.schema.specs.declared.token.Kind.TheVariants.{Word, Digits, Sign}
use Rattle.schema.specs.declared.token.Sign.TheVariants.{Open, Close, Comma, Semicolon}
use Rattle.schema.specs.declared.draft.Mark.{Mark}
use Rattle.schema.specs.declared.draft.Mark.TheVariants.{NotNull, PrimaryKey}
use Rattle.schema.specs.declared.draft.Marks.{Marks}
use Rattle.schema.specs.declared.draft.Item.{Item}
use Rattle.schema.specs.declared.draft.Item.TheVariants as items
use Rattle.schema.specs.declared.draft.Draft.{Draft}
use Rattle.schema.specs.Marks.{no_marks, with_mark, Rest, column_of, table_of}
use Rattle.schema.specs.Words.{spells}
use Rattle.schema.specs.Series.{HasSeries}
use Rattle.schema.specs.Grammar.{HasType, long, truth, text, sized, HasMarks, unmarked, not_null, primary, HasRest, typed, HasNames, one, further, HasColumns, none, key, more, HasTable, table, HasSchema, empty, followed}
use Rattle.schema.specs.Reading.{is_word, name_at, word_at, sign_at, is_long, type_of, sized_at, type_at, is_no_mark, mark_at, marked, marks_at, rest_at, is_no_comma, next_name_at, next_names_at, names_at, Behind, key_clause, column_rest, key_at, typed_at, named, column_at, primary_in, primary_at, item_at, next_item_at, Columns, columns_at, head_at, body_at, tail_at, draft_from, draft_at, never, drafts_at, tables_at}
use Rattle.schema_text.proofs.Serial.{series_again}
use Rattle.schema_text.proofs.Single.{IsName, IsKeyword, IsSign, name_again, word_again, sign_again}
use Rattle.schema_text.proofs.Grammatical.{Two, IsMark, marked_first, NextName, NextNames, Key, IsBehind, InKey, rest_of, IsColumn, IsItem, IsPrimary, IsNextItem, Others, IsHead, IsBody, IsTail, InTable}

-- ---- keywords differ

-- a word that is one keyword is no other one
pub differs : (a b w : List ℕ) → bytes_eq (str_to_ascii_lowercase b) (str_to_ascii_lowercase a) ≡ false → spells a w ≡ true → spells b w ≡ false
differs a b w e is =
    let same : str_to_ascii_lowercase a ≡ str_to_ascii_lowercase w = (bytes_eq-Decides (str_to_ascii_lowercase a) (str_to_ascii_lowercase w)).0 is in
    ap (λ (v : List ℕ). bytes_eq (str_to_ascii_lowercase b) v) (sym same) ∙ e

-- ---- types

some_or : (a b c : Bool) → (a || b || c) ≡ true → (a ≡ true) ⊎ (b ≡ true) ⊎ (c ≡ true)
some_or true b c e = inl refl
some_or false true c e = inr (inl refl)
some_or false false true e = inr (inr refl)
some_or false false false e = absurd cc

-- a word that is a keyword other than those of Long is no word of Long
not_long : (a w : List ℕ) → bytes_eq (str_to_ascii_lowercase (codes "BIGINT")) (str_to_ascii_lowercase a) ≡ false → bytes_eq (str_to_ascii_lowercase (codes "INTEGER")) (str_to_ascii_lowercase a) ≡ false
    → bytes_eq (str_to_ascii_lowercase (codes "INT")) (str_to_ascii_lowercase a) ≡ false → spells a w ≡ true → is_long w ≡ false
not_long a w p q r is =
    let first = differs a (codes "BIGINT") w p is in
    let second = differs a (codes "INTEGER") w q is in
    let third = differs a (codes "INT") w r is in
    rw (first, second, third) refl

-- a word of Long is no other keyword
long_differs : (b w : List ℕ) → bytes_eq (str_to_ascii_lowercase b) (str_to_ascii_lowercase (codes "BIGINT")) ≡ false → bytes_eq (str_to_ascii_lowercase b) (str_to_ascii_lowercase (codes "INTEGER")) ≡ false
    → bytes_eq (str_to_ascii_lowercase b) (str_to_ascii_lowercase (codes "INT")) ≡ false → is_long w ≡ true → spells b w ≡ false
long_differs b w p q r is =
    elim (some_or (spells (codes "BIGINT") w) (spells (codes "INTEGER") w) (spells (codes "INT") w) is) [
      | inl h ↦ differs (codes "BIGINT") b w p h
      | inr h ↦ elim h [ inl k ↦ differs (codes "INTEGER") b w q k | inr k ↦ differs (codes "INT") b w r k ]
    ]

type_of-long : (w : List ℕ) → is_long w ≡ true → type_of w ≡ Some ty.Long
type_of-long w e = rw e refl

type_of-truth : (w : List ℕ) → spells (codes "BOOLEAN") w ≡ true → type_of w ≡ Some ty.Bool
type_of-truth w e = let unlike = not_long (codes "BOOLEAN") w refl refl refl e in rw (unlike, e) refl

type_of-text : (w : List ℕ) → spells (codes "TEXT") w ≡ true → type_of w ≡ Some ty.Text
type_of-text w e =
    let unlike = not_long (codes "TEXT") w refl refl refl e in
    let other = differs (codes "TEXT") (codes "BOOLEAN") w refl e in
    rw (unlike, other, e) refl

plain_again : (w : List ℕ) (t : Ty) (rest : List Kind) → spells (codes "VARCHAR") w ≡ false → type_of w ≡ Some t → type_at (Word w ∷ rest) ≡ Ok (t, rest)
unfolding type_at
plain_again w t rest unlike is = rw (unlike, is) refl

sized_again : (w : List ℕ) (rest : List Kind) → spells (codes "VARCHAR") w ≡ true → type_at (Word w ∷ Sign Open ∷ Digits ∷ Sign Close ∷ rest) ≡ Ok (ty.Text, rest)
unfolding type_at sized_at
sized_again w rest is = rw is refl

type_again : Again HasType Any type_at
type_again _ _ rest (long {w} e) any = inl (plain_again w ty.Long rest (long_differs (codes "VARCHAR") w refl refl refl e) (type_of-long w e))
type_again _ _ rest (truth {w} e) any = inl (plain_again w ty.Bool rest (differs (codes "BOOLEAN") (codes "VARCHAR") w refl e) (type_of-truth w e))
type_again _ _ rest (text {w} e) any = inl (plain_again w ty.Text rest (differs (codes "TEXT") (codes "VARCHAR") w refl e) (type_of-text w e))
type_again _ _ rest (sized {w} e) any = inl (sized_again w rest e)

-- ---- marks

mark_again : Again IsMark Any mark_at
unfolding mark_at
mark_again us NotNull rest (v, w, is, first, second) any = inl (rw (is, first, second) refl)
mark_again us PrimaryKey rest (v, w, is, first, second) any =
    let other = differs (codes "PRIMARY") (codes "NOT") v refl first in
    inl (rw (is, other, first, second) refl)

mark_starts : (us : List Kind) (m : Mark) → IsMark us m → (t : Kind) × (vs : List Kind) × (us ≡ t ∷ vs) × (is_no_mark t ≡ false)
mark_starts us NotNull (v, w, is, first, second) = (Word v, Word w ∷ [], is, rw first refl)
mark_starts us PrimaryKey (v, w, is, first, second) =
    let other = differs (codes "PRIMARY") (codes "NOT") v refl first in
    (Word v, Word w ∷ [], is, rw (other, first) refl)

-- behind marks stands no further one
abbrev pub NoMark : List Kind → Type 0
NoMark rest = is_over is_no_mark rest ≡ true

abbrev pub NoComma : List Kind → Type 0
NoComma rest = is_over is_no_comma rest ≡ true

marks_many : (ts : List Kind) (marks : Marks) → HasMarks ts marks → (ms : List Mark) × (marked no_marks ms ≡ marks) × HasMany IsMark ts ms
marks_many _ _ unmarked = ([], refl, refl)
marks_many _ _ (not_null {v} {w} {ts} {marks} p q h) =
    let (ms, are, many_marks) = marks_many ts marks h in
    (NotNull ∷ ms, marked_first no_marks NotNull ms ∙ ap (λ (x : Marks). with_mark x NotNull) are, (Word v ∷ Word w ∷ [], ts, refl, (v, w, refl, p, q), many_marks))
marks_many _ _ (primary {v} {w} {ts} {marks} p q h) =
    let (ms, are, many_marks) = marks_many ts marks h in
    (PrimaryKey ∷ ms, marked_first no_marks PrimaryKey ms ∙ ap (λ (x : Marks). with_mark x PrimaryKey) are, (Word v ∷ Word w ∷ [], ts, refl, (v, w, refl, p, q), many_marks))

marks_again : Again HasMarks NoMark marks_at
unfolding marks_at
marks_again us marks rest h nomark =
    let (ms, are, many_marks) = marks_many us marks h in
    let go = made_again (HasMany IsMark) NoMark (marked no_marks) (many is_no_mark mark_at) (many_again is_no_mark IsMark Any mark_at mark_again mark_starts (λ r e. tt) (λ vs x r k. tt)) us ms rest many_marks nomark in
    subst (λ (x : Marks). Leads (made (marked no_marks) (many is_no_mark mark_at) (us ++ rest)) (Ok (x, rest))) are go

rest_again : Again HasRest NoMark rest_at
unfolding rest_at
rest_again _ _ rest (typed {us} {vs} {t} {marks} p q) nomark =
    both_again HasType HasMarks Any NoMark type_at marks_at type_again marks_again (λ ws y r h k. tt) (us ++ vs) (t, marks) rest (record { us = us; vs = vs; parts = refl; first = p; second = q }) nomark

-- ---- names and the key clause

next_name_again : Again NextName Any next_name_at
unfolding next_name_at
next_name_again us n rest h any = inl (rw h refl)

next_name_starts : (us : List Kind) (n : List ℕ) → NextName us n → (t : Kind) × (vs : List Kind) × (us ≡ t ∷ vs) × (is_no_comma t ≡ false)
next_name_starts us n h = (Sign Comma, Word n ∷ [], h, refl)

next_names_again : Again NextNames NoComma next_names_at
unfolding next_names_at
next_names_again = many_again is_no_comma NextName Any next_name_at next_name_again next_name_starts (λ r e. tt) (λ vs x r k. tt)

names_parts : (ts : List Kind) (names : List (List ℕ)) → HasNames ts names → (n : List ℕ) × (ns : List (List ℕ)) × (us : List Kind) × (ts ≡ Word n ∷ us) × (n ∷ ns ≡ names) × NextNames us ns
names_parts _ _ (one {n}) = (n, [], [], refl, refl, refl)
names_parts _ _ (further {n} {ts} {names} h) =
    let (m, ns, us, parts, are, others) = names_parts ts names h in
    (n, m ∷ ns, Sign Comma ∷ ts, refl, ap (λ (xs : List (List ℕ)). n ∷ xs) are, (Sign Comma ∷ Word m ∷ [], us, ap (λ (zs : List Kind). Sign Comma ∷ zs) parts, refl, others))

names_again : Again HasNames NoComma names_at
unfolding names_at
names_again ts names rest h stop =
    let (n, ns, us, parts, are, others) = names_parts ts names h in
    let go = made_again (Two IsName NextNames) NoComma (λ x. x.0 ∷ x.1) (both name_at next_names_at) (both_again IsName NextNames Any NoComma name_at next_names_at name_again next_names_again (λ ws y r k l. tt)) ts (n, ns) rest (record { us = Word n ∷ []; vs = us; parts = parts; first = refl; second = others }) stop in
    subst (λ (x : List (List ℕ)). Leads (made (λ x. x.0 ∷ x.1) (both name_at next_names_at) (ts ++ rest)) (Ok (x, rest))) are go

closed_names_again : Again (Two HasNames (IsSign Close)) Any (both names_at (sign_at Close))
closed_names_again = both_again HasNames (IsSign Close) NoComma Any names_at (sign_at Close) names_again (sign_again Close) (λ vs y rest is any. subst (λ (ws : List Kind). NoComma (ws ++ rest)) (sym is) refl)

in_key_again : Again InKey Any (both (word_at (codes "KEY")) (both (sign_at Open) (both names_at (sign_at Close))))
in_key_again =
    both_again (IsKeyword (codes "KEY")) (Two (IsSign Open) (Two HasNames (IsSign Close))) Any Any (word_at (codes "KEY")) (both (sign_at Open) (both names_at (sign_at Close))) (word_again (codes "KEY"))
    (both_again (IsSign Open) (Two HasNames (IsSign Close)) Any Any (sign_at Open) (both names_at (sign_at Close)) (sign_again Open) closed_names_again (λ vs y r k l. tt)) (λ vs y r k l. tt)

key_parts : (ts : List Kind) (names : List (List ℕ)) → Key ts names → InKey ts (tt, (tt, (names, tt)))
key_parts ts names (w, us, parts, spelt, has) = record {
  us = Word w ∷ [];
  vs = Sign Open ∷ us ++ Sign Close ∷ [];
  parts = parts;
  first = (w, refl, spelt);
  second = record { us = Sign Open ∷ []; vs = us ++ Sign Close ∷ []; parts = refl; first = refl; second = record { us = us; vs = Sign Close ∷ []; parts = refl; first = has; second = refl } };
}

key_again : (ts rest : List Kind) (names : List (List ℕ)) → Key ts names → Leads (key_at (ts ++ rest)) (Ok (key_clause names, rest))
unfolding key_at
key_again ts rest names h = made_again InKey Any (λ x. key_clause x.1.1.0) (both (word_at (codes "KEY")) (both (sign_at Open) (both names_at (sign_at Close)))) in_key_again ts (tt, (tt, (names, tt))) rest (key_parts ts names h) tt

-- ---- columns

column_again : Again IsColumn NoMark column_at
unfolding column_at
column_again ts c rest (us, parts, h) nomark =
    made_again (Two IsName HasRest) NoMark column_of (both name_at rest_at) (both_again IsName HasRest Any NoMark name_at rest_at name_again rest_again (λ ws y r k l. tt)) ts (c.name, rest_of c) rest
    (record { us = Word c.name ∷ []; vs = us; parts = parts; first = refl; second = h }) nomark

-- a type is no KEY
type_starts : (us : List Kind) (t : Ty) → HasType us t → (w : List ℕ) × (vs : List Kind) × (us ≡ Word w ∷ vs) × (spells (codes "KEY") w ≡ false)
type_starts _ _ (long {w} e) = (w, [], refl, long_differs (codes "KEY") w refl refl refl e)
type_starts _ _ (truth {w} e) = (w, [], refl, differs (codes "BOOLEAN") (codes "KEY") w refl e)
type_starts _ _ (text {w} e) = (w, [], refl, differs (codes "TEXT") (codes "KEY") w refl e)
type_starts _ _ (sized {w} e) = (w, Sign Open ∷ Digits ∷ Sign Close ∷ [], refl, differs (codes "VARCHAR") (codes "KEY") w refl e)

pub rest_starts : (us : List Kind) (x : Rest) → HasRest us x → (w : List ℕ) × (vs : List Kind) × (us ≡ Word w ∷ vs) × (spells (codes "KEY") w ≡ false)
rest_starts _ _ (typed {us} {vs} {t} p q) =
    let (w, ws, parts, unlike) = type_starts us t p in
    (w, ws ++ vs, ap (λ (zs : List Kind). zs ++ vs) parts, unlike)

typed_again : (us rest : List Kind) (x : Rest) → HasRest us x → NoMark rest → Leads (typed_at (us ++ rest)) (Ok (column_rest x, rest))
unfolding typed_at
typed_again us rest x h nomark = made_again HasRest NoMark column_rest rest_at rest_again us x rest h nomark

-- behind PRIMARY
behind_again : Again IsBehind NoMark (either (is_word (codes "KEY")) key_at typed_at)
behind_again ts (key_clause names) rest h nomark =
    let go = key_again ts rest names h in
    let (w, us, parts, spelt, has) = h in
    let here : either (is_word (codes "KEY")) key_at typed_at (ts ++ rest) ≡ key_at (ts ++ rest) = rw (parts, spelt) refl in
    subst (λ (read : Read Kind Behind). Leads read (Ok (key_clause names, rest))) (sym here) go
behind_again ts (column_rest x) rest h nomark =
    let go = typed_again ts rest x h nomark in
    let (w, us, parts, unlike) = rest_starts ts x h in
    let here : either (is_word (codes "KEY")) key_at typed_at (ts ++ rest) ≡ typed_at (ts ++ rest) = rw (parts, unlike) refl in
    subst (λ (read : Read Kind Behind). Leads read (Ok (column_rest x, rest))) (sym here) go

primary_word_again : Again IsPrimary Any (token_at primary_in)
primary_word_again us n rest h any = inl (rw (h.0, h.1) refl)

primary_again : (ts : List Kind) (x : List ℕ × Behind) (rest : List Kind) → Two IsPrimary IsBehind ts x → NoMark rest → Leads (primary_at (ts ++ rest)) (Ok (named x, rest))
unfolding primary_at
primary_again ts x rest h nomark =
    made_again (Two IsPrimary IsBehind) NoMark named (both (token_at primary_in) (either (is_word (codes "KEY")) key_at typed_at))
    (both_again IsPrimary IsBehind Any NoMark (token_at primary_in) (either (is_word (codes "KEY")) key_at typed_at) primary_word_again behind_again (λ ws y r k l. tt)) ts x rest h nomark

-- a word at an item's place, by whether it is PRIMARY
item_is_primary : (w : List ℕ) (us : List Kind) → spells (codes "PRIMARY") w ≡ true → item_at (Word w ∷ us) ≡ primary_at (Word w ∷ us)
unfolding item_at
item_is_primary w us e = rw e refl

item_is_column : (w : List ℕ) (us : List Kind) → spells (codes "PRIMARY") w ≡ false → item_at (Word w ∷ us) ≡ made (λ c. items.Column c) column_at (Word w ∷ us)
unfolding item_at
item_is_column w us e = rw e refl

by_word : (w : List ℕ) → (spells (codes "PRIMARY") w ≡ true) ⊎ (spells (codes "PRIMARY") w ≡ false)
by_word w = by_test (spells (codes "PRIMARY") w) refl
  where
    by_test : (b : Bool) → spells (codes "PRIMARY") w ≡ b → (spells (codes "PRIMARY") w ≡ true) ⊎ (spells (codes "PRIMARY") w ≡ false)
    by_test true e = inl e
    by_test false e = inr e

item_again : Again IsItem NoMark item_at
item_again ts (items.Key names) rest (v, us, parts, spelt, h) nomark =
    let go = primary_again ts (v, key_clause names) rest (record { us = Word v ∷ []; vs = us; parts = parts; first = (refl, spelt); second = h }) nomark in
    let here : item_at (ts ++ rest) ≡ primary_at (ts ++ rest) = rw parts (item_is_primary v (us ++ rest) spelt) in
    subst (λ (read : Read Kind Item). Leads read (Ok (items.Key names, rest))) (sym here) go
item_again ts (items.Column c) rest (us, parts, h) nomark =
    elim (by_word c.name) [
      | inl spelt ↦
          let go = primary_again ts (c.name, column_rest (rest_of c)) rest (record { us = Word c.name ∷ []; vs = us; parts = parts; first = (refl, spelt); second = h }) nomark in
          let here : item_at (ts ++ rest) ≡ primary_at (ts ++ rest) = rw parts (item_is_primary c.name (us ++ rest) spelt) in
          subst (λ (read : Read Kind Item). Leads read (Ok (items.Column c, rest))) (sym here) go
      | inr unlike ↦
          let go = made_again IsColumn NoMark (λ d. items.Column d) column_at column_again ts c rest (us, parts, h) nomark in
          let here : item_at (ts ++ rest) ≡ made (λ d. items.Column d) column_at (ts ++ rest) = rw parts (item_is_column c.name (us ++ rest) unlike) in
          subst (λ (read : Read Kind Item). Leads read (Ok (items.Column c, rest))) (sym here) go
    ]

next_item_again : Again IsNextItem NoMark next_item_at
unfolding next_item_at
next_item_again ts o rest (us, parts, h) nomark =
    made_again (Two (IsSign Comma) IsItem) NoMark (λ x. x.1) (both (sign_at Comma) item_at) (both_again (IsSign Comma) IsItem Any NoMark (sign_at Comma) item_at (sign_again Comma) item_again (λ ws y r k l. tt)) ts (tt, o) rest
    (record { us = Sign Comma ∷ []; vs = us; parts = parts; first = refl; second = h }) nomark

next_item_starts : (us : List Kind) (o : Item) → IsNextItem us o → (t : Kind) × (vs : List Kind) × (us ≡ t ∷ vs) × (is_no_comma t ≡ false)
next_item_starts us o h = (Sign Comma, h.0, h.1, refl)

columns_series : (ts : List Kind) (columns : List Column) (names : List (List ℕ)) → HasColumns ts columns names → HasSeries IsNextItem ts columns names
columns_series _ _ _ none = inl (refl, refl)
columns_series _ _ _ (key {v} {w} {ts} {names} p q h) = inr (Word v ∷ Word w ∷ Sign Open ∷ ts ++ Sign Close ∷ [], refl, (v, Word w ∷ Sign Open ∷ ts ++ Sign Close ∷ [], refl, p, (w, ts, refl, q, h)))
columns_series _ _ _ (more {n} {rest} {us} {vs} {columns} {names} p h) = (Sign Comma ∷ Word n ∷ us, vs, refl, (Word n ∷ us, refl, (us, refl, p)), columns_series vs columns names h)

columns_again : Again Others (λ rest. NoComma rest × NoMark rest) columns_at
unfolding columns_at
columns_again us x rest h follows =
    series_again is_no_comma IsNextItem next_item_at NoMark NoMark next_item_again next_item_starts (λ r e g. g) (λ vs o r k. subst (λ (ws : List Kind). NoMark (ws ++ r)) (sym k.1) refl) us x rest (columns_series us x.0 x.1 h) follows

-- ---- tables

head_again : Again IsHead Any head_at
unfolding head_at
head_again us n rest (v, w, is, p, q) any = inl (rw (is, p, q) refl)

-- no mark stands behind a first column
unmarked_columns : (vs rest : List Kind) (columns : List Column) (names : List (List ℕ)) → HasColumns vs columns names → NoMark rest → NoMark (vs ++ rest)
unmarked_columns _ rest _ _ none g = g
unmarked_columns _ rest _ _ (key p q h) g = refl
unmarked_columns _ rest _ _ (more p h) g = refl

body_again : Again IsBody (λ rest. NoComma rest × NoMark rest) body_at
unfolding body_at
body_again ts ([], names) rest h follows = absurd h
body_again ts (c ∷ columns, names) rest (us, vs, parts, first, others) follows =
    made_again (Two IsColumn Others) (λ r. NoComma r × NoMark r) (λ x. (x.0 ∷ x.1.0, x.1.1)) (both column_at columns_at)
    (both_again IsColumn Others NoMark (λ r. NoComma r × NoMark r) column_at columns_at column_again columns_again (λ ws y r k l. unmarked_columns ws r y.0 y.1 k l.1)) ts (c, (columns, names)) rest
    (record { us = us; vs = vs; parts = parts; first = first; second = others }) follows

tail_again : Again IsTail Any tail_at
unfolding tail_at
tail_again us x rest is any = inl (rw is refl)

-- the parts of a draft
abbrev parts_of : Draft → List ℕ × (Columns × (Unit {0} × Unit {0}))
parts_of d = (d.table.name, ((d.table.columns, d.key), (tt, tt)))

abbrev IsDraft : List Kind → Draft → Type 0
IsDraft ts d = InTable ts (parts_of d)

table_parts : (ts : List Kind) (t : Table) → HasTable ts t → (d : Draft) × (table_of d ≡ t) × IsDraft ts d
table_parts _ _ (table {v} {w} {n} {m} {us} {vs} {rest} {columns} {names} p q h k) = (
  record { table = record { name = n; columns = column_of (m, rest) ∷ columns }; key = names },
  refl,
  record {
    us = Word v ∷ Word w ∷ Word n ∷ Sign Open ∷ [];
    vs = Word m ∷ us ++ (vs ++ Sign Close ∷ Sign Semicolon ∷ []);
    parts = refl;
    first = (v, w, refl, p, q);
    second = record {
      us = Word m ∷ us ++ vs;
      vs = Sign Close ∷ Sign Semicolon ∷ [];
      parts = sym (append_assoc (Word m ∷ us) vs (Sign Close ∷ Sign Semicolon ∷ []));
      first = (Word m ∷ us, vs, refl, (us, refl, h), k);
      second = refl;
    };
  },
)

draft_again : Again IsDraft Any draft_at
unfolding draft_at
draft_again ts d rest h any =
    made_again InTable Any draft_from (both head_at (both body_at tail_at))
    (both_again IsHead (Two IsBody IsTail) Any Any head_at (both body_at tail_at) head_again
    (both_again IsBody IsTail (λ r. NoComma r × NoMark r) Any body_at tail_at body_again tail_again (λ vs y r is l. subst (λ (ws : List Kind). NoComma (ws ++ r) × NoMark (ws ++ r)) (sym is) (refl, refl))) (λ ws y r k l. tt))
    ts (parts_of d) rest h tt

draft_starts : (us : List Kind) (d : Draft) → IsDraft us d → (k : Kind) × (vs : List Kind) × (us ≡ k ∷ vs) × (never k ≡ false)
draft_starts us d h =
    let (v, w, is, create, table_word) = h.first in
    (Word v, Word w ∷ Word d.table.name ∷ Sign Open ∷ h.vs, h.parts ∙ ap (λ (zs : List Kind). zs ++ h.vs) is, refl)

tables_many : (ts : List Kind) (tables : List Table) → HasSchema ts tables → (ds : List Draft) × (map table_of ds ≡ tables) × HasMany IsDraft ts ds
tables_many _ _ empty = ([], refl, refl)
tables_many _ _ (followed {us} {vs} {t} {tables} p h) =
    let (d, is, has) = table_parts us t p in
    let (ds, are, others) = tables_many vs tables h in
    (d ∷ ds, ap (λ (u : Table). u ∷ map table_of ds) is ∙ ap (λ (ts : List Table). t ∷ ts) are, (us, vs, refl, has, others))

drafts_again : Again (HasMany IsDraft) (λ rest. is_over never rest ≡ true) drafts_at
unfolding drafts_at
drafts_again = many_again never IsDraft Any draft_at draft_again draft_starts (λ r k. tt) (λ vs x r k. tt)

pub tables_again : Again HasSchema (λ rest. is_over never rest ≡ true) tables_at
unfolding tables_at
tables_again us tables rest h e =
    let (ds, are, has) = tables_many us tables h in
    let go = made_again (HasMany IsDraft) (λ r. is_over never r ≡ true) (map table_of) drafts_at drafts_again us ds rest has e in
    subst (λ (ts : List Table). Leads (made (map table_of) drafts_at (us ++ rest)) (Ok (ts, rest))) are go
