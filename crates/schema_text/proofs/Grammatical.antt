-- The readers of schemas are lawful for the grammar.
use Rattle.std.proofs.Common.{◌≡◌, ℕ, ◌<◌, Bool, true, false, cond, List, [], ◌∷◌, ◌++◌, length, map, Some, None, refl, sym, ap, subst, ◌∙◌, append_assoc, arith, inl, inr, ◌⊎◌}
use Rattle.std.specs.Prelude.{codes}
use Rattle.readers.specs.Reading.{token_at, both, made, either, many, IsToken, HasBoth, HasMany}
use Rattle.readers.proofs.Lawful.{Lawful, Inhabited, token_lawful, both_lawful, made_lawful, either_lawful}
use Rattle.readers.proofs.Many.{many_lawful}
use Rattle.qbs_base.specs.declared.scalar.Ty.{Ty}
use Rattle.qbs_base.specs.declared.scalar.Ty.TheVariants as ty
use Rattle.qbs_base.specs.declared.columns.Column.{Column}
use Rattle.qbs_base.specs.declared.columns.Table.{Table}
use Rattle.schema.specs.declared.token.Kind.{Kind}
use Rattle.schema.specs.declared.token.Kind.TheVariants.{Word, Digits, Sign, Stray}
use Rattle.schema.specs.declared.token.Sign.TheVariants.{Open, Close, Comma, Semicolon}
use Rattle.schema.specs.declared.draft.Mark.{Mark}
use Rattle.schema.specs.declared.draft.Mark.TheVariants.{NotNull, PrimaryKey}
use Rattle.schema.specs.declared.draft.Marks.{Marks}
use Rattle.schema.specs.declared.draft.Item.{Item}
use Rattle.schema.specs.declared.draft.Item.TheVariants as items
use Rattle.schema.specs.declared.draft.Draft.{Draft}
use Rattle.schema.specs.Marks.{no_marks, with_mark, Rest, column_of, table_of}
use Rattle.schema.specs.Words.{spells}
use Rattle.schema.specs.Series.{series, HasSeries}
use Rattle.schema.specs.Grammar.{HasType, long, truth, text, sized, HasMarks, unmarked, not_null, primary, HasRest, typed, HasNames, one, further, HasColumns, none, key, more, HasTable, table, HasSchema, empty, followed}
use Rattle.schema.specs.Reading.{is_word, name_at, word_at, sign_at, digits_at, is_long, type_of, type_in, sized_at, type_at, is_no_mark, mark_at, marked, marks_at, rest_at, is_no_comma, next_name_at, next_names_at, names_at, Behind, key_clause, column_rest, key_at, typed_at, named, column_at, primary_in, primary_at, item_at, next_item_at, Columns, columns_at, head_at, body_at, tail_at, draft_from, draft_at, never, drafts_at, tables_at}
use Rattle.schema_text.proofs.Serial.{Series, series_lawful}
use Rattle.schema_text.proofs.Single.{as_lawful, IsName, IsKeyword, IsSign, IsDigits, name_lawful, word_lawful, sign_lawful, digits_lawful, some_name, some_keyword, some_sign}

-- ---- types

chosen_type : (a b c : Bool) (t : Ty) → (if_type : cond a (Some ty.Long) (cond b (Some ty.Bool) (cond c (Some ty.Text) None)) ≡ Some t)
    → ((a ≡ true) × (t ≡ ty.Long)) ⊎ ((b ≡ true) × (t ≡ ty.Bool)) ⊎ ((c ≡ true) × (t ≡ ty.Text))
chosen_type true b c t e = inl (refl, cc)
chosen_type false true c t e = inr (inl (refl, cc))
chosen_type false false true t e = inr (inr (refl, cc))
chosen_type false false false t e = absurd cc

plain_type : (w : List ℕ) (t : Ty) → type_of w ≡ Some t → HasType (Word w ∷ []) t
plain_type w t e =
    elim (chosen_type (is_long w) (spells (codes "BOOLEAN") w) (spells (codes "TEXT") w) t e) [
      | inl h ↦ subst (λ (u : Ty). HasType (Word w ∷ []) u) (sym h.1) (long h.0)
      | inr h ↦ elim h [
        | inl k ↦ subst (λ (u : Ty). HasType (Word w ∷ []) u) (sym k.1) (truth k.0)
        | inr k ↦ subst (λ (u : Ty). HasType (Word w ∷ []) u) (sym k.1) (text k.0)
      ]
    ]

plain_has : (k : Kind) (t : Ty) → type_in k ≡ Some t → HasType (k ∷ []) t
plain_has (Word w) t e = plain_type w t e
plain_has Digits t e = absurd cc
plain_has (Sign s) t e = absurd cc
plain_has Stray t e = absurd cc

pub some_type : Inhabited HasType
some_type = record { tokens = Word (codes "TEXT") ∷ []; value = ty.Text; has = text refl }

-- the relation of two readers, one behind the other
abbrev pub Two : {A B : Type 0} → (List Kind → A → Type 0) → (List Kind → B → Type 0) → List Kind → A × B → Type 0
Two P Q = HasBoth P Q

varchar_self : spells (codes "VARCHAR") (codes "VARCHAR") ≡ true
varchar_self = refl

abbrev pub Sized : List Kind → Unit {0} × (Unit {0} × (Unit {0} × Unit {0})) → Type 0
Sized = Two (IsKeyword (codes "VARCHAR")) (Two (IsSign Open) (Two IsDigits (IsSign Close)))

sized_has : (ts : List Kind) (x : Unit {0} × (Unit {0} × (Unit {0} × Unit {0}))) → Sized ts x → HasType ts ty.Text
sized_has ts x h =
    let (w, is_word, spelt) = h.first in
    let open_is = h.second.first in
    let digits_is = h.second.second.first in
    let close_is = h.second.second.second in
    let all : ts ≡ Word w ∷ Sign Open ∷ Digits ∷ Sign Close ∷ [] = rw (h.parts, is_word, h.second.parts, open_is, h.second.second.parts, digits_is, close_is) refl in
    subst (λ (us : List Kind). HasType us ty.Text) (sym all) (sized spelt)

sized_lawful : Lawful HasType sized_at
unfolding sized_at
sized_lawful =
    let close = sign_lawful Close in
    let inner = both_lawful IsDigits (IsSign Close) digits_at (sign_at Close) digits_lawful close (some_sign Close) in
    let length = both_lawful (IsSign Open) (Two IsDigits (IsSign Close)) (sign_at Open) (both digits_at (sign_at Close)) (sign_lawful Open) inner (record { tokens = Digits ∷ Sign Close ∷ []; value = (tt, tt); has = record { us = Digits ∷ []; vs = Sign Close ∷ []; parts = refl; first = refl; second = refl } }) in
    let whole = both_lawful (IsKeyword (codes "VARCHAR")) (Two (IsSign Open) (Two IsDigits (IsSign Close))) (word_at (codes "VARCHAR")) (both (sign_at Open) (both digits_at (sign_at Close))) (word_lawful (codes "VARCHAR") refl) length
    (record { tokens = Sign Open ∷ Digits ∷ Sign Close ∷ []; value = (tt, (tt, tt)); has = record { us = Sign Open ∷ []; vs = Digits ∷ Sign Close ∷ []; parts = refl; first = refl; second = record { us = Digits ∷ []; vs = Sign Close ∷ []; parts = refl; first = refl; second = refl } } }) in
    made_lawful Sized HasType (λ _. ty.Text) (both (word_at (codes "VARCHAR")) (both (sign_at Open) (both digits_at (sign_at Close)))) sized_has whole

plain_lawful : Lawful HasType (token_at type_in)
plain_lawful =
    as_lawful (IsToken type_in) HasType (token_at type_in) (λ ts t h. subst (λ (us : List Kind). HasType us t) (sym h.1) (plain_has h.0 t h.2))
    (token_lawful type_in (record { tokens = Word (codes "TEXT") ∷ []; value = ty.Text; has = (Word (codes "TEXT"), refl, refl) }))

pub type_lawful : Lawful HasType type_at
unfolding type_at
type_lawful = either_lawful HasType (is_word (codes "VARCHAR")) sized_at (token_at type_in) sized_lawful plain_lawful

-- ---- marks

-- two keywords
abbrev pub Words : List ℕ → List ℕ → List Kind → Type 0
Words k l ts = (v : List ℕ) × (w : List ℕ) × (ts ≡ Word v ∷ Word w ∷ []) × (spells k v ≡ true) × (spells l w ≡ true)

abbrev pub IsMark : List Kind → Mark → Type 0
IsMark ts NotNull = Words (codes "NOT") (codes "NULL") ts
IsMark ts PrimaryKey = Words (codes "PRIMARY") (codes "KEY") ts

two_words : (k l : List ℕ) (ts : List Kind) (x : Unit {0} × Unit {0}) → Two (IsKeyword k) (IsKeyword l) ts x → Words k l ts
two_words k l ts x h = (h.first.0, h.second.0, rw (h.parts, h.first.1, h.second.1) refl, h.first.2, h.second.2)

mark_lawful : Lawful IsMark mark_at
unfolding mark_at
mark_lawful =
    let not = both_lawful (IsKeyword (codes "NOT")) (IsKeyword (codes "NULL")) (word_at (codes "NOT")) (word_at (codes "NULL")) (word_lawful (codes "NOT") refl) (word_lawful (codes "NULL") refl) (some_keyword (codes "NULL") refl) in
    let primary = both_lawful (IsKeyword (codes "PRIMARY")) (IsKeyword (codes "KEY")) (word_at (codes "PRIMARY")) (word_at (codes "KEY")) (word_lawful (codes "PRIMARY") refl) (word_lawful (codes "KEY") refl) (some_keyword (codes "KEY") refl) in
    either_lawful IsMark (is_word (codes "NOT")) (made (λ _. NotNull) (both (word_at (codes "NOT")) (word_at (codes "NULL")))) (made (λ _. PrimaryKey) (both (word_at (codes "PRIMARY")) (word_at (codes "KEY"))))
    (made_lawful (Two (IsKeyword (codes "NOT")) (IsKeyword (codes "NULL"))) IsMark (λ _. NotNull) (both (word_at (codes "NOT")) (word_at (codes "NULL"))) (two_words (codes "NOT") (codes "NULL")) not)
    (made_lawful (Two (IsKeyword (codes "PRIMARY")) (IsKeyword (codes "KEY"))) IsMark (λ _. PrimaryKey) (both (word_at (codes "PRIMARY")) (word_at (codes "KEY"))) (two_words (codes "PRIMARY") (codes "KEY")) primary)

mark_long : (ts : List Kind) (m : Mark) → IsMark ts m → 0 < length ts
mark_long ts NotNull w = omega (arith, ap length w.2)
mark_long ts PrimaryKey w = omega (arith, ap length w.2)

-- it doesn't matter which of two marks comes first
either_first : (marks : Marks) (m k : Mark) → with_mark (with_mark marks m) k ≡ with_mark (with_mark marks k) m
either_first marks NotNull NotNull = refl
either_first marks NotNull PrimaryKey = refl
either_first marks PrimaryKey NotNull = refl
either_first marks PrimaryKey PrimaryKey = refl

pub marked_first : (marks : Marks) (m : Mark) (ms : List Mark) → marked (with_mark marks m) ms ≡ with_mark (marked marks ms) m
marked_first marks m [] = refl
marked_first marks m (k ∷ ms) = ap (λ (x : Marks). marked x ms) (either_first marks m k) ∙ marked_first (with_mark marks k) m ms

marks_with : (ts us vs : List Kind) (m : Mark) (marks : Marks) → ts ≡ us ++ vs → IsMark us m → HasMarks vs marks → HasMarks ts (with_mark marks m)
marks_with ts us vs NotNull marks parts w others = subst (λ (zs : List Kind). HasMarks zs (with_mark marks NotNull)) (sym (parts ∙ ap (λ (ws : List Kind). ws ++ vs) w.2)) (not_null w.3 w.4 others)
marks_with ts us vs PrimaryKey marks parts w others = subst (λ (zs : List Kind). HasMarks zs (with_mark marks PrimaryKey)) (sym (parts ∙ ap (λ (ws : List Kind). ws ++ vs) w.2)) (primary w.3 w.4 others)

marks_have : (ts : List Kind) (ms : List Mark) → HasMany IsMark ts ms → HasMarks ts (marked no_marks ms)
marks_have ts [] h = subst (λ (zs : List Kind). HasMarks zs no_marks) (sym h) unmarked
marks_have ts (m ∷ ms) h = subst (λ (marks : Marks). HasMarks ts marks) (sym (marked_first no_marks m ms)) (marks_with ts h.0 h.1 m (marked no_marks ms) h.2 h.3 (marks_have h.1 ms h.4))

pub marks_lawful : Lawful HasMarks marks_at
unfolding marks_at
marks_lawful = made_lawful (HasMany IsMark) HasMarks (marked no_marks) (many is_no_mark mark_at) marks_have (many_lawful is_no_mark IsMark mark_at mark_lawful mark_long)

rest_has : (ts : List Kind) (x : Rest) → Two HasType HasMarks ts x → HasRest ts x
rest_has ts x h = subst (λ (us : List Kind). HasRest us x) (sym h.parts) (typed h.first h.second)

pub rest_lawful : Lawful HasRest rest_at
unfolding rest_at
rest_lawful = as_lawful (Two HasType HasMarks) HasRest (both type_at marks_at) rest_has (both_lawful HasType HasMarks type_at marks_at type_lawful marks_lawful (record { tokens = []; value = no_marks; has = unmarked }))

text_rest : HasRest (Word (codes "TEXT") ∷ []) (ty.Text, no_marks)
text_rest = typed {us = Word (codes "TEXT") ∷ []} {vs = []} (text refl) unmarked

pub some_rest : Inhabited HasRest
some_rest = record { tokens = Word (codes "TEXT") ∷ []; value = (ty.Text, no_marks); has = text_rest }

-- ---- names and the key clause

abbrev pub NextName : List Kind → List ℕ → Type 0
NextName ts n = ts ≡ Sign Comma ∷ Word n ∷ []

next_name_has : (ts : List Kind) (x : Unit {0} × List ℕ) → Two (IsSign Comma) IsName ts x → NextName ts x.1
next_name_has ts x h =
    let comma = h.first in
    let name = h.second in
    rw (h.parts, comma, name) refl

next_name_lawful : Lawful NextName next_name_at
unfolding next_name_at
next_name_lawful = made_lawful (Two (IsSign Comma) IsName) NextName (λ x. x.1) (both (sign_at Comma) name_at) next_name_has (both_lawful (IsSign Comma) IsName (sign_at Comma) name_at (sign_lawful Comma) name_lawful some_name)

next_name_long : (ts : List Kind) (n : List ℕ) → NextName ts n → 0 < length ts
next_name_long ts n h = omega (arith, ap length h)

abbrev pub NextNames : List Kind → List (List ℕ) → Type 0
NextNames = HasMany NextName

next_names_lawful : Lawful NextNames next_names_at
unfolding next_names_at
next_names_lawful = many_lawful is_no_comma NextName next_name_at next_name_lawful next_name_long

names_have : (n : List ℕ) (ts : List Kind) (ns : List (List ℕ)) → NextNames ts ns → HasNames (Word n ∷ ts) (n ∷ ns)
names_have n ts [] h = subst (λ (us : List Kind). HasNames (Word n ∷ us) (n ∷ [])) (sym h) one
names_have n ts (m ∷ ns) h =
    subst (λ (us : List Kind). HasNames (Word n ∷ us) (n ∷ m ∷ ns)) (sym (h.2 ∙ ap (λ (ws : List Kind). ws ++ h.1) h.3)) (further (names_have m h.1 ns h.4))

names_lawful : Lawful HasNames names_at
unfolding names_at
names_lawful =
    made_lawful (Two IsName NextNames) HasNames (λ x. x.0 ∷ x.1) (both name_at next_names_at)
    (λ ts x h. subst (λ (us : List Kind). HasNames us (x.0 ∷ x.1)) (sym (h.parts ∙ ap (λ (ws : List Kind). ws ++ h.vs) h.first)) (names_have x.0 h.vs x.1 h.second))
    (both_lawful IsName NextNames name_at next_names_at name_lawful next_names_lawful (record { tokens = []; value = []; has = refl }))

-- a key clause behind PRIMARY
abbrev pub Key : List Kind → List (List ℕ) → Type 0
Key ts names = (w : List ℕ) × (us : List Kind) × (ts ≡ Word w ∷ Sign Open ∷ us ++ Sign Close ∷ []) × (spells (codes "KEY") w ≡ true) × HasNames us names

-- what stands behind PRIMARY at a name's place
abbrev pub IsBehind : List Kind → Behind → Type 0
IsBehind ts (key_clause names) = Key ts names
IsBehind ts (column_rest rest) = HasRest ts rest

abbrev pub InKey : List Kind → Unit {0} × (Unit {0} × (List (List ℕ) × Unit {0})) → Type 0
InKey = Two (IsKeyword (codes "KEY")) (Two (IsSign Open) (Two HasNames (IsSign Close)))

key_has : (ts : List Kind) (x : Unit {0} × (Unit {0} × (List (List ℕ) × Unit {0}))) → InKey ts x → Key ts x.1.1.0
key_has ts x h =
    let (w, is_word, spelt) = h.first in
    let open_is = h.second.first in
    let close_is = h.second.second.second in
    let names = h.second.second.us in
    (w, names, h.parts ∙ ap (λ (us : List Kind). us ++ h.vs) is_word ∙ ap (λ (vs : List Kind). Word w ∷ vs) (h.second.parts ∙ ap (λ (us : List Kind). us ++ h.second.vs) open_is ∙ ap (λ (vs : List Kind). Sign Open ∷ vs) (h.second.second.parts ∙ ap (λ (vs : List Kind). names ++ vs) close_is)), spelt, h.second.second.first)

key_lawful : Lawful IsBehind key_at
unfolding key_at
key_lawful =
    let close = both_lawful HasNames (IsSign Close) names_at (sign_at Close) names_lawful (sign_lawful Close) (some_sign Close) in
    let list = both_lawful (IsSign Open) (Two HasNames (IsSign Close)) (sign_at Open) (both names_at (sign_at Close)) (sign_lawful Open) close
    (record { tokens = Word [] ∷ Sign Close ∷ []; value = ([] ∷ [], tt); has = record { us = Word [] ∷ []; vs = Sign Close ∷ []; parts = refl; first = one; second = refl } }) in
    let whole = both_lawful (IsKeyword (codes "KEY")) (Two (IsSign Open) (Two HasNames (IsSign Close))) (word_at (codes "KEY")) (both (sign_at Open) (both names_at (sign_at Close))) (word_lawful (codes "KEY") refl) list
    (record { tokens = Sign Open ∷ Word [] ∷ Sign Close ∷ []; value = (tt, ([] ∷ [], tt)); has = record { us = Sign Open ∷ []; vs = Word [] ∷ Sign Close ∷ []; parts = refl; first = refl; second = record { us = Word [] ∷ []; vs = Sign Close ∷ []; parts = refl; first = one; second = refl } } }) in
    made_lawful InKey IsBehind (λ x. key_clause x.1.1.0) (both (word_at (codes "KEY")) (both (sign_at Open) (both names_at (sign_at Close)))) key_has whole

typed_lawful : Lawful IsBehind typed_at
unfolding typed_at
typed_lawful = made_lawful HasRest IsBehind column_rest rest_at (λ ts rest h. h) rest_lawful

-- ---- columns

-- what stands behind the name of a column
abbrev pub rest_of : Column → Rest
rest_of c = (c.ty, record { not_null = c.not_null; primary = c.primary })

abbrev pub IsColumn : List Kind → Column → Type 0
IsColumn ts c = (us : List Kind) × (ts ≡ Word c.name ∷ us) × HasRest us (rest_of c)

column_has : (ts : List Kind) (x : List ℕ × Rest) → Two IsName HasRest ts x → IsColumn ts (column_of x)
column_has ts x h = (h.vs, h.parts ∙ ap (λ (us : List Kind). us ++ h.vs) h.first, h.second)

pub column_lawful : Lawful IsColumn column_at
unfolding column_at
column_lawful = made_lawful (Two IsName HasRest) IsColumn column_of (both name_at rest_at) column_has (both_lawful IsName HasRest name_at rest_at name_lawful rest_lawful some_rest)

-- what stands behind a comma
abbrev pub IsItem : List Kind → Item → Type 0
IsItem ts (items.Key names) = (v : List ℕ) × (us : List Kind) × (ts ≡ Word v ∷ us) × (spells (codes "PRIMARY") v ≡ true) × Key us names
IsItem ts (items.Column c) = IsColumn ts c

abbrev pub IsPrimary : List Kind → List ℕ → Type 0
IsPrimary ts n = (ts ≡ Word n ∷ []) × (spells (codes "PRIMARY") n ≡ true)

word_spelt : (w n : List ℕ) (b : Bool) → spells (codes "PRIMARY") w ≡ b → cond b (Some w) None ≡ Some n → (w ≡ n) × (spells (codes "PRIMARY") n ≡ true)
word_spelt w n true is e = let same : w ≡ n = cc in (same, subst (λ (v : List ℕ). spells (codes "PRIMARY") v ≡ true) same is)
word_spelt w n false is e = absurd cc

primary_is : (k : Kind) (n : List ℕ) → primary_in k ≡ Some n → IsPrimary (k ∷ []) n
primary_is (Word w) n e = let s = word_spelt w n (spells (codes "PRIMARY") w) refl e in (ap (λ (v : List ℕ). Word v ∷ []) s.0, s.1)
primary_is Digits n e = absurd cc
primary_is (Sign s) n e = absurd cc
primary_is Stray n e = absurd cc

primary_word_lawful : Lawful IsPrimary (token_at primary_in)
primary_word_lawful =
    as_lawful (IsToken primary_in) IsPrimary (token_at primary_in) (λ ts n h. let p = primary_is h.0 n h.2 in (h.1 ∙ p.0, p.1))
    (token_lawful primary_in (record { tokens = Word (codes "PRIMARY") ∷ []; value = codes "PRIMARY"; has = (Word (codes "PRIMARY"), refl, refl) }))

some_behind : Inhabited IsBehind
some_behind = record { tokens = Word (codes "TEXT") ∷ []; value = column_rest (ty.Text, no_marks); has = text_rest }

primary_has : (ts : List Kind) (x : List ℕ × Behind) → Two IsPrimary IsBehind ts x → IsItem ts (named x)
primary_has ts (n, key_clause names) h = (n, h.vs, h.parts ∙ ap (λ (us : List Kind). us ++ h.vs) h.first.0, h.first.1, h.second)
primary_has ts (n, column_rest rest) h = (h.vs, h.parts ∙ ap (λ (us : List Kind). us ++ h.vs) h.first.0, h.second)

primary_lawful : Lawful IsItem primary_at
unfolding primary_at
primary_lawful =
    made_lawful (Two IsPrimary IsBehind) IsItem named (both (token_at primary_in) (either (is_word (codes "KEY")) key_at typed_at)) primary_has
    (both_lawful IsPrimary IsBehind (token_at primary_in) (either (is_word (codes "KEY")) key_at typed_at) primary_word_lawful (either_lawful IsBehind (is_word (codes "KEY")) key_at typed_at key_lawful typed_lawful) some_behind)

item_lawful : Lawful IsItem item_at
unfolding item_at
item_lawful =
    either_lawful IsItem (is_word (codes "PRIMARY")) primary_at (made (λ c. items.Column c) column_at) primary_lawful
    (made_lawful IsColumn IsItem (λ c. items.Column c) column_at (λ ts c h. h) column_lawful)

-- a comma and what stands behind it
abbrev pub IsNextItem : List Kind → Item → Type 0
IsNextItem ts o = (us : List Kind) × (ts ≡ Sign Comma ∷ us) × IsItem us o

abbrev some_column : Column
some_column = column_of ([], (ty.Text, no_marks))

some_item : Inhabited IsItem
some_item = record { tokens = Word [] ∷ Word (codes "TEXT") ∷ []; value = items.Column some_column; has = (Word (codes "TEXT") ∷ [], refl, text_rest) }

pub next_item_lawful : Lawful IsNextItem next_item_at
unfolding next_item_at
next_item_lawful =
    made_lawful (Two (IsSign Comma) IsItem) IsNextItem (λ x. x.1) (both (sign_at Comma) item_at) (λ ts x h. (h.vs, h.parts ∙ ap (λ (us : List Kind). us ++ h.vs) h.first, h.second))
    (both_lawful (IsSign Comma) IsItem (sign_at Comma) item_at (sign_lawful Comma) item_lawful some_item)

pub next_item_long : (ts : List Kind) (o : Item) → IsNextItem ts o → 0 < length ts
next_item_long ts o h = omega (arith, ap length h.1)

columns_have : (ts : List Kind) (columns : List Column) (names : List (List ℕ)) → HasSeries IsNextItem ts columns names → HasColumns ts columns names
columns_have ts [] names (inl h) = subst (λ (ns : List (List ℕ)). HasColumns ts [] ns) (sym h.1) (subst (λ (us : List Kind). HasColumns us [] []) (sym h.0) none)
columns_have ts [] names (inr h) =
    let (v, us, is_word, spelt, in_key) = h.2 in
    let (w, inner, parts, key_spelt, has) = in_key in
    subst (λ (zs : List Kind). HasColumns zs [] names) (sym (h.1 ∙ ap (λ (zs : List Kind). Sign Comma ∷ zs) (is_word ∙ ap (λ (zs : List Kind). Word v ∷ zs) parts))) (key spelt key_spelt has)
columns_have ts (c ∷ columns) names h =
    let item = h.3 in
    subst (λ (zs : List Kind). HasColumns zs (c ∷ columns) names) (sym (h.2 ∙ ap (λ (zs : List Kind). zs ++ h.1) (item.1 ∙ ap (λ (zs : List Kind). Sign Comma ∷ zs) item.2.1)))
    (more item.2.2 (columns_have h.1 columns names h.4))

abbrev pub Others : List Kind → Columns → Type 0
Others ts x = HasColumns ts x.0 x.1

pub columns_lawful : Lawful Others columns_at
unfolding columns_at
columns_lawful =
    as_lawful (Series IsNextItem) Others (series is_no_comma next_item_at) (λ ts x h. columns_have ts x.0 x.1 h) (series_lawful is_no_comma IsNextItem next_item_at next_item_lawful next_item_long)

-- ---- tables

abbrev pub IsHead : List Kind → List ℕ → Type 0
IsHead ts n = (v : List ℕ) × (w : List ℕ) × (ts ≡ Word v ∷ Word w ∷ Word n ∷ Sign Open ∷ []) × (spells (codes "CREATE") v ≡ true) × (spells (codes "TABLE") w ≡ true)

abbrev InHead : List Kind → Unit {0} × (Unit {0} × (List ℕ × Unit {0})) → Type 0
InHead = Two (IsKeyword (codes "CREATE")) (Two (IsKeyword (codes "TABLE")) (Two IsName (IsSign Open)))

head_has : (ts : List Kind) (x : Unit {0} × (Unit {0} × (List ℕ × Unit {0}))) → InHead ts x → IsHead ts x.1.1.0
head_has ts x h =
    let name = h.second.second.first in
    let open_is = h.second.second.second in
    (h.first.0, h.second.first.0, rw (h.parts, h.first.1, h.second.parts, h.second.first.1, h.second.second.parts, name, open_is) refl, h.first.2, h.second.first.2)

pub head_lawful : Lawful IsHead head_at
unfolding head_at
head_lawful =
    let named_table = both_lawful IsName (IsSign Open) name_at (sign_at Open) name_lawful (sign_lawful Open) (some_sign Open) in
    let table_word = both_lawful (IsKeyword (codes "TABLE")) (Two IsName (IsSign Open)) (word_at (codes "TABLE")) (both name_at (sign_at Open)) (word_lawful (codes "TABLE") refl) named_table
    (record { tokens = Word [] ∷ Sign Open ∷ []; value = ([], tt); has = record { us = Word [] ∷ []; vs = Sign Open ∷ []; parts = refl; first = refl; second = refl } }) in
    let whole = both_lawful (IsKeyword (codes "CREATE")) (Two (IsKeyword (codes "TABLE")) (Two IsName (IsSign Open))) (word_at (codes "CREATE")) (both (word_at (codes "TABLE")) (both name_at (sign_at Open))) (word_lawful (codes "CREATE") refl) table_word
    (record { tokens = Word (codes "TABLE") ∷ Word [] ∷ Sign Open ∷ []; value = (tt, ([], tt)); has = record { us = Word (codes "TABLE") ∷ []; vs = Word [] ∷ Sign Open ∷ []; parts = refl; first = (codes "TABLE", refl, refl); second = record { us = Word [] ∷ []; vs = Sign Open ∷ []; parts = refl; first = refl; second = refl } } }) in
    made_lawful InHead IsHead (λ x. x.1.1.0) (both (word_at (codes "CREATE")) (both (word_at (codes "TABLE")) (both name_at (sign_at Open)))) head_has whole

-- all columns of a table, and the names of its key clause
abbrev pub IsBody : List Kind → Columns → Type 0
IsBody ts ([], names) = ⊥
IsBody ts (c ∷ columns, names) = (us : List Kind) × (vs : List Kind) × (ts ≡ us ++ vs) × IsColumn us c × HasColumns vs columns names

pub body_lawful : Lawful IsBody body_at
unfolding body_at
body_lawful =
    made_lawful (Two IsColumn Others) IsBody (λ x. (x.0 ∷ x.1.0, x.1.1)) (both column_at columns_at) (λ ts x h. (h.us, h.vs, h.parts, h.first, h.second))
    (both_lawful IsColumn Others column_at columns_at column_lawful columns_lawful (record { tokens = []; value = ([], []); has = none }))

abbrev pub IsTail : List Kind → Unit {0} × Unit {0} → Type 0
IsTail ts x = ts ≡ Sign Close ∷ Sign Semicolon ∷ []

pub tail_lawful : Lawful IsTail tail_at
unfolding tail_at
tail_lawful =
    as_lawful (Two (IsSign Close) (IsSign Semicolon)) IsTail (both (sign_at Close) (sign_at Semicolon)) (λ ts x h. let close_is = h.first in let semicolon_is = h.second in rw (h.parts, close_is, semicolon_is) refl)
    (both_lawful (IsSign Close) (IsSign Semicolon) (sign_at Close) (sign_at Semicolon) (sign_lawful Close) (sign_lawful Semicolon) (some_sign Semicolon))

abbrev pub InTable : List Kind → List ℕ × (Columns × (Unit {0} × Unit {0})) → Type 0
InTable = Two IsHead (Two IsBody IsTail)

-- the table that a draft declares
abbrev pub Declares : List Kind → Draft → Type 0
Declares ts draft = HasTable ts (table_of draft)

table_has : (ts : List Kind) (x : List ℕ × (Columns × (Unit {0} × Unit {0}))) → InTable ts x → Declares ts (draft_from x)
table_has ts (n, (([], names), u)) h = absurd h.second.first
table_has ts (n, ((c ∷ columns, names), u)) h =
    let (v, w, head_is, create, table_word) = h.first in
    let (us, vs, body_is, column, others) = h.second.first in
    let tail_is = h.second.second in
    let all : ts ≡ Word v ∷ Word w ∷ Word n ∷ Sign Open ∷ Word c.name ∷ column.0 ++ (vs ++ Sign Close ∷ Sign Semicolon ∷ []) =
    h.parts ∙ ap (λ (zs : List Kind). zs ++ h.vs) head_is
    ∙ ap (λ (zs : List Kind). Word v ∷ Word w ∷ Word n ∷ Sign Open ∷ zs) (h.second.parts ∙ ap (λ (zs : List Kind). h.second.us ++ zs) tail_is ∙ ap (λ (zs : List Kind). zs ++ Sign Close ∷ Sign Semicolon ∷ []) (body_is ∙ ap (λ (zs : List Kind). zs ++ vs) column.1) ∙ append_assoc (Word c.name ∷ column.0) vs (Sign Close ∷ Sign Semicolon ∷ [])) in
    subst (λ (zs : List Kind). Declares zs (draft_from (n, ((c ∷ columns, names), u)))) (sym all) (table create table_word column.2 others)

some_tail : Inhabited IsTail
some_tail = record { tokens = Sign Close ∷ Sign Semicolon ∷ []; value = (tt, tt); has = refl }

some_body : Inhabited (Two IsBody IsTail)
some_body = record {
  tokens = Word [] ∷ Word (codes "TEXT") ∷ Sign Close ∷ Sign Semicolon ∷ [];
  value = ((some_column ∷ [], []), (tt, tt));
  has = record { us = Word [] ∷ Word (codes "TEXT") ∷ []; vs = Sign Close ∷ Sign Semicolon ∷ []; parts = refl; first = (Word [] ∷ Word (codes "TEXT") ∷ [], [], refl, (Word (codes "TEXT") ∷ [], refl, text_rest), none); second = refl };
}

pub draft_lawful : Lawful Declares draft_at
unfolding draft_at
draft_lawful =
    made_lawful InTable Declares draft_from (both head_at (both body_at tail_at)) table_has
    (both_lawful IsHead (Two IsBody IsTail) head_at (both body_at tail_at) head_lawful (both_lawful IsBody IsTail body_at tail_at body_lawful tail_lawful some_tail) some_body)

table_long : (ts : List Kind) (t : Table) → HasTable ts t → 0 < length ts
table_long _ _ (table create table_word rest columns) = omega arith

schema_has : (ts : List Kind) (drafts : List Draft) → HasMany Declares ts drafts → HasSchema ts (map table_of drafts)
schema_has ts [] h = subst (λ (zs : List Kind). HasSchema zs []) (sym h) empty
schema_has ts (d ∷ drafts) h = subst (λ (zs : List Kind). HasSchema zs (map table_of (d ∷ drafts))) (sym h.2) (followed h.3 (schema_has h.1 drafts h.4))

drafts_lawful : Lawful (HasMany Declares) drafts_at
unfolding drafts_at
drafts_lawful = many_lawful never Declares draft_at draft_lawful (λ ts d h. table_long ts (table_of d) h)

pub tables_lawful : Lawful HasSchema tables_at
unfolding tables_at
tables_lawful = made_lawful (HasMany Declares) HasSchema (map table_of) drafts_at schema_has drafts_lawful
