-- Queries that tokens have by the grammar are read from them.
use Rattle.std.proofs.Common.{◌≡◌, ℕ, zero, suc, ◌<◌, ◌≤◌, Bool, true, false, ◌||◌, List, [], ◌∷◌, ◌++◌, length, Option, Some, None, codes, ℤ, refl, sym, ap, ◌∙◌, arith, append_assoc, length-append, lit<}
use Rattle.std.proofs.lemmas.List.{append-nil}
use Rattle.std.specs.Str.{str_eq_ignore_ascii_case}
use Rattle.sql_ast.specs.Grammar.{spelled, HasCol, plain_col, dotted_col, HasLong, positive_long, negative_long, HasItem, whole, whole_of, col_item, HasGroup, no_group, group_by, HasKey, up, ascending, descending, least_key, HasKeys, last_key, more_keys, HasOrder, no_order, order_by, HasLimit, no_limit, limited, greatest, least, HasCounted, count, sum, best, HasExists, is_some, is_none, HasSource, source, HasWritten, listing, number, truth}
use Rattle.sql_ast.specs.Names.{◌>>=◌}
use Rattle.sql_ast.specs.Reader.{Read, given, after_close, after_comma, col_at, long_at, listed_at, source_at, enclosed_at, one_at, item_at, group_at, direction_at, least_at, key_at, order_at, limit_at, listing_at, counted_from, total_named, total_from, exists_at, number_at, selected_at, query_at, ended, query_in, condition_at}
use Rattle.sql_ast.specs.Tokens.{Token, Word, Digits, Open, Close, Comma, Dot, Star}
use Rattle.sql_ast.specs.Written.{WrittenCol, WrittenPart, WrittenCondition, WrittenFilter, WrittenItem, WrittenKey, WrittenKind, Count, Sum, Max, Min, WrittenListing, WrittenNumber, WrittenTruth, WrittenQuery, Listing, Number, Truth}
use Rattle.sql_ast.specs.Written as written
use Rattle.sql_ast.proofs.Conditions.{Conditions, Source, closing, source_again}
use Rattle.sql_ast.proofs.Parts.{taken, col_again, listed_last, listed_more, more_room}
use Rattle.sql_ast.proofs.Words.{apart, free_not, ends, no_comma, ends_no_dot, no_word, after_source, after_group, after_keys}

-- ---- keys

abbrev up_key : WrittenCol → WrittenKey
up_key col = record { least = false; col = col; down = false }

least_stop : (t : Token) (rest : List Token) → ends after_keys rest ≡ true → least_at (t ∷ rest) ≡ None
least_stop t [] h = refl
least_stop t (Open ∷ ts) h = absurd cc
least_stop t (u ∷ ts) h = refl

key_read : (ts rest : List Token) (col : WrittenCol) → least_at ts ≡ None → col_at ts ≡ taken col rest → key_at ts ≡ direction_at col rest
key_read ts rest col none read =
    ap (λ (o : Option (List Token)). given o (λ us. col_at us >>= λ x. after_close x.1 >>= λ vs. taken {A = WrittenKey} (record { least = true; col = x.0; down = false }) vs) (col_at ts >>= λ x. direction_at x.0 x.1)) none
    ∙ ap (λ (r : Read WrittenCol). r >>= λ x. direction_at x.0 x.1) read

direction_stop : (col : WrittenCol) (rest : List Token) → ends after_keys rest ≡ true → direction_at col rest ≡ taken (up_key col) rest
direction_stop col rest stop = rw (no_word (codes "ASC") after_keys rest stop refl, no_word (codes "DESC") after_keys rest stop refl) refl

key_again : (us : List Token) (key : WrittenKey) → HasKey us key → (rest : List Token) → ends after_keys rest ≡ true → key_at (us ++ rest) ≡ taken key rest
key_again us key (up {col = col} (plain_col {name = name} f)) rest stop = key_read (Word name ∷ rest) rest col (least_stop (Word name) rest stop) (col_again (Word name ∷ []) col (plain_col f) rest (ends_no_dot after_keys rest stop)) ∙ direction_stop col rest stop
key_again us key (up {col = col} (dotted_col {alias = a} {name = name} f g)) rest stop = key_read (Word a ∷ Dot ∷ Word name ∷ rest) rest col refl (col_again (Word a ∷ Dot ∷ Word name ∷ []) col (dotted_col f g) rest (ends_no_dot after_keys rest stop)) ∙ direction_stop col rest stop
key_again us key (ascending {col = col} (plain_col {name = name} f) (spelled {bs = w} e)) rest stop = key_read (Word name ∷ Word w ∷ rest) (Word w ∷ rest) col refl (col_again (Word name ∷ []) col (plain_col f) (Word w ∷ rest) refl) ∙ rw e refl
key_again us key (ascending {col = col} (dotted_col {alias = a} {name = name} f g) (spelled {bs = w} e)) rest stop = key_read (Word a ∷ Dot ∷ Word name ∷ Word w ∷ rest) (Word w ∷ rest) col refl (col_again (Word a ∷ Dot ∷ Word name ∷ []) col (dotted_col f g) (Word w ∷ rest) refl) ∙ rw e refl
key_again us key (descending {col = col} (plain_col {name = name} f) (spelled {bs = w} e)) rest stop = key_read (Word name ∷ Word w ∷ rest) (Word w ∷ rest) col refl (col_again (Word name ∷ []) col (plain_col f) (Word w ∷ rest) refl) ∙ rw (apart w (codes "DESC") (codes "ASC") e refl, e) refl
key_again us key (descending {col = col} (dotted_col {alias = a} {name = name} f g) (spelled {bs = w} e)) rest stop = key_read (Word a ∷ Dot ∷ Word name ∷ Word w ∷ rest) (Word w ∷ rest) col refl (col_again (Word a ∷ Dot ∷ Word name ∷ []) col (dotted_col f g) (Word w ∷ rest) refl) ∙ rw (apart w (codes "DESC") (codes "ASC") e refl, e) refl
key_again us key (least_key {ts = ts} {col = col} (spelled {bs = w} e) h) rest stop =
    rw e
    (ap (λ (r : List Token). col_at r >>= λ x. after_close x.1 >>= λ vs. taken {A = WrittenKey} (record { least = true; col = x.0; down = false }) vs) (append_assoc ts (Close ∷ []) rest)
    ∙ ap (λ (r : Read WrittenCol). r >>= λ x. after_close x.1 >>= λ vs. taken {A = WrittenKey} (record { least = true; col = x.0; down = false }) vs) (col_again ts col h (Close ∷ rest) refl))

col_takes : (us : List Token) (col : WrittenCol) → HasCol us col → 0 < length us
col_takes us col (plain_col f) = lit< tt
col_takes us col (dotted_col f g) = lit< tt

key_takes : (us : List Token) (key : WrittenKey) → HasKey us key → 0 < length us
key_takes us key (up {col = col} h) = col_takes us col h
key_takes us key (ascending {ts = ts} h (spelled {bs = w} e)) = omega (arith, length-append ts (Word w ∷ []))
key_takes us key (descending {ts = ts} h (spelled {bs = w} e)) = omega (arith, length-append ts (Word w ∷ []))
key_takes us key (least_key {ts = ts} (spelled e) h) = omega (arith, length-append ts (Close ∷ []))

keys_again : (us : List Token) (keys : List WrittenKey) → HasKeys us keys → (n : ℕ) → length us ≤ n → (rest : List Token) → ends after_keys rest ≡ true → no_comma rest ≡ true → listed_at key_at n (us ++ rest) ≡ taken keys rest
keys_again us keys (last_key {key = key} h) n room rest stop last = listed_last key_at n us key rest (key_takes us key h) room (key_again us key h rest stop) last
keys_again us keys (more_keys {us = xs} {vs = ys} {key = key} {keys = later} h k) zero room rest stop last = absurd (omega (arith, room, length-append xs (Comma ∷ ys)))
keys_again us keys (more_keys {us = xs} {vs = ys} {key = key} {keys = later} h k) (suc n) room rest stop last =
    listed_more key_at n xs ys key later rest (key_again xs key h (Comma ∷ (ys ++ rest)) refl) (keys_again ys later k n (more_room xs ys n room) rest stop last)

-- ---- GROUP BY, ORDER BY and LIMIT

group_again : (us : List Token) (group : Option WrittenCol) → HasGroup us group → (rest : List Token) → ends after_group rest ≡ true → group_at (us ++ rest) ≡ taken group rest
group_again us group no_group rest stop = rw (no_word (codes "GROUP") after_group rest stop refl) refl
group_again us group (group_by {ts = ts} {col = col} (spelled e) (spelled k) h) rest stop = rw (e, k) (ap (λ (r : Read WrittenCol). r >>= λ x. taken {A = Option WrittenCol} (Some x.0) x.1) (col_again ts col h rest (ends_no_dot after_group rest stop)))

order_again : (us : List Token) (keys : List WrittenKey) → HasOrder us keys → (rest : List Token) → ends after_keys rest ≡ true → no_comma rest ≡ true → order_at (us ++ rest) ≡ taken keys rest
order_again us keys no_order rest stop last = rw (no_word (codes "ORDER") after_keys rest stop refl) refl
order_again us keys (order_by {ts = ts} (spelled e) (spelled k) h) rest stop last = rw (e, k) (keys_again ts keys h (length (ts ++ rest)) (omega (arith, length-append ts rest)) rest stop last)

limit_again : (us : List Token) (limit : Option ℕ) → HasLimit us limit → limit_at us ≡ taken limit []
limit_again us limit no_limit = refl
limit_again us limit (limited (spelled e) h) = rw (e, h) refl

limit_follows : (us : List Token) (limit : Option ℕ) → HasLimit us limit → (ends after_keys us ≡ true) × (no_comma us ≡ true)
limit_follows us limit no_limit = (refl, refl)
limit_follows us limit (limited (spelled e) h) = (rw e refl, refl)

order_follows : (us : List Token) (keys : List WrittenKey) → HasOrder us keys → (rest : List Token) → ends after_keys rest ≡ true → ends after_group (us ++ rest) ≡ true
order_follows us keys no_order [] stop = refl
order_follows us keys no_order (Word w ∷ ts) stop = limit_too (str_eq_ignore_ascii_case w (codes "ORDER")) (str_eq_ignore_ascii_case w (codes "LIMIT")) stop
  where
    limit_too : (a b : Bool) → (b || false) ≡ true → (a || (b || false)) ≡ true
    limit_too true b h = refl
    limit_too false b h = h
order_follows us keys no_order (t ∷ ts) stop = stop
order_follows us keys (order_by (spelled e) (spelled k) h) rest stop = rw e refl

order_no_comma : (us : List Token) (keys : List WrittenKey) → HasOrder us keys → (rest : List Token) → no_comma rest ≡ true → no_comma (us ++ rest) ≡ true
order_no_comma us keys no_order rest last = last
order_no_comma us keys (order_by (spelled e) (spelled k) h) rest last = refl

group_follows : (us : List Token) (group : Option WrittenCol) → HasGroup us group → (rest : List Token) → ends after_group rest ≡ true → ends after_source (us ++ rest) ≡ true
group_follows us group no_group [] stop = refl
group_follows us group no_group (Word w ∷ ts) stop = later (str_eq_ignore_ascii_case w (codes "GROUP")) (ends after_group (Word w ∷ ts)) stop
  where
    later : (a b : Bool) → b ≡ true → (a || b) ≡ true
    later true b h = refl
    later false b h = h
group_follows us group no_group (t ∷ ts) stop = stop
group_follows us group (group_by (spelled e) (spelled k) h) rest stop = rw e refl

group_no_comma : (us : List Token) (group : Option WrittenCol) → HasGroup us group → (rest : List Token) → no_comma rest ≡ true → no_comma (us ++ rest) ≡ true
group_no_comma us group no_group rest last = last
group_no_comma us group (group_by (spelled e) (spelled k) h) rest last = refl

-- ---- list queries

-- an item before FROM: it is read, and nothing else begins so
pub record Itemized (is ts : List Token) (item : WrittenItem) (group : Conditions) : Type 0 where
  pub read : item_at (is ++ ts) ≡ taken item ts
  pub no_exists : exists_at (is ++ ts) ≡ None
  pub no_number : number_at group (is ++ ts) ≡ None

itemized : (is : List Token) (item : WrittenItem) → HasItem is item → (w : List ℕ) (ts : List Token) (group : Conditions) → Itemized is (Word w ∷ ts) item group
itemized is item whole w ts group = record { read = refl; no_exists = refl; no_number = refl }
itemized is item (whole_of {alias = a} f) w ts group = record { read = rw f refl; no_exists = rw (free_not a 10 (lit< tt) f, free_not a 9 (lit< tt) f) refl; no_number = refl }
itemized is item (col_item {col = col} (plain_col {name = name} f)) w ts group = record {
  read = ap (λ (r : Read WrittenCol). r >>= λ x. taken (written.Column x.0) x.1) (col_again (Word name ∷ []) col (plain_col f) (Word w ∷ ts) refl);
  no_exists = rw (free_not name 10 (lit< tt) f, free_not name 9 (lit< tt) f) refl;
  no_number = refl;
}
itemized is item (col_item {col = col} (dotted_col {alias = a} {name = name} f g)) w ts group = record {
  read = ap (λ (r : Read WrittenCol). r >>= λ x. taken (written.Column x.0) x.1) (col_again (Word a ∷ Dot ∷ Word name ∷ []) col (dotted_col f g) (Word w ∷ ts) refl);
  no_exists = rw (free_not a 10 (lit< tt) f, free_not a 9 (lit< tt) f) refl;
  no_number = refl;
}

abbrev listing_of : WrittenItem → List WrittenPart → WrittenFilter → Option WrittenCol → List WrittenKey → Option ℕ → WrittenQuery
listing_of item parts filter_ group keys limit = Listing (record { item = item; from = parts; filter = filter_; group = group; keys = keys; limit = limit })

pub listing_read : (g : Conditions) (ts us vs ws : List Token) (item : WrittenItem) (ps : List WrittenPart) (f : WrittenFilter) (group : Option WrittenCol) (keys : List WrittenKey) (limit : Option ℕ) (xs : List Token)
    → item_at xs ≡ taken item ts → source_at g ts ≡ taken {A = Source} (ps, f) us → group_at us ≡ taken group vs → order_at vs ≡ taken keys ws → limit_at ws ≡ taken limit [] → listing_at g xs ≡ taken (listing_of item ps f group keys limit) []
listing_read g ts us vs ws item ps f group keys limit xs a b c d e =
    ap (λ (r : Read WrittenItem). r >>= λ a. source_at g a.1 >>= λ b. group_at b.1 >>= λ c. order_at c.1 >>= λ d. limit_at d.1 >>= λ e. taken (listing_of a.0 b.0.0 b.0.1 c.0 d.0 e.0) e.1) a
    ∙ ap (λ (r : Read Source). r >>= λ b. group_at b.1 >>= λ c. order_at c.1 >>= λ d. limit_at d.1 >>= λ e. taken (listing_of item b.0.0 b.0.1 c.0 d.0 e.0) e.1) b
    ∙ ap (λ (r : Read (Option WrittenCol)). r >>= λ c. order_at c.1 >>= λ d. limit_at d.1 >>= λ e. taken (listing_of item ps f c.0 d.0 e.0) e.1) c
    ∙ ap (λ (r : Read (List WrittenKey)). r >>= λ d. limit_at d.1 >>= λ e. taken (listing_of item ps f group d.0 e.0) e.1) d
    ∙ ap (λ (r : Read (Option ℕ)). r >>= λ e. taken (listing_of item ps f group keys e.0) e.1) e

-- what is selected is a list
listed_query : (g : Conditions) (us : List Token) (q : WrittenQuery) → exists_at us ≡ None → number_at g us ≡ None → listing_at g us ≡ taken q [] → given (exists_at us) (λ x. enclosed_at (one_at g) x.1 >>= λ y. taken (Truth (record { negated = x.0; from = y.0.0; filter = y.0.1 })) y.1) (selected_at g us) ≡ taken q []
listed_query g us q none other read =
    ap (λ (o : Read Bool). given o (λ x. enclosed_at (one_at g) x.1 >>= λ y. taken (Truth (record { negated = x.0; from = y.0.0; filter = y.0.1 })) y.1) (selected_at g us)) none
    ∙ ap (λ (o : Option (Read WrittenQuery)). given o (λ read. read) (listing_at g us)) other
    ∙ read

-- ---- number queries

source_alone : (us : List Token) (ps : List WrittenPart) (f : WrittenFilter) → HasSource us ps f → (n : ℕ) → length us ≤ n → source_at (condition_at n) us ≡ taken {A = Source} (ps, f) []
source_alone us ps f h n room = ap (source_at (condition_at n)) (sym (append-nil us)) ∙ source_again us ps f h n room [] refl refl

long_again : (t : Token) (n : ℤ) → HasLong t n → (rest : List Token) → long_at (t ∷ rest) ≡ taken n rest
long_again t n (positive_long e) rest = rw e refl
long_again t n (negative_long e) rest = rw e refl

abbrev number_of : WrittenKind → List WrittenPart → WrittenFilter → WrittenQuery
number_of kind ps f = Number (record { kind = kind; from = ps; filter = f })

abbrev chosen_number : Conditions → List Token → Option (Read WrittenQuery) → Read WrittenQuery
chosen_number g us o = given o (λ read. read) (listing_at g us)

-- what is selected is a number
counted_query : (g : Conditions) (us : List Token) (q : WrittenQuery) → exists_at us ≡ None → selected_at g us ≡ taken q [] → given (exists_at us) (λ x. enclosed_at (one_at g) x.1 >>= λ y. taken (Truth (record { negated = x.0; from = y.0.0; filter = y.0.1 })) y.1) (selected_at g us) ≡ taken q []
counted_query g us q none read =
    ap (λ (o : Read Bool). given o (λ x. enclosed_at (one_at g) x.1 >>= λ y. taken (Truth (record { negated = x.0; from = y.0.0; filter = y.0.1 })) y.1) (selected_at g us)) none
    ∙ read

count_again : (g : Conditions) (c : List ℕ) (ts : List Token) (part : WrittenPart) (f : WrittenFilter) → str_eq_ignore_ascii_case c (codes "COUNT") ≡ true → source_at g ts ≡ taken {A = Source} (part ∷ [], f) [] → selected_at g (Word c ∷ Open ∷ Star ∷ Close ∷ ts) ≡ taken (number_of Count (part ∷ []) f) []
count_again g c ts part f e read = rw e (ap (λ (r : Read Source). r >>= λ x. counted_from Count x.0 x.1) read)

abbrev Make : Type 0
Make = WrittenCol → ℤ → WrittenKind

abbrev after_source_of : WrittenKind → Read Source → Read WrittenQuery
after_source_of kind r = r >>= λ z. total_from kind z.0 z.1

abbrev after_long : Conditions → Make → WrittenCol → Read ℤ → Read WrittenQuery
after_long g make col r = r >>= λ y. after_close y.1 >>= λ vs. after_source_of (make col y.0) (source_at g vs)

abbrev after_col : Conditions → Make → Read WrittenCol → Read WrittenQuery
after_col g make r = r >>= λ x. after_comma x.1 >>= λ us. after_long g make x.0 (long_at us)

total_again : (g : Conditions) (c : List ℕ) (s t : Token) (cs ts : List Token) (make : Make) (col : WrittenCol) (n : ℤ) (ps : List WrittenPart) (f : WrittenFilter) → str_eq_ignore_ascii_case c (codes "COALESCE") ≡ true → total_named s ≡ Some make → HasCol cs col → HasLong t n → source_at g ts ≡ taken {A = Source} (ps, f) []
    → selected_at g (Word c ∷ Open ∷ s ∷ Open ∷ (cs ++ Close ∷ Comma ∷ t ∷ Close ∷ ts)) ≡ total_from (make col n) (ps, f) []
total_again g c s t cs ts make col n ps f e named h k read =
    rw (apart c (codes "COALESCE") (codes "COUNT") e refl, e)
    (ap (λ (o : Option Make). o >>= λ m. after_col g m (closing (col_at (cs ++ Close ∷ Comma ∷ t ∷ Close ∷ ts)))) named
    ∙ ap (λ (r : Read WrittenCol). after_col g make (closing r)) (col_again cs col h (Close ∷ Comma ∷ t ∷ Close ∷ ts) refl)
    ∙ ap (after_long g make col) (long_again t n k (Close ∷ ts))
    ∙ ap (after_source_of (make col n)) read)

counted_again : (us : List Token) (q : WrittenNumber) → HasCounted us q → (n : ℕ) → length us ≤ n → (exists_at us ≡ None) × (selected_at (condition_at n) us ≡ taken (Number q) [])
counted_again us q (count {ts = ts} {part = part} {where_ = f} (spelled {bs = c} e) s) n room =
    (rw (apart c (codes "COUNT") (codes "EXISTS") e refl, apart c (codes "COUNT") (codes "NOT") e refl) refl, count_again (condition_at n) c ts part f e (source_alone ts (part ∷ []) f s n (omega (arith, room))))
counted_again us q (sum {t = t} {cs = cs} {ts = ts} {col = col} {n = m} {part = part} {where_ = f} (spelled {bs = c} e) (spelled {bs = w} k) h l s) n room = (
  rw (apart c (codes "COALESCE") (codes "EXISTS") e refl, apart c (codes "COALESCE") (codes "NOT") e refl) refl,
  total_again (condition_at n) c (Word w) t cs ts Sum col m (part ∷ []) f e (rw k refl) h l (source_alone ts (part ∷ []) f s n (omega (arith, room, length-append cs (Close ∷ Comma ∷ t ∷ Close ∷ ts)))),
)
counted_again us q (best {t = t} {cs = cs} {ts = ts} {col = col} {n = m} {parts = ps} {where_ = f} (spelled {bs = c} e) (greatest (spelled {bs = w} k)) h l s) n room = (
  rw (apart c (codes "COALESCE") (codes "EXISTS") e refl, apart c (codes "COALESCE") (codes "NOT") e refl) refl,
  total_again (condition_at n) c (Word w) t cs ts Max col m ps f e (rw (apart w (codes "MAX") (codes "SUM") k refl, k) refl) h l (source_alone ts ps f s n (omega (arith, room, length-append cs (Close ∷ Comma ∷ t ∷ Close ∷ ts)))),
)
counted_again us q (best {t = t} {cs = cs} {ts = ts} {col = col} {n = m} {parts = ps} {where_ = f} (spelled {bs = c} e) (least (spelled {bs = w} k)) h l s) n room = (
  rw (apart c (codes "COALESCE") (codes "EXISTS") e refl, apart c (codes "COALESCE") (codes "NOT") e refl) refl,
  total_again (condition_at n) c (Word w) t cs ts Min col m ps f e (rw (apart w (codes "MIN") (codes "SUM") k refl, apart w (codes "MIN") (codes "MAX") k refl, k) refl) h l (source_alone ts ps f s n (omega (arith, room, length-append cs (Close ∷ Comma ∷ t ∷ Close ∷ ts)))),
)

-- ---- truth queries

exists_again : (us : List Token) (negated : Bool) → HasExists us negated → (rest : List Token) → exists_at (us ++ rest) ≡ taken negated rest
exists_again us negated (is_some (spelled e)) rest = rw e refl
exists_again us negated (is_none (spelled {bs = w} e) (spelled k)) rest = rw (apart w (codes "NOT") (codes "EXISTS") e refl, e, k) refl

abbrev truth_of : Bool → Read Source → Read WrittenQuery
truth_of negated r = r >>= λ y. taken (Truth (record { negated = negated; from = y.0.0; filter = y.0.1 })) y.1

truth_query : (g : Conditions) (es ts : List Token) (i : List ℕ) (negated : Bool) (ps : List WrittenPart) (f : WrittenFilter) → HasExists es negated → str_eq_ignore_ascii_case i (codes "SELECT") ≡ true → source_at g (ts ++ Close ∷ []) ≡ taken {A = Source} (ps, f) (Close ∷ [])
    → given (exists_at ((es ++ Open ∷ Word i ∷ Digits (codes "1") ∷ ts) ++ Close ∷ [])) (λ x. truth_of x.0 (enclosed_at (one_at g) x.1)) (selected_at g ((es ++ Open ∷ Word i ∷ Digits (codes "1") ∷ ts) ++ Close ∷ [])) ≡ taken (Truth (record { negated = negated; from = ps; filter = f })) []
truth_query g es ts i negated ps f h k read =
    ap (λ (us : List Token). given (exists_at us) (λ x. truth_of x.0 (enclosed_at (one_at g) x.1)) (selected_at g us)) (append_assoc es (Open ∷ Word i ∷ Digits (codes "1") ∷ ts) (Close ∷ []))
    ∙ ap (λ (o : Read Bool). given o (λ x. truth_of x.0 (enclosed_at (one_at g) x.1)) (selected_at g (es ++ (Open ∷ Word i ∷ Digits (codes "1") ∷ (ts ++ Close ∷ []))))) (exists_again es negated h (Open ∷ Word i ∷ Digits (codes "1") ∷ (ts ++ Close ∷ [])))
    ∙ rw k (ap (λ (r : Read Source). truth_of negated (closing r)) read)

-- ---- all queries

listing_again : (n : ℕ) (is ts gs os ls : List Token) (item : WrittenItem) (ps : List WrittenPart) (f : WrittenFilter) (group : Option WrittenCol) (keys : List WrittenKey) (limit : Option ℕ) → HasItem is item → HasSource ts ps f → HasGroup gs group → HasOrder os keys → HasLimit ls limit → length (is ++ (ts ++ (gs ++ (os ++ ls)))) ≤ n
    → given (exists_at (is ++ (ts ++ (gs ++ (os ++ ls))))) (λ x. truth_of x.0 (enclosed_at (one_at (condition_at n)) x.1)) (selected_at (condition_at n) (is ++ (ts ++ (gs ++ (os ++ ls))))) ≡ taken (listing_of item ps f group keys limit) []
listing_again n is ts gs os ls item ps f group keys limit h (source {us = us} {vs = vs} (spelled {bs = w} e) p wh) g o l room =
    let i = itemized is item h w ((us ++ vs) ++ (gs ++ (os ++ ls))) (condition_at n) in
    let stop = limit_follows ls limit l in
    listed_query (condition_at n) (is ++ (ts ++ (gs ++ (os ++ ls)))) (listing_of item ps f group keys limit) i.no_exists i.no_number
    (listing_read (condition_at n) (ts ++ (gs ++ (os ++ ls))) (gs ++ (os ++ ls)) (os ++ ls) ls item ps f group keys limit (is ++ (ts ++ (gs ++ (os ++ ls)))) i.read
    (source_again ts ps f (source (spelled e) p wh) n (omega (arith, room, length-append is (ts ++ (gs ++ (os ++ ls))), length-append ts (gs ++ (os ++ ls)))) (gs ++ (os ++ ls)) (group_follows gs group g (os ++ ls) (order_follows os keys o ls stop.0)) (group_no_comma gs group g (os ++ ls) (order_no_comma os keys o ls stop.1)))
    (group_again gs group g (os ++ ls) (order_follows os keys o ls stop.0))
    (order_again os keys o ls stop.0 stop.1)
    (limit_again ls limit l))

query_again : (us : List Token) (q : WrittenQuery) → HasWritten us q → (n : ℕ) → length us ≤ n → query_at (condition_at n) us ≡ taken q []
query_again us q (listing {is = is} {ts = ts} {gs = gs} {os = os} {ls = ls} {item = item} {parts = ps} {where_ = f} {group = group} {keys = keys} {limit = limit} (spelled e) h s g o l) n room =
    rw e (listing_again n is ts gs os ls item ps f group keys limit h s g o l (omega (arith, room)))
query_again us q (number {ts = ts} {q = m} (spelled e) h) n room =
    let c = counted_again ts m h n (omega (arith, room)) in rw e (counted_query (condition_at n) ts (Number m) c.0 c.1)
query_again us q (truth {es = es} {ts = ts} {negated = negated} {parts = ps} {where_ = f} (spelled e) h (spelled {bs = i} k) s) n room =
    rw e (truth_query (condition_at n) es ts i negated ps f h k
    (source_again ts ps f s n (omega (arith, room, length-append (es ++ Open ∷ Word i ∷ Digits (codes "1") ∷ ts) (Close ∷ []), length-append es (Open ∷ Word i ∷ Digits (codes "1") ∷ ts))) (Close ∷ []) refl refl))

-- tokens have no other query than the one that is read
pub written_again : (us : List Token) (q : WrittenQuery) → HasWritten us q → query_in us ≡ Some q
written_again us q h = ap (λ (r : Read WrittenQuery). r >>= ended) (query_again us q h (suc (length us)) (omega arith))
