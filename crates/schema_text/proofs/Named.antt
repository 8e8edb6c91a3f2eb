-- The tables that a text declares have names: a word of a text is one.
use Rattle.std.proofs.Common.{◌≡◌, ℕ, zero, suc, pred, ◌+◌, Bool, true, false, ◌&&◌, ◌||◌, ◌==◌, cond, List, [], ◌∷◌, ◌++◌, take, map, Option, Some, None, refl, sym, ap, ap₂, ◌∙◌, subst, arith}
use Rattle.std.specs.List.{AllByRecursion, list_all, prefix_len}
use Rattle.qbs_base.specs.declared.span.Span.{Span}
use Rattle.qbs_base.specs.declared.columns.Column.{Column}
use Rattle.qbs_base.specs.declared.columns.Table.{Table}
use Rattle.qbs_base.specs.declared.place.Place.{Place}
use Rattle.schema.specs.declared.token.Kind.{Kind}
use Rattle.schema.specs.declared.token.Kind.TheVariants.{Word, Digits, Sign, Stray}
use Rattle.schema.specs.declared.token.Sign.TheVariants.{Open, Close, Comma, Semicolon}
use Rattle.schema.specs.declared.token.Token.{Token}
use Rattle.schema.specs.Bytes.{is_in_line, begins_with, is_name}
use Rattle.qbs_base.specs.Bytes.{is_white, is_digit, is_name_start, is_name_part}
use Rattle.qbs_base.specs.Places.{first_place, next_place, place_after, between}
use Rattle.schema.specs.Tokens.{Piece, sign_of, piece_of, placed, tokens_from, tokens_of, kinds_of}
use Rattle.schema.specs.Grammar.{HasColumns, none, key, more, HasTable, table, HasSchema, empty, followed}
use Rattle.schema.specs.Marks.{keyed}
use Rattle.schema.specs.Rules.{AreNamed}

-- a word is a name
abbrev Named : Kind → Type 0
Named (Word w) = is_name w ≡ true
Named Digits = Unit {0}
Named (Sign s) = Unit {0}
Named Stray = Unit {0}

abbrev NamedIn : Option Kind → Type 0
NamedIn None = Unit {0}
NamedIn (Some k) = Named k

-- ---- words of a text

part_of_start : (b : ℕ) → is_name_start b ≡ true → is_name_part b ≡ true
part_of_start b e = ap (λ (s : Bool). s || is_digit b) e

prefix_passes : (bs : List ℕ) → list_all is_name_part (take (prefix_len is_name_part bs) bs) ≡ true
prefix_passes [] = refl
prefix_passes (b ∷ bs) = go (is_name_part b) refl (prefix_passes bs)
  where
    go : (s : Bool) → is_name_part b ≡ s → list_all is_name_part (take (prefix_len is_name_part bs) bs) ≡ true → list_all is_name_part (take (cond s (1 + prefix_len is_name_part bs) 0) (b ∷ bs)) ≡ true
    go true e h = let one : 1 + prefix_len is_name_part bs ≡ suc (prefix_len is_name_part bs) = omega arith in ap (λ n. list_all is_name_part (take n (b ∷ bs))) one ∙ ap₂ (λ (s t : Bool). s && t) e h
    go false e h = refl

word_named : (b : ℕ) (bs : List ℕ) → is_name_start b ≡ true → is_name (take (prefix_len is_name_part (b ∷ bs)) (b ∷ bs)) ≡ true
word_named b bs e =
    ap (λ (s : Bool). is_name (take (cond s (1 + prefix_len is_name_part bs) 0) (b ∷ bs))) (part_of_start b e)
    ∙ (let one : 1 + prefix_len is_name_part bs ≡ suc (prefix_len is_name_part bs) = omega arith in ap (λ n. is_name (take n (b ∷ bs))) one)
    ∙ ap₂ (λ (s t : Bool). s && t) e (prefix_passes bs)

abbrev sign_by : Bool → Bool → Bool → Bool → Bool → ℕ → Piece
sign_by s t u v w n = cond s (Some (Sign Open), 1) (cond t (Some (Sign Close), 1) (cond u (Some (Sign Comma), 1) (cond v (Some (Sign Semicolon), 1) (cond w (None, n) (Some Stray, 1)))))

sign_by_named : (s t u v w : Bool) (n : ℕ) → NamedIn (sign_by s t u v w n).0
sign_by_named true t u v w n = tt
sign_by_named false true u v w n = tt
sign_by_named false false true v w n = tt
sign_by_named false false false true w n = tt
sign_by_named false false false false true n = tt
sign_by_named false false false false false n = tt

sign_named : (b : ℕ) (bs : List ℕ) → NamedIn (sign_of b bs).0
sign_named b bs = sign_by_named (b == 40) (b == 41) (b == 44) (b == 59) ((b == 45) && begins_with 45 bs) (1 + prefix_len is_in_line bs)

abbrev piece_by : Bool → Bool → Bool → ℕ → List ℕ → Piece
piece_by s t u b bs = cond s (None, 1) (cond t (Some (Word (take (prefix_len is_name_part (b ∷ bs)) (b ∷ bs))), prefix_len is_name_part (b ∷ bs)) (cond u (Some Digits, prefix_len is_digit (b ∷ bs)) (sign_of b bs)))

piece_by_named : (s t u : Bool) (b : ℕ) (bs : List ℕ) → is_name_start b ≡ t → NamedIn (piece_by s t u b bs).0
piece_by_named true t u b bs e = tt
piece_by_named false true u b bs e = word_named b bs e
piece_by_named false false true b bs e = tt
piece_by_named false false false b bs e = sign_named b bs

piece_named : (b : ℕ) (bs : List ℕ) → NamedIn (piece_of (b ∷ bs)).0
unfolding piece_of
piece_named b bs = piece_by_named (is_white b) (is_name_start b) (is_digit b) b bs refl

kinds_append : (ts us : List Token) → kinds_of (ts ++ us) ≡ kinds_of ts ++ kinds_of us
kinds_append [] us = refl
kinds_append (t ∷ ts) us = ap (λ (ks : List Kind). t.kind ∷ ks) (kinds_append ts us)

token_named : (span : Span) (o : Option Kind) (ks : List Kind) → NamedIn o → AllByRecursion Named ks → AllByRecursion Named (kinds_of (placed span o) ++ ks)
token_named span None ks h r = r
token_named span (Some k) ks h r = (h, r)

tokens_named : (p : Place) (skip : ℕ) (bs : List ℕ) → AllByRecursion Named (kinds_of (tokens_from p skip bs))
unfolding tokens_from
tokens_named p zero [] = tt
tokens_named p (suc skip) [] = tt
tokens_named p (suc skip) (b ∷ bs) = tokens_named (next_place p b) skip bs
tokens_named p zero (b ∷ bs) =
    subst (AllByRecursion Named) (sym (kinds_append (placed (between p (place_after p (take (piece_of (b ∷ bs)).1 (b ∷ bs)))) (piece_of (b ∷ bs)).0) (tokens_from (next_place p b) (pred (piece_of (b ∷ bs)).1) bs)))
    (token_named (between p (place_after p (take (piece_of (b ∷ bs)).1 (b ∷ bs)))) (piece_of (b ∷ bs)).0 (kinds_of (tokens_from (next_place p b) (pred (piece_of (b ∷ bs)).1) bs)) (piece_named b bs) (tokens_named (next_place p b) (pred (piece_of (b ∷ bs)).1) bs))

-- ---- what is declared with such words

front_of : (us vs : List Kind) → AllByRecursion Named (us ++ vs) → AllByRecursion Named us
front_of [] vs h = tt
front_of (u ∷ us) vs h = (h.0, front_of us vs h.1)

rest_of : (us vs : List Kind) → AllByRecursion Named (us ++ vs) → AllByRecursion Named vs
rest_of [] vs h = h
rest_of (u ∷ us) vs h = rest_of us vs h.1

abbrev IsNamed : Column → Type 0
IsNamed c = is_name c.name ≡ true

columns_named : (ts : List Kind) (columns : List Column) (names : List (List ℕ)) → HasColumns ts columns names → AllByRecursion Named ts → AllByRecursion IsNamed columns
columns_named _ _ _ none h = tt
columns_named _ _ _ (key p q names) h = tt
columns_named _ _ _ (more {n} {rest} {us} {vs} {columns} {names} p others) h = (h.1.0, columns_named vs columns names others (rest_of us vs h.1.1))

-- a key clause changes no name
keyed_named : (names : List (List ℕ)) (columns : List Column) → AllByRecursion IsNamed columns → AllByRecursion IsNamed (map (keyed names) columns)
keyed_named names [] h = tt
keyed_named names (c ∷ columns) h = (h.0, keyed_named names columns h.1)

abbrev IsTableNamed : Table → Type 0
IsTableNamed t = (is_name t.name ≡ true) × AllByRecursion IsNamed t.columns

table_named : (ts : List Kind) (t : Table) → HasTable ts t → AllByRecursion Named ts → IsTableNamed t
table_named _ _ (table {v} {w} {n} {m} {us} {vs} {rest} {columns} {names} p q first others) h =
    let body = h.1.1.1.1 in
    let behind = rest_of us (vs ++ Sign Close ∷ Sign Semicolon ∷ []) body.1 in
    (h.1.1.0, (body.0, keyed_named names columns (columns_named vs columns names others (front_of vs (Sign Close ∷ Sign Semicolon ∷ []) behind))))

schema_named : (ts : List Kind) (tables : List Table) → HasSchema ts tables → AllByRecursion Named ts → AllByRecursion IsTableNamed tables
schema_named _ _ empty h = tt
schema_named _ _ (followed {us} {vs} {t} {tables} first others) h = (table_named us t first (front_of us vs h), schema_named vs tables others (rest_of us vs h))

first_parts : (tables : List Table) → AllByRecursion IsTableNamed tables → AllByRecursion (λ t. is_name t.name ≡ true) tables
first_parts [] h = tt
first_parts (t ∷ tables) h = (h.0.0, first_parts tables h.1)

second_parts : (tables : List Table) → AllByRecursion IsTableNamed tables → AllByRecursion (λ t. AllByRecursion (λ c. is_name c.name ≡ true) t.columns) tables
second_parts [] h = tt
second_parts (t ∷ tables) h = (h.0.1, second_parts tables h.1)

pub are_named : (text : List ℕ) (tables : List Table) → HasSchema (kinds_of (tokens_of text)) tables → AreNamed tables
are_named text tables h =
    let named = schema_named (kinds_of (tokens_of text)) tables h (tokens_named first_place 0 text) in
    record { names = first_parts tables named; columns = second_parts tables named }
