-- The query that a text has is one of the schema.
use Rattle.std.proofs.Common.{◌≡◌, ℕ, ◌<◌, ◌^◌, Bool, true, false, cond, List, [], ◌∷◌, ◌++◌, map, length, codes, Option, Some, None, Result, Ok, Err, ℤ, refl, sym, ap, ◌∙◌, subst, arith, length-append}
use Rattle.std.proofs.lemmas.List.{length-map}
use Rattle.std.specs.List.{AllByRecursion}
use Rattle.qbs_base.specs.declared.scalar.Ty.{Ty}
use Rattle.qbs_base.specs.Values.{Schema, fits_long}
use Rattle.sql_ast.specs.declared.rule.SqlRule.{SqlRule}
use Rattle.sql_ast.specs.declared.rule.SqlRule.TheVariants as rules
use Rattle.sql_ast.specs.declared.tree.NumberKind.{NumberKind}
use Rattle.sql_ast.specs.declared.tree.NumberKind.TheVariants as kinds
use Rattle.sql_ast.specs.declared.tree.SqlCol.{SqlCol}
use Rattle.sql_ast.specs.declared.tree.SqlItem.{SqlItem}
use Rattle.sql_ast.specs.declared.tree.SqlItem.TheVariants as items
use Rattle.sql_ast.specs.declared.tree.SqlKey.{SqlKey}
use Rattle.sql_ast.specs.Grammar.{HasLong, positive_long, negative_long, HasItem, whole, whole_of, col_item, HasGroup, no_group, group_by, HasKey, up, ascending, descending, least_key, HasKeys, last_key, more_keys, HasOrder, no_order, order_by, HasLimit, no_limit, limited, greatest, least, HasCounted, count, sum, best, HasSource, HasWritten, listing, number, truth}
use Rattle.sql_ast.specs.Names.{◌>>=◌, each_of, Known, Scope, known_part, are_distinct, known_parts, item_named, froms_of, named_col, named_filter, named_item, named_group, named_key, named_kind, outermost, named_listing, named_number, named_truth, named_query}
use Rattle.sql_ast.specs.Texts.{with_types, judged_named, judged, HasQuery}
use Rattle.sql_ast.specs.Tokens.{Token, Digits, Open, Close, Comma}
use Rattle.sql_ast.specs.Tree.{Filter, PlainListing, PlainNumber, PlainTruth, PlainQuery, Listing, Number, Truth}
use Rattle.sql_ast.specs.Typing.{types_fit, group_fits, params_of, with_params}
use Rattle.sql_ast.specs.Valid.{IsItemOf, IsGroupOf, IsKeyOf, IsLimit, IsKindOf, IsListingOf, IsNumberOf, IsTruthOf, HasNames, IsQueryOf}
use Rattle.sql_ast.specs.Written.{WrittenCol, WrittenPart, WrittenFilter, WrittenItem, WrittenKey, WrittenKind, WrittenListing, WrittenNumber, WrittenTruth, WrittenQuery}
use Rattle.sql_ast.specs.Written as written
use Rattle.sql_ast.proofs.Inverted.{IsForm, AreForms, tokens_form, AreKnown, items_of, item_at, nth_map, col_valid, SourceValid, source_valid}
use Rattle.sql_ast.proofs.Tools.{some_is, bind_some, passed, all_parts}

-- ---- the parts of a list query

item_valid : (schema : Schema) (ts : List Token) (w : WrittenItem) → HasItem ts w → AreForms ts → (scope : Scope) → AreKnown schema scope → (item : SqlItem) → named_item scope w ≡ Some item → IsItemOf schema (froms_of (items_of scope)) item
item_valid schema ts w whole forms scope known item e = whole_valid schema None scope item e
  where
    whole_valid : (schema : Schema) (alias : Option (List ℕ)) (scope : Scope) (item : SqlItem) → named_item scope (written.Whole alias) ≡ Some item → IsItemOf schema (froms_of (items_of scope)) item
    whole_valid schema alias scope item e =
        let a = bind_some (item_named scope alias) (λ f. (let x : Option SqlItem = Some (items.Whole f.0) in x)) item e in
        subst (IsItemOf schema (froms_of (items_of scope))) (some_is (items.Whole a.0.0) item a.2) (record { from = a.0.1.from; item = nth_map (λ known. known.from) (items_of scope) a.0.0 a.0.1 (item_at scope alias a.0.0 a.0.1 a.1) })
item_valid schema ts w (whole_of {alias = alias} f) forms scope known item e =
    let a = bind_some (item_named scope (Some alias)) (λ f. (let x : Option SqlItem = Some (items.Whole f.0) in x)) item e in
    subst (IsItemOf schema (froms_of (items_of scope))) (some_is (items.Whole a.0.0) item a.2) (record { from = a.0.1.from; item = nth_map (λ known. known.from) (items_of scope) a.0.0 a.0.1 (item_at scope (Some alias) a.0.0 a.0.1 a.1) })
item_valid schema ts w (col_item {col = col} h) forms scope known item e =
    let a = bind_some (named_col scope col) (λ c. (let x : Option SqlItem = Some (items.Column c) in x)) item e in
    subst (IsItemOf schema (froms_of (items_of scope))) (some_is (items.Column a.0) item a.2) (col_valid schema ts col h forms scope known a.0 a.1)

group_valid : (schema : Schema) (ts : List Token) (w : Option WrittenCol) → HasGroup ts w → AreForms ts → (scope : Scope) → AreKnown schema scope → (group : Option SqlCol) → named_group scope w ≡ Some group → IsGroupOf schema (froms_of (items_of scope)) group
group_valid schema ts w no_group forms scope known group e = subst (IsGroupOf schema (froms_of (items_of scope))) (some_is None group e) tt
group_valid schema ts w (group_by {ts = us} {col = col} g b h) forms scope known group e =
    let a = bind_some (named_col scope col) (λ c. (let x : Option (Option SqlCol) = Some (Some c) in x)) group e in
    subst (IsGroupOf schema (froms_of (items_of scope))) (some_is (let x : Option SqlCol = Some a.0 in x) group a.2) (col_valid schema us col h forms.1.1 scope known a.0 a.1)

key_valid : (schema : Schema) (ts : List Token) (w : WrittenKey) → HasKey ts w → AreForms ts → (scope : Scope) → AreKnown schema scope → (key : SqlKey) → named_key scope w ≡ Some key → IsKeyOf schema (froms_of (items_of scope)) key
key_valid schema ts w (up {col = col} h) forms scope known key e =
    let a = bind_some (named_col scope col) (λ c. (let x : Option SqlKey = Some (record { least = false; col = c; down = false }) in x)) key e in
    subst (IsKeyOf schema (froms_of (items_of scope))) (some_is (record { least = false; col = a.0; down = false }) key a.2) (col_valid schema ts col h forms scope known a.0 a.1, refl)
key_valid schema ts w (ascending {ts = us} {t = t} {col = col} h k) forms scope known key e =
    let a = bind_some (named_col scope col) (λ c. (let x : Option SqlKey = Some (record { least = false; col = c; down = false }) in x)) key e in
    subst (IsKeyOf schema (froms_of (items_of scope))) (some_is (record { least = false; col = a.0; down = false }) key a.2) (col_valid schema us col h (all_parts IsForm us (t ∷ []) forms).0 scope known a.0 a.1, refl)
key_valid schema ts w (descending {ts = us} {t = t} {col = col} h k) forms scope known key e =
    let a = bind_some (named_col scope col) (λ c. (let x : Option SqlKey = Some (record { least = false; col = c; down = true }) in x)) key e in
    subst (IsKeyOf schema (froms_of (items_of scope))) (some_is (record { least = false; col = a.0; down = true }) key a.2) (col_valid schema us col h (all_parts IsForm us (t ∷ []) forms).0 scope known a.0 a.1, refl)
key_valid schema ts w (least_key {ts = us} {col = col} k h) forms scope known key e =
    let a = bind_some (named_col scope col) (λ c. (let x : Option SqlKey = Some (record { least = true; col = c; down = false }) in x)) key e in
    subst (IsKeyOf schema (froms_of (items_of scope))) (some_is (record { least = true; col = a.0; down = false }) key a.2) (col_valid schema us col h (all_parts IsForm us (Close ∷ []) forms.1.1).0 scope known a.0 a.1, refl)

keys_valid : (schema : Schema) (ts : List Token) (ws : List WrittenKey) → HasKeys ts ws → AreForms ts → (scope : Scope) → AreKnown schema scope → (keys : List SqlKey) → each_of (named_key scope) ws ≡ Some keys → AllByRecursion (IsKeyOf schema (froms_of (items_of scope))) keys
keys_valid schema ts ws (last_key {key = key} h) forms scope known keys e =
    let a = bind_some (named_key scope key) (λ y. each_of (named_key scope) [] >>= λ ys. (let x : Option (List SqlKey) = Some (y ∷ ys) in x)) keys e in
    subst (AllByRecursion (IsKeyOf schema (froms_of (items_of scope)))) (some_is (a.0 ∷ []) keys a.2) (key_valid schema ts key h forms scope known a.0 a.1, tt)
keys_valid schema ts ws (more_keys {us = us} {vs = vs} {key = key} {keys = later} h k) forms scope known keys e =
    let f = all_parts IsForm us (Comma ∷ vs) forms in
    let a = bind_some (named_key scope key) (λ y. each_of (named_key scope) later >>= λ ys. (let x : Option (List SqlKey) = Some (y ∷ ys) in x)) keys e in
    let b = bind_some (each_of (named_key scope) later) (λ ys. (let x : Option (List SqlKey) = Some (a.0 ∷ ys) in x)) keys a.2 in
    subst (AllByRecursion (IsKeyOf schema (froms_of (items_of scope)))) (some_is (a.0 ∷ b.0) keys b.2) (key_valid schema us key h f.0 scope known a.0 a.1, keys_valid schema vs later k f.1.1 scope known b.0 b.1)

order_valid : (schema : Schema) (ts : List Token) (ws : List WrittenKey) → HasOrder ts ws → AreForms ts → (scope : Scope) → AreKnown schema scope → (keys : List SqlKey) → each_of (named_key scope) ws ≡ Some keys → AllByRecursion (IsKeyOf schema (froms_of (items_of scope))) keys
order_valid schema ts ws no_order forms scope known keys e = subst (AllByRecursion (IsKeyOf schema (froms_of (items_of scope)))) (some_is [] keys e) tt
order_valid schema ts ws (order_by {ts = us} o b h) forms scope known keys e = keys_valid schema us ws h forms.1.1 scope known keys e

limit_valid : (ts : List Token) (limit : Option ℕ) → HasLimit ts limit → IsLimit limit
limit_valid ts limit no_limit = tt
limit_valid ts limit (limited l h) = h

-- ---- the outermost SELECT

abbrev nothing_around : Scope
nothing_around = record { outer = []; own = [] }

outermost_valid : (schema : Schema) (ts : List Token) (parts : List WrittenPart) (f : WrittenFilter) → HasSource ts parts f → AreForms ts → length ts < 2 ^ 64 → (own : List Known) → known_parts schema parts ≡ Some own → (filter_ : Filter) → named_filter schema (outermost own) f ≡ Some filter_ → SourceValid schema nothing_around own filter_
outermost_valid schema ts parts f s forms few own e filter_ d = source_valid schema ts parts f s forms nothing_around tt (omega (arith, few)) own e filter_ d

-- without the parameters' types
pub listing_valid : (schema : Schema) (w : WrittenListing) (is ts gs os ls : List Token) → HasItem is w.item → HasSource ts w.from w.filter → HasGroup gs w.group → HasOrder os w.keys → HasLimit ls w.limit → AreForms (is ++ (ts ++ (gs ++ (os ++ ls)))) → length (is ++ (ts ++ (gs ++ (os ++ ls)))) < 2 ^ 64 → (q : PlainListing) → named_listing schema w ≡ Some q → IsListingOf schema q
listing_valid schema w is ts gs os ls hi hs hg ho hl forms few q e =
    let f1 = all_parts IsForm is (ts ++ (gs ++ (os ++ ls))) forms in
    let f2 = all_parts IsForm ts (gs ++ (os ++ ls)) f1.1 in
    let f3 = all_parts IsForm gs (os ++ ls) f2.1 in
    let f4 = all_parts IsForm os ls f3.1 in
    let made = λ (own : List Known) (item : SqlItem) (filter_ : Filter) (group : Option SqlCol) (keys : List SqlKey). (let x : PlainListing = record { item = item; from = froms_of own; filter = filter_; group = group; keys = keys; limit = w.limit; params = [] } in x) in
    let a = bind_some (known_parts schema w.from) (λ own. named_item (outermost own) w.item >>= λ item. named_filter schema (outermost own) w.filter >>= λ filter_. named_group (outermost own) w.group >>= λ group. each_of (named_key (outermost own)) w.keys >>= λ keys. (let x : Option PlainListing = Some (made own item filter_ group keys) in x)) q e in
    let b = bind_some (named_item (outermost a.0) w.item) (λ item. named_filter schema (outermost a.0) w.filter >>= λ filter_. named_group (outermost a.0) w.group >>= λ group. each_of (named_key (outermost a.0)) w.keys >>= λ keys. (let x : Option PlainListing = Some (made a.0 item filter_ group keys) in x)) q a.2 in
    let c = bind_some (named_filter schema (outermost a.0) w.filter) (λ filter_. named_group (outermost a.0) w.group >>= λ group. each_of (named_key (outermost a.0)) w.keys >>= λ keys. (let x : Option PlainListing = Some (made a.0 b.0 filter_ group keys) in x)) q b.2 in
    let d = bind_some (named_group (outermost a.0) w.group) (λ group. each_of (named_key (outermost a.0)) w.keys >>= λ keys. (let x : Option PlainListing = Some (made a.0 b.0 c.0 group keys) in x)) q c.2 in
    let k = bind_some (each_of (named_key (outermost a.0)) w.keys) (λ keys. (let x : Option PlainListing = Some (made a.0 b.0 c.0 d.0 keys) in x)) q d.2 in
    let v = outermost_valid schema ts w.from w.filter hs f2.0 (omega (arith, few, length-append is (ts ++ (gs ++ (os ++ ls))), length-append ts (gs ++ (os ++ ls)))) a.0 a.1 c.0 c.1 in
    let here : IsListingOf schema (made a.0 b.0 c.0 d.0 k.0) =
    record {
      items = v.items;
      item = item_valid schema is w.item hi f1.0 (outermost a.0) v.known b.0 b.1;
      filter_ = v.filtered;
      group = group_valid schema gs w.group hg f3.0 (outermost a.0) v.known d.0 d.1;
      keys = order_valid schema os w.keys ho f4.0 (outermost a.0) v.known k.0 k.1;
      limit = limit_valid ls w.limit hl;
    }
    in
    subst (IsListingOf schema) (some_is (made a.0 b.0 c.0 d.0 k.0) q k.2) here

-- ---- number and truth queries

each_length : {A B : Type 0} (f : A → Option B) (xs : List A) (ys : List B) → each_of f xs ≡ Some ys → length ys ≡ length xs
each_length {A} {B} f [] ys e = ap (λ (zs : List B). length zs) (sym (some_is [] ys e))
each_length {A} {B} f (x ∷ xs) ys e =
    let a = bind_some (f x) (λ y. each_of f xs >>= λ ys. (let o : Option (List B) = Some (y ∷ ys) in o)) ys e in
    let b = bind_some (each_of f xs) (λ ys. (let o : Option (List B) = Some (a.0 ∷ ys) in o)) ys a.2 in
    ap (λ (zs : List B). length zs) (sym (some_is (a.0 ∷ b.0) ys b.2)) ∙ (let l = each_length f xs b.0 b.1 in omega (arith, l))

known_length : (schema : Schema) (parts : List WrittenPart) (own : List Known) → known_parts schema parts ≡ Some own → length (froms_of own) ≡ length parts
known_length schema parts own e =
    let a = bind_some (each_of (known_part schema) parts) (λ ks. cond (are_distinct (map (λ known. known.alias) ks)) (let x : Option (List Known) = Some ks in x) None) own e in
    let p = passed (are_distinct (map (λ known. known.alias) a.0)) (let x : Option (List Known) = Some a.0 in x) own a.2 in
    length-map own (λ (known : Known). known.from) ∙ ap (λ (ks : List Known). length ks) (sym (some_is a.0 own p.1)) ∙ each_length (known_part schema) parts a.0 a.1

-- what a number query's names give, from those of its parts
number_from : (schema : Schema) (kind : WrittenKind) (parts : List WrittenPart) (f : WrittenFilter) (ts : List Token) → HasSource ts parts f → AreForms ts → length ts < 2 ^ 64 → (q : PlainNumber) → named_number schema (record { kind = kind; from = parts; filter = f }) ≡ Some q
    → ((own : List Known) → length (froms_of own) ≡ length parts → AreKnown schema (outermost own) → (k : NumberKind) → named_kind (outermost own) kind ≡ Some k → IsKindOf schema (froms_of own) k) → IsNumberOf schema q
number_from schema kind parts f ts s forms few q e kinds_valid =
    let made = λ (own : List Known) (kind : NumberKind) (filter_ : Filter). (let x : PlainNumber = record { kind = kind; from = froms_of own; filter = filter_; params = [] } in x) in
    let a = bind_some (known_parts schema parts) (λ own. named_kind (outermost own) kind >>= λ kind. named_filter schema (outermost own) f >>= λ filter_. (let x : Option PlainNumber = Some (made own kind filter_) in x)) q e in
    let b = bind_some (named_kind (outermost a.0) kind) (λ kind. named_filter schema (outermost a.0) f >>= λ filter_. (let x : Option PlainNumber = Some (made a.0 kind filter_) in x)) q a.2 in
    let c = bind_some (named_filter schema (outermost a.0) f) (λ filter_. (let x : Option PlainNumber = Some (made a.0 b.0 filter_) in x)) q b.2 in
    let v = outermost_valid schema ts parts f s forms few a.0 a.1 c.0 c.1 in
    let here : IsNumberOf schema (made a.0 b.0 c.0) = record { items = v.items; kind = kinds_valid a.0 (known_length schema parts a.0 a.1) v.known b.0 b.1; filter_ = v.filtered } in
    subst (IsNumberOf schema) (some_is (made a.0 b.0 c.0) q c.2) here

long_fits : (t : Token) (n : ℤ) → HasLong t n → fits_long n ≡ true
long_fits t n (positive_long f) = f
long_fits t n (negative_long f) = f

number_valid : (schema : Schema) (ts : List Token) (w : WrittenNumber) → HasCounted ts w → AreForms ts → length ts < 2 ^ 64 → (q : PlainNumber) → named_number schema w ≡ Some q → IsNumberOf schema q
number_valid schema ts w (count {ts = us} {part = part} {where_ = f} c s) forms few q e =
    number_from schema written.Count (part ∷ []) f us s forms.1.1.1.1 (omega (arith, few)) q e (λ own one known k n. subst (IsKindOf schema (froms_of own)) (some_is kinds.Count k n) one)
number_valid schema ts w (sum {t = t} {cs = cs} {ts = us} {col = col} {n = n} {part = part} {where_ = f} c m h l s) forms few q e =
    let g = all_parts IsForm cs (Close ∷ Comma ∷ t ∷ Close ∷ us) forms.1.1.1.1 in
    number_from schema (written.Sum col n) (part ∷ []) f us s g.1.1.1.1.1 (omega (arith, few, length-append cs (Close ∷ Comma ∷ t ∷ Close ∷ us))) q e
    (λ own one known k named.
    let a = bind_some (named_col (outermost own) col) (λ c. (let x : Option NumberKind = Some (kinds.Sum c n) in x)) k named in
    subst (IsKindOf schema (froms_of own)) (some_is (kinds.Sum a.0 n) k a.2) (one, (col_valid schema cs col h g.0 (outermost own) known a.0 a.1, long_fits t n l)))
number_valid schema ts w (best {t = t} {cs = cs} {ts = us} {col = col} {n = n} {parts = parts} {where_ = f} c (greatest m) h l s) forms few q e =
    let g = all_parts IsForm cs (Close ∷ Comma ∷ t ∷ Close ∷ us) forms.1.1.1.1 in
    number_from schema (written.Max col n) parts f us s g.1.1.1.1.1 (omega (arith, few, length-append cs (Close ∷ Comma ∷ t ∷ Close ∷ us))) q e
    (λ own one known k named.
    let a = bind_some (named_col (outermost own) col) (λ c. (let x : Option NumberKind = Some (kinds.Max c n) in x)) k named in
    subst (IsKindOf schema (froms_of own)) (some_is (kinds.Max a.0 n) k a.2) (col_valid schema cs col h g.0 (outermost own) known a.0 a.1, long_fits t n l))
number_valid schema ts w (best {t = t} {cs = cs} {ts = us} {col = col} {n = n} {parts = parts} {where_ = f} c (least m) h l s) forms few q e =
    let g = all_parts IsForm cs (Close ∷ Comma ∷ t ∷ Close ∷ us) forms.1.1.1.1 in
    number_from schema (written.Min col n) parts f us s g.1.1.1.1.1 (omega (arith, few, length-append cs (Close ∷ Comma ∷ t ∷ Close ∷ us))) q e
    (λ own one known k named.
    let a = bind_some (named_col (outermost own) col) (λ c. (let x : Option NumberKind = Some (kinds.Min c n) in x)) k named in
    subst (IsKindOf schema (froms_of own)) (some_is (kinds.Min a.0 n) k a.2) (col_valid schema cs col h g.0 (outermost own) known a.0 a.1, long_fits t n l))

truth_valid : (schema : Schema) (w : WrittenTruth) (ts : List Token) → HasSource ts w.from w.filter → AreForms ts → length ts < 2 ^ 64 → (q : PlainTruth) → named_truth schema w ≡ Some q → IsTruthOf schema q
truth_valid schema w ts s forms few q e =
    let made = λ (own : List Known) (filter_ : Filter). (let x : PlainTruth = record { negated = w.negated; from = froms_of own; filter = filter_; params = [] } in x) in
    let a = bind_some (known_parts schema w.from) (λ own. named_filter schema (outermost own) w.filter >>= λ filter_. (let x : Option PlainTruth = Some (made own filter_) in x)) q e in
    let c = bind_some (named_filter schema (outermost a.0) w.filter) (λ filter_. (let x : Option PlainTruth = Some (made a.0 filter_) in x)) q a.2 in
    let v = outermost_valid schema ts w.from w.filter s forms few a.0 a.1 c.0 c.1 in
    subst (IsTruthOf schema) (some_is (made a.0 c.0) q c.2) (record { items = v.items; filter_ = v.filtered })

-- ---- all queries

names_valid : (schema : Schema) (ts : List Token) (w : WrittenQuery) → HasWritten ts w → AreForms ts → length ts < 2 ^ 64 → (q : PlainQuery) → named_query schema w ≡ Some q → HasNames schema q
names_valid schema ts w (listing {is = is} {ts = us} {gs = gs} {os = os} {ls = ls} {item = item} {parts = ps} {where_ = f} {group = group} {keys = keys} {limit = limit} k hi hs hg ho hl) forms few q e =
    let x : WrittenListing = record { item = item; from = ps; filter = f; group = group; keys = keys; limit = limit } in
    let a = bind_some (named_listing schema x) (λ p. (let o : Option PlainQuery = Some (Listing p) in o)) q e in
    subst (HasNames schema) (some_is (Listing a.0) q a.2) (listing_valid schema x is us gs os ls hi hs hg ho hl forms.1 (omega (arith, few)) a.0 a.1)
names_valid schema ts w (number {ts = us} {q = m} k h) forms few q e =
    let a = bind_some (named_number schema m) (λ p. (let o : Option PlainQuery = Some (Number p) in o)) q e in
    subst (HasNames schema) (some_is (Number a.0) q a.2) (number_valid schema us m h forms.1 (omega (arith, few)) a.0 a.1)
names_valid schema ts w (truth {i = i} {es = es} {ts = us} {negated = negated} {parts = ps} {where_ = f} k h l s) forms few q e =
    let x : WrittenTruth = record { negated = negated; from = ps; filter = f } in
    let g = all_parts IsForm (es ++ Open ∷ i ∷ Digits (codes "1") ∷ us) (Close ∷ []) forms.1 in
    let f2 = all_parts IsForm es (Open ∷ i ∷ Digits (codes "1") ∷ us) g.0 in
    let a = bind_some (named_truth schema x) (λ p. (let o : Option PlainQuery = Some (Truth p) in o)) q e in
    subst (HasNames schema) (some_is (Truth a.0) q a.2) (truth_valid schema x us s f2.1.1.1.1 (omega (arith, few, length-append (es ++ Open ∷ i ∷ Digits (codes "1") ∷ us) (Close ∷ []), length-append es (Open ∷ i ∷ Digits (codes "1") ∷ us))) a.0 a.1)

abbrev Judged : Type 0
Judged = Result PlainQuery SqlRule

-- what was judged well, rule by rule
record Passed (schema : Schema) (w : WrittenQuery) (q : PlainQuery) : Type 0 where
  pub named : PlainQuery
  pub params : List Ty
  pub names : named_query schema w ≡ Some named
  pub types : types_fit schema named ≡ true
  pub groups : group_fits named ≡ true
  pub typed : params_of schema named ≡ Some params
  pub whole : with_params named params ≡ q

ok_is : (x y : PlainQuery) → (let a : Judged = Ok x in a) ≡ Ok y → x ≡ y
ok_is x y e = ap (λ (r : Judged). elim r as (λ _. PlainQuery) [ Ok z ↦ z | Err f ↦ x ]) e

judged_passed : (schema : Schema) (w : WrittenQuery) (q : PlainQuery) → judged schema w ≡ Ok q → Passed schema w q
judged_passed schema w q e = go (named_query schema w) refl e
  where
    typed : (n : PlainQuery) → named_query schema w ≡ Some n → types_fit schema n ≡ true → group_fits n ≡ true → (o : Option (List Ty)) → params_of schema n ≡ o → elim o as (λ _. Judged) [ Some params ↦ Ok (with_params n params) | None ↦ Err rules.BadParameter ] ≡ Ok q → Passed schema w q
    typed n h t g (Some params) p e = record { named = n; params = params; names = h; types = t; groups = g; typed = p; whole = ok_is (with_params n params) q e }
    typed n h t g None p e = absurd cc

    grouped : (n : PlainQuery) → named_query schema w ≡ Some n → types_fit schema n ≡ true → (b : Bool) → group_fits n ≡ b → cond b (with_types schema n) (Err rules.BadGroup) ≡ Ok q → Passed schema w q
    grouped n h t true g e = typed n h t g (params_of schema n) refl e
    grouped n h t false g e = absurd cc

    fitting : (n : PlainQuery) → named_query schema w ≡ Some n → (b : Bool) → types_fit schema n ≡ b → cond b (cond (group_fits n) (with_types schema n) (Err rules.BadGroup)) (Err rules.Mismatch) ≡ Ok q → Passed schema w q
    fitting n h true t e = grouped n h t (group_fits n) refl e
    fitting n h false t e = absurd cc

    go : (o : Option PlainQuery) → named_query schema w ≡ o → elim o as (λ _. Judged) [ Some q ↦ judged_named schema q | None ↦ Err rules.Unknown ] ≡ Ok q → Passed schema w q
    go (Some n) h e = fitting n h (types_fit schema n) refl e
    go None h e = absurd cc

with_types_valid : (schema : Schema) (n : PlainQuery) (params : List Ty) → HasNames schema n → types_fit schema n ≡ true → group_fits n ≡ true → params_of schema n ≡ Some params → IsQueryOf schema (with_params n params)
with_types_valid schema (Listing p) params h t g d = record { names = record { items = h.items; item = h.item; filter_ = h.filter_; group = h.group; keys = h.keys; limit = h.limit }; types = t; groups = g; params = d }
with_types_valid schema (Number p) params h t g d = record { names = record { items = h.items; kind = h.kind; filter_ = h.filter_ }; types = t; groups = g; params = d }
with_types_valid schema (Truth p) params h t g d = record { names = record { items = h.items; filter_ = h.filter_ }; types = t; groups = g; params = d }

pub has_query_valid : (schema : Schema) (text : List ℕ) (q : PlainQuery) → length text < 2 ^ 64 → HasQuery schema text q → IsQueryOf schema q
has_query_valid schema text q few h =
    let forms = tokens_form text h.says.tokens h.says.spelled in
    let p = judged_passed schema h.written q h.meant in
    let names = names_valid schema h.says.tokens h.written h.says.parsed forms.1 (let l = forms.0 in omega (arith, l, few)) p.named p.names in
    subst (IsQueryOf schema) p.whole (with_types_valid schema p.named p.params names p.types p.groups p.typed)
