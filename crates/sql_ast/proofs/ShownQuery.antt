-- The canonical text of a query says what it is the text of.
use Rattle.std.proofs.Common.{◌≡◌, ℕ, suc, ◌<◌, ◌^◌, Bool, true, false, ◌&&◌, List, [], ◌∷◌, ◌++◌, map, length, codes, ℤ, pos, negsuc, Option, Some, None, refl, sym, subst, arith, append_assoc}
use Rattle.std.proofs.lemmas.List.{append-nil}
use Rattle.std.proofs.lemmas.Bool.Decides.{nat_tests}
use Rattle.std.specs.Fmt.{decimal, signed_decimal}
use Rattle.std.specs.List.{AllByRecursion, flat_map}
use Rattle.qbs_base.specs.Values.{Schema, fits_long}
use Rattle.sql_ast.specs.declared.tree.FromItem.{FromItem}
use Rattle.sql_ast.specs.declared.tree.NumberKind.{NumberKind}
use Rattle.sql_ast.specs.declared.tree.NumberKind.TheVariants as kinds
use Rattle.sql_ast.specs.declared.tree.SqlCol.{SqlCol}
use Rattle.sql_ast.specs.declared.tree.SqlItem.{SqlItem}
use Rattle.sql_ast.specs.declared.tree.SqlItem.TheVariants as items
use Rattle.sql_ast.specs.declared.tree.SqlKey.{SqlKey}
use Rattle.sql_ast.specs.Canonical.{listed, alias_text, col_text, from_text, filter_text, item_text, group_text, down_text, least_text, key_text, keys_text, limit_text, total_text, kind_text, source_text, listing_text, number_text, exists_text, canonical}
use Rattle.sql_ast.specs.Grammar.{spelled, HasCol, HasLong, positive_long, negative_long, negated, HasSource, source, HasItem, whole_of, col_item, HasGroup, no_group, group_by, HasKey, up, descending, least_key, HasKeys, last_key, more_keys, HasOrder, no_order, order_by, HasLimit, no_limit, limited, HasTotal, greatest, least, count, sum, best, is_some, is_none, HasWritten, listing, number, truth}
use Rattle.sql_ast.specs.Texts.{Says}
use Rattle.sql_ast.specs.Tokens.{Token, Word, Digits, Negative, Open, Close, Comma, Dot, Star, is_name, HasTokens, nothing}
use Rattle.sql_ast.specs.Tree.{Filter, PlainListing, PlainNumber, PlainQuery, Listing, Number, Truth}
use Rattle.sql_ast.specs.Valid.{AreItems, IsFilterOf, IsItemOf, IsGroupOf, IsKeyOf, IsLimit, IsTotalOf, IsKindOf, IsListingOf, IsNumberOf, HasNames}
use Rattle.sql_ast.specs.Written.{WrittenCol, WrittenPart, WrittenFilter, WrittenItem, WrittenKey, WrittenKind, WrittenQuery}
use Rattle.sql_ast.specs.Written as written
use Rattle.sql_ast.proofs.Canon.{col_of, parts_of, filter_of, item_of, group_of, key_of, kind_of, written_of}
use Rattle.sql_ast.proofs.Opened.{stops, Reads, Opens, word_reads, digits_reads, negative_reads, then_reads, then_opens, reads_then, opens_reads, decimal_number, decimal_value, open_opens, close_opens, dot_opens, star_opens, comma_opens, blank_opens, word_opens, called_opens, spaced_opens, alias_name, alias_free}
use Rattle.sql_ast.proofs.Shown.{Shown, KeepsStops, item_small, col_shown, joined_reads, from_shown, filter_shown, filter_keeps}

-- ---- the parts of a list query

item_shown : (schema : Schema) (froms : List FromItem) (item : SqlItem) → length froms < 2 ^ 64 → IsItemOf schema froms item → Shown HasItem (item_text item) (item_of item)
item_shown schema froms (items.Whole n) few w =
    let small = item_small froms n w.from w.item few in
    record {
      tokens = Word (alias_text n) ∷ Dot ∷ Star ∷ [];
      reads = opens_reads (alias_text n ++ codes ".*") (Word (alias_text n) ∷ Dot ∷ Star ∷ []) (reads_then (alias_text n) (codes ".*") (Word (alias_text n) ∷ []) (Dot ∷ Star ∷ []) (word_reads (alias_text n) (alias_name n small)) (λ rest. refl) (then_opens (codes ".") (codes "*") (Dot ∷ []) (Star ∷ []) dot_opens star_opens));
      parsed = whole_of (alias_free n small);
    }
item_shown schema froms (items.Column col) few c = let s = col_shown schema froms col few c in record { tokens = s.tokens; reads = s.reads; parsed = col_item s.parsed }

group_opens : Opens (codes " GROUP BY ") (Word (codes "GROUP") ∷ Word (codes "BY") ∷ [])
group_opens = then_opens (codes " GROUP ") (codes "BY ") (Word (codes "GROUP") ∷ []) (Word (codes "BY") ∷ []) (spaced_opens (codes "GROUP") refl) (word_opens (codes "BY") refl)

order_opens : Opens (codes " ORDER BY ") (Word (codes "ORDER") ∷ Word (codes "BY") ∷ [])
order_opens = then_opens (codes " ORDER ") (codes "BY ") (Word (codes "ORDER") ∷ []) (Word (codes "BY") ∷ []) (spaced_opens (codes "ORDER") refl) (word_opens (codes "BY") refl)

group_shown : (schema : Schema) (froms : List FromItem) (group : Option SqlCol) → length froms < 2 ^ 64 → IsGroupOf schema froms group → Shown HasGroup (group_text group) (group_of group)
group_shown schema froms None few h = record { tokens = []; reads = λ rest us stop has. has; parsed = no_group }
group_shown schema froms (Some col) few h =
    let s = col_shown schema froms col few h in
    record {
      tokens = Word (codes "GROUP") ∷ Word (codes "BY") ∷ s.tokens;
      reads = then_reads (codes " GROUP BY ") (col_text col) (Word (codes "GROUP") ∷ Word (codes "BY") ∷ []) s.tokens group_opens s.reads;
      parsed = group_by (spelled refl) (spelled refl) s.parsed;
    }

key_shown_by : (x : List ℕ) (col : WrittenCol) (l d : Bool) → (l && d) ≡ false → Shown HasCol x col → Shown HasKey ((elim l as (λ _. List ℕ) [ true ↦ codes "MIN(" ++ x ++ codes ")" | false ↦ x ]) ++ down_text d) (record { least = l; col = col; down = d })
key_shown_by x col false false h s = record { tokens = s.tokens; reads = subst (λ (w : List ℕ). Reads w s.tokens) (sym (append-nil x)) s.reads; parsed = up s.parsed }
key_shown_by x col false true h s = record {
  tokens = s.tokens ++ Word (codes "DESC") ∷ [];
  reads = λ rest us stop has. simp append_assoc (s.reads (codes " DESC" ++ rest) (Word (codes "DESC") ∷ us) refl (then_reads (codes " ") (codes "DESC") [] (Word (codes "DESC") ∷ []) blank_opens (word_reads (codes "DESC") refl) rest us stop has));
  parsed = descending s.parsed (spelled refl);
}
key_shown_by x col true true h s = absurd cc
key_shown_by x col true false h s = record {
  tokens = Word (codes "MIN") ∷ Open ∷ s.tokens ++ Close ∷ [];
  reads = subst (λ (w : List ℕ). Reads w (Word (codes "MIN") ∷ Open ∷ s.tokens ++ Close ∷ [])) (sym (append-nil (codes "MIN(" ++ x ++ codes ")")))
      (then_reads (codes "MIN(") (x ++ codes ")") (Word (codes "MIN") ∷ Open ∷ []) (s.tokens ++ Close ∷ []) (called_opens (codes "MIN") refl) (opens_reads (x ++ codes ")") (s.tokens ++ Close ∷ []) (reads_then x (codes ")") s.tokens (Close ∷ []) s.reads (λ rest. refl) close_opens)));
  parsed = least_key (spelled refl) s.parsed;
}

key_text_is : (key : SqlKey) → key_text key ≡ (elim key.least as (λ _. List ℕ) [ true ↦ codes "MIN(" ++ col_text key.col ++ codes ")" | false ↦ col_text key.col ]) ++ down_text key.down
key_text_is key = go key.least
  where
    go : (l : Bool) → least_text l key.col ++ down_text key.down ≡ (elim l as (λ _. List ℕ) [ true ↦ codes "MIN(" ++ col_text key.col ++ codes ")" | false ↦ col_text key.col ]) ++ down_text key.down
    go true = refl
    go false = refl

key_shown : (schema : Schema) (froms : List FromItem) (key : SqlKey) → length froms < 2 ^ 64 → IsKeyOf schema froms key → Shown HasKey (key_text key) (key_of key)
key_shown schema froms key few h = subst (λ (w : List ℕ). Shown HasKey w (key_of key)) (sym (key_text_is key)) (key_shown_by (col_text key.col) (col_of key.col) key.least key.down h.1 (col_shown schema froms key.col few h.0))

keys_shown : (schema : Schema) (froms : List FromItem) (key : SqlKey) (keys : List SqlKey) → length froms < 2 ^ 64 → IsKeyOf schema froms key → AllByRecursion (IsKeyOf schema froms) keys → Shown HasKeys (listed key_text (key ∷ keys)) (key_of key ∷ map key_of keys)
keys_shown schema froms key [] few h hs =
    let s = key_shown schema froms key few h in
    record { tokens = s.tokens; reads = subst (λ (w : List ℕ). Reads w s.tokens) (sym (append-nil (key_text key))) s.reads; parsed = last_key s.parsed }
keys_shown schema froms key (next ∷ keys) few h hs =
    let s = key_shown schema froms key few h in
    let later = keys_shown schema froms next keys few hs.0 hs.1 in
    record {
      tokens = s.tokens ++ Comma ∷ later.tokens;
      reads = joined_reads (key_text key) (key_text next) (flat_map (λ y. codes ", " ++ key_text y) keys) s.tokens later.tokens s.reads later.reads;
      parsed = more_keys s.parsed later.parsed;
    }

order_shown : (schema : Schema) (froms : List FromItem) (keys : List SqlKey) → length froms < 2 ^ 64 → AllByRecursion (IsKeyOf schema froms) keys → Shown HasOrder (keys_text keys) (map key_of keys)
order_shown schema froms [] few h = record { tokens = []; reads = λ rest us stop has. has; parsed = no_order }
order_shown schema froms (key ∷ keys) few h =
    let s = keys_shown schema froms key keys few h.0 h.1 in
    record {
      tokens = Word (codes "ORDER") ∷ Word (codes "BY") ∷ s.tokens;
      reads = then_reads (codes " ORDER BY ") (listed key_text (key ∷ keys)) (Word (codes "ORDER") ∷ Word (codes "BY") ∷ []) s.tokens order_opens s.reads;
      parsed = order_by (spelled refl) (spelled refl) s.parsed;
    }

limit_shown : (limit : Option ℕ) → IsLimit limit → Shown HasLimit (limit_text limit) limit
limit_shown None h = record { tokens = []; reads = λ rest us stop has. has; parsed = no_limit }
limit_shown (Some n) fits =
    let small : n < 2 ^ 64 = (let l : n < 2 ^ 63 = grind (arith, nat_tests, fits) in omega (arith, l)) in
    let v = decimal_value n small in
    record {
      tokens = Word (codes "LIMIT") ∷ Digits (decimal n) ∷ [];
      reads = then_reads (codes " LIMIT ") (decimal n) (Word (codes "LIMIT") ∷ []) (Digits (decimal n) ∷ []) (spaced_opens (codes "LIMIT") refl) (digits_reads (decimal n) (decimal_number n small));
      parsed = subst (λ (m : ℕ). HasLimit (Word (codes "LIMIT") ∷ Digits (decimal n) ∷ []) (Some m)) v (limited (spelled refl) (subst (λ (m : ℕ). fits_long (pos m) ≡ true) (sym v) fits));
    }

-- ---- FROM and WHERE of the outermost SELECT

abbrev Sourced : Type 0
Sourced = List WrittenPart × WrittenFilter

abbrev HasSourced : List Token → Sourced → Type 0
HasSourced ts x = HasSource ts x.0 x.1

from_where_reads : (m f w : List ℕ) (ms fs ws : List Token) → Opens m ms → Reads f fs → KeepsStops w → Reads w ws → Reads ((m ++ f) ++ w) (ms ++ (fs ++ ws))
from_where_reads m f w ms fs ws opens first keeps second rest us stop h = simp append_assoc (opens (f ++ (w ++ rest)) (fs ++ (ws ++ us)) (first (w ++ rest) (ws ++ us) (keeps rest stop) (second rest us stop h)))

pub source_shown : (schema : Schema) (froms : List FromItem) (f : Filter) → AreItems schema [] froms → IsFilterOf schema froms f → Shown HasSourced (source_text froms f) (parts_of 1 froms, filter_of (length froms) f)
source_shown schema froms f a h =
    let s = from_shown schema [] froms a in
    let t = filter_shown schema froms (length froms) f refl a.few h in
    record {
      tokens = Word (codes "FROM") ∷ s.tokens ++ t.tokens;
      reads = from_where_reads (codes " FROM ") (from_text 0 froms) (filter_text (length froms) f) (Word (codes "FROM") ∷ []) s.tokens t.tokens (spaced_opens (codes "FROM") refl) s.reads (filter_keeps (length froms) f) t.reads;
      parsed = source (spelled refl) s.parsed t.parsed;
    }

-- ---- whole queries

listing_reads : (p i s g k l : List ℕ) (ps is ss gs ks ls : List Token) → Opens p ps → Reads i is → ((rest : List ℕ) → stops (s ++ rest) ≡ true) → Reads s ss → KeepsStops g → Reads g gs → KeepsStops k → Reads k ks → KeepsStops l → Reads l ls → Reads (((((p ++ i) ++ s) ++ g) ++ k) ++ l) (ps ++ (is ++ (ss ++ (gs ++ (ks ++ ls)))))
listing_reads p i s g k l ps is ss gs ks ls opens item starts source_ group_keeps group order_keeps order limit_keeps limit rest us stop h =
    simp append_assoc (opens (i ++ (s ++ (g ++ (k ++ (l ++ rest))))) (is ++ (ss ++ (gs ++ (ks ++ (ls ++ us)))))
    (item (s ++ (g ++ (k ++ (l ++ rest)))) (ss ++ (gs ++ (ks ++ (ls ++ us)))) (starts (g ++ (k ++ (l ++ rest))))
    (source_ (g ++ (k ++ (l ++ rest))) (gs ++ (ks ++ (ls ++ us))) (group_keeps (k ++ (l ++ rest)) (order_keeps (l ++ rest) (limit_keeps rest stop)))
    (group (k ++ (l ++ rest)) (ks ++ (ls ++ us)) (order_keeps (l ++ rest) (limit_keeps rest stop))
    (order (l ++ rest) (ls ++ us) (limit_keeps rest stop) (limit rest us stop h))))))

group_keeps : (group : Option SqlCol) → KeepsStops (group_text group)
group_keeps None rest stop = stop
group_keeps (Some col) rest stop = refl

order_keeps : (keys : List SqlKey) → KeepsStops (keys_text keys)
order_keeps [] rest stop = stop
order_keeps (key ∷ keys) rest stop = refl

limit_keeps : (limit : Option ℕ) → KeepsStops (limit_text limit)
limit_keeps None rest stop = stop
limit_keeps (Some n) rest stop = refl

listing_shown : (schema : Schema) (q : PlainListing) → IsListingOf schema q → Shown HasWritten (listing_text q) (written_of (Listing q))
listing_shown schema q h =
    let few = h.items.few in
    let i = item_shown schema q.from q.item few h.item in
    let s = source_shown schema q.from q.filter h.items h.filter_ in
    let g = group_shown schema q.from q.group few h.group in
    let k = order_shown schema q.from q.keys few h.keys in
    let l = limit_shown q.limit h.limit in
    record {
      tokens = Word (codes "SELECT") ∷ i.tokens ++ (s.tokens ++ (g.tokens ++ (k.tokens ++ l.tokens)));
      reads = listing_reads (codes "SELECT ") (item_text q.item) (source_text q.from q.filter) (group_text q.group) (keys_text q.keys) (limit_text q.limit) (Word (codes "SELECT") ∷ []) i.tokens s.tokens g.tokens k.tokens l.tokens (word_opens (codes "SELECT") refl) i.reads (λ rest. refl) s.reads (group_keeps q.group) g.reads (order_keeps q.keys) k.reads (limit_keeps q.limit) l.reads;
      parsed = listing (spelled refl) i.parsed s.parsed g.parsed k.parsed l.parsed;
    }

-- a number's token
record Long (n : ℤ) : Type 0 where
  pub token : Token
  pub reads : Reads (signed_decimal n) (token ∷ [])
  pub long : HasLong token n

long_token : (n : ℤ) → fits_long n ≡ true → Long n
long_token (pos n) fits =
    let small : n < 2 ^ 64 = (let l : n < 2 ^ 63 = grind (arith, nat_tests, fits) in omega (arith, l)) in
    let v = decimal_value n small in
    record {
      token = Digits (decimal n);
      reads = digits_reads (decimal n) (decimal_number n small);
      long = subst (λ (m : ℕ). HasLong (Digits (decimal n)) (pos m)) v (positive_long (subst (λ (m : ℕ). fits_long (pos m) ≡ true) (sym v) fits));
    }
long_token (negsuc n) fits =
    let small : suc n < 2 ^ 64 = (let l : n < 2 ^ 63 = grind (arith, nat_tests, fits) in omega (arith, l)) in
    let v = decimal_value (suc n) small in
    record {
      token = Negative (decimal (suc n));
      reads = negative_reads (decimal (suc n)) (decimal_number (suc n) small);
      long = subst (λ (m : ℕ). HasLong (Negative (decimal (suc n))) (negated m)) v (negative_long (subst (λ (m : ℕ). fits_long (negated m) ≡ true) (sym v) fits));
    }

total_reads : (p n c m d s : List ℕ) (ps ns cs ms ds ss : List Token) → Opens p ps → Opens n ns → Reads c cs → ((rest : List ℕ) → stops (m ++ rest) ≡ true) → Opens m ms → Reads d ds → ((rest : List ℕ) → stops (s ++ rest) ≡ true) → Reads s ss → Reads ((p ++ (n ++ (((c ++ m) ++ d) ++ codes ")"))) ++ s) (ps ++ (ns ++ (cs ++ (ms ++ (ds ++ (Close ∷ ss))))))
total_reads p n c m d s ps ns cs ms ds ss opens named col middle_starts middle long starts source_ rest us stop h =
    simp append_assoc (opens (n ++ (c ++ (m ++ (d ++ (codes ")" ++ (s ++ rest)))))) (ns ++ (cs ++ (ms ++ (ds ++ (Close ∷ (ss ++ us))))))
    (named (c ++ (m ++ (d ++ (codes ")" ++ (s ++ rest))))) (cs ++ (ms ++ (ds ++ (Close ∷ (ss ++ us)))))
    (col (m ++ (d ++ (codes ")" ++ (s ++ rest)))) (ms ++ (ds ++ (Close ∷ (ss ++ us)))) (middle_starts (d ++ (codes ")" ++ (s ++ rest))))
    (middle (d ++ (codes ")" ++ (s ++ rest))) (ds ++ (Close ∷ (ss ++ us)))
    (long (codes ")" ++ (s ++ rest)) (Close ∷ (ss ++ us)) refl (close_opens (s ++ rest) (ss ++ us) (source_ rest us stop h)))))))

middle_opens : Opens (codes "), ") (Close ∷ Comma ∷ [])
middle_opens = then_opens (codes ")") (codes ", ") (Close ∷ []) (Comma ∷ []) close_opens comma_opens

named_opens : (w : List ℕ) → is_name w ≡ true → Opens (codes "COALESCE(" ++ (w ++ codes "(")) (Word (codes "COALESCE") ∷ Open ∷ Word w ∷ Open ∷ [])
named_opens w name = then_opens (codes "COALESCE(") (w ++ codes "(") (Word (codes "COALESCE") ∷ Open ∷ []) (Word w ∷ Open ∷ []) (called_opens (codes "COALESCE") refl) (called_opens w name)

best_shown : (schema : Schema) (froms : List FromItem) (f : Filter) (w : List ℕ) (make : WrittenCol → ℤ → WrittenKind) (col : SqlCol) (other : ℤ) → is_name w ≡ true → HasTotal (Word w) make → AreItems schema [] froms → IsTotalOf schema froms col other → IsFilterOf schema froms f
    → Shown HasWritten ((codes "SELECT " ++ ((codes "COALESCE(" ++ (w ++ codes "(")) ++ total_text col other)) ++ source_text froms f) (written.Number (record { kind = make (col_of col) other; from = parts_of 1 froms; filter = filter_of (length froms) f }))
best_shown schema froms f w make col other name total a t h =
    let c = col_shown schema froms col a.few t.0 in
    let d = long_token other t.1 in
    let s = source_shown schema froms f a h in
    record {
      tokens = Word (codes "SELECT") ∷ Word (codes "COALESCE") ∷ Open ∷ Word w ∷ Open ∷ (c.tokens ++ Close ∷ Comma ∷ d.token ∷ Close ∷ s.tokens);
      reads = total_reads (codes "SELECT ") (codes "COALESCE(" ++ (w ++ codes "(")) (col_text col) (codes "), ") (signed_decimal other) (source_text froms f) (Word (codes "SELECT") ∷ []) (Word (codes "COALESCE") ∷ Open ∷ Word w ∷ Open ∷ []) c.tokens (Close ∷ Comma ∷ []) (d.token ∷ []) s.tokens (word_opens (codes "SELECT") refl) (named_opens w name) c.reads (λ rest. refl) middle_opens d.reads (λ rest. refl) s.reads;
      parsed = number (spelled refl) (best (spelled refl) total c.parsed d.long s.parsed);
    }

single : (froms : List FromItem) → length froms ≡ 1 → (part : FromItem) × (froms ≡ part ∷ [])
single [] e = absurd (omega (arith, e))
single (from ∷ []) e = (from, refl)
single (from ∷ next ∷ froms) e = absurd (omega (arith, e))

pub number_shown : (schema : Schema) (q : PlainNumber) → IsNumberOf schema q → Shown HasWritten (number_text q) (written_of (Number q))
number_shown schema q h = go q.kind q.from h.kind h.items h.filter_
  where
    go : (kind : NumberKind) (froms : List FromItem) → IsKindOf schema froms kind → AreItems schema [] froms → IsFilterOf schema froms q.filter → Shown HasWritten ((codes "SELECT " ++ kind_text kind) ++ source_text froms q.filter) (written.Number (record { kind = kind_of kind; from = parts_of 1 froms; filter = filter_of (length froms) q.filter }))
    go kinds.Count [] e a f = absurd (omega (arith, e))
    go kinds.Count (from ∷ next ∷ froms) e a f = absurd (omega (arith, e))
    go kinds.Count (from ∷ []) e a f =
        let s = source_shown schema (from ∷ []) q.filter a f in
        record {
          tokens = Word (codes "SELECT") ∷ Word (codes "COUNT") ∷ Open ∷ Star ∷ Close ∷ s.tokens;
          reads = then_reads (codes "SELECT COUNT(*)") (source_text (from ∷ []) q.filter) (Word (codes "SELECT") ∷ Word (codes "COUNT") ∷ Open ∷ Star ∷ Close ∷ []) s.tokens
              (then_opens (codes "SELECT ") (codes "COUNT(*)") (Word (codes "SELECT") ∷ []) (Word (codes "COUNT") ∷ Open ∷ Star ∷ Close ∷ []) (word_opens (codes "SELECT") refl) (then_opens (codes "COUNT(") (codes "*)") (Word (codes "COUNT") ∷ Open ∷ []) (Star ∷ Close ∷ []) (called_opens (codes "COUNT") refl) (then_opens (codes "*") (codes ")") (Star ∷ []) (Close ∷ []) star_opens close_opens)))
              s.reads;
          parsed = number (spelled refl) (count (spelled refl) s.parsed);
        }
    go (kinds.Sum col other) [] e a f = absurd (omega (arith, e.0))
    go (kinds.Sum col other) (from ∷ next ∷ froms) e a f = absurd (omega (arith, e.0))
    go (kinds.Sum col other) (from ∷ []) e a f =
        let c = col_shown schema (from ∷ []) col a.few e.1.0 in
        let d = long_token other e.1.1 in
        let s = source_shown schema (from ∷ []) q.filter a f in
        record {
          tokens = Word (codes "SELECT") ∷ Word (codes "COALESCE") ∷ Open ∷ Word (codes "SUM") ∷ Open ∷ (c.tokens ++ Close ∷ Comma ∷ d.token ∷ Close ∷ s.tokens);
          reads = total_reads (codes "SELECT ") (codes "COALESCE(SUM(") (col_text col) (codes "), ") (signed_decimal other) (source_text (from ∷ []) q.filter) (Word (codes "SELECT") ∷ []) (Word (codes "COALESCE") ∷ Open ∷ Word (codes "SUM") ∷ Open ∷ []) c.tokens (Close ∷ Comma ∷ []) (d.token ∷ []) s.tokens (word_opens (codes "SELECT") refl) (named_opens (codes "SUM") refl) c.reads (λ rest. refl) middle_opens d.reads (λ rest. refl) s.reads;
          parsed = number (spelled refl) (sum (spelled refl) (spelled refl) c.parsed d.long s.parsed);
        }
    go (kinds.Max col other) froms t a f = best_shown schema froms q.filter (codes "MAX") written.Max col other refl (greatest (spelled refl)) a t f
    go (kinds.Min col other) froms t a f = best_shown schema froms q.filter (codes "MIN") written.Min col other refl (least (spelled refl)) a t f

one_exists : Opens (codes "EXISTS (SELECT ") (Word (codes "EXISTS") ∷ Open ∷ Word (codes "SELECT") ∷ [])
one_exists =
    then_opens (codes "EXISTS (") (codes "SELECT ") (Word (codes "EXISTS") ∷ Open ∷ []) (Word (codes "SELECT") ∷ [])
    (then_opens (codes "EXISTS ") (codes "(") (Word (codes "EXISTS") ∷ []) (Open ∷ []) (word_opens (codes "EXISTS") refl) open_opens) (word_opens (codes "SELECT") refl)

some_reads : Reads (codes "EXISTS (SELECT 1") (Word (codes "EXISTS") ∷ Open ∷ Word (codes "SELECT") ∷ Digits (codes "1") ∷ [])
some_reads = then_reads (codes "EXISTS (SELECT ") (codes "1") (Word (codes "EXISTS") ∷ Open ∷ Word (codes "SELECT") ∷ []) (Digits (codes "1") ∷ []) one_exists (digits_reads (codes "1") refl)

truth_reads : (e s : List ℕ) (es ss : List Token) → Reads e es → ((rest : List ℕ) → stops (s ++ rest) ≡ true) → Reads s ss → Reads ((e ++ s) ++ codes ")") (es ++ (ss ++ Close ∷ []))
truth_reads e s es ss first starts second rest us stop h = simp append_assoc (first (s ++ (codes ")" ++ rest)) (ss ++ (Close ∷ us)) (starts (codes ")" ++ rest)) (second (codes ")" ++ rest) (Close ∷ us) refl (close_opens rest us h)))

truth_shown_by : (negated : Bool) (s : List ℕ) (ps : List WrittenPart) (f : WrittenFilter) → Shown HasSourced s (ps, f) → ((rest : List ℕ) → stops (s ++ rest) ≡ true) → Shown HasWritten ((exists_text negated ++ s) ++ codes ")") (written.Truth (record { negated = negated; from = ps; filter = f }))
truth_shown_by false s ps f x starts = record {
  tokens = Word (codes "SELECT") ∷ Word (codes "EXISTS") ∷ Open ∷ Word (codes "SELECT") ∷ Digits (codes "1") ∷ (x.tokens ++ Close ∷ []);
  reads = truth_reads (codes "SELECT EXISTS (SELECT 1") s (Word (codes "SELECT") ∷ Word (codes "EXISTS") ∷ Open ∷ Word (codes "SELECT") ∷ Digits (codes "1") ∷ []) x.tokens
      (then_reads (codes "SELECT ") (codes "EXISTS (SELECT 1") (Word (codes "SELECT") ∷ []) (Word (codes "EXISTS") ∷ Open ∷ Word (codes "SELECT") ∷ Digits (codes "1") ∷ []) (word_opens (codes "SELECT") refl) some_reads) starts x.reads;
  parsed = truth (spelled refl) (is_some (spelled refl)) (spelled refl) x.parsed;
}
truth_shown_by true s ps f x starts = record {
  tokens = Word (codes "SELECT") ∷ Word (codes "NOT") ∷ Word (codes "EXISTS") ∷ Open ∷ Word (codes "SELECT") ∷ Digits (codes "1") ∷ (x.tokens ++ Close ∷ []);
  reads = truth_reads (codes "SELECT NOT EXISTS (SELECT 1") s (Word (codes "SELECT") ∷ Word (codes "NOT") ∷ Word (codes "EXISTS") ∷ Open ∷ Word (codes "SELECT") ∷ Digits (codes "1") ∷ []) x.tokens
      (then_reads (codes "SELECT NOT ") (codes "EXISTS (SELECT 1") (Word (codes "SELECT") ∷ Word (codes "NOT") ∷ []) (Word (codes "EXISTS") ∷ Open ∷ Word (codes "SELECT") ∷ Digits (codes "1") ∷ []) (then_opens (codes "SELECT ") (codes "NOT ") (Word (codes "SELECT") ∷ []) (Word (codes "NOT") ∷ []) (word_opens (codes "SELECT") refl) (word_opens (codes "NOT") refl)) some_reads) starts x.reads;
  parsed = truth (spelled refl) (is_none (spelled refl) (spelled refl)) (spelled refl) x.parsed;
}

query_shown : (schema : Schema) (q : PlainQuery) → HasNames schema q → Shown HasWritten (canonical q) (written_of q)
query_shown schema (Listing q) h = listing_shown schema q h
query_shown schema (Number q) h = number_shown schema q h
query_shown schema (Truth q) h = truth_shown_by q.negated (source_text q.from q.filter) (parts_of 1 q.from) (filter_of (length q.from) q.filter) (source_shown schema q.from q.filter h.items h.filter_) (λ rest. refl)

-- the canonical text of a query says the query
pub canonical_says : (schema : Schema) (q : PlainQuery) → HasNames schema q → Says (canonical q) (written_of q)
canonical_says schema q h =
    let s = query_shown schema q h in
    let end : HasTokens (canonical q ++ []) (s.tokens ++ []) = s.reads [] [] refl nothing in
    record {
      tokens = s.tokens;
      spelled = subst (λ (ts : List Token). HasTokens (canonical q) ts) (append-nil s.tokens) (subst (λ (w : List ℕ). HasTokens w (s.tokens ++ [])) (append-nil (canonical q)) end);
      parsed = s.parsed;
    }
