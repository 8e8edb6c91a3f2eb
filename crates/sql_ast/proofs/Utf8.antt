-- The canonical text of a query is UTF-8 where its text literals are.
use Rattle.std.proofs.Common.{◌≡◌, ℕ, ℤ, pos, negsuc, zero, suc, ◌+◌, ◌<◌, ◌≤◌, ◌/◌, ◌%◌, Bool, true, false, cond, ◌&&◌, ◌==◌, nat_lt, nat_eq, List, [], ◌∷◌, ◌++◌, length, get_or, codes, Option, Some, None, IsUtf8, inl, inr, refl, sym, ap, ap₂, subst, arith, append-nil, ltb-true}
use Rattle.std.specs.Fmt.{decimal, signed_decimal, digits, digits_onto, digit_glyph}
use Rattle.std.specs.List.{AllByRecursion, flat_map, list_all}
use Rattle.std.proofs.lemmas.Bool.{and_parts, cases_lt}
use Rattle.std.proofs.lemmas.Bool.Decides.{nat_tests}
use Rattle.std.proofs.lemmas.Nat.{mod_below}
use Rattle.std.proofs.lemmas.Str.{IsUtf8-append, IsUtf8-nil, IsUtf8-encode, encode_ascii, inside_one}
use lib.Utf8.{scalar, scalars, encode, encodes, low_scalar}
use Rattle.qbs_base.specs.declared.scalar.Scalar.{Scalar}
use Rattle.qbs_base.specs.declared.scalar.Scalar.TheVariants as constants
use Rattle.qbs_base.specs.Values.{Schema}
use Rattle.qbs_base.specs.Bytes.{is_name_start, is_name_part}
use Rattle.sql_ast.specs.declared.tree.Cmp.{Cmp}
use Rattle.sql_ast.specs.declared.tree.Cmp.TheVariants as tests
use Rattle.sql_ast.specs.declared.tree.FromItem.{FromItem}
use Rattle.sql_ast.specs.declared.tree.NumberKind.{NumberKind}
use Rattle.sql_ast.specs.declared.tree.NumberKind.TheVariants as kinds
use Rattle.sql_ast.specs.declared.tree.SqlCol.{SqlCol}
use Rattle.sql_ast.specs.declared.tree.SqlItem.{SqlItem}
use Rattle.sql_ast.specs.declared.tree.SqlItem.TheVariants as items
use Rattle.sql_ast.specs.declared.tree.SqlKey.{SqlKey}
use Rattle.sql_ast.specs.declared.tree.SqlOpnd.{SqlOpnd}
use Rattle.sql_ast.specs.declared.tree.SqlOpnd.TheVariants as opnds
use Rattle.sql_ast.specs.Canonical.{alias_text, col_text, column_text, doubled, scalar_text, opnd_text, cmp_text, from_item_text, further_items_text, from_text, opening, closing, in_text, condition_text, filter_text, item_text, group_text, down_text, least_text, key_text, keys_text, limit_text, kind_text, source_text, exists_text, canonical}
use Rattle.sql_ast.specs.Tokens.{is_name}
use Rattle.sql_ast.specs.Tree.{Condition, Both, Either, Not, Compare, Bare, Exists, Within, Filter, Everything, Where, PlainQuery, Listing, Number, Truth}
use Rattle.sql_ast.specs.Utf8.{ScalarIsUtf8, OperandIsUtf8, ConditionIsUtf8, FilterIsUtf8, LiteralsAreUtf8}
use Rattle.sql_ast.specs.Valid.{IsFromItem, IsColOf, IsOpndOf, IsConditionOf, IsFilterOf, IsItemOf, IsGroupOf, IsKeyOf, IsKindOf, IsQueryOf}

-- ---- ASCII

ascii_then : (x : ℕ) (xs : List ℕ) → x < 128 → IsUtf8 xs → IsUtf8 (x ∷ xs)
ascii_then x xs small u = IsUtf8-append (x ∷ []) xs (subst IsUtf8 (encode_ascii x small) (IsUtf8-encode x (low_scalar x (omega arith)))) u

abbrev are_ascii : List ℕ → Bool
are_ascii [] = true
are_ascii (x ∷ xs) = nat_lt x 128 && are_ascii xs

ascii : (xs : List ℕ) → are_ascii xs ≡ true → IsUtf8 xs
ascii [] e = IsUtf8-nil
ascii (x ∷ xs) e = let p = and_parts _ _ e in ascii_then x xs (ltb-true _ _ p.0) (ascii xs p.1)

join : {xs ys : List ℕ} → IsUtf8 xs → IsUtf8 ys → IsUtf8 (xs ++ ys)
join {xs} {ys} a b = IsUtf8-append xs ys a b

-- ---- numbers

glyph_is_ascii : (d : ℕ) → d < 10 → nat_lt (digit_glyph false d) 128 ≡ true
glyph_is_ascii d h = go (nat_lt d 10)
  where
    go : (b : Bool) → nat_lt (cond b (48 + d) (87 + d)) 128 ≡ true
    go true = grind (arith, nat_tests, h)
    go false = grind (arith, nat_tests, h)

onto_ascii : (k n : ℕ) (acc : List ℕ) → are_ascii acc ≡ true → are_ascii (digits_onto k 10 false n acc) ≡ true
onto_ascii zero n acc h = h
onto_ascii (suc k) n acc h = go (n / 10 == 0) both (onto_ascii k (n / 10) (digit_glyph false (n % 10) ∷ acc) both)
  where
    both : are_ascii (digit_glyph false (n % 10) ∷ acc) ≡ true
    both = ap₂ (λ x y. x && y) (glyph_is_ascii (n % 10) (mod_below n 10 (omega arith))) h

    go : (b : Bool) → are_ascii (digit_glyph false (n % 10) ∷ acc) ≡ true → are_ascii (digits_onto k 10 false (n / 10) (digit_glyph false (n % 10) ∷ acc)) ≡ true
        → are_ascii (cond b (digit_glyph false (n % 10) ∷ acc) (digits_onto k 10 false (n / 10) (digit_glyph false (n % 10) ∷ acc))) ≡ true
    go true one more = one
    go false one more = more

decimal_is : (n : ℕ) → IsUtf8 (decimal n)
unfolding digits
decimal_is n = ascii (digits_onto 64 10 false n []) (onto_ascii 64 n [] refl)

signed_is : (z : ℤ) → IsUtf8 (signed_decimal z)
signed_is (pos n) = decimal_is n
signed_is (negsuc n) = ascii_then 45 (decimal (suc n)) (omega arith) (decimal_is (suc n))

-- ---- texts in quotes

doubled_append : (xs ys : List ℕ) → doubled (xs ++ ys) ≡ doubled xs ++ doubled ys
doubled_append [] ys = refl
doubled_append (x ∷ xs) ys = go (nat_eq x 39) (doubled_append xs ys)
  where
    go : (b : Bool) → doubled (xs ++ ys) ≡ doubled xs ++ doubled ys → cond b (39 ∷ 39 ∷ doubled (xs ++ ys)) (x ∷ doubled (xs ++ ys)) ≡ cond b (39 ∷ 39 ∷ doubled xs) (x ∷ doubled xs) ++ doubled ys
    go true e = ap (λ (w : List ℕ). 39 ∷ 39 ∷ w) e
    go false e = ap (λ (w : List ℕ). x ∷ w) e

-- bytes past ASCII stand as they are
no_quote : (x : ℕ) → 128 ≤ x → nat_eq x 39 ≡ false
no_quote x h = grind (arith, nat_tests, h)

doubled_high : (xs : List ℕ) → ((k : ℕ) → k < length xs → 128 ≤ get_or xs k 0) → doubled xs ≡ xs
doubled_high [] h = refl
doubled_high (x ∷ xs) h =
    ap₂ (λ (b : Bool) (w : List ℕ). cond b (39 ∷ 39 ∷ w) (x ∷ w)) (no_quote x (h 0 (omega arith))) (doubled_high xs (λ k below. h (suc k) (omega (arith, below))))

one_char : (c : ℕ) → scalar c ≡ true → IsUtf8 (doubled (encode c))
one_char c ok = elim (cases_lt c 128) [
  | inl small ↦ rw (encode_ascii c small) (go small (nat_eq c 39))
  | inr big ↦
      let high : (k : ℕ) → k < length (encode c) → 128 ≤ get_or (encode c) k 0 = λ k below. elim (cases_lt (get_or (encode c) k 0) 128) [
        | inl low ↦ absurd (omega (arith, inside_one c [] (encode c) k (sym (append-nil _)) below low))
        | inr h ↦ h
      ] in
      subst IsUtf8 (sym (doubled_high (encode c) high)) (IsUtf8-encode c ok)
]
  where
    go : c < 128 → (b : Bool) → IsUtf8 (cond b (39 ∷ 39 ∷ []) (c ∷ []))
    go small true = ascii (39 ∷ 39 ∷ []) refl
    go small false = ascii_then c [] small IsUtf8-nil

all_chars : (cs : List ℕ) → scalars cs ≡ true → IsUtf8 (doubled (encodes cs))
all_chars [] e = IsUtf8-nil
all_chars (c ∷ cs) e =
    let p = and_parts _ _ e in
    subst IsUtf8 (sym (doubled_append (encode c) (encodes cs))) (IsUtf8-append _ _ (one_char c p.0) (all_chars cs p.1))

doubled_is : (text : List ℕ) → IsUtf8 text → IsUtf8 (doubled text)
doubled_is text u = subst (λ l. IsUtf8 (doubled l)) u.1.1 (all_chars u.0 u.1.0)

scalar_is : (x : Scalar) → ScalarIsUtf8 x → IsUtf8 (scalar_text x)
scalar_is (constants.Long n) h = signed_is n
scalar_is (constants.Bool true) h = ascii (codes "TRUE") refl
scalar_is (constants.Bool false) h = ascii (codes "FALSE") refl
scalar_is (constants.Text text) h = join (join (ascii (codes "'") refl) (doubled_is text h)) (ascii (codes "'") refl)

-- ---- names and columns

name_byte : (b : ℕ) → is_name_part b ≡ true → b < 128
name_byte b h = grind (arith, nat_tests, h)

start_byte : (b : ℕ) → is_name_start b ≡ true → b < 128
start_byte b h = grind (arith, nat_tests, h)

parts_are : (bs : List ℕ) → list_all is_name_part bs ≡ true → IsUtf8 bs
parts_are [] h = IsUtf8-nil
parts_are (b ∷ bs) h = let p = and_parts _ _ h in ascii_then b bs (name_byte b p.0) (parts_are bs p.1)

name_is : (name : List ℕ) → is_name name ≡ true → IsUtf8 name
name_is [] h = IsUtf8-nil
name_is (b ∷ bs) h = let p = and_parts _ _ h in ascii_then b bs (start_byte b p.0) (parts_are bs p.1)

alias_is : (n : ℕ) → IsUtf8 (alias_text n)
alias_is n = join (ascii (codes "t") refl) (decimal_is n)

cmp_is : (cmp : Cmp) → IsUtf8 (cmp_text cmp)
cmp_is tests.Eq = ascii (codes " = ") refl
cmp_is tests.Ne = ascii (codes " <> ") refl
cmp_is tests.Lt = ascii (codes " < ") refl
cmp_is tests.Le = ascii (codes " <= ") refl
cmp_is tests.Gt = ascii (codes " > ") refl
cmp_is tests.Ge = ascii (codes " >= ") refl

opening_is : (b : Bool) → IsUtf8 (opening b)
opening_is true = ascii (codes "(") refl
opening_is false = IsUtf8-nil

closing_is : (b : Bool) → IsUtf8 (closing b)
closing_is true = ascii (codes ")") refl
closing_is false = IsUtf8-nil

in_is : (b : Bool) → IsUtf8 (in_text b)
in_is true = ascii (codes " NOT IN (SELECT ") refl
in_is false = ascii (codes " IN (SELECT ") refl

module _ (schema : Schema) where
  col_is : (froms : List FromItem) (col : SqlCol) → IsColOf schema froms col → IsUtf8 (col_text col)
  col_is froms col is = join (join (alias_is col.item) (ascii (codes ".") refl)) (name_is (column_text col.column) is.word.0)

  opnd_is : (froms : List FromItem) (a : SqlOpnd) → IsOpndOf schema froms a → OperandIsUtf8 a → IsUtf8 (opnd_text a)
  opnd_is froms (opnds.Column col) is h = col_is froms col is
  opnd_is froms (opnds.Lit x) is h = scalar_is x h
  opnd_is froms (opnds.Param n) is h = join (ascii (codes "?") refl) (decimal_is n)

  from_item_is : (n : ℕ) (from : FromItem) → IsFromItem schema from → IsUtf8 (from_item_text n from)
  from_item_is n from is = join (join (name_is from.name is.word.0) (ascii (codes " ") refl)) (alias_is n)

  further_are : (n : ℕ) (froms : List FromItem) → AllByRecursion (IsFromItem schema) froms → IsUtf8 (further_items_text n froms)
  further_are n [] is = IsUtf8-nil
  further_are n (from ∷ froms) is = join (join (ascii (codes ", ") refl) (from_item_is n from is.0)) (further_are (suc n) froms is.1)

  froms_are : (around : ℕ) (froms : List FromItem) → AllByRecursion (IsFromItem schema) froms → IsUtf8 (from_text around froms)
  froms_are around [] is = IsUtf8-nil
  froms_are around (from ∷ froms) is = join (from_item_is (suc around) from is.0) (further_are (suc (suc around)) froms is.1)

  mutual
    condition_is : (froms : List FromItem) (t : Condition) → IsConditionOf schema froms t → ConditionIsUtf8 t → (around rank : ℕ) → IsUtf8 (condition_text around rank t)
    condition_is froms (Either a b) is h around rank =
        let first = join (opening_is (nat_lt 0 rank)) (condition_is froms a is.0 h.0 around 0) in
        join (join (join first (ascii (codes " OR ") refl)) (condition_is froms b is.1 h.1 around 1)) (closing_is (nat_lt 0 rank))
    condition_is froms (Both a b) is h around rank =
        let first = join (opening_is (nat_lt 1 rank)) (condition_is froms a is.0 h.0 around 1) in
        join (join (join first (ascii (codes " AND ") refl)) (condition_is froms b is.1 h.1 around 2)) (closing_is (nat_lt 1 rank))
    condition_is froms (Not a) is h around rank = join (ascii (codes "NOT ") refl) (condition_is froms a is h around 2)
    condition_is froms (Compare cmp a b) is h around rank = join (join (opnd_is froms a is.0 h.0) (cmp_is cmp)) (opnd_is froms b is.1 h.1)
    condition_is froms (Bare col) is h around rank = col_is froms col is
    condition_is froms (Exists from filter_) is h around rank =
        let items = join (ascii (codes "EXISTS (SELECT 1 FROM ") refl) (froms_are around from is.0.each) in
        join (join items (filter_is (froms ++ from) filter_ is.1 h (around + length from))) (ascii (codes ")") refl)
    condition_is froms (Within a negated col from filter_) is h around rank =
        let first = join (join (opnd_is froms a is.0 h.0) (in_is negated)) (col_is (froms ++ from) col is.2) in
        let items = join (join first (ascii (codes " FROM ") refl)) (froms_are around from is.1.each) in
        join (join items (filter_is (froms ++ from) filter_ is.3 h.1 (around + length from))) (ascii (codes ")") refl)

    filter_is : (froms : List FromItem) (f : Filter) → IsFilterOf schema froms f → FilterIsUtf8 f → (around : ℕ) → IsUtf8 (filter_text around f)
    filter_is froms Everything is h around = IsUtf8-nil
    filter_is froms (Where a) is h around = join (ascii (codes " WHERE ") refl) (condition_is froms a is h around 0)

  -- ---- the parts of a query

  source_is : (from : List FromItem) (f : Filter) → AllByRecursion (IsFromItem schema) from → IsFilterOf schema from f → FilterIsUtf8 f → IsUtf8 (source_text from f)
  source_is from f are is h = join (join (ascii (codes " FROM ") refl) (froms_are 0 from are)) (filter_is from f is h (length from))

  item_is : (froms : List FromItem) (item : SqlItem) → IsItemOf schema froms item → IsUtf8 (item_text item)
  item_is froms (items.Whole n) is = join (alias_is n) (ascii (codes ".*") refl)
  item_is froms (items.Column col) is = col_is froms col is

  group_is : (froms : List FromItem) (group : Option SqlCol) → IsGroupOf schema froms group → IsUtf8 (group_text group)
  group_is froms None is = IsUtf8-nil
  group_is froms (Some col) is = join (ascii (codes " GROUP BY ") refl) (col_is froms col is)

  key_is : (froms : List FromItem) (key : SqlKey) → IsKeyOf schema froms key → IsUtf8 (key_text key)
  key_is froms key is = join (least_is key.least (col_is froms key.col is.0)) (down_is key.down)
    where
      least_is : (b : Bool) → IsUtf8 (col_text key.col) → IsUtf8 (least_text b key.col)
      least_is true col = join (join (ascii (codes "MIN(") refl) col) (ascii (codes ")") refl)
      least_is false col = col

      down_is : (b : Bool) → IsUtf8 (down_text b)
      down_is true = ascii (codes " DESC") refl
      down_is false = IsUtf8-nil

  further_keys_are : (froms : List FromItem) (keys : List SqlKey) → AllByRecursion (IsKeyOf schema froms) keys → IsUtf8 (flat_map (λ key. codes ", " ++ key_text key) keys)
  further_keys_are froms [] is = IsUtf8-nil
  further_keys_are froms (key ∷ keys) is = join (join (ascii (codes ", ") refl) (key_is froms key is.0)) (further_keys_are froms keys is.1)

  keys_are : (froms : List FromItem) (keys : List SqlKey) → AllByRecursion (IsKeyOf schema froms) keys → IsUtf8 (keys_text keys)
  keys_are froms [] is = IsUtf8-nil
  keys_are froms (key ∷ keys) is = join (ascii (codes " ORDER BY ") refl) (join (key_is froms key is.0) (further_keys_are froms keys is.1))

  limit_is : (limit : Option ℕ) → IsUtf8 (limit_text limit)
  limit_is None = IsUtf8-nil
  limit_is (Some n) = join (ascii (codes " LIMIT ") refl) (decimal_is n)

  total_is : (froms : List FromItem) (col : SqlCol) (other : ℤ) → IsColOf schema froms col → IsUtf8 (col_text col ++ codes "), " ++ signed_decimal other ++ codes ")")
  total_is froms col other is = join (join (join (col_is froms col is) (ascii (codes "), ") refl)) (signed_is other)) (ascii (codes ")") refl)

  kind_is : (froms : List FromItem) (kind : NumberKind) → IsKindOf schema froms kind → IsUtf8 (kind_text kind)
  kind_is froms kinds.Count is = ascii (codes "COUNT(*)") refl
  kind_is froms (kinds.Sum col other) is = join (ascii (codes "COALESCE(SUM(") refl) (total_is froms col other is.1.0)
  kind_is froms (kinds.Max col other) is = join (ascii (codes "COALESCE(MAX(") refl) (total_is froms col other is.0)
  kind_is froms (kinds.Min col other) is = join (ascii (codes "COALESCE(MIN(") refl) (total_is froms col other is.0)

  exists_is : (b : Bool) → IsUtf8 (exists_text b)
  exists_is true = ascii (codes "SELECT NOT EXISTS (SELECT 1") refl
  exists_is false = ascii (codes "SELECT EXISTS (SELECT 1") refl

  pub canonical_is_utf8 : (q : PlainQuery) → IsQueryOf schema q → LiteralsAreUtf8 q → IsUtf8 (canonical q)
  canonical_is_utf8 (Listing q) is h =
      let item = join (ascii (codes "SELECT ") refl) (item_is q.from q.item is.names.item) in
      let source = join item (source_is q.from q.filter is.names.items.each is.names.filter_ h) in
      join (join (join source (group_is q.from q.group is.names.group)) (keys_are q.from q.keys is.names.keys)) (limit_is q.limit)
  canonical_is_utf8 (Number q) is h =
      join (join (ascii (codes "SELECT ") refl) (kind_is q.from q.kind is.names.kind)) (source_is q.from q.filter is.names.items.each is.names.filter_ h)
  canonical_is_utf8 (Truth q) is h =
      join (join (exists_is q.negated) (source_is q.from q.filter is.names.items.each is.names.filter_ h)) (ascii (codes ")") refl)
