-- The canonical text of columns, operands, FROM items and conditions says what it is the text of.
use Rattle.std.proofs.Common.{◌≡◌, ℕ, zero, suc, ◌+◌, ◌<◌, ◌≤◌, ◌^◌, Bool, true, false, List, [], ◌∷◌, ◌++◌, length, codes, nat_lt, ℤ, pos, negsuc, Some, refl, sym, ap, ◌∙◌, subst, arith, append_assoc, length-append}
use Rattle.std.proofs.lemmas.List.{append-nil}
use Rattle.std.proofs.lemmas.Bool.Decides.{nat_tests}
use Rattle.std.proofs.lemmas.Fmt.{decimal_digit}
use Rattle.std.specs.Fmt.{decimal, signed_decimal}
use Rattle.std.specs.List.{AllByRecursion}
use Rattle.qbs_base.specs.declared.scalar.Scalar.TheVariants as scalars
use Rattle.qbs_base.specs.Values.{Schema, fits_long}
use Rattle.sql_ast.specs.declared.tree.Cmp.{Cmp}
use Rattle.sql_ast.specs.declared.tree.Cmp.TheVariants as tests
use Rattle.sql_ast.specs.declared.tree.FromItem.{FromItem}
use Rattle.sql_ast.specs.declared.tree.SqlCol.{SqlCol}
use Rattle.sql_ast.specs.declared.tree.SqlOpnd.{SqlOpnd}
use Rattle.sql_ast.specs.declared.tree.SqlOpnd.TheVariants as opnds
use Rattle.sql_ast.specs.Canonical.{alias_text, column_text, col_text, opnd_text, cmp_text, from_item_text, further_items_text, from_text, opening, closing, in_text, condition_text, filter_text}
use Rattle.sql_ast.specs.Grammar.{spelled, HasCol, dotted_col, positive_long, negative_long, negated, HasOpnd, col_opnd, long_opnd, text_opnd, true_opnd, false_opnd, param_opnd, HasPart, alias_part, HasParts, last_part, more_parts, is_in, not_in, HasCondition, one_conjunction, either, HasConjunction, one_negation, both, HasNegation, one_atom, negation, HasAtom, enclosed, comparison, bare, exists, within, source, HasWhere, no_where, where_of}
use Rattle.sql_ast.specs.Meaning.{nth}
use Rattle.sql_ast.specs.Tokens.{Token, Word, Digits, Negative, Quoted, Param, Test, Open, Close, Comma, Dot, is_name, HasTokens, param, token}
use Rattle.sql_ast.specs.Tree.{Condition, Both, Either, Not, Compare, Bare, Exists, Within, Filter, Everything, Where}
use Rattle.sql_ast.specs.Valid.{IsFromItem, AreItems, IsColOf, IsOpndOf, IsConditionOf, IsFilterOf}
use Rattle.sql_ast.specs.Written.{WrittenCol, WrittenPart, WrittenOpnd, WrittenCondition, WrittenFilter}
use Rattle.sql_ast.specs.Written as written
use Rattle.sql_ast.proofs.Canon.{col_of, opnd_of, part_of, parts_of, condition_of, filter_of}
use Rattle.sql_ast.proofs.Opened.{stops, Reads, Opens, word_reads, digits_reads, negative_reads, quoted_reads, then_reads, then_opens, reads_then, opens_reads, decimal_number, decimal_value, no_more, open_opens, close_opens, dot_opens, comma_opens, blank_opens, word_opens, spaced_opens, one_opens, cmp_opens, alias_name, alias_free}

-- the text's tokens, and that they have this by the grammar
pub record Shown {A : Type 0} (Has : List Token → A → Type 0) (text : List ℕ) (x : A) : Type 0 where
  pub tokens : List Token
  pub reads : Reads text tokens
  pub parsed : Has tokens x

-- ---- columns and operands

pub nth_below : {X : Type 0} (xs : List X) (n : ℕ) (x : X) → nth xs n ≡ Some x → (0 < n) × (n ≤ length xs)
nth_below xs zero x e = absurd cc
nth_below [] (suc n) x e = absurd cc
nth_below (y ∷ ys) (suc zero) x e = (omega arith, omega arith)
nth_below (y ∷ ys) (suc (suc n)) x e = let h = nth_below ys (suc n) x e in (omega arith, omega (arith, h.1))

pub item_small : {X : Type 0} (xs : List X) (n : ℕ) (x : X) → nth xs n ≡ Some x → length xs < 2 ^ 64 → n < 2 ^ 64
item_small xs n x e few = let h = nth_below xs n x e in omega (arith, h.1, few)

dot_starts : (b rest : List ℕ) → stops ((codes "." ++ b) ++ rest) ≡ true
dot_starts b rest = refl

pub named_reads : (alias name : List ℕ) → is_name alias ≡ true → is_name name ≡ true → Reads (alias ++ codes "." ++ name) (Word alias ∷ Dot ∷ Word name ∷ [])
named_reads alias name a n = then_reads (alias ++ codes ".") name (Word alias ∷ Dot ∷ []) (Word name ∷ []) (reads_then alias (codes ".") (Word alias ∷ []) (Dot ∷ []) (word_reads alias a) (λ rest. refl) dot_opens) (word_reads name n)

pub col_shown : (schema : Schema) (froms : List FromItem) (col : SqlCol) → length froms < 2 ^ 64 → IsColOf schema froms col → Shown HasCol (col_text col) (col_of col)
col_shown schema froms col few c =
    let small = item_small froms col.item c.from c.item few in
    record {
      tokens = Word (alias_text col.item) ∷ Dot ∷ Word (column_text col.column) ∷ [];
      reads = named_reads (alias_text col.item) (column_text col.column) (alias_name col.item small) c.word.0;
      parsed = dotted_col (alias_free col.item small) c.word.1;
    }

fits_is_small : (n : ℕ) → nat_lt n (2 ^ 63) ≡ true → n < 2 ^ 64
fits_is_small n h = let l : n < 2 ^ 63 = grind (arith, nat_tests, h) in omega (arith, l)

long_shown : (n : ℤ) → fits_long n ≡ true → Shown HasOpnd (signed_decimal n) (written.Lit (scalars.Long n))
long_shown (pos n) fits =
    let small = fits_is_small n fits in
    let v = decimal_value n small in
    record {
      tokens = Digits (decimal n) ∷ [];
      reads = digits_reads (decimal n) (decimal_number n small);
      parsed = subst (λ (m : ℕ). HasOpnd (Digits (decimal n) ∷ []) (written.Lit (scalars.Long (pos m)))) v (long_opnd (positive_long (subst (λ (m : ℕ). fits_long (pos m) ≡ true) (sym v) fits)));
    }
long_shown (negsuc n) fits =
    let small : suc n < 2 ^ 64 = (let l : n < 2 ^ 63 = grind (arith, nat_tests, fits) in omega (arith, l)) in
    let v = decimal_value (suc n) small in
    record {
      tokens = Negative (decimal (suc n)) ∷ [];
      reads = negative_reads (decimal (suc n)) (decimal_number (suc n) small);
      parsed = subst (λ (m : ℕ). HasOpnd (Negative (decimal (suc n)) ∷ []) (written.Lit (scalars.Long (negated m)))) v (long_opnd (negative_long (subst (λ (m : ℕ). fits_long (negated m) ≡ true) (sym v) fits)));
    }

param_reads : (n : ℕ) → n < 9 → Reads (codes "?" ++ decimal (suc n)) (Param (suc n) ∷ [])
param_reads n lt =
    let e : codes "?" ++ decimal (suc n) ≡ 63 ∷ (49 + n) ∷ [] = ap (λ (w : List ℕ). codes "?" ++ w) (decimal_digit (suc n) (omega (arith, lt)) ∙ (let s : 48 + suc n ≡ 49 + n = omega arith in ap (λ (m : ℕ). m ∷ []) s)) in
    subst (λ (w : List ℕ). Reads w (Param (suc n) ∷ [])) (sym e) (λ rest us stop h. token (param lt) (no_more rest) h)

param_shown : (n : ℕ) → (1 ≤ n) × (n ≤ 9) → Shown HasOpnd (codes "?" ++ decimal n) (written.Param n)
param_shown zero h = absurd (omega (arith, h.0))
param_shown (suc n) h = record { tokens = Param (suc n) ∷ []; reads = param_reads n (omega (arith, h.1)); parsed = param_opnd }

pub opnd_shown : (schema : Schema) (froms : List FromItem) (a : SqlOpnd) → length froms < 2 ^ 64 → IsOpndOf schema froms a → Shown HasOpnd (opnd_text a) (opnd_of a)
opnd_shown schema froms (opnds.Column col) few c = let s = col_shown schema froms col few c in record { tokens = s.tokens; reads = s.reads; parsed = col_opnd s.parsed }
opnd_shown schema froms (opnds.Lit (scalars.Long n)) few fits = long_shown n fits
opnd_shown schema froms (opnds.Lit (scalars.Bool true)) few fits = record { tokens = Word (codes "TRUE") ∷ []; reads = word_reads (codes "TRUE") refl; parsed = true_opnd (spelled refl) }
opnd_shown schema froms (opnds.Lit (scalars.Bool false)) few fits = record { tokens = Word (codes "FALSE") ∷ []; reads = word_reads (codes "FALSE") refl; parsed = false_opnd (spelled refl) }
opnd_shown schema froms (opnds.Lit (scalars.Text text)) few fits = record { tokens = Quoted text ∷ []; reads = quoted_reads text; parsed = text_opnd }
opnd_shown schema froms (opnds.Param n) few fits = param_shown n fits

-- ---- FROM items

part_shown : (schema : Schema) (n : ℕ) (from : FromItem) → n < 2 ^ 64 → IsFromItem schema from → Shown HasPart (from_item_text n from) (part_of n from)
part_shown schema n from small f = record {
  tokens = Word from.name ∷ Word (alias_text n) ∷ [];
  reads = then_reads (from.name ++ codes " ") (alias_text n) (Word from.name ∷ []) (Word (alias_text n) ∷ []) (word_opens from.name f.word.0) (word_reads (alias_text n) (alias_name n small));
  parsed = alias_part f.word.1 (alias_free n small);
}

pub joined_reads : (x a b : List ℕ) (xs ys : List Token) → Reads x xs → Reads (a ++ b) ys → Reads (x ++ (codes ", " ++ a ++ b)) (xs ++ Comma ∷ ys)
joined_reads x a b xs ys first second rest us stop h =
    simp append_assoc (first (codes ", " ++ (a ++ (b ++ rest))) (Comma ∷ (ys ++ us)) refl (comma_opens (a ++ (b ++ rest)) (ys ++ us) (subst (λ (w : List ℕ). HasTokens w (ys ++ us)) (append_assoc a b rest) (second rest us stop h))))

parts_shown : (schema : Schema) (n : ℕ) (from : FromItem) (froms : List FromItem) → n + length froms < 2 ^ 64 → IsFromItem schema from → AllByRecursion (IsFromItem schema) froms → Shown HasParts (from_item_text n from ++ further_items_text (suc n) froms) (part_of n from ∷ parts_of (suc n) froms)
parts_shown schema n from [] few f fs =
    let s = part_shown schema n from (omega (arith, few)) f in
    record { tokens = s.tokens; reads = subst (λ (w : List ℕ). Reads w s.tokens) (sym (append-nil (from_item_text n from))) s.reads; parsed = last_part s.parsed }
parts_shown schema n from (next ∷ froms) few f fs =
    let s = part_shown schema n from (omega (arith, few)) f in
    let later = parts_shown schema (suc n) next froms (omega (arith, few)) fs.0 fs.1 in
    record {
      tokens = s.tokens ++ Comma ∷ later.tokens;
      reads = joined_reads (from_item_text n from) (from_item_text (suc n) next) (further_items_text (suc (suc n)) froms) s.tokens later.tokens s.reads later.reads;
      parsed = more_parts s.parsed later.parsed;
    }

pub from_shown : (schema : Schema) (around froms : List FromItem) → AreItems schema around froms → Shown HasParts (from_text (length around) froms) (parts_of (suc (length around)) froms)
from_shown schema around [] a = absurd (omega (arith, a.some))
from_shown schema around (from ∷ froms) a = parts_shown schema (suc (length around)) from froms (omega (arith, a.few, length-append around (from ∷ froms))) a.each.0 a.each.1

-- ---- conditions

-- a condition where only what binds as tightly as this may stand
abbrev pub HasRank : ℕ → List Token → WrittenCondition → Type 0
HasRank zero ts a = HasCondition ts a
HasRank (suc zero) ts a = HasConjunction ts a
HasRank (suc (suc r)) ts a = HasNegation ts a

from_negation : (r : ℕ) (ts : List Token) (a : WrittenCondition) → HasNegation ts a → HasRank r ts a
from_negation zero ts a h = one_conjunction (one_negation h)
from_negation (suc zero) ts a h = one_negation h
from_negation (suc (suc r)) ts a h = h

from_atom : (r : ℕ) (ts : List Token) (a : WrittenCondition) → HasAtom ts a → HasRank r ts a
from_atom r ts a h = from_negation r ts a (one_atom h)

-- a text between two others
between_reads : (x b y : List ℕ) (xs ks ys : List Token) → ((rest : List ℕ) → stops (b ++ rest) ≡ true) → Reads x xs → Opens b ks → Reads y ys → Reads ((x ++ b) ++ y) (xs ++ (ks ++ ys))
between_reads x b y xs ks ys starts first opens second rest us stop h = simp append_assoc (first (b ++ (y ++ rest)) (ks ++ (ys ++ us)) (starts (y ++ rest)) (opens (y ++ rest) (ys ++ us) (second rest us stop h)))

-- the same in parentheses, or with none
wrapped_reads : (x b y : List ℕ) (xs ks ys : List Token) → ((rest : List ℕ) → stops (b ++ rest) ≡ true) → Reads x xs → Opens b ks → Reads y ys → Reads ((((codes "(" ++ x) ++ b) ++ y) ++ codes ")") (Open ∷ (xs ++ (ks ++ ys)) ++ Close ∷ [])
wrapped_reads x b y xs ks ys starts first opens second =
    then_reads (codes "(") (((x ++ b) ++ y) ++ codes ")") (Open ∷ []) ((xs ++ (ks ++ ys)) ++ Close ∷ []) open_opens
    (opens_reads (((x ++ b) ++ y) ++ codes ")") ((xs ++ (ks ++ ys)) ++ Close ∷ []) (reads_then ((x ++ b) ++ y) (codes ")") (xs ++ (ks ++ ys)) (Close ∷ []) (between_reads x b y xs ks ys starts first opens second) (λ rest. refl) close_opens))

plain_reads : (x b y : List ℕ) (xs ks ys : List Token) → ((rest : List ℕ) → stops (b ++ rest) ≡ true) → Reads x xs → Opens b ks → Reads y ys → Reads ((((codes "" ++ x) ++ b) ++ y) ++ codes "") (xs ++ (ks ++ ys))
plain_reads x b y xs ks ys starts first opens second = subst (λ (w : List ℕ). Reads w (xs ++ (ks ++ ys))) (sym (append-nil ((x ++ b) ++ y))) (between_reads x b y xs ks ys starts first opens second)

either_shown : (r : ℕ) (x y : List ℕ) (a b : WrittenCondition) → Shown HasCondition x a → Shown HasConjunction y b → Shown (HasRank r) ((((opening (nat_lt 0 r) ++ x) ++ codes " OR ") ++ y) ++ closing (nat_lt 0 r)) (written.Either a b)
either_shown zero x y a b s t = record {
  tokens = s.tokens ++ (Word (codes "OR") ∷ t.tokens);
  reads = plain_reads x (codes " OR ") y s.tokens (Word (codes "OR") ∷ []) t.tokens (λ rest. refl) s.reads (spaced_opens (codes "OR") refl) t.reads;
  parsed = either s.parsed (spelled refl) t.parsed;
}
either_shown (suc r) x y a b s t = record {
  tokens = Open ∷ (s.tokens ++ (Word (codes "OR") ∷ t.tokens)) ++ Close ∷ [];
  reads = rw (below r) (wrapped_reads x (codes " OR ") y s.tokens (Word (codes "OR") ∷ []) t.tokens (λ rest. refl) s.reads (spaced_opens (codes "OR") refl) t.reads);
  parsed = from_atom (suc r) (Open ∷ (s.tokens ++ (Word (codes "OR") ∷ t.tokens)) ++ Close ∷ []) (written.Either a b) (enclosed (either s.parsed (spelled refl) t.parsed));
}
  where
    below : (r : ℕ) → nat_lt 0 (suc r) ≡ true
    below r = grind (arith, nat_tests)

both_shown : (r : ℕ) (x y : List ℕ) (a b : WrittenCondition) → Shown HasConjunction x a → Shown HasNegation y b → Shown (HasRank r) ((((opening (nat_lt 1 r) ++ x) ++ codes " AND ") ++ y) ++ closing (nat_lt 1 r)) (written.Both a b)
both_shown zero x y a b s t = record {
  tokens = s.tokens ++ (Word (codes "AND") ∷ t.tokens);
  reads = plain_reads x (codes " AND ") y s.tokens (Word (codes "AND") ∷ []) t.tokens (λ rest. refl) s.reads (spaced_opens (codes "AND") refl) t.reads;
  parsed = one_conjunction (both s.parsed (spelled refl) t.parsed);
}
both_shown (suc zero) x y a b s t = record {
  tokens = s.tokens ++ (Word (codes "AND") ∷ t.tokens);
  reads = plain_reads x (codes " AND ") y s.tokens (Word (codes "AND") ∷ []) t.tokens (λ rest. refl) s.reads (spaced_opens (codes "AND") refl) t.reads;
  parsed = both s.parsed (spelled refl) t.parsed;
}
both_shown (suc (suc r)) x y a b s t = record {
  tokens = Open ∷ (s.tokens ++ (Word (codes "AND") ∷ t.tokens)) ++ Close ∷ [];
  reads = rw (below r) (wrapped_reads x (codes " AND ") y s.tokens (Word (codes "AND") ∷ []) t.tokens (λ rest. refl) s.reads (spaced_opens (codes "AND") refl) t.reads);
  parsed = from_atom (suc (suc r)) (Open ∷ (s.tokens ++ (Word (codes "AND") ∷ t.tokens)) ++ Close ∷ []) (written.Both a b) (enclosed (one_conjunction (both s.parsed (spelled refl) t.parsed)));
}
  where
    below : (r : ℕ) → nat_lt 1 (suc (suc r)) ≡ true
    below r = grind (arith, nat_tests)

not_shown : (r : ℕ) (x : List ℕ) (a : WrittenCondition) → Shown HasNegation x a → Shown (HasRank r) (codes "NOT " ++ x) (written.Not a)
not_shown r x a s = record {
  tokens = Word (codes "NOT") ∷ s.tokens;
  reads = then_reads (codes "NOT ") x (Word (codes "NOT") ∷ []) s.tokens (word_opens (codes "NOT") refl) s.reads;
  parsed = from_negation r (Word (codes "NOT") ∷ s.tokens) (written.Not a) (negation (spelled refl) s.parsed);
}

cmp_stops : (cmp : Cmp) (rest : List ℕ) → stops (cmp_text cmp ++ rest) ≡ true
cmp_stops tests.Eq rest = refl
cmp_stops tests.Ne rest = refl
cmp_stops tests.Lt rest = refl
cmp_stops tests.Le rest = refl
cmp_stops tests.Gt rest = refl
cmp_stops tests.Ge rest = refl

compare_shown : (r : ℕ) (x y : List ℕ) (cmp : Cmp) (a b : WrittenOpnd) → Shown HasOpnd x a → Shown HasOpnd y b → Shown (HasRank r) ((x ++ cmp_text cmp) ++ y) (written.Compare cmp a b)
compare_shown r x y cmp a b s t = record {
  tokens = s.tokens ++ (Test cmp ∷ t.tokens);
  reads = between_reads x (cmp_text cmp) y s.tokens (Test cmp ∷ []) t.tokens (cmp_stops cmp) s.reads (cmp_opens cmp) t.reads;
  parsed = from_atom r (s.tokens ++ (Test cmp ∷ t.tokens)) (written.Compare cmp a b) (comparison s.parsed t.parsed);
}

-- ---- inner SELECTs

exists_opens : Opens (codes "EXISTS (SELECT 1 FROM ") (Word (codes "EXISTS") ∷ Open ∷ Word (codes "SELECT") ∷ Digits (codes "1") ∷ Word (codes "FROM") ∷ [])
exists_opens =
    then_opens (codes "EXISTS (SELECT ") (codes "1 FROM ") (Word (codes "EXISTS") ∷ Open ∷ Word (codes "SELECT") ∷ []) (Digits (codes "1") ∷ Word (codes "FROM") ∷ [])
    (then_opens (codes "EXISTS (") (codes "SELECT ") (Word (codes "EXISTS") ∷ Open ∷ []) (Word (codes "SELECT") ∷ []) (then_opens (codes "EXISTS ") (codes "(") (Word (codes "EXISTS") ∷ []) (Open ∷ []) (word_opens (codes "EXISTS") refl) open_opens) (word_opens (codes "SELECT") refl))
    (then_opens (codes "1 ") (codes "FROM ") (Digits (codes "1") ∷ []) (Word (codes "FROM") ∷ []) one_opens (word_opens (codes "FROM") refl))

-- a text after which a stop comes where one comes after it
abbrev pub KeepsStops : List ℕ → Type 0
KeepsStops w = (rest : List ℕ) → stops rest ≡ true → stops (w ++ rest) ≡ true

select_reads : (p f w : List ℕ) (ps fs ws : List Token) → Opens p ps → Reads f fs → KeepsStops w → Reads w ws → Reads (((p ++ f) ++ w) ++ codes ")") (ps ++ ((fs ++ ws) ++ Close ∷ []))
select_reads p f w ps fs ws opens first keeps second rest us stop h =
    simp append_assoc (opens (f ++ (w ++ (codes ")" ++ rest))) (fs ++ (ws ++ (Close ∷ us))) (first (w ++ (codes ")" ++ rest)) (ws ++ (Close ∷ us)) (keeps (codes ")" ++ rest) refl) (second (codes ")" ++ rest) (Close ∷ us) refl (close_opens rest us h))))

within_reads : (o i c m f w : List ℕ) (os is cs ms fs ws : List Token) → Reads o os → ((rest : List ℕ) → stops (i ++ rest) ≡ true) → Opens i is → Reads c cs → ((rest : List ℕ) → stops (m ++ rest) ≡ true) → Opens m ms → Reads f fs → KeepsStops w → Reads w ws → Reads ((((((o ++ i) ++ c) ++ m) ++ f) ++ w) ++ codes ")") (os ++ (is ++ (cs ++ (ms ++ ((fs ++ ws) ++ Close ∷ [])))))
within_reads o i c m f w os is cs ms fs ws first in_starts in_opens col from_starts from_opens items keeps filter_ rest us stop h =
    simp append_assoc (first (i ++ (c ++ (m ++ (f ++ (w ++ (codes ")" ++ rest)))))) (is ++ (cs ++ (ms ++ (fs ++ (ws ++ (Close ∷ us)))))) (in_starts (c ++ (m ++ (f ++ (w ++ (codes ")" ++ rest))))))
    (in_opens (c ++ (m ++ (f ++ (w ++ (codes ")" ++ rest))))) (cs ++ (ms ++ (fs ++ (ws ++ (Close ∷ us)))))
    (col (m ++ (f ++ (w ++ (codes ")" ++ rest)))) (ms ++ (fs ++ (ws ++ (Close ∷ us)))) (from_starts (f ++ (w ++ (codes ")" ++ rest))))
    (from_opens (f ++ (w ++ (codes ")" ++ rest))) (fs ++ (ws ++ (Close ∷ us)))
    (items (w ++ (codes ")" ++ rest)) (ws ++ (Close ∷ us)) (keeps (codes ")" ++ rest) refl) (filter_ (codes ")" ++ rest) (Close ∷ us) refl (close_opens rest us h)))))))

exists_shown : (r : ℕ) (x w : List ℕ) (ps : List WrittenPart) (f : WrittenFilter) → Shown HasParts x ps → Shown HasWhere w f → KeepsStops w → Shown (HasRank r) (((codes "EXISTS (SELECT 1 FROM " ++ x) ++ w) ++ codes ")") (written.Exists ps f)
exists_shown r x w ps f s t keeps = record {
  tokens = Word (codes "EXISTS") ∷ Open ∷ Word (codes "SELECT") ∷ Digits (codes "1") ∷ (Word (codes "FROM") ∷ s.tokens ++ t.tokens) ++ Close ∷ [];
  reads = select_reads (codes "EXISTS (SELECT 1 FROM ") x w (Word (codes "EXISTS") ∷ Open ∷ Word (codes "SELECT") ∷ Digits (codes "1") ∷ Word (codes "FROM") ∷ []) s.tokens t.tokens exists_opens s.reads keeps t.reads;
  parsed = from_atom r (Word (codes "EXISTS") ∷ Open ∷ Word (codes "SELECT") ∷ Digits (codes "1") ∷ (Word (codes "FROM") ∷ s.tokens ++ t.tokens) ++ Close ∷ []) (written.Exists ps f) (exists (spelled refl) (spelled refl) (source (spelled refl) s.parsed t.parsed));
}

in_opens : Opens (codes " IN (SELECT ") (Word (codes "IN") ∷ Open ∷ Word (codes "SELECT") ∷ [])
in_opens =
    then_opens (codes " IN (") (codes "SELECT ") (Word (codes "IN") ∷ Open ∷ []) (Word (codes "SELECT") ∷ [])
    (then_opens (codes " IN ") (codes "(") (Word (codes "IN") ∷ []) (Open ∷ []) (spaced_opens (codes "IN") refl) open_opens) (word_opens (codes "SELECT") refl)

not_in_opens : Opens (codes " NOT IN (SELECT ") (Word (codes "NOT") ∷ Word (codes "IN") ∷ Open ∷ Word (codes "SELECT") ∷ [])
not_in_opens =
    reads_then (codes " NOT") (codes " IN (SELECT ") (Word (codes "NOT") ∷ []) (Word (codes "IN") ∷ Open ∷ Word (codes "SELECT") ∷ [])
    (then_reads (codes " ") (codes "NOT") [] (Word (codes "NOT") ∷ []) blank_opens (word_reads (codes "NOT") refl)) (λ rest. refl) in_opens

within_shown : (r : ℕ) (n : Bool) (o c x w : List ℕ) (a : WrittenOpnd) (col : WrittenCol) (ps : List WrittenPart) (f : WrittenFilter) → Shown HasOpnd o a → Shown HasCol c col → Shown HasParts x ps → Shown HasWhere w f → KeepsStops w → Shown (HasRank r) ((((((o ++ in_text n) ++ c) ++ codes " FROM ") ++ x) ++ w) ++ codes ")") (written.Within a n col ps f)
within_shown r false o c x w a col ps f p q s t keeps = record {
  tokens = p.tokens ++ (Word (codes "IN") ∷ Open ∷ Word (codes "SELECT") ∷ (q.tokens ++ ((Word (codes "FROM") ∷ s.tokens ++ t.tokens) ++ Close ∷ [])));
  reads = within_reads o (codes " IN (SELECT ") c (codes " FROM ") x w p.tokens (Word (codes "IN") ∷ Open ∷ Word (codes "SELECT") ∷ []) q.tokens (Word (codes "FROM") ∷ []) s.tokens t.tokens p.reads (λ rest. refl) in_opens q.reads (λ rest. refl) (spaced_opens (codes "FROM") refl) s.reads keeps t.reads;
  parsed = from_atom r (p.tokens ++ (Word (codes "IN") ∷ Open ∷ Word (codes "SELECT") ∷ (q.tokens ++ ((Word (codes "FROM") ∷ s.tokens ++ t.tokens) ++ Close ∷ [])))) (written.Within a false col ps f) (within p.parsed (is_in (spelled refl)) (spelled refl) q.parsed (source (spelled refl) s.parsed t.parsed));
}
within_shown r true o c x w a col ps f p q s t keeps = record {
  tokens = p.tokens ++ (Word (codes "NOT") ∷ Word (codes "IN") ∷ Open ∷ Word (codes "SELECT") ∷ (q.tokens ++ ((Word (codes "FROM") ∷ s.tokens ++ t.tokens) ++ Close ∷ [])));
  reads = within_reads o (codes " NOT IN (SELECT ") c (codes " FROM ") x w p.tokens (Word (codes "NOT") ∷ Word (codes "IN") ∷ Open ∷ Word (codes "SELECT") ∷ []) q.tokens (Word (codes "FROM") ∷ []) s.tokens t.tokens p.reads (λ rest. refl) not_in_opens q.reads (λ rest. refl) (spaced_opens (codes "FROM") refl) s.reads keeps t.reads;
  parsed = from_atom r (p.tokens ++ (Word (codes "NOT") ∷ Word (codes "IN") ∷ Open ∷ Word (codes "SELECT") ∷ (q.tokens ++ ((Word (codes "FROM") ∷ s.tokens ++ t.tokens) ++ Close ∷ [])))) (written.Within a true col ps f) (within p.parsed (not_in (spelled refl) (spelled refl)) (spelled refl) q.parsed (source (spelled refl) s.parsed t.parsed));
}

where_shown : (x : List ℕ) (a : WrittenCondition) → Shown HasCondition x a → Shown HasWhere (codes " WHERE " ++ x) (written.Where a)
where_shown x a s = record {
  tokens = Word (codes "WHERE") ∷ s.tokens;
  reads = then_reads (codes " WHERE ") x (Word (codes "WHERE") ∷ []) s.tokens (spaced_opens (codes "WHERE") refl) s.reads;
  parsed = where_of (spelled refl) s.parsed;
}

pub filter_keeps : (around : ℕ) (f : Filter) → KeepsStops (filter_text around f)
filter_keeps around Everything rest stop = stop
filter_keeps around (Where a) rest stop = refl

few_again : (n : ℕ) (froms from : List FromItem) → n ≡ length froms → n + length from ≡ length (froms ++ from)
few_again n froms from e = omega (arith, e, length-append froms from)

from_shown_at : (schema : Schema) (n : ℕ) (froms from : List FromItem) → n ≡ length froms → AreItems schema froms from → Shown HasParts (from_text n from) (parts_of (suc n) from)
from_shown_at schema n froms from e a = subst (λ (m : ℕ). Shown HasParts (from_text m from) (parts_of (suc m) from)) (sym e) (from_shown schema froms from a)

mutual
  pub condition_shown : (schema : Schema) (froms : List FromItem) (n r : ℕ) (c : Condition) → n ≡ length froms → length froms < 2 ^ 64 → IsConditionOf schema froms c → Shown (HasRank r) (condition_text n r c) (condition_of n c)
  condition_shown schema froms n r (Both a b) e few h = both_shown r (condition_text n 1 a) (condition_text n 2 b) (condition_of n a) (condition_of n b) (condition_shown schema froms n 1 a e few h.0) (condition_shown schema froms n 2 b e few h.1)
  condition_shown schema froms n r (Either a b) e few h = either_shown r (condition_text n 0 a) (condition_text n 1 b) (condition_of n a) (condition_of n b) (condition_shown schema froms n 0 a e few h.0) (condition_shown schema froms n 1 b e few h.1)
  condition_shown schema froms n r (Not a) e few h = not_shown r (condition_text n 2 a) (condition_of n a) (condition_shown schema froms n 2 a e few h)
  condition_shown schema froms n r (Compare cmp a b) e few h = compare_shown r (opnd_text a) (opnd_text b) cmp (opnd_of a) (opnd_of b) (opnd_shown schema froms a few h.0) (opnd_shown schema froms b few h.1)
  condition_shown schema froms n r (Bare col) e few h =
      let s = col_shown schema froms col few h in record { tokens = s.tokens; reads = s.reads; parsed = from_atom r s.tokens (written.Bare (col_of col)) (bare s.parsed) }
  condition_shown schema froms n r (Exists from f) e few h =
      exists_shown r (from_text n from) (filter_text (n + length from) f) (parts_of (suc n) from) (filter_of (n + length from) f) (from_shown_at schema n froms from e h.0)
      (filter_shown schema (froms ++ from) (n + length from) f (few_again n froms from e) h.0.few h.1) (filter_keeps (n + length from) f)
  condition_shown schema froms n r (Within a negated col from f) e few h =
      within_shown r negated (opnd_text a) (col_text col) (from_text n from) (filter_text (n + length from) f) (opnd_of a) (col_of col) (parts_of (suc n) from) (filter_of (n + length from) f) (opnd_shown schema froms a few h.0) (col_shown schema (froms ++ from) col h.1.few h.2) (from_shown_at schema n froms from e h.1)
      (filter_shown schema (froms ++ from) (n + length from) f (few_again n froms from e) h.1.few h.3) (filter_keeps (n + length from) f)

  pub filter_shown : (schema : Schema) (froms : List FromItem) (n : ℕ) (f : Filter) → n ≡ length froms → length froms < 2 ^ 64 → IsFilterOf schema froms f → Shown HasWhere (filter_text n f) (filter_of n f)
  filter_shown schema froms n Everything e few h = record { tokens = []; reads = λ rest us stop has. has; parsed = no_where }
  filter_shown schema froms n (Where a) e few h = where_shown (condition_text n 0 a) (condition_of n a) (condition_shown schema froms n 0 a e few h)
