-- What a text's names stand for is known under the schema.
use Rattle.std.proofs.Common.{◌≡◌, ℕ, zero, suc, ◌+◌, ◌<◌, ◌≤◌, ◌^◌, Bool, true, false, cond, List, [], ◌∷◌, ◌++◌, map, length, codes, Option, Some, None, refl, sym, ap, ◌∙◌, subst, arith, length-append}
use Rattle.std.specs.List.{AllByRecursion}
use Rattle.std.specs.Prelude.{slice_get}
use Rattle.std.specs.Str.{bytes_eq}
use Rattle.std.proofs.lemmas.Slice.Eq.{bytes_eq-Decides}
use Rattle.std.proofs.lemmas.List.{map-append, length-map}
use Rattle.qbs_base.specs.declared.columns.Column.{Column}
use Rattle.qbs_base.specs.declared.columns.Table.{Table}
use Rattle.qbs_base.specs.declared.scalar.Scalar.TheVariants as scalars
use Rattle.qbs_base.specs.Columns.{table_number, column_number}
use Rattle.qbs_base.specs.Values.{Schema}
use Rattle.sql_ast.specs.declared.tree.Cmp.{Cmp}
use Rattle.sql_ast.specs.declared.tree.Cmp.TheVariants as tests
use Rattle.sql_ast.specs.declared.tree.FromItem.{FromItem}
use Rattle.sql_ast.specs.declared.tree.SqlCol.{SqlCol}
use Rattle.sql_ast.specs.declared.tree.SqlColumn.{SqlColumn}
use Rattle.sql_ast.specs.declared.tree.SqlColumn.TheVariants as columns
use Rattle.sql_ast.specs.declared.tree.SqlOpnd.{SqlOpnd}
use Rattle.sql_ast.specs.declared.tree.SqlOpnd.TheVariants as opnds
use Rattle.sql_ast.specs.Canonical.{column_text}
use Rattle.sql_ast.specs.Grammar.{HasCol, plain_col, dotted_col, positive_long, negative_long, negated, HasOpnd, col_opnd, long_opnd, text_opnd, true_opnd, false_opnd, param_opnd, HasPart, plain_part, alias_part, as_part, HasParts, last_part, more_parts, HasCondition, one_conjunction, either, HasConjunction, one_negation, both, HasNegation, one_atom, negation, HasAtom, enclosed, comparison, bare, exists, within, HasSource, source, HasWhere, no_where, where_of}
use Rattle.sql_ast.specs.Meaning.{nth}
use Rattle.sql_ast.specs.Names.{◌>>=◌, each_of, Known, Scope, alias_of, known_part, are_distinct, known_parts, innermost, only_item, item_named, column_named, named_col, named_opnd, froms_of, inside, named_condition, named_filter}
use Rattle.sql_ast.specs.Tokens.{Token, Word, Param, Test, Open, Close, Comma, is_name, sign_of, HasSpelling, word, digits, negative, quoted, param, test, unlike, opened, closed, comma, dot, star, HasTokens, nothing, blank, token}
use Rattle.sql_ast.specs.Tree.{Condition, Filter}
use Rattle.sql_ast.specs.Tree as plain
use Rattle.sql_ast.specs.Valid.{IsWord, IsFromItem, AreItems, IsColOf, IsOpndOf, IsConditionOf, IsFilterOf}
use Rattle.sql_ast.specs.Written.{WrittenCol, WrittenPart, WrittenOpnd, WrittenCondition, WrittenFilter}
use Rattle.sql_ast.proofs.Tools.{some_is, bind_some, passed, all_parts, all_joined, all_at, slice_get_map, slice_get_after}

-- ---- tokens that are spelled

-- a word is a name, and a parameter has a digit from 1 to 9
abbrev pub IsForm : Token → Type 0
IsForm (Word w) = is_name w ≡ true
IsForm (Param n) = (1 ≤ n) × (n ≤ 9)
IsForm t = Unit {0}

abbrev pub AreForms : List Token → Type 0
AreForms ts = AllByRecursion IsForm ts

form_of : (us : List ℕ) (t : Token) → HasSpelling us t → (0 < length us) × IsForm t
form_of us t (word {bs = []} h) = absurd cc
form_of us t (word {bs = b ∷ bs} h) = (omega arith, h)
form_of us t (digits {bs = []} h) = absurd cc
form_of us t (digits {bs = b ∷ bs} h) = (omega arith, tt)
form_of us t (negative h) = (omega arith, tt)
form_of us t quoted = (omega arith, tt)
form_of us t (param h) = (omega arith, (omega arith, omega (arith, h)))
form_of us t (test {cmp = cmp}) = (sign_long cmp, tt)
  where
    sign_long : (cmp : Cmp) → 0 < length (sign_of cmp)
    sign_long tests.Eq = omega arith
    sign_long tests.Ne = omega arith
    sign_long tests.Lt = omega arith
    sign_long tests.Le = omega arith
    sign_long tests.Gt = omega arith
    sign_long tests.Ge = omega arith
form_of us t unlike = (omega arith, tt)
form_of us t opened = (omega arith, tt)
form_of us t closed = (omega arith, tt)
form_of us t comma = (omega arith, tt)
form_of us t dot = (omega arith, tt)
form_of us t star = (omega arith, tt)

pub tokens_form : (bs : List ℕ) (ts : List Token) → HasTokens bs ts → (length ts ≤ length bs) × AreForms ts
tokens_form bs ts nothing = (omega arith, tt)
tokens_form bs ts (blank {bs = rest} {ts = us} h has) = let f = tokens_form rest us has in (omega (arith, f.0), f.1)
tokens_form bs ts (token {us = us} {bs = rest} {t = t} {ts = later} s stop has) =
    let f = tokens_form rest later has in let g = form_of us t s in (omega (arith, f.0, g.0, length-append us rest), (g.1, f.1))

-- ---- columns

-- what is known of an item is its table's columns
abbrev pub IsKnown : Schema → Known → Type 0
IsKnown schema known = (table : Table) × (slice_get schema known.from.table ≡ Some table) × (known.columns ≡ table.columns)

abbrev pub items_of : Scope → List Known
items_of scope = scope.outer ++ scope.own

abbrev pub AreKnown : Schema → Scope → Type 0
AreKnown schema scope = AllByRecursion (IsKnown schema) (items_of scope)

abbrev Found : Type 0
Found = ℕ × Known

innermost_at : (m : ℕ) (alias : List ℕ) (ks : List Known) (n : ℕ) (k : Known) → innermost m alias ks ≡ (let x : Option Found = Some (n, k) in x) → (i : ℕ) × (n ≡ m + i) × (slice_get ks i ≡ Some k)
innermost_at m alias [] n k e = absurd cc
innermost_at m alias (known ∷ ks) n k e = go (innermost (suc m) alias ks) refl e (innermost_at (suc m) alias ks n k)
  where
    go : (o : Option Found) → innermost (suc m) alias ks ≡ o → elim o as (λ _. Option Found) [ Some found ↦ Some found | None ↦ cond (bytes_eq known.alias alias) (Some (m, known)) None ] ≡ (let x : Option Found = Some (n, k) in x) → (innermost (suc m) alias ks ≡ (let x : Option Found = Some (n, k) in x) → (i : ℕ) × (n ≡ suc m + i) × (slice_get ks i ≡ Some k)) → (i : ℕ) × (n ≡ m + i) × (slice_get (known ∷ ks) i ≡ Some k)
    go (Some x) h e again = let r = again (h ∙ e) in (suc r.0, (let s = r.1 in omega (arith, s)), r.2)
    go None h e again =
        let p = passed (bytes_eq known.alias alias) (let x : Option Found = Some (m, known) in x) (n, k) e in
        let q = some_is (let x : Found = (m, known) in x) (n, k) p.1 in
        (0, (let s : m ≡ n = ap (λ (x : Found). x.0) q in omega (arith, s)), ap (λ (x : Found). let o : Option Known = Some x.1 in o) q)

only_at : (outer own : List Known) (n : ℕ) (k : Known) → only_item (suc (length outer)) own ≡ (let x : Option Found = Some (n, k) in x) → nth (outer ++ own) n ≡ Some k
only_at outer [] n k e = absurd cc
only_at outer (known ∷ next ∷ own) n k e = absurd cc
only_at outer (known ∷ []) n k e =
    let q = some_is (let x : Found = (suc (length outer), known) in x) (n, k) e in
    subst (λ (x : Found). nth (outer ++ known ∷ []) x.0 ≡ Some x.1) q (slice_get_after outer known)

pub item_at : (scope : Scope) (alias : Option (List ℕ)) (n : ℕ) (k : Known) → item_named scope alias ≡ (let x : Option Found = Some (n, k) in x) → nth (items_of scope) n ≡ Some k
item_at scope (Some alias) n k e =
    let r = innermost_at 1 alias (items_of scope) n k e in
    let s : suc r.0 ≡ n = (let t = r.1 in omega (arith, t)) in
    subst (λ (m : ℕ). nth (items_of scope) m ≡ Some k) s r.2
item_at scope None n k e = only_at scope.outer scope.own n k e

pub nth_map : {X Y : Type 0} (f : X → Y) (xs : List X) (n : ℕ) (x : X) → nth xs n ≡ Some x → nth (map f xs) n ≡ Some (f x)
nth_map f xs zero x e = absurd cc
nth_map f xs (suc n) x e = slice_get_map f xs n x e

nth_all : {X : Type 0} (P : X → Type 0) (xs : List X) (n : ℕ) (x : X) → AllByRecursion P xs → nth xs n ≡ Some x → P x
nth_all P xs zero x a e = absurd cc
nth_all P xs (suc n) x a e = all_at P xs n x a e

column_is : (held : List Column) (name : List ℕ) (column : SqlColumn) → column_named held name ≡ Some column → column_text column ≡ name
column_is held name column e = go (bytes_eq name (codes "_pos")) refl e
  where
    go : (b : Bool) → bytes_eq name (codes "_pos") ≡ b → cond b (let x : Option SqlColumn = Some columns.Pos in x) (column_number held name >>= λ number. (let x : Option SqlColumn = Some (columns.Named name number) in x)) ≡ Some column → column_text column ≡ name
    go true h e = ap column_text (sym (some_is columns.Pos column e)) ∙ sym ((bytes_eq-Decides name (codes "_pos")).0 h)
    go false h e = let r = bind_some (column_number held name) (λ number. (let x : Option SqlColumn = Some (columns.Named name number) in x)) column e in ap column_text (sym (some_is (columns.Named name r.0) column r.2))

col_word : (ts : List Token) (col : WrittenCol) → HasCol ts col → AreForms ts → IsWord col.name
col_word ts col (plain_col f) forms = (forms.0, f)
col_word ts col (dotted_col f g) forms = (forms.1.1.0, g)

pub col_valid : (schema : Schema) (ts : List Token) (w : WrittenCol) → HasCol ts w → AreForms ts → (scope : Scope) → AreKnown schema scope → (col : SqlCol) → named_col scope w ≡ Some col → IsColOf schema (froms_of (items_of scope)) col
col_valid schema ts w h forms scope known col e =
    let a = bind_some (item_named scope w.alias) (λ f. column_named f.1.columns w.name >>= λ column. (let x : Option SqlCol = Some (record { item = f.0; column = column }) in x)) col e in
    let b = bind_some (column_named a.0.1.columns w.name) (λ column. (let x : Option SqlCol = Some (record { item = a.0.0; column = column }) in x)) col a.2 in
    let at = item_at scope w.alias a.0.0 a.0.1 a.1 in
    let k = nth_all (IsKnown schema) (items_of scope) a.0.0 a.0.1 known at in
    let name = column_is a.0.1.columns w.name b.0 b.1 in
    let here : IsColOf schema (froms_of (items_of scope)) (record { item = a.0.0; column = b.0 }) =
    record {
      from = a.0.1.from;
      item = nth_map (λ known. known.from) (items_of scope) a.0.0 a.0.1 at;
      table = k.0;
      held = k.1;
      column = ap (λ (held : List Column). column_named held (column_text b.0)) (sym k.2) ∙ ap (column_named a.0.1.columns) name ∙ b.1;
      word = subst IsWord (sym name) (col_word ts w h forms);
    }
    in
    subst (IsColOf schema (froms_of (items_of scope))) (some_is (record { item = a.0.0; column = b.0 }) col b.2) here

pub opnd_valid : (schema : Schema) (ts : List Token) (w : WrittenOpnd) → HasOpnd ts w → AreForms ts → (scope : Scope) → AreKnown schema scope → (a : SqlOpnd) → named_opnd scope w ≡ Some a → IsOpndOf schema (froms_of (items_of scope)) a
opnd_valid schema ts w (col_opnd {col = col} h) forms scope known a e =
    let b = bind_some (named_col scope col) (λ c. (let x : Option SqlOpnd = Some (opnds.Column c) in x)) a e in
    subst (IsOpndOf schema (froms_of (items_of scope))) (some_is (opnds.Column b.0) a b.2) (col_valid schema ts col h forms scope known b.0 b.1)
opnd_valid schema ts w (long_opnd {n = n} (positive_long f)) forms scope known a e = subst (IsOpndOf schema (froms_of (items_of scope))) (some_is (opnds.Lit (scalars.Long n)) a e) f
opnd_valid schema ts w (long_opnd {n = n} (negative_long f)) forms scope known a e = subst (IsOpndOf schema (froms_of (items_of scope))) (some_is (opnds.Lit (scalars.Long n)) a e) f
opnd_valid schema ts w (text_opnd {text = text}) forms scope known a e = subst (IsOpndOf schema (froms_of (items_of scope))) (some_is (opnds.Lit (scalars.Text text)) a e) tt
opnd_valid schema ts w (true_opnd h) forms scope known a e = subst (IsOpndOf schema (froms_of (items_of scope))) (some_is (opnds.Lit (scalars.Bool true)) a e) tt
opnd_valid schema ts w (false_opnd h) forms scope known a e = subst (IsOpndOf schema (froms_of (items_of scope))) (some_is (opnds.Lit (scalars.Bool false)) a e) tt
opnd_valid schema ts w (param_opnd {n = n}) forms scope known a e = subst (IsOpndOf schema (froms_of (items_of scope))) (some_is (opnds.Param n) a e) forms.0

-- ---- FROM items

part_word : (ts : List Token) (part : WrittenPart) → HasPart ts part → AreForms ts → IsWord part.table
part_word ts part (plain_part f) forms = (forms.0, f)
part_word ts part (alias_part f g) forms = (forms.0, f)
part_word ts part (as_part f h g) forms = (forms.0, f)

part_valid : (schema : Schema) (part : WrittenPart) (k : Known) → IsWord part.table → known_part schema part ≡ Some k → IsFromItem schema k.from × IsKnown schema k
part_valid schema part k w e =
    let a = bind_some (table_number schema part.table) (λ number. slice_get schema number >>= λ table. (let x : Option Known = Some (record { alias = alias_of part; columns = table.columns; from = record { name = part.table; table = number } }) in x)) k e in
    let b = bind_some (slice_get schema a.0) (λ table. (let x : Option Known = Some (record { alias = alias_of part; columns = table.columns; from = record { name = part.table; table = a.0 } }) in x)) k a.2 in
    let q = some_is (record { alias = alias_of part; columns = b.0.columns; from = record { name = part.table; table = a.0 } }) k b.2 in
    let here : IsFromItem schema (record { name = part.table; table = a.0 }) = record { table = b.0; number = a.1; held = b.1; word = w } in
    subst (λ (k : Known). IsFromItem schema k.from × IsKnown schema k) q (here, (b.0, b.1, refl))

-- the items of a FROM that are known, and how many there are
pub record Items (schema : Schema) (own : List Known) (n : ℕ) : Type 0 where
  pub some : 0 < length own
  pub few : length own ≤ n
  pub each : AllByRecursion (IsFromItem schema) (froms_of own)
  pub known : AllByRecursion (IsKnown schema) own

part_takes : (ts : List Token) (part : WrittenPart) → HasPart ts part → 0 < length ts
part_takes ts part (plain_part f) = omega arith
part_takes ts part (alias_part f g) = omega arith
part_takes ts part (as_part f h g) = omega arith

parts_valid : (schema : Schema) (ts : List Token) (parts : List WrittenPart) → HasParts ts parts → AreForms ts → (own : List Known) → each_of (known_part schema) parts ≡ Some own → Items schema own (length ts)
parts_valid schema ts parts (last_part {part = part} h) forms own e =
    let a = bind_some (known_part schema part) (λ y. each_of (known_part schema) [] >>= λ ys. (let x : Option (List Known) = Some (y ∷ ys) in x)) own e in
    let v = part_valid schema part a.0 (part_word ts part h forms) a.1 in
    let here : Items schema (a.0 ∷ []) (length ts) = record { some = omega arith; few = (let t = part_takes ts part h in omega (arith, t)); each = (v.0, tt); known = (v.1, tt) } in
    subst (λ (own : List Known). Items schema own (length ts)) (some_is (a.0 ∷ []) own a.2) here
parts_valid schema ts parts (more_parts {us = us} {vs = vs} {part = part} {parts = later} h k) forms own e =
    let f = all_parts IsForm us (Comma ∷ vs) forms in
    let a = bind_some (known_part schema part) (λ y. each_of (known_part schema) later >>= λ ys. (let x : Option (List Known) = Some (y ∷ ys) in x)) own e in
    let b = bind_some (each_of (known_part schema) later) (λ ys. (let x : Option (List Known) = Some (a.0 ∷ ys) in x)) own a.2 in
    let v = part_valid schema part a.0 (part_word us part h f.0) a.1 in
    let rest = parts_valid schema vs later k f.1.1 b.0 b.1 in
    let here : Items schema (a.0 ∷ b.0) (length ts) = record { some = omega arith; few = (let t = rest.few in omega (arith, t, length-append us (Comma ∷ vs))); each = (v.0, rest.each); known = (v.1, rest.known) } in
    subst (λ (own : List Known). Items schema own (length ts)) (some_is (a.0 ∷ b.0) own b.2) here

items_valid : (schema : Schema) (ts : List Token) (parts : List WrittenPart) → HasParts ts parts → AreForms ts → (own : List Known) → known_parts schema parts ≡ Some own → Items schema own (length ts)
items_valid schema ts parts h forms own e =
    let a = bind_some (each_of (known_part schema) parts) (λ ks. cond (are_distinct (map (λ known. known.alias) ks)) (let x : Option (List Known) = Some ks in x) None) own e in
    let p = passed (are_distinct (map (λ known. known.alias) a.0)) (let x : Option (List Known) = Some a.0 in x) own a.2 in
    subst (λ (own : List Known). Items schema own (length ts)) (some_is a.0 own p.1) (parts_valid schema ts parts h forms a.0 a.1)

froms_append : (xs ys : List Known) → froms_of (xs ++ ys) ≡ froms_of xs ++ froms_of ys
froms_append xs ys = map-append (λ known. known.from) xs ys

pub are_items : (schema : Schema) (around own : List Known) (n : ℕ) → Items schema own n → length around + n < 2 ^ 64 → AreItems schema (froms_of around) (froms_of own)
are_items schema around own n i room = record {
  some = (let s = i.some in omega (arith, s, length-map own (λ (known : Known). known.from)));
  few = (let f = i.few in omega (arith, f, room, length-append (froms_of around) (froms_of own), length-map around (λ (known : Known). known.from), length-map own (λ (known : Known). known.from)));
  each = i.each;
}

-- ---- conditions

inner_known : (schema : Schema) (scope : Scope) (own : List Known) → AreKnown schema scope → AllByRecursion (IsKnown schema) own → AreKnown schema (inside scope own)
inner_known schema scope own a b = all_joined (IsKnown schema) (items_of scope) own a b

-- a condition of the items inside is one of those around and its own
inner_froms : (schema : Schema) (scope : Scope) (own : List Known) (P : List FromItem → Type 0) → P (froms_of (items_of (inside scope own))) → P (froms_of (items_of scope) ++ froms_of own)
inner_froms schema scope own P h = subst P (froms_append (items_of scope) own) h

abbrev Room : Scope → List Token → Type 0
Room scope ts = length (items_of scope) + length ts < 2 ^ 64

inner_room : (scope : Scope) (own : List Known) (us vs : List Token) (f : Token) → length own ≤ length us → Room scope (f ∷ us ++ vs) → Room (inside scope own) vs
inner_room scope own us vs f few room = omega (arith, few, room, length-append (items_of scope) own, length-append us vs)

parts_room : (scope : Scope) (us vs : List Token) (f : Token) → Room scope (f ∷ us ++ vs) → length (items_of scope) + length us < 2 ^ 64
parts_room scope us vs f room = omega (arith, room, length-append us vs)

-- the parts of a source, and its filter among them
pub record SourceValid (schema : Schema) (scope : Scope) (own : List Known) (filter_ : Filter) : Type 0 where
  pub items : AreItems schema (froms_of (items_of scope)) (froms_of own)
  pub known : AreKnown schema (inside scope own)
  pub filtered : IsFilterOf schema (froms_of (items_of scope) ++ froms_of own) filter_

mutual
  pub condition_valid : (schema : Schema) (ts : List Token) (w : WrittenCondition) → HasCondition ts w → AreForms ts → (scope : Scope) → AreKnown schema scope → Room scope ts → (c : Condition) → named_condition schema scope w ≡ Some c → IsConditionOf schema (froms_of (items_of scope)) c
  condition_valid schema ts w (one_conjunction h) forms scope known room c e = conjunction_valid schema ts w h forms scope known room c e
  condition_valid schema ts w (either {us = us} {vs = vs} {t = t} {a = a} {b = b} h k l) forms scope known room c e =
      let f = all_parts IsForm us (t ∷ vs) forms in
      let x = bind_some (named_condition schema scope a) (λ c. named_condition schema scope b >>= λ d. (let x : Option Condition = Some (plain.Either c d) in x)) c e in
      let y = bind_some (named_condition schema scope b) (λ d. (let x : Option Condition = Some (plain.Either x.0 d) in x)) c x.2 in
      subst (IsConditionOf schema (froms_of (items_of scope))) (some_is (plain.Either x.0 y.0) c y.2)
      (condition_valid schema us a h f.0 scope known (omega (arith, room, length-append us (t ∷ vs))) x.0 x.1, conjunction_valid schema vs b l f.1.1 scope known (omega (arith, room, length-append us (t ∷ vs))) y.0 y.1)

  pub conjunction_valid : (schema : Schema) (ts : List Token) (w : WrittenCondition) → HasConjunction ts w → AreForms ts → (scope : Scope) → AreKnown schema scope → Room scope ts → (c : Condition) → named_condition schema scope w ≡ Some c → IsConditionOf schema (froms_of (items_of scope)) c
  conjunction_valid schema ts w (one_negation h) forms scope known room c e = negation_valid schema ts w h forms scope known room c e
  conjunction_valid schema ts w (both {us = us} {vs = vs} {t = t} {a = a} {b = b} h k l) forms scope known room c e =
      let f = all_parts IsForm us (t ∷ vs) forms in
      let x = bind_some (named_condition schema scope a) (λ c. named_condition schema scope b >>= λ d. (let x : Option Condition = Some (plain.Both c d) in x)) c e in
      let y = bind_some (named_condition schema scope b) (λ d. (let x : Option Condition = Some (plain.Both x.0 d) in x)) c x.2 in
      subst (IsConditionOf schema (froms_of (items_of scope))) (some_is (plain.Both x.0 y.0) c y.2)
      (conjunction_valid schema us a h f.0 scope known (omega (arith, room, length-append us (t ∷ vs))) x.0 x.1, negation_valid schema vs b l f.1.1 scope known (omega (arith, room, length-append us (t ∷ vs))) y.0 y.1)

  pub negation_valid : (schema : Schema) (ts : List Token) (w : WrittenCondition) → HasNegation ts w → AreForms ts → (scope : Scope) → AreKnown schema scope → Room scope ts → (c : Condition) → named_condition schema scope w ≡ Some c → IsConditionOf schema (froms_of (items_of scope)) c
  negation_valid schema ts w (one_atom h) forms scope known room c e = atom_valid schema ts w h forms scope known room c e
  negation_valid schema ts w (negation {ts = us} {a = a} k h) forms scope known room c e =
      let x = bind_some (named_condition schema scope a) (λ c. (let x : Option Condition = Some (plain.Not c) in x)) c e in
      subst (IsConditionOf schema (froms_of (items_of scope))) (some_is (plain.Not x.0) c x.2) (negation_valid schema us a h forms.1 scope known (omega (arith, room)) x.0 x.1)

  pub atom_valid : (schema : Schema) (ts : List Token) (w : WrittenCondition) → HasAtom ts w → AreForms ts → (scope : Scope) → AreKnown schema scope → Room scope ts → (c : Condition) → named_condition schema scope w ≡ Some c → IsConditionOf schema (froms_of (items_of scope)) c
  atom_valid schema ts w (enclosed {ts = us} h) forms scope known room c e = condition_valid schema us w h (all_parts IsForm us (Close ∷ []) forms.1).0 scope known (omega (arith, room, length-append us (Close ∷ []))) c e
  atom_valid schema ts w (comparison {us = us} {vs = vs} {cmp = cmp} {a = a} {b = b} h k) forms scope known room c e =
      let f = all_parts IsForm us (Test cmp ∷ vs) forms in
      let x = bind_some (named_opnd scope a) (λ o. named_opnd scope b >>= λ p. (let x : Option Condition = Some (plain.Compare cmp o p) in x)) c e in
      let y = bind_some (named_opnd scope b) (λ p. (let x : Option Condition = Some (plain.Compare cmp x.0 p) in x)) c x.2 in
      subst (IsConditionOf schema (froms_of (items_of scope))) (some_is (plain.Compare cmp x.0 y.0) c y.2) (opnd_valid schema us a h f.0 scope known x.0 x.1, opnd_valid schema vs b k f.1.1 scope known y.0 y.1)
  atom_valid schema ts w (bare {col = col} h) forms scope known room c e =
      let x = bind_some (named_col scope col) (λ c. (let x : Option Condition = Some (plain.Bare c) in x)) c e in
      subst (IsConditionOf schema (froms_of (items_of scope))) (some_is (plain.Bare x.0) c x.2) (col_valid schema ts col h forms scope known x.0 x.1)
  atom_valid schema ts w (exists {ts = us} {parts = parts} {where_ = f} k l s) forms scope known room c e =
      let g = all_parts IsForm us (Close ∷ []) forms.1.1.1.1 in
      let x = bind_some (known_parts schema parts) (λ own. named_filter schema (inside scope own) f >>= λ g. (let x : Option Condition = Some (plain.Exists (froms_of own) g) in x)) c e in
      let y = bind_some (named_filter schema (inside scope x.0) f) (λ g. (let x : Option Condition = Some (plain.Exists (froms_of x.0) g) in x)) c x.2 in
      let v = source_valid schema us parts f s g.0 scope known (omega (arith, room, length-append us (Close ∷ []))) x.0 x.1 y.0 y.1 in
      subst (IsConditionOf schema (froms_of (items_of scope))) (some_is (plain.Exists (froms_of x.0) y.0) c y.2) (v.items, v.filtered)
  atom_valid schema ts w (within {us = us} {ins = ins} {cs = cs} {ts = vs} {s = s} {opnd = opnd} {negated = negated} {col = col} {parts = parts} {where_ = f} h i k m src) forms scope known room c e =
      let f1 = all_parts IsForm us (ins ++ Open ∷ s ∷ (cs ++ (vs ++ Close ∷ []))) forms in
      let f2 = all_parts IsForm ins (Open ∷ s ∷ (cs ++ (vs ++ Close ∷ []))) f1.1 in
      let f3 = all_parts IsForm cs (vs ++ Close ∷ []) f2.1.1.1 in
      let f4 = all_parts IsForm vs (Close ∷ []) f3.1 in
      let o = bind_some (named_opnd scope opnd) (λ x. known_parts schema parts >>= λ own. named_col (inside scope own) col >>= λ c. named_filter schema (inside scope own) f >>= λ f. (let x : Option Condition = Some (plain.Within x negated c (froms_of own) f) in x)) c e in
      let x = bind_some (known_parts schema parts) (λ own. named_col (inside scope own) col >>= λ c. named_filter schema (inside scope own) f >>= λ f. (let x : Option Condition = Some (plain.Within o.0 negated c (froms_of own) f) in x)) c o.2 in
      let z = bind_some (named_col (inside scope x.0) col) (λ c. named_filter schema (inside scope x.0) f >>= λ f. (let x : Option Condition = Some (plain.Within o.0 negated c (froms_of x.0) f) in x)) c x.2 in
      let y = bind_some (named_filter schema (inside scope x.0) f) (λ f. (let x : Option Condition = Some (plain.Within o.0 negated z.0 (froms_of x.0) f) in x)) c z.2 in
      let v = source_valid schema vs parts f src f4.0 scope known (omega (arith, room, length-append us (ins ++ Open ∷ s ∷ (cs ++ (vs ++ Close ∷ []))), length-append ins (Open ∷ s ∷ (cs ++ (vs ++ Close ∷ []))), length-append cs (vs ++ Close ∷ []), length-append vs (Close ∷ []))) x.0 x.1 y.0 y.1 in
      subst (IsConditionOf schema (froms_of (items_of scope))) (some_is (plain.Within o.0 negated z.0 (froms_of x.0) y.0) c y.2)
      (opnd_valid schema us opnd h f1.0 scope known o.0 o.1, v.items, inner_froms schema scope x.0 (λ (fs : List FromItem). IsColOf schema fs z.0) (col_valid schema cs col m f3.0 (inside scope x.0) v.known z.0 z.1), v.filtered)

  pub source_valid : (schema : Schema) (ts : List Token) (parts : List WrittenPart) (f : WrittenFilter) → HasSource ts parts f → AreForms ts → (scope : Scope) → AreKnown schema scope → Room scope ts → (own : List Known) → known_parts schema parts ≡ Some own → (filter_ : Filter) → named_filter schema (inside scope own) f ≡ Some filter_ → SourceValid schema scope own filter_
  source_valid schema ts parts f (source {f = k} {us = us} {vs = vs} from h w) forms scope known room own e filter_ d =
      let g = all_parts IsForm us vs forms.1 in
      let i = items_valid schema us parts h g.0 own e in
      record {
        items = are_items schema (items_of scope) own (length us) i (parts_room scope us vs k room);
        known = inner_known schema scope own known i.known;
        filtered = inner_froms schema scope own (λ (fs : List FromItem). IsFilterOf schema fs filter_) (filter_valid schema vs f w g.1 (inside scope own) (inner_known schema scope own known i.known) (inner_room scope own us vs k i.few room) filter_ d);
      }

  pub filter_valid : (schema : Schema) (ts : List Token) (w : WrittenFilter) → HasWhere ts w → AreForms ts → (scope : Scope) → AreKnown schema scope → Room scope ts → (f : Filter) → named_filter schema scope w ≡ Some f → IsFilterOf schema (froms_of (items_of scope)) f
  filter_valid schema ts w no_where forms scope known room f e = subst (IsFilterOf schema (froms_of (items_of scope))) (some_is plain.Everything f e) tt
  filter_valid schema ts w (where_of {ts = us} {a = a} k h) forms scope known room f e =
      let x = bind_some (named_condition schema scope a) (λ c. (let x : Option Filter = Some (plain.Where c) in x)) f e in
      subst (IsFilterOf schema (froms_of (items_of scope))) (some_is (plain.Where x.0) f x.2) (condition_valid schema us a h forms.1 scope known (omega (arith, room)) x.0 x.1)
