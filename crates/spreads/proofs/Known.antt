-- What is known of the names in a query that a text has: of its FROM items, and of the columns of its outermost SELECT.
use Rattle.std.proofs.Common.{◌≡◌, ℕ, Bool, true, false, cond, List, [], ◌∷◌, ◌++◌, map, Option, Some, None, Result, Ok, Err, refl, ap, subst}
use Rattle.std.specs.List.{AllByRecursion}
use Rattle.std.specs.Prelude.{slice_get}
use Rattle.qbs_base.specs.Columns.{table_number}
use Rattle.qbs_base.specs.Values.{Schema}
use Rattle.qbs_base.specs.declared.scalar.Ty.{Ty}
use Rattle.sql_ast.specs.declared.rule.SqlRule.{SqlRule}
use Rattle.sql_ast.specs.declared.rule.SqlRule.TheVariants as rules
use Rattle.sql_ast.specs.declared.tree.FromItem.{FromItem}
use Rattle.sql_ast.specs.declared.tree.SqlCol.{SqlCol}
use Rattle.sql_ast.specs.declared.tree.SqlItem.{SqlItem}
use Rattle.sql_ast.specs.declared.tree.SqlKey.{SqlKey}
use Rattle.sql_ast.specs.Grammar.{HasCondition, one_conjunction, either, HasConjunction, one_negation, both, HasNegation, one_atom, negation, HasAtom, enclosed, comparison, bare, exists, within, HasSource, source, HasWhere, no_where, where_of, HasWritten, listing, number, truth}
use Rattle.sql_ast.specs.Names.{◌>>=◌, each_of, Known, Scope, alias_of, known_part, are_distinct, known_parts, outermost, named_col, named_opnd, froms_of, inside, named_condition, named_filter, named_item, named_group, named_key, named_listing, named_number, named_truth, named_query}
use Rattle.sql_ast.specs.Texts.{HasQuery, judged_named, with_types}
use Rattle.sql_ast.specs.Tokens.{Token, Test, Close}
use Rattle.sql_ast.specs.Tree.{Condition, Filter, PlainListing, PlainNumber, PlainTruth, PlainQuery}
use Rattle.sql_ast.specs.Tree as plain
use Rattle.sql_ast.specs.Typing.{types_fit, group_fits, params_of, with_params}
use Rattle.sql_ast.specs.Valid.{IsColOf, IsOpndOf, params_in}
use Rattle.sql_ast.specs.Written.{WrittenPart, WrittenCondition, WrittenFilter, WrittenListing, WrittenQuery}
use Rattle.sql_ast.proofs.Inverted.{IsForm, AreForms, tokens_form, IsKnown, AreKnown, items_of, col_valid, opnd_valid}
use Rattle.sql_ast.proofs.Tools.{some_is, bind_some, passed, all_parts}

-- ---- FROM items

abbrev pub IsFrom : Schema → FromItem → Type 0
IsFrom schema from = table_number schema from.name ≡ Some from.table

part_known : (schema : Schema) (part : WrittenPart) (k : Known) → known_part schema part ≡ Some k → IsFrom schema k.from × IsKnown schema k
part_known schema part k e =
    let a = bind_some (table_number schema part.table) (λ number. slice_get schema number >>= λ table. (let x : Option Known = Some (record { alias = alias_of part; columns = table.columns; from = record { name = part.table; table = number } }) in x)) k e in
    let b = bind_some (slice_get schema a.0) (λ table. (let x : Option Known = Some (record { alias = alias_of part; columns = table.columns; from = record { name = part.table; table = a.0 } }) in x)) k a.2 in
    let q = some_is (record { alias = alias_of part; columns = b.0.columns; from = record { name = part.table; table = a.0 } }) k b.2 in
    subst (λ (k : Known). IsFrom schema k.from × IsKnown schema k) q (a.1, (b.0, b.1, refl))

-- known items
pub record Items (schema : Schema) (own : List Known) : Type 0 where
  pub each : AllByRecursion (IsFrom schema) (froms_of own)
  pub known : AllByRecursion (IsKnown schema) own

parts_known : (schema : Schema) (parts : List WrittenPart) (own : List Known) → each_of (known_part schema) parts ≡ Some own → Items schema own
parts_known schema [] own e = subst (Items schema) (some_is [] own e) (record { each = tt; known = tt })
parts_known schema (part ∷ parts) own e =
    let a = bind_some (known_part schema part) (λ y. each_of (known_part schema) parts >>= λ ys. (let x : Option (List Known) = Some (y ∷ ys) in x)) own e in
    let b = bind_some (each_of (known_part schema) parts) (λ ys. (let x : Option (List Known) = Some (a.0 ∷ ys) in x)) own a.2 in
    let v = part_known schema part a.0 a.1 in
    let rest = parts_known schema parts b.0 b.1 in
    subst (Items schema) (some_is (a.0 ∷ b.0) own b.2) (record { each = (v.0, rest.each); known = (v.1, rest.known) })

items_known : (schema : Schema) (parts : List WrittenPart) (own : List Known) → known_parts schema parts ≡ Some own → Items schema own
items_known schema parts own e =
    let a = bind_some (each_of (known_part schema) parts) (λ ks. cond (are_distinct (map (λ known. known.alias) ks)) (let x : Option (List Known) = Some ks in x) None) own e in
    let p = passed (are_distinct (map (λ known. known.alias) a.0)) (let x : Option (List Known) = Some a.0 in x) own a.2 in
    subst (Items schema) (some_is a.0 own p.1) (parts_known schema parts a.0 a.1)

-- ---- Conditions, but for inner SELECTs

abbrev pub HasColumns : Schema → List FromItem → Condition → Type 0
HasColumns schema froms (plain.Both a b) = HasColumns schema froms a × HasColumns schema froms b
HasColumns schema froms (plain.Either a b) = HasColumns schema froms a × HasColumns schema froms b
HasColumns schema froms (plain.Not a) = HasColumns schema froms a
HasColumns schema froms (plain.Compare cmp a b) = IsOpndOf schema froms a × IsOpndOf schema froms b
HasColumns schema froms (plain.Bare col) = IsColOf schema froms col
HasColumns schema froms (plain.Exists from filter_) = Unit {0}
HasColumns schema froms (plain.Within opnd negated col from filter_) = Unit {0}

abbrev pub FilterHas : Schema → List FromItem → Filter → Type 0
FilterHas schema froms plain.Everything = Unit {0}
FilterHas schema froms (plain.Where a) = HasColumns schema froms a

module _ (schema : Schema) (scope : Scope) (known : AreKnown schema scope) where
  abbrev Has : Condition → Type 0
  Has = HasColumns schema (froms_of (items_of scope))

  mutual
    condition_known : (ts : List Token) (w : WrittenCondition) → HasCondition ts w → AreForms ts → (c : Condition) → named_condition schema scope w ≡ Some c → Has c
    condition_known ts w (one_conjunction h) forms c e = conjunction_known ts w h forms c e
    condition_known ts w (either {us = us} {vs = vs} {t = t} {a = a} {b = b} h k l) forms c e =
        let f = all_parts IsForm us (t ∷ vs) forms in
        let x = bind_some (named_condition schema scope a) (λ c. named_condition schema scope b >>= λ d. (let x : Option Condition = Some (plain.Either c d) in x)) c e in
        let y = bind_some (named_condition schema scope b) (λ d. (let x : Option Condition = Some (plain.Either x.0 d) in x)) c x.2 in
        subst Has (some_is (plain.Either x.0 y.0) c y.2) (condition_known us a h f.0 x.0 x.1, conjunction_known vs b l f.1.1 y.0 y.1)

    conjunction_known : (ts : List Token) (w : WrittenCondition) → HasConjunction ts w → AreForms ts → (c : Condition) → named_condition schema scope w ≡ Some c → Has c
    conjunction_known ts w (one_negation h) forms c e = negation_known ts w h forms c e
    conjunction_known ts w (both {us = us} {vs = vs} {t = t} {a = a} {b = b} h k l) forms c e =
        let f = all_parts IsForm us (t ∷ vs) forms in
        let x = bind_some (named_condition schema scope a) (λ c. named_condition schema scope b >>= λ d. (let x : Option Condition = Some (plain.Both c d) in x)) c e in
        let y = bind_some (named_condition schema scope b) (λ d. (let x : Option Condition = Some (plain.Both x.0 d) in x)) c x.2 in
        subst Has (some_is (plain.Both x.0 y.0) c y.2) (conjunction_known us a h f.0 x.0 x.1, negation_known vs b l f.1.1 y.0 y.1)

    negation_known : (ts : List Token) (w : WrittenCondition) → HasNegation ts w → AreForms ts → (c : Condition) → named_condition schema scope w ≡ Some c → Has c
    negation_known ts w (one_atom h) forms c e = atom_known ts w h forms c e
    negation_known ts w (negation {ts = us} {a = a} k h) forms c e =
        let x = bind_some (named_condition schema scope a) (λ c. (let x : Option Condition = Some (plain.Not c) in x)) c e in
        subst Has (some_is (plain.Not x.0) c x.2) (negation_known us a h forms.1 x.0 x.1)

    atom_known : (ts : List Token) (w : WrittenCondition) → HasAtom ts w → AreForms ts → (c : Condition) → named_condition schema scope w ≡ Some c → Has c
    atom_known ts w (enclosed {ts = us} h) forms c e = condition_known us w h (all_parts IsForm us (Close ∷ []) forms.1).0 c e
    atom_known ts w (comparison {us = us} {vs = vs} {cmp = cmp} {a = a} {b = b} h k) forms c e =
        let f = all_parts IsForm us (Test cmp ∷ vs) forms in
        let x = bind_some (named_opnd scope a) (λ o. named_opnd scope b >>= λ p. (let x : Option Condition = Some (plain.Compare cmp o p) in x)) c e in
        let y = bind_some (named_opnd scope b) (λ p. (let x : Option Condition = Some (plain.Compare cmp x.0 p) in x)) c x.2 in
        subst Has (some_is (plain.Compare cmp x.0 y.0) c y.2) (opnd_valid schema us a h f.0 scope known x.0 x.1, opnd_valid schema vs b k f.1.1 scope known y.0 y.1)
    atom_known ts w (bare {col = col} h) forms c e =
        let x = bind_some (named_col scope col) (λ c. (let x : Option Condition = Some (plain.Bare c) in x)) c e in
        subst Has (some_is (plain.Bare x.0) c x.2) (col_valid schema ts col h forms scope known x.0 x.1)
    atom_known ts w (exists {parts = parts} {where_ = f} k l s) forms c e =
        let x = bind_some (known_parts schema parts) (λ own. named_filter schema (inside scope own) f >>= λ g. (let x : Option Condition = Some (plain.Exists (froms_of own) g) in x)) c e in
        let y = bind_some (named_filter schema (inside scope x.0) f) (λ g. (let x : Option Condition = Some (plain.Exists (froms_of x.0) g) in x)) c x.2 in
        subst Has {x = plain.Exists (froms_of x.0) y.0} (some_is (plain.Exists (froms_of x.0) y.0) c y.2) tt
    atom_known ts w (within {opnd = opnd} {negated = negated} {col = col} {parts = parts} {where_ = f} h i k m src) forms c e =
        let o = bind_some (named_opnd scope opnd) (λ x. known_parts schema parts >>= λ own. named_col (inside scope own) col >>= λ c. named_filter schema (inside scope own) f >>= λ f. (let x : Option Condition = Some (plain.Within x negated c (froms_of own) f) in x)) c e in
        let x = bind_some (known_parts schema parts) (λ own. named_col (inside scope own) col >>= λ c. named_filter schema (inside scope own) f >>= λ f. (let x : Option Condition = Some (plain.Within o.0 negated c (froms_of own) f) in x)) c o.2 in
        let z = bind_some (named_col (inside scope x.0) col) (λ c. named_filter schema (inside scope x.0) f >>= λ f. (let x : Option Condition = Some (plain.Within o.0 negated c (froms_of x.0) f) in x)) c x.2 in
        let y = bind_some (named_filter schema (inside scope x.0) f) (λ f. (let x : Option Condition = Some (plain.Within o.0 negated z.0 (froms_of x.0) f) in x)) c z.2 in
        subst Has {x = plain.Within o.0 negated z.0 (froms_of x.0) y.0} (some_is (plain.Within o.0 negated z.0 (froms_of x.0) y.0) c y.2) tt

  filter_known : (ts : List Token) (w : WrittenFilter) → HasWhere ts w → AreForms ts → (f : Filter) → named_filter schema scope w ≡ Some f → FilterHas schema (froms_of (items_of scope)) f
  filter_known ts w no_where forms f e = subst (FilterHas schema (froms_of (items_of scope))) (some_is plain.Everything f e) tt
  filter_known ts w (where_of {ts = us} {a = a} k h) forms f e =
      let x = bind_some (named_condition schema scope a) (λ c. (let x : Option Filter = Some (plain.Where c) in x)) f e in
      subst (FilterHas schema (froms_of (items_of scope))) (some_is (plain.Where x.0) f x.2) (condition_known us a h forms.1 x.0 x.1)

-- ---- Queries

-- what is known of a list query
pub record ListingKnown (schema : Schema) (q : PlainListing) : Type 0 where
  pub items : AllByRecursion (IsFrom schema) q.from
  pub filter_ : FilterHas schema q.from q.filter

abbrev pub QueryKnown : Schema → PlainQuery → Type 0
QueryKnown schema (plain.Listing q) = ListingKnown schema q
QueryKnown schema (plain.Number q) = Unit {0}
QueryKnown schema (plain.Truth q) = Unit {0}

listing_known : (schema : Schema) (w : WrittenListing) (ts : List Token) → HasSource ts w.from w.filter → AreForms ts → (q : PlainListing) → named_listing schema w ≡ Some q → ListingKnown schema q
listing_known schema w ts (source {f = k} {us = us} {vs = vs} from h where_) forms q e =
    let made = λ (own : List Known) (item : SqlItem) (filter_ : Filter) (group : Option SqlCol) (keys : List SqlKey). (let x : PlainListing = record { item = item; from = froms_of own; filter = filter_; group = group; keys = keys; limit = w.limit; params = [] } in x) in
    let a = bind_some (known_parts schema w.from) (λ own. named_item (outermost own) w.item >>= λ item. named_filter schema (outermost own) w.filter >>= λ filter_. named_group (outermost own) w.group >>= λ group. each_of (named_key (outermost own)) w.keys >>= λ keys. (let x : Option PlainListing = Some (made own item filter_ group keys) in x)) q e in
    let b = bind_some (named_item (outermost a.0) w.item) (λ item. named_filter schema (outermost a.0) w.filter >>= λ filter_. named_group (outermost a.0) w.group >>= λ group. each_of (named_key (outermost a.0)) w.keys >>= λ keys. (let x : Option PlainListing = Some (made a.0 item filter_ group keys) in x)) q a.2 in
    let c = bind_some (named_filter schema (outermost a.0) w.filter) (λ filter_. named_group (outermost a.0) w.group >>= λ group. each_of (named_key (outermost a.0)) w.keys >>= λ keys. (let x : Option PlainListing = Some (made a.0 b.0 filter_ group keys) in x)) q b.2 in
    let d = bind_some (named_group (outermost a.0) w.group) (λ group. each_of (named_key (outermost a.0)) w.keys >>= λ keys. (let x : Option PlainListing = Some (made a.0 b.0 c.0 group keys) in x)) q c.2 in
    let k = bind_some (each_of (named_key (outermost a.0)) w.keys) (λ keys. (let x : Option PlainListing = Some (made a.0 b.0 c.0 d.0 keys) in x)) q d.2 in
    let i = items_known schema w.from a.0 a.1 in
    let f = filter_known schema (outermost a.0) i.known vs w.filter where_ (all_parts IsForm us vs forms.1).1 c.0 c.1 in
    let here : ListingKnown schema (made a.0 b.0 c.0 d.0 k.0) = record { items = i.each; filter_ = f } in
    subst (ListingKnown schema) {x = made a.0 b.0 c.0 d.0 k.0} (some_is (made a.0 b.0 c.0 d.0 k.0) q k.2) here

names_known : (schema : Schema) (ts : List Token) (w : WrittenQuery) → HasWritten ts w → AreForms ts → (q : PlainQuery) → named_query schema w ≡ Some q → QueryKnown schema q
names_known schema ts w (listing {is = is} {ts = us} {gs = gs} {os = os} {ls = ls} {item = item} {parts = ps} {where_ = f} {group = group} {keys = keys} {limit = limit} k hi hs hg ho hl) forms q e =
    let x : WrittenListing = record { item = item; from = ps; filter = f; group = group; keys = keys; limit = limit } in
    let a = bind_some (named_listing schema x) (λ p. (let o : Option PlainQuery = Some (plain.Listing p) in o)) q e in
    let f1 = all_parts IsForm is (us ++ (gs ++ (os ++ ls))) forms.1 in
    let f2 = all_parts IsForm us (gs ++ (os ++ ls)) f1.1 in
    subst (QueryKnown schema) (some_is (plain.Listing a.0) q a.2) (listing_known schema x us hs f2.0 a.0 a.1)
names_known schema ts w (number {q = m} k h) forms q e =
    let a = bind_some (named_number schema m) (λ p. (let o : Option PlainQuery = Some (plain.Number p) in o)) q e in
    subst (QueryKnown schema) (some_is (plain.Number a.0) q a.2) tt
names_known schema ts w (truth {negated = negated} {parts = ps} {where_ = f} k h l s) forms q e =
    let a = bind_some (named_truth schema (record { negated = negated; from = ps; filter = f })) (λ p. (let o : Option PlainQuery = Some (plain.Truth p) in o)) q e in
    subst (QueryKnown schema) (some_is (plain.Truth a.0) q a.2) tt

abbrev Judged : Type 0
Judged = Result PlainQuery SqlRule

-- what is known of a query that a text has: its names, that its types fit, and its parameters
pub record TextKnown (schema : Schema) (q : PlainQuery) : Type 0 where
  pub names : QueryKnown schema q
  pub types : types_fit schema q ≡ true
  pub params : params_of schema q ≡ Some (params_in q)

with_types_known : (schema : Schema) (n : PlainQuery) (params : List Ty) → QueryKnown schema n → types_fit schema n ≡ true → params_of schema n ≡ Some params → TextKnown schema (with_params n params)
with_types_known schema (plain.Listing p) params h t d = record { names = record { items = h.items; filter_ = h.filter_ }; types = t; params = d }
with_types_known schema (plain.Number p) params h t d = record { names = tt; types = t; params = d }
with_types_known schema (plain.Truth p) params h t d = record { names = tt; types = t; params = d }

ok_query : (x y : PlainQuery) → (let a : Judged = Ok x in a) ≡ Ok y → x ≡ y
ok_query x y e = ap (λ (r : Judged). elim r as (λ _. PlainQuery) [ Ok z ↦ z | Err f ↦ x ]) e

module _ (schema : Schema) (w : WrittenQuery) (q : PlainQuery) (known : (n : PlainQuery) → named_query schema w ≡ Some n → QueryKnown schema n) where
  typed : (n : PlainQuery) → named_query schema w ≡ Some n → types_fit schema n ≡ true → (o : Option (List Ty)) → params_of schema n ≡ o → elim o as (λ _. Judged) [ Some params ↦ Ok (with_params n params) | None ↦ Err rules.BadParameter ] ≡ Ok q → TextKnown schema q
  typed n h t (Some params) p e = subst (TextKnown schema) (ok_query (with_params n params) q e) (with_types_known schema n params (known n h) t p)
  typed n h t None p e = absurd cc

  grouped : (n : PlainQuery) → named_query schema w ≡ Some n → types_fit schema n ≡ true → (b : Bool) → group_fits n ≡ b → cond b (with_types schema n) (Err rules.BadGroup) ≡ Ok q → TextKnown schema q
  grouped n h t true g e = typed n h t (params_of schema n) refl e
  grouped n h t false g e = absurd cc

  fitting : (n : PlainQuery) → named_query schema w ≡ Some n → (b : Bool) → types_fit schema n ≡ b → cond b (cond (group_fits n) (with_types schema n) (Err rules.BadGroup)) (Err rules.Mismatch) ≡ Ok q → TextKnown schema q
  fitting n h true t e = grouped n h t (group_fits n) refl e
  fitting n h false t e = absurd cc

  judged_known : (o : Option PlainQuery) → named_query schema w ≡ o → elim o as (λ _. Judged) [ Some q ↦ judged_named schema q | None ↦ Err rules.Unknown ] ≡ Ok q → TextKnown schema q
  judged_known (Some n) h e = fitting n h (types_fit schema n) refl e
  judged_known None h e = absurd cc

pub text_known : (schema : Schema) (text : List ℕ) (q : PlainQuery) → HasQuery schema text q → TextKnown schema q
text_known schema text q h =
    let forms = tokens_form text h.says.tokens h.says.spelled in
    judged_known schema h.written q (λ n e. names_known schema h.says.tokens h.written h.says.parsed forms.1 n e) (named_query schema h.written) refl h.meant
