-- The text literals of a query that some UTF-8 text has are UTF-8.
use Rattle.std.proofs.Common.{◌≡◌, ℕ, ◌+◌, ◌<◌, Bool, true, false, cond, nat_eq, List, [], ◌∷◌, ◌++◌, length, drop, get_or, codes, Option, Some, None, Result, Ok, Err, IsUtf8, refl, sym, ap, subst, arith, append_assoc, length-append}
use Rattle.std.specs.List.{AllByRecursion, list_all}
use Rattle.std.specs.Char.{is_ascii_digit}
use Rattle.std.proofs.lemmas.Bool.{and_parts, eqb-true}
use Rattle.std.proofs.lemmas.Bool.Decides.{nat_tests}
use Rattle.std.proofs.lemmas.List.{take_at, drop_at, get_or_at}
use Rattle.std.proofs.lemmas.Str.{IsUtf8-take, IsUtf8-drop, IsUtf8-append, IsCharBoundary-before_ascii, IsCharBoundary-after_ascii}
use Rattle.qbs_base.specs.Bytes.{is_white, is_name_start, is_name_part}
use Rattle.qbs_base.specs.declared.scalar.Ty.{Ty}
use Rattle.qbs_base.specs.Values.{Schema}
use Rattle.sql_ast.specs.declared.rule.SqlRule.{SqlRule}
use Rattle.sql_ast.specs.declared.rule.SqlRule.TheVariants as rules
use Rattle.sql_ast.specs.declared.tree.Cmp.{Cmp}
use Rattle.sql_ast.specs.declared.tree.Cmp.TheVariants as tests
use Rattle.sql_ast.specs.declared.tree.SqlOpnd.TheVariants as opnds
use Rattle.sql_ast.specs.Canonical.{doubled}
use Rattle.sql_ast.specs.Grammar.{HasOpnd, col_opnd, long_opnd, text_opnd, true_opnd, false_opnd, param_opnd, HasCondition, one_conjunction, either, HasConjunction, one_negation, both, HasNegation, one_atom, negation, HasAtom, enclosed, comparison, bare, exists, within, HasSource, source, HasWhere, no_where, where_of, HasCounted, count, sum, best, HasWritten, listing, number, truth}
use Rattle.sql_ast.specs.Names.{◌>>=◌, each_of, Scope, known_parts, froms_of, inside, named_col, named_opnd, named_condition, named_filter, named_item, named_group, named_key, named_kind, outermost, named_listing, named_number, named_truth, named_query}
use Rattle.sql_ast.specs.Texts.{with_types, judged_named, judged, HasQuery}
use Rattle.sql_ast.specs.Tokens.{Token, Digits, Quoted, Test, Open, Close, Comma, is_name, is_number, sign_of, HasSpelling, word, digits, negative, quoted, param, test, unlike, opened, closed, comma, dot, star, HasTokens, nothing, blank, token}
use Rattle.sql_ast.specs.Tree.{PlainListing, PlainNumber, PlainTruth, PlainQuery}
use Rattle.sql_ast.specs.Tree as plain
use Rattle.sql_ast.specs.Typing.{types_fit, group_fits, params_of, with_params}
use Rattle.sql_ast.specs.Utf8.{OperandIsUtf8, ConditionIsUtf8, FilterIsUtf8, LiteralsAreUtf8}
use Rattle.sql_ast.specs.Written.{WrittenPart, WrittenOpnd, WrittenCondition, WrittenFilter, WrittenListing, WrittenNumber, WrittenTruth, WrittenQuery}
use Rattle.sql_ast.proofs.Tools.{all_parts}
use Rattle.rewrite_core.proofs.Writable.Given.{Holds, found_holds, next, any_next}

-- ---- Texts that are cut at an ASCII byte

module _ (xs ys : List ℕ) (b : ℕ) (small : b < 128) (u : IsUtf8 (xs ++ b ∷ ys)) where
  inside_it : length xs < length (xs ++ b ∷ ys)
  inside_it = omega (arith, length-append xs (b ∷ ys))

  byte_is : get_or (xs ++ b ∷ ys) (length xs) 0 ≡ b
  byte_is = get_or_at xs b ys 0 (length xs) refl

  byte_small : get_or (xs ++ b ∷ ys) (length xs) 0 < 128
  byte_small = subst (λ (n : ℕ). n < 128) (sym byte_is) small

  -- what stands before it
  text_before : IsUtf8 xs
  text_before = subst IsUtf8 (take_at xs (b ∷ ys) (length xs) refl) (IsUtf8-take (xs ++ b ∷ ys) (length xs) u (IsCharBoundary-before_ascii (xs ++ b ∷ ys) (length xs) inside_it byte_small))

  joined : xs ++ b ∷ ys ≡ (xs ++ b ∷ []) ++ ys
  joined = sym (append_assoc xs (b ∷ []) ys)

  long_by_one : length (xs ++ b ∷ []) ≡ length xs + 1
  long_by_one = length-append xs (b ∷ [])

  -- what stands behind it
  text_behind : IsUtf8 ys
  text_behind =
      subst IsUtf8 (drop_at (xs ++ b ∷ []) ys (length xs + 1) long_by_one)
      (subst (λ (zs : List ℕ). IsUtf8 (drop (length xs + 1) zs)) joined (IsUtf8-drop (xs ++ b ∷ ys) (length xs + 1) u (IsCharBoundary-after_ascii (xs ++ b ∷ ys) (length xs) u inside_it byte_small)))

  -- both without it
  text_without : IsUtf8 (xs ++ ys)
  text_without = IsUtf8-append xs ys text_before text_behind

-- a text without the second of each two quotes
undoubled : (done text : List ℕ) → IsUtf8 (done ++ doubled text) → IsUtf8 (done ++ text)
undoubled done [] u = u
undoubled done (x ∷ xs) u = go (nat_eq x 39) refl u (undoubled (done ++ x ∷ []) xs)
  where
    behind : (ys : List ℕ) → done ++ x ∷ ys ≡ (done ++ x ∷ []) ++ ys
    behind ys = sym (append_assoc done (x ∷ []) ys)

    go : (b : Bool) → nat_eq x 39 ≡ b → IsUtf8 (done ++ cond b (39 ∷ 39 ∷ doubled xs) (x ∷ doubled xs)) → (IsUtf8 ((done ++ x ∷ []) ++ doubled xs) → IsUtf8 ((done ++ x ∷ []) ++ xs)) → IsUtf8 (done ++ x ∷ xs)
    go true e u later =
        let one : IsUtf8 (done ++ 39 ∷ doubled xs) = text_without done (39 ∷ doubled xs) 39 (omega arith) u in
        let same : 39 ≡ x = sym (eqb-true x 39 e) in
        subst IsUtf8 (sym (behind xs)) (later (subst IsUtf8 (behind (doubled xs)) (subst (λ (n : ℕ). IsUtf8 (done ++ n ∷ doubled xs)) same one)))
    go false e u later = subst IsUtf8 (sym (behind xs)) (later (subst IsUtf8 (behind (doubled xs)) u))

-- ---- Tokens

abbrev TokenIsUtf8 : Token → Type 0
TokenIsUtf8 (Quoted text) = IsUtf8 text
TokenIsUtf8 t = Unit {0}

abbrev TokensAreUtf8 : List Token → Type 0
TokensAreUtf8 ts = AllByRecursion TokenIsUtf8 ts

-- each byte is ASCII
abbrev Small : List ℕ → Type 0
Small us = AllByRecursion (λ (b : ℕ). b < 128) us

past_small : (us bs : List ℕ) → Small us → IsUtf8 (us ++ bs) → IsUtf8 bs
past_small [] bs s u = u
past_small (x ∷ us) bs s u = past_small us bs s.1 (text_behind [] (us ++ bs) x s.0 u)

digit_small : (b : ℕ) → is_ascii_digit b ≡ true → b < 128
digit_small b h = grind (arith, nat_tests, h)

part_small : (b : ℕ) → is_name_part b ≡ true → b < 128
part_small b h = grind (arith, nat_tests, h)

start_small : (b : ℕ) → is_name_start b ≡ true → b < 128
start_small b h = grind (arith, nat_tests, h)

white_small : (b : ℕ) → is_white b ≡ true → b < 128
white_small b h = grind (arith, nat_tests, h)

all_small : (passes : ℕ → Bool) → ((b : ℕ) → passes b ≡ true → b < 128) → (bs : List ℕ) → list_all passes bs ≡ true → Small bs
all_small passes f [] h = tt
all_small passes f (b ∷ bs) h = let p = and_parts (passes b) (list_all passes bs) h in (f b p.0, all_small passes f bs p.1)

name_small : (bs : List ℕ) → is_name bs ≡ true → Small bs
name_small [] h = tt
name_small (b ∷ bs) h = let p = and_parts (is_name_start b) (list_all is_name_part bs) h in (start_small b p.0, all_small is_name_part part_small bs p.1)

number_small : (bs : List ℕ) → is_number bs ≡ true → Small bs
number_small [] h = tt
number_small (b ∷ bs) h = let p = and_parts (is_ascii_digit b) (list_all is_ascii_digit bs) h in (digit_small b p.0, all_small is_ascii_digit digit_small bs p.1)

sign_small : (cmp : Cmp) → Small (sign_of cmp)
sign_small tests.Eq = (omega arith, tt)
sign_small tests.Ne = (omega arith, (omega arith, tt))
sign_small tests.Lt = (omega arith, tt)
sign_small tests.Le = (omega arith, (omega arith, tt))
sign_small tests.Gt = (omega arith, tt)
sign_small tests.Ge = (omega arith, (omega arith, tt))

-- a token's text is UTF-8, and so is what follows the token
token_cut : (us bs : List ℕ) (t : Token) → HasSpelling us t → IsUtf8 (us ++ bs) → TokenIsUtf8 t × IsUtf8 bs
token_cut us bs _ (word h) u = (tt, past_small us bs (name_small us h) u)
token_cut us bs _ (digits h) u = (tt, past_small us bs (number_small us h) u)
token_cut us bs _ (negative {bs = ds} h) u = let s : Small (45 ∷ ds) = (omega arith, number_small ds h) in (tt, past_small us bs s u)
token_cut us bs _ (quoted {text = text}) u =
    let opened : IsUtf8 ((doubled text ++ 39 ∷ []) ++ bs) = text_behind [] ((doubled text ++ 39 ∷ []) ++ bs) 39 (omega arith) u in
    let cut : IsUtf8 (doubled text ++ 39 ∷ bs) = subst IsUtf8 (append_assoc (doubled text) (39 ∷ []) bs) opened in
    (undoubled [] text (text_before (doubled text) bs 39 (omega arith) cut), text_behind (doubled text) bs 39 (omega arith) cut)
token_cut us bs _ (param {n = n} h) u = let s : Small (63 ∷ (49 + n) ∷ []) = (omega arith, (omega (arith, h), tt)) in (tt, past_small us bs s u)
token_cut us bs _ (test {cmp = cmp}) u = (tt, past_small us bs (sign_small cmp) u)
token_cut us bs _ unlike u = let s : Small (codes "!=") = (omega arith, (omega arith, tt)) in (tt, past_small us bs s u)
token_cut us bs _ opened u = let s : Small (codes "(") = (omega arith, tt) in (tt, past_small us bs s u)
token_cut us bs _ closed u = let s : Small (codes ")") = (omega arith, tt) in (tt, past_small us bs s u)
token_cut us bs _ comma u = let s : Small (codes ",") = (omega arith, tt) in (tt, past_small us bs s u)
token_cut us bs _ dot u = let s : Small (codes ".") = (omega arith, tt) in (tt, past_small us bs s u)
token_cut us bs _ star u = let s : Small (codes "*") = (omega arith, tt) in (tt, past_small us bs s u)

tokens_utf8 : (text : List ℕ) (ts : List Token) → HasTokens text ts → IsUtf8 text → TokensAreUtf8 ts
tokens_utf8 _ _ nothing u = tt
tokens_utf8 _ _ (blank {b = b} {bs = bs} {ts = ts} h rest) u = tokens_utf8 bs ts rest (text_behind [] bs b (white_small b h) u)
tokens_utf8 _ _ (token {us = us} {bs = bs} {t = t} {ts = ts} s stop rest) u = let c = token_cut us bs t s u in (c.0, tokens_utf8 bs ts rest c.1)

-- ---- Conditions

opnd_utf8 : (ts : List Token) (w : WrittenOpnd) → HasOpnd ts w → TokensAreUtf8 ts → (scope : Scope) → Holds OperandIsUtf8 (named_opnd scope w)
opnd_utf8 ts _ (col_opnd {col = col} h) all scope = any_next OperandIsUtf8 (named_col scope col) (λ c. Some (opnds.Column c)) (λ c. tt)
opnd_utf8 ts _ (long_opnd h) all scope = tt
opnd_utf8 ts _ text_opnd all scope = all.0
opnd_utf8 ts _ (true_opnd h) all scope = tt
opnd_utf8 ts _ (false_opnd h) all scope = tt
opnd_utf8 ts _ param_opnd all scope = tt

module _ (schema : Schema) where
  mutual
    condition_utf8 : (ts : List Token) (w : WrittenCondition) → HasCondition ts w → TokensAreUtf8 ts → (scope : Scope) → Holds ConditionIsUtf8 (named_condition schema scope w)
    condition_utf8 ts w (one_conjunction h) all scope = conjunction_utf8 ts w h all scope
    condition_utf8 _ _ (either {us = us} {vs = vs} {t = t} {a = a} {b = b} h k l) all scope =
        let f = all_parts TokenIsUtf8 us (t ∷ vs) all in
        next ConditionIsUtf8 ConditionIsUtf8 (named_condition schema scope a) (λ c. named_condition schema scope b >>= λ d. Some (plain.Either c d)) (condition_utf8 us a h f.0 scope)
        (λ c i. next ConditionIsUtf8 ConditionIsUtf8 (named_condition schema scope b) (λ d. Some (plain.Either c d)) (conjunction_utf8 vs b l f.1.1 scope) (λ d j. (i, j)))

    conjunction_utf8 : (ts : List Token) (w : WrittenCondition) → HasConjunction ts w → TokensAreUtf8 ts → (scope : Scope) → Holds ConditionIsUtf8 (named_condition schema scope w)
    conjunction_utf8 ts w (one_negation h) all scope = negation_utf8 ts w h all scope
    conjunction_utf8 _ _ (both {us = us} {vs = vs} {t = t} {a = a} {b = b} h k l) all scope =
        let f = all_parts TokenIsUtf8 us (t ∷ vs) all in
        next ConditionIsUtf8 ConditionIsUtf8 (named_condition schema scope a) (λ c. named_condition schema scope b >>= λ d. Some (plain.Both c d)) (conjunction_utf8 us a h f.0 scope)
        (λ c i. next ConditionIsUtf8 ConditionIsUtf8 (named_condition schema scope b) (λ d. Some (plain.Both c d)) (negation_utf8 vs b l f.1.1 scope) (λ d j. (i, j)))

    negation_utf8 : (ts : List Token) (w : WrittenCondition) → HasNegation ts w → TokensAreUtf8 ts → (scope : Scope) → Holds ConditionIsUtf8 (named_condition schema scope w)
    negation_utf8 ts w (one_atom h) all scope = atom_utf8 ts w h all scope
    negation_utf8 _ _ (negation {ts = us} {a = a} k h) all scope = next ConditionIsUtf8 ConditionIsUtf8 (named_condition schema scope a) (λ c. Some (plain.Not c)) (negation_utf8 us a h all.1 scope) (λ c i. i)

    atom_utf8 : (ts : List Token) (w : WrittenCondition) → HasAtom ts w → TokensAreUtf8 ts → (scope : Scope) → Holds ConditionIsUtf8 (named_condition schema scope w)
    atom_utf8 _ w (enclosed {ts = us} h) all scope = condition_utf8 us w h (all_parts TokenIsUtf8 us (Close ∷ []) all.1).0 scope
    atom_utf8 _ _ (comparison {us = us} {vs = vs} {cmp = cmp} {a = a} {b = b} h k) all scope =
        let f = all_parts TokenIsUtf8 us (Test cmp ∷ vs) all in
        next OperandIsUtf8 ConditionIsUtf8 (named_opnd scope a) (λ x. named_opnd scope b >>= λ y. Some (plain.Compare cmp x y)) (opnd_utf8 us a h f.0 scope)
        (λ x i. next OperandIsUtf8 ConditionIsUtf8 (named_opnd scope b) (λ y. Some (plain.Compare cmp x y)) (opnd_utf8 vs b k f.1.1 scope) (λ y j. (i, j)))
    atom_utf8 _ _ (bare {col = col} h) all scope = any_next ConditionIsUtf8 (named_col scope col) (λ c. Some (plain.Bare c)) (λ c. tt)
    atom_utf8 _ _ (exists {ts = us} {parts = parts} {where_ = f} k l s) all scope =
        let g = all_parts TokenIsUtf8 us (Close ∷ []) all.1.1.1.1 in
        any_next ConditionIsUtf8 (known_parts schema parts) (λ own. named_filter schema (inside scope own) f >>= λ g. Some (plain.Exists (froms_of own) g))
        (λ own. next FilterIsUtf8 ConditionIsUtf8 (named_filter schema (inside scope own) f) (λ g. Some (plain.Exists (froms_of own) g)) (source_utf8 us parts f s g.0 (inside scope own)) (λ g i. i))
    atom_utf8 _ _ (within {us = us} {ins = ins} {cs = cs} {ts = vs} {s = s} {opnd = opnd} {negated = negated} {col = col} {parts = parts} {where_ = f} h i k m src) all scope =
        let f1 = all_parts TokenIsUtf8 us (ins ++ Open ∷ s ∷ (cs ++ (vs ++ Close ∷ []))) all in
        let f2 = all_parts TokenIsUtf8 ins (Open ∷ s ∷ (cs ++ (vs ++ Close ∷ []))) f1.1 in
        let f3 = all_parts TokenIsUtf8 cs (vs ++ Close ∷ []) f2.1.1.1 in
        let f4 = all_parts TokenIsUtf8 vs (Close ∷ []) f3.1 in
        next OperandIsUtf8 ConditionIsUtf8 (named_opnd scope opnd) (λ x. known_parts schema parts >>= λ own. named_col (inside scope own) col >>= λ c. named_filter schema (inside scope own) f >>= λ g. Some (plain.Within x negated c (froms_of own) g)) (opnd_utf8 us opnd h f1.0 scope)
        (λ x j.
        any_next ConditionIsUtf8 (known_parts schema parts) (λ own. named_col (inside scope own) col >>= λ c. named_filter schema (inside scope own) f >>= λ g. Some (plain.Within x negated c (froms_of own) g))
        (λ own.
        any_next ConditionIsUtf8 (named_col (inside scope own) col) (λ c. named_filter schema (inside scope own) f >>= λ g. Some (plain.Within x negated c (froms_of own) g))
        (λ c. next FilterIsUtf8 ConditionIsUtf8 (named_filter schema (inside scope own) f) (λ g. Some (plain.Within x negated c (froms_of own) g)) (source_utf8 vs parts f src f4.0 (inside scope own)) (λ g n. (j, n)))))

    source_utf8 : (ts : List Token) (parts : List WrittenPart) (f : WrittenFilter) → HasSource ts parts f → TokensAreUtf8 ts → (scope : Scope) → Holds FilterIsUtf8 (named_filter schema scope f)
    source_utf8 _ parts f (source {us = us} {vs = vs} from h w) all scope = filter_utf8 vs f w (all_parts TokenIsUtf8 us vs all.1).1 scope

    filter_utf8 : (ts : List Token) (w : WrittenFilter) → HasWhere ts w → TokensAreUtf8 ts → (scope : Scope) → Holds FilterIsUtf8 (named_filter schema scope w)
    filter_utf8 _ _ no_where all scope = tt
    filter_utf8 _ _ (where_of {ts = us} {a = a} k h) all scope = next ConditionIsUtf8 FilterIsUtf8 (named_condition schema scope a) (λ c. Some (plain.Where c)) (condition_utf8 us a h all.1 scope) (λ c i. i)

  -- ---- Queries

  abbrev ListingIsUtf8 : PlainListing → Type 0
  ListingIsUtf8 q = FilterIsUtf8 q.filter

  abbrev NumberIsUtf8 : PlainNumber → Type 0
  NumberIsUtf8 q = FilterIsUtf8 q.filter

  abbrev TruthIsUtf8 : PlainTruth → Type 0
  TruthIsUtf8 q = FilterIsUtf8 q.filter

  listing_utf8 : (w : WrittenListing) (ts : List Token) → HasSource ts w.from w.filter → TokensAreUtf8 ts → Holds ListingIsUtf8 (named_listing schema w)
  listing_utf8 w ts s all =
      any_next ListingIsUtf8 (known_parts schema w.from) _
      (λ own.
      any_next ListingIsUtf8 (named_item (outermost own) w.item) _
      (λ item.
      next FilterIsUtf8 ListingIsUtf8 (named_filter schema (outermost own) w.filter) _ (source_utf8 ts w.from w.filter s all (outermost own))
      (λ filter_ i. any_next ListingIsUtf8 (named_group (outermost own) w.group) _ (λ group. any_next ListingIsUtf8 (each_of (named_key (outermost own)) w.keys) _ (λ keys. i)))))

  number_from : (w : WrittenNumber) (ts : List Token) → HasSource ts w.from w.filter → TokensAreUtf8 ts → Holds NumberIsUtf8 (named_number schema w)
  number_from w ts s all =
      any_next NumberIsUtf8 (known_parts schema w.from) _
      (λ own.
      any_next NumberIsUtf8 (named_kind (outermost own) w.kind) _
      (λ kind. next FilterIsUtf8 NumberIsUtf8 (named_filter schema (outermost own) w.filter) _ (source_utf8 ts w.from w.filter s all (outermost own)) (λ filter_ i. i)))

  number_utf8 : (ts : List Token) (w : WrittenNumber) → HasCounted ts w → TokensAreUtf8 ts → Holds NumberIsUtf8 (named_number schema w)
  number_utf8 _ w (count {ts = us} c s) all = number_from w us s all.1.1.1.1
  number_utf8 _ w (sum {t = t} {cs = cs} {ts = us} c m h l s) all = number_from w us s (all_parts TokenIsUtf8 cs (Close ∷ Comma ∷ t ∷ Close ∷ us) all.1.1.1.1).1.1.1.1.1
  number_utf8 _ w (best {t = t} {cs = cs} {ts = us} c m h l s) all = number_from w us s (all_parts TokenIsUtf8 cs (Close ∷ Comma ∷ t ∷ Close ∷ us) all.1.1.1.1).1.1.1.1.1

  truth_utf8 : (w : WrittenTruth) (ts : List Token) → HasSource ts w.from w.filter → TokensAreUtf8 ts → Holds TruthIsUtf8 (named_truth schema w)
  truth_utf8 w ts s all =
      any_next TruthIsUtf8 (known_parts schema w.from) _ (λ own. next FilterIsUtf8 TruthIsUtf8 (named_filter schema (outermost own) w.filter) _ (source_utf8 ts w.from w.filter s all (outermost own)) (λ filter_ i. i))

  named_utf8 : (ts : List Token) (w : WrittenQuery) → HasWritten ts w → TokensAreUtf8 ts → Holds LiteralsAreUtf8 (named_query schema w)
  named_utf8 _ _ (listing {is = is} {ts = us} {gs = gs} {os = os} {ls = ls} {item = item} {parts = ps} {where_ = f} {group = group} {keys = keys} {limit = limit} k hi hs hg ho hl) all =
      let x : WrittenListing = record { item = item; from = ps; filter = f; group = group; keys = keys; limit = limit } in
      let own = all_parts TokenIsUtf8 us (gs ++ (os ++ ls)) (all_parts TokenIsUtf8 is (us ++ (gs ++ (os ++ ls))) all.1).1 in
      next ListingIsUtf8 LiteralsAreUtf8 (named_listing schema x) (λ p. Some (plain.Listing p)) (listing_utf8 x us hs own.0) (λ p i. i)
  named_utf8 _ _ (number {ts = us} {q = m} k h) all = next NumberIsUtf8 LiteralsAreUtf8 (named_number schema m) (λ p. Some (plain.Number p)) (number_utf8 us m h all.1) (λ p i. i)
  named_utf8 _ _ (truth {i = i} {es = es} {ts = us} {negated = negated} {parts = ps} {where_ = f} k h l s) all =
      let x : WrittenTruth = record { negated = negated; from = ps; filter = f } in
      let g = all_parts TokenIsUtf8 (es ++ Open ∷ i ∷ Digits (codes "1") ∷ us) (Close ∷ []) all.1 in
      let f2 = all_parts TokenIsUtf8 es (Open ∷ i ∷ Digits (codes "1") ∷ us) g.0 in
      next TruthIsUtf8 LiteralsAreUtf8 (named_truth schema x) (λ p. Some (plain.Truth p)) (truth_utf8 x us s f2.1.1.1.1) (λ p j. j)

  -- ---- Texts

  abbrev Judged : Type 0
  Judged = Result PlainQuery SqlRule

  with_params_utf8 : (q : PlainQuery) (params : List Ty) → LiteralsAreUtf8 q → LiteralsAreUtf8 (with_params q params)
  with_params_utf8 (plain.Listing q) params h = h
  with_params_utf8 (plain.Number q) params h = h
  with_params_utf8 (plain.Truth q) params h = h

  ok_is : (x y : PlainQuery) → (let a : Judged = Ok x in a) ≡ Ok y → x ≡ y
  ok_is x y e = ap (λ (r : Judged). elim r as (λ _. PlainQuery) [ Ok z ↦ z | Err f ↦ x ]) e

  judged_utf8 : (w : WrittenQuery) (q : PlainQuery) → judged schema w ≡ Ok q → Holds LiteralsAreUtf8 (named_query schema w) → LiteralsAreUtf8 q
  judged_utf8 w q e names = go (named_query schema w) refl e
    where
      typed : (n : PlainQuery) → LiteralsAreUtf8 n → (o : Option (List Ty)) → elim o as (λ _. Judged) [ Some params ↦ Ok (with_params n params) | None ↦ Err rules.BadParameter ] ≡ Ok q → LiteralsAreUtf8 q
      typed n h (Some params) e = subst LiteralsAreUtf8 (ok_is (with_params n params) q e) (with_params_utf8 n params h)
      typed n h None e = absurd cc

      grouped : (n : PlainQuery) → LiteralsAreUtf8 n → (b : Bool) → cond b (with_types schema n) (Err rules.BadGroup) ≡ Ok q → LiteralsAreUtf8 q
      grouped n h true e = typed n h (params_of schema n) e
      grouped n h false e = absurd cc

      fitting : (n : PlainQuery) → LiteralsAreUtf8 n → (b : Bool) → cond b (cond (group_fits n) (with_types schema n) (Err rules.BadGroup)) (Err rules.Mismatch) ≡ Ok q → LiteralsAreUtf8 q
      fitting n h true e = grouped n h (group_fits n) e
      fitting n h false e = absurd cc

      go : (o : Option PlainQuery) → named_query schema w ≡ o → elim o as (λ _. Judged) [ Some q ↦ judged_named schema q | None ↦ Err rules.Unknown ] ≡ Ok q → LiteralsAreUtf8 q
      go (Some n) h e = fitting n (found_holds LiteralsAreUtf8 (named_query schema w) n h names) (types_fit schema n) e
      go None h e = absurd cc

  -- The text literals of a query are UTF-8 where a text that has the query is.
  pub literals_utf8 : (text : List ℕ) (q : PlainQuery) → HasQuery schema text q → IsUtf8 text → LiteralsAreUtf8 q
  literals_utf8 text q h u = judged_utf8 h.written q h.meant (named_utf8 h.says.tokens h.written h.says.parsed (tokens_utf8 text h.says.tokens h.says.spelled u))
