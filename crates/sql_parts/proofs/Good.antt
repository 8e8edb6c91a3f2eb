-- The conditions that are emitted have named columns, operands of one type, and parameters beside columns.
use Rattle.std.proofs.Common.{◌≡◌, ℕ, zero, suc, pos, ◌+◌, ◌<◌, ◌≤◌, ◌^◌, Bool, true, false, cond, not, ◌&&◌, ◌||◌, List, [], ◌∷◌, ◌++◌, map, length, slice_get, refl, sym, ap, ap₂, ◌∙◌, subst, arith, nat_eq, nat_lt}
use Rattle.std.specs.List.{AllByRecursion, list_all}
use Rattle.std.specs.declared.option.Option.{Option}
use Rattle.std.specs.declared.option.Option.TheVariants.{Some, None}
use Rattle.std.proofs.lemmas.List.{length-append}
use Rattle.std.proofs.lemmas.Bool.Decides.{nat_tests}
use Rattle.qbs_base.specs.Folded.{is_some}
use Rattle.qbs_base.specs.declared.columns.Column.{Column}
use Rattle.qbs_base.specs.declared.columns.Table.{Table}
use Rattle.qbs_base.specs.declared.scalar.Scalar.{Scalar}
use Rattle.qbs_base.specs.declared.scalar.Scalar.TheVariants as scalars
use Rattle.qbs_base.specs.declared.scalar.Ty.{Ty}
use Rattle.qbs_base.specs.declared.scalar.Ty.TheVariants as tys
use Rattle.qbs_base.specs.Values.{Schema, fits_long}
use Rattle.schema.specs.Rules.{IsSchema, AreNamed}
use Rattle.tor_terms.specs.declared.term.Atom.{Atom}
use Rattle.tor_terms.specs.declared.term.Atom.TheVariants as atoms
use Rattle.tor_terms.specs.declared.term.Elem.TheVariants as elems
use Rattle.tor_terms.specs.declared.term.Operand.{Operand}
use Rattle.tor_terms.specs.declared.term.Operand.TheVariants as operands
use Rattle.tor_terms.specs.declared.term.Way.{Way}
use Rattle.tor_terms.specs.declared.term.Way.TheVariants as ways
use Rattle.tor_terms.specs.Plain.{Form, Is, Both, Either}
use Rattle.tor_terms.specs.Truth.{has_loop, operand_within, atom_within, known_within, form_within}
use Rattle.kernel_lang.specs.declared.parts.Col.{Col}
use Rattle.kernel_lang.specs.declared.parts.ListDef.{ListDef}
use Rattle.kernel_lang.specs.declared.parts.Update.{Update}
use Rattle.kernel_lang.specs.declared.parts.Update.TheVariants as updates
use Rattle.kernel_lang.specs.Plain.{Fragment}
use Rattle.kernel_lang.specs.Sentences.{IsValid}
use Rattle.kernel_lang.specs.Fitting.{named_places}
use Rattle.kernel_lang.specs.Typed.{column_type, scalar_type, operand_type, place_type, same_type, is_type, atom_is_typed, members_agree, update_is_typed, place_is_there, is_typed}
use Rattle.kernel_lang.specs.Validity.{is_field, has_a_field, tests_have_fields, limit_is_valid, is_number, element_of, element_within, start_is_valid, takes_a_column}
use Rattle.kernel_lang.proofs.Listing.{all_at, and_left, and_right, list_all_at, some_eq}
use Rattle.sql_ast.specs.declared.tree.Cmp.{Cmp}
use Rattle.sql_ast.specs.declared.tree.Cmp.TheVariants as tests
use Rattle.sql_ast.specs.declared.tree.FromItem.{FromItem}
use Rattle.sql_ast.specs.declared.tree.SqlCol.{SqlCol}
use Rattle.sql_ast.specs.declared.tree.SqlColumn.TheVariants as columns
use Rattle.sql_ast.specs.declared.tree.SqlItem.{SqlItem}
use Rattle.sql_ast.specs.declared.tree.SqlItem.TheVariants as items
use Rattle.sql_ast.specs.declared.tree.SqlOpnd.{SqlOpnd}
use Rattle.sql_ast.specs.declared.tree.SqlOpnd.TheVariants as opnds
use Rattle.sql_ast.specs.Meaning.{nth}
use Rattle.sql_ast.specs.Names.{◌>>=◌}
use Rattle.sql_ast.specs.Tree.{Condition, Not, Compare, Exists, Within, Filter, Everything, Where, PlainListing, PlainQuery, Listing, Number, Truth}
use Rattle.sql_ast.specs.Tree as sql
use Rattle.sql_ast.specs.Typing.{ty_of_scalar, ty_of_col, tys_beside, ty_beside, filter_tys, one_ty, ty_of_param, is_compared_by, filter_param, tys_up_to}
use Rattle.sql_ast.specs.Valid.{IsFromItem, AreItems, IsColOf, IsItemOf, IsListingOf}
use Rattle.sql_parts.specs.Scopes.{Ground, ground, Scope, number_in, def_of, list_of, table_name, columns_of, column_name, name_of, from_item, from_items, column}
use Rattle.sql_parts.specs.Emitted.{side, fixed, less_test, greater_test, same_test, signed, less_condition, moved_col, moved_filter, item_col, args_of, within_query, FlagCondition, literal, formula, joined_from, joined, limit_tests, limits, way_test, best_tests}
use Rattle.sql_parts.specs.Given.{IsKnownQuery, AreKnownTo, known_type, MemberFits, OperandIsHeld, AtomIsHeld, StartIsHeld, IsHeld, QueryIsCounted}
use Rattle.sql_parts.specs.Numbered.{opnd_uses, uses, filter_uses}
use Rattle.sql_parts.proofs.Flags.{typed_tests, limits_hold}
use Rattle.sql_parts.proofs.Grammar.{HasType, IsWithin, Good, GoodFilter}
use Rattle.sql_parts.proofs.Literals.{OneType, one_type, AtomsOf}
use Rattle.sql_parts.proofs.Moved.{col_named, col_typed, good_filter, filter_moved}
use Rattle.sql_parts.proofs.Named.{is_item, is_position, position_long, is_column, column_has}
use Rattle.sql_parts.proofs.Nest.{list_there}
use Rattle.sql_parts.proofs.Numbering.{EachParam, FilterParam, OpndParam}
use Rattle.sql_parts.proofs.Params.{maps_length, bound, moved_filter_param, known_there, listing_params}
use Rattle.sql_parts.proofs.Rows.{columns_at, place_typed}
use Rattle.sql_parts.proofs.Tools.{eq_itself, lt_of, length_map}

-- ---- uses of parameters

pub opnd_params : (P : ℕ → Type 0) (a : SqlOpnd) → OpndParam P a → AllByRecursion P (opnd_uses a)
opnd_params P (opnds.Column col) h = tt
opnd_params P (opnds.Lit x) h = tt
opnd_params P (opnds.Param zero) h = absurd h
opnd_params P (opnds.Param (suc k)) h = (h, tt)

pub all_both : {X : Type 0} (P : X → Type 0) (xs ys : List X) → AllByRecursion P xs → AllByRecursion P ys → AllByRecursion P (xs ++ ys)
all_both P [] ys a b = b
all_both P (x ∷ xs) ys a b = (a.0, all_both P xs ys a.1 b)

mutual
  each_use : (P : ℕ → Type 0) (t : Condition) → EachParam P t → AllByRecursion P (uses t)
  each_use P (sql.Both a b) h = all_both P (uses a) (uses b) (each_use P a h.0) (each_use P b h.1)
  each_use P (sql.Either a b) h = all_both P (uses a) (uses b) (each_use P a h.0) (each_use P b h.1)
  each_use P (Not a) h = each_use P a h
  each_use P (Compare cmp a b) h = all_both P (opnd_uses a) (opnd_uses b) (opnd_params P a h.0) (opnd_params P b h.1)
  each_use P (sql.Bare col) h = tt
  each_use P (Exists from f) h = filter_use P f h
  each_use P (Within a negated col from f) h = all_both P (opnd_uses a) (filter_uses f) (opnd_params P a h.0) (filter_use P f h.1)

  pub filter_use : (P : ℕ → Type 0) (f : Filter) → FilterParam P f → AllByRecursion P (filter_uses f)
  filter_use P Everything h = tt
  filter_use P (Where a) h = each_use P a h

-- ---- conditions that are good, with their parameters beside columns

abbrev pub IsBeside : Schema → List FromItem → Condition → Type 0
IsBeside schema froms t = AllByRecursion (λ k. is_some (tys_beside schema froms (suc k) t) ≡ true) (uses t)

abbrev pub FilterBeside : Schema → List FromItem → Filter → Type 0
FilterBeside schema froms f = AllByRecursion (λ k. is_some (filter_tys schema froms (suc k) f) ≡ true) (filter_uses f)

pub record IsSound (schema : Schema) (types : List Ty) (froms : List FromItem) (t : Condition) : Type 0 where
  pub good : Good schema types froms t
  pub beside : IsBeside schema froms t

pub record IsSoundFilter (schema : Schema) (types : List Ty) (froms : List FromItem) (f : Filter) : Type 0 where
  pub good : GoodFilter schema types froms f
  pub beside : FilterBeside schema froms f

some_left : (xs ys : List Ty) → is_some xs ≡ true → is_some (xs ++ ys) ≡ true
some_left [] ys h = absurd cc
some_left (x ∷ xs) ys h = refl

some_right : (xs ys : List Ty) → is_some ys ≡ true → is_some (xs ++ ys) ≡ true
some_right [] ys h = h
some_right (x ∷ xs) ys h = refl

all_then : (P Q : ℕ → Type 0) → ((k : ℕ) → P k → Q k) → (ks : List ℕ) → AllByRecursion P ks → AllByRecursion Q ks
all_then P Q h [] a = tt
all_then P Q h (k ∷ ks) a = (h k a.0, all_then P Q h ks a.1)

module _ (schema : Schema) (types : List Ty) (froms : List FromItem) where
  both_beside : (a b : Condition) → IsBeside schema froms a → IsBeside schema froms b → AllByRecursion (λ k. is_some (tys_beside schema froms (suc k) a ++ tys_beside schema froms (suc k) b) ≡ true) (uses a ++ uses b)
  both_beside a b h k =
      all_both (λ k. is_some (tys_beside schema froms (suc k) a ++ tys_beside schema froms (suc k) b) ≡ true) (uses a) (uses b)
      (all_then (λ k. is_some (tys_beside schema froms (suc k) a) ≡ true) (λ k. is_some (tys_beside schema froms (suc k) a ++ tys_beside schema froms (suc k) b) ≡ true) (λ k e. some_left (tys_beside schema froms (suc k) a) (tys_beside schema froms (suc k) b) e) (uses a) h)
      (all_then (λ k. is_some (tys_beside schema froms (suc k) b) ≡ true) (λ k. is_some (tys_beside schema froms (suc k) a ++ tys_beside schema froms (suc k) b) ≡ true) (λ k e. some_right (tys_beside schema froms (suc k) a) (tys_beside schema froms (suc k) b) e) (uses b) k)

  pub sound_both : (a b : Condition) → IsSound schema types froms a → IsSound schema types froms b → IsSound schema types froms (sql.Both a b)
  sound_both a b h k = record { good = (h.good, k.good); beside = both_beside a b h.beside k.beside }

  sound_either : (a b : Condition) → IsSound schema types froms a → IsSound schema types froms b → IsSound schema types froms (sql.Either a b)
  sound_either a b h k = record { good = (h.good, k.good); beside = both_beside a b h.beside k.beside }

  pub sound_joined : (ds : List Condition) → AllByRecursion (IsSound schema types froms) ds → IsSoundFilter schema types froms (joined ds)
  sound_joined [] h = record { good = tt; beside = tt }
  sound_joined (d ∷ ds) h = let r = go d ds h.0 h.1 in record { good = r.good; beside = r.beside }
    where
      go : (d : Condition) (ds : List Condition) → IsSound schema types froms d → AllByRecursion (IsSound schema types froms) ds → IsSound schema types froms (joined_from d ds)
      go d [] h k = h
      go d (e ∷ ds) h k = go (sql.Both d e) ds (sound_both d e h k.0) k.1

  pub sound_fixed : (b : Bool) → IsSound schema types froms (fixed b)
  sound_fixed b = record { good = record { ty = tys.Bool; first = (tt, refl); second = (tt, refl); fits = refl }; beside = tt }

  sound_signed : (h : Bool) (t : Condition) → IsSound schema types froms t → IsSound schema types froms (signed h t)
  sound_signed true t s = s
  sound_signed false t s = record { good = s.good; beside = s.beside }

  -- a comparison of operands of which one is a column
  beside_column : (cmp : Cmp) (k : ℕ) (col : SqlCol) (ty : Ty) → ty_of_col schema froms col ≡ Some ty → is_some (ty_beside schema froms (suc k) (opnds.Param (suc k)) (opnds.Column col)) ≡ true
  beside_column cmp k col ty e = ap₂ (λ b o. is_some (cond b (elim o as (λ _. List Ty) [ Some ty ↦ ty ∷ [] | None ↦ [] ]) [])) (eq_itself (suc k)) e

pub some_column : {A : Type 0} (o : Option Column) (ty : Ty) → column_type o ≡ Some ty → ((c : Column) → o ≡ Some c → c.ty ≡ ty → A) → A
some_column None ty e f = absurd cc
some_column (Some c) ty e f = f c refl (some_eq c.ty ty e)

there_at : {X : Type 0} (xs : List X) (n : ℕ) → n < length xs → (x : X) × (slice_get xs n ≡ Some x)
there_at [] n h = absurd (omega (arith, h))
there_at (x ∷ xs) zero h = (x, refl)
there_at (x ∷ xs) (suc n) h = there_at xs n (omega (arith, h))

types_same : (x : Scalar) → ty_of_scalar x ≡ scalar_type x
types_same (scalars.Long n) = refl
types_same (scalars.Bool b) = refl
types_same (scalars.Text t) = refl

pub fields_there : (f : Fragment) → IsValid f → list_all has_a_field f.atoms ≡ true
unfolding tests_have_fields
fields_there f v = v.operands

not_bool : (ty : Ty) → not (is_type tys.Bool (Some ty)) ≡ true → (cmp : Cmp) → is_compared_by cmp ty ≡ true
not_bool tys.Long h tests.Eq = refl
not_bool tys.Long h tests.Ne = refl
not_bool tys.Long h tests.Lt = refl
not_bool tys.Long h tests.Le = refl
not_bool tys.Long h tests.Gt = refl
not_bool tys.Long h tests.Ge = refl
not_bool tys.Text h tests.Eq = refl
not_bool tys.Text h tests.Ne = refl
not_bool tys.Text h tests.Lt = refl
not_bool tys.Text h tests.Le = refl
not_bool tys.Text h tests.Gt = refl
not_bool tys.Text h tests.Ge = refl
not_bool tys.Bool h cmp = absurd cc

same_compared : (h : Bool) (ty : Ty) → is_compared_by (same_test h) ty ≡ true
same_compared true ty = refl
same_compared false ty = refl

tables_there : (schema : Schema) (f : Fragment) → is_typed schema f ≡ true → list_all (λ d. nat_lt d.table (length schema)) f.lists ≡ true
tables_there schema f h =
    let tests = list_all (atom_is_typed schema f) f.atoms in
    let agree = list_all (λ a. list_all (members_agree schema f a) f.atoms) f.atoms in
    let tables = list_all (λ d. nat_lt d.table (length schema)) f.lists in
    let places = list_all (place_is_there schema f) (named_places f) in
    and_left (list_all (λ d. nat_lt d.table (length schema)) f.lists) (list_all (place_is_there schema f) (named_places f))
    (and_left (list_all (λ d. nat_lt d.table (length schema)) f.lists && list_all (place_is_there schema f) (named_places f)) (list_all (atom_is_typed schema f) f.atoms)
    (and_left (list_all (λ d. nat_lt d.table (length schema)) f.lists && list_all (place_is_there schema f) (named_places f) && list_all (atom_is_typed schema f) f.atoms) (list_all (λ a. list_all (members_agree schema f a) f.atoms) f.atoms)
    (and_left (list_all (λ d. nat_lt d.table (length schema)) f.lists && list_all (place_is_there schema f) (named_places f) && list_all (atom_is_typed schema f) f.atoms && list_all (λ a. list_all (members_agree schema f a) f.atoms) f.atoms)
    (list_all (λ a. update_is_typed schema f a.update) f.accs) h)))

tests_typed : (schema : Schema) (f : Fragment) → is_typed schema f ≡ true → list_all (atom_is_typed schema f) f.atoms ≡ true
tests_typed = typed_tests

or_swap : (a b : Bool) → (a || b) ≡ true → (b || a) ≡ true
or_swap true true h = refl
or_swap true false h = refl
or_swap false true h = refl
or_swap false false h = absurd cc

abbrev listing_item : SqlItem → PlainQuery → SqlItem
listing_item other (Listing q) = q.item
listing_item other (Number q) = other
listing_item other (Truth q) = other

nth_within : (ks : List ℕ) (m n : ℕ) → nth ks m ≡ Some n → (1 ≤ m) × (m ≤ length ks)
nth_within ks zero n e = absurd cc
nth_within ks (suc i) n e = (omega arith, let l = get_below ks i n e in omega (arith, l))
  where
    get_below : (ks : List ℕ) (i n : ℕ) → slice_get ks i ≡ Some n → i < length ks
    get_below [] i n e = absurd cc
    get_below (k ∷ ks) zero n e = omega arith
    get_below (k ∷ ks) (suc i) n e = let l = get_below ks i n e in omega (arith, l)

nth_there : {X : Type 0} (xs : List X) (m : ℕ) → 1 ≤ m → m ≤ length xs → (x : X) × (nth xs m ≡ Some x)
nth_there xs zero low high = absurd (omega (arith, low))
nth_there xs (suc i) low high = there_at xs i (omega (arith, high))

all_nth : (P : ℕ → Type 0) (ks : List ℕ) → ((m n : ℕ) → nth ks m ≡ Some n → P n) → AllByRecursion P ks
all_nth P [] h = tt
all_nth P (k ∷ ks) h = (h 1 k refl, all_nth P ks (λ m n e. h (suc m) n (later m n e)))
  where
    later : (m n : ℕ) → nth ks m ≡ Some n → nth (k ∷ ks) (suc m) ≡ Some n
    later zero n e = absurd cc
    later (suc i) n e = e

-- the type of an argument
types_at : (types : List Ty) (ks : List ℕ) (params : List Ty) → map (slice_get types) ks ≡ map Some params → (m n : ℕ) → nth ks m ≡ Some n → slice_get types n ≡ nth params m
types_at types ks params e zero n h = absurd cc
types_at types ks params e (suc i) n h = go ks params e i h
  where
    go : (ks : List ℕ) (params : List Ty) → map (slice_get types) ks ≡ map Some params → (i : ℕ) → slice_get ks i ≡ Some n → slice_get types n ≡ slice_get params i
    go [] params e i h = absurd cc
    go (k ∷ ks) [] e i h = absurd cc
    go (k ∷ ks) (t ∷ params) e zero h = let first : slice_get types k ≡ Some t = cc in ap (slice_get types) (sym (some_eq k n h)) ∙ first
    go (k ∷ ks) (t ∷ params) e (suc i) h = let others : map (slice_get types) ks ≡ map Some params = cc in go ks params others i h

get_in_front : (xs ys : List Ty) (i : ℕ) → i < length xs → slice_get (xs ++ ys) i ≡ slice_get xs i
get_in_front [] ys i h = absurd (omega (arith, h))
get_in_front (x ∷ xs) ys zero h = refl
get_in_front (x ∷ xs) ys (suc i) h = get_in_front xs ys i (omega (arith, h))

get_last : (xs : List Ty) (t : Ty) → slice_get (xs ++ t ∷ []) (length xs) ≡ Some t
get_last [] t = refl
get_last (x ∷ xs) t = get_last xs t

equal : (i n k : ℕ) → nat_lt i n ≡ false → suc i ≤ suc n → k ≡ n → i ≡ k
equal i n k e h l = grind (arith, nat_tests)

param_types : (P : ℕ → Option Ty) (n : ℕ) (types : List Ty) → tys_up_to P n ≡ Some types → (m : ℕ) → 1 ≤ m → m ≤ n → P m ≡ nth types m
param_types P zero types e m low high = absurd (omega (arith, low, high))
param_types P (suc n) types e m low high = go (tys_up_to P n) refl e (λ us is. (bound P n us is, λ l. param_types P n us is m low l))
  where
    last : (us : List Ty) → length us ≡ n → (o : Option Ty) → P (suc n) ≡ o → (o >>= λ ty. Some (us ++ ty ∷ [])) ≡ Some types → (m ≤ n → P m ≡ nth us m) → P m ≡ nth types m
    last us l None is e before = absurd cc
    last us l (Some ty) is e before = at m low high before
      where
        whole : us ++ ty ∷ [] ≡ types
        whole = cc

        at : (m : ℕ) → 1 ≤ m → m ≤ suc n → (m ≤ n → P m ≡ nth us m) → P m ≡ nth types m
        at zero low high before = absurd (omega (arith, low))
        at (suc i) low high before = by (nat_lt i n) refl
          where
            by : (b : Bool) → nat_lt i n ≡ b → P (suc i) ≡ slice_get types i
            by true e = let h : i < n = lt_of i n e in before (omega (arith, h)) ∙ sym (get_in_front us (ty ∷ []) i (omega (arith, h, l))) ∙ ap (λ ts. slice_get ts i) whole
            by false e =
                let same : i ≡ length us = equal i n (length us) e high l in
                ap P (ap suc (same ∙ l)) ∙ is ∙ sym (get_last us ty) ∙ ap (slice_get (us ++ ty ∷ [])) (sym same) ∙ ap (λ ts. slice_get ts i) whole

    go : (o : Option (List Ty)) → tys_up_to P n ≡ o → (o >>= λ us. P (suc n) >>= λ ty. Some (us ++ ty ∷ [])) ≡ Some types → ((us : List Ty) → tys_up_to P n ≡ Some us → (length us ≡ n) × (m ≤ n → P m ≡ nth us m)) → P m ≡ nth types m
    go None is e before = absurd cc
    go (Some us) is e before = let h = before us is in last us h.0 (P (suc n)) refl e h.1

some_types : (ts : List Ty) (ty : Ty) → one_ty ts ≡ Some ty → is_some ts ≡ true
some_types [] ty e = absurd cc
some_types (t ∷ ts) ty e = refl

module _ (schema : Schema) (is : IsSchema schema) (named : AreNamed schema) (f : Fragment) (cand : List ℕ) (known : List PlainQuery) (args : List (List ℕ)) (valid : IsValid f) (typed : is_typed schema f ≡ true) where
  abbrev g : Ground
  g = ground schema f cand known args

  abbrev HasTable : ℕ → Type 0
  HasTable j = (t : Table) × (slice_get schema (list_of g j).table ≡ Some t)

  pub table_at : (j : ℕ) → nat_lt j (length f.lists) ≡ true → HasTable j
  table_at j h =
      let there = list_there f.lists j h in
      there_at schema (list_of g j).table (lt_of (list_of g j).table (length schema) (list_all_at (λ d. nat_lt d.table (length schema)) f.lists j (list_of g j) (tables_there schema f typed) there))

  -- the FROM items that a scope numbers
  pub record Holds (s : Scope) (froms : List FromItem) (js : List ℕ) : Type 0 where
    pub count : length froms ≡ s.count
    pub few : length froms ≤ 6
    pub item : (j : ℕ) → has_loop js j ≡ true → nth froms (number_in s.loops j) ≡ Some (from_item g j)
    pub table : (j : ℕ) → has_loop js j ≡ true → HasTable j

  -- a column of a loop's item, of the type of its place
  pub column_at : (froms : List FromItem) (n j k : ℕ) (ty : Ty) → nth froms n ≡ Some (from_item g j) → HasTable j → column_type (slice_get (columns_at g j) k) ≡ Some ty → IsColOf schema froms (column g n j k) × (ty_of_col schema froms (column g n j k) ≡ Some ty)
  column_at froms n j k ty at t e =
      some_column (slice_get t.0.columns k) ty (sym (ap (λ o. column_type (slice_get (columns_of o) k)) t.1) ∙ e) (λ c there same.
      let name : name_of g j k ≡ c.name = ap (λ o. column_name (slice_get (columns_of o) k)) t.1 ∙ ap column_name there in (
        subst (λ x. IsColOf schema froms (record { item = n; column = columns.Named x k })) (sym name) (is_column schema is named froms n (from_item g j) at t.0 t.1 k c there),
        column_has schema is named froms n (from_item g j) at t.0 t.1 k c (name_of g j k) there ∙ ap Some same,
      ))

  module _ (s : Scope) (froms : List FromItem) (js : List ℕ) (holds : Holds s froms js) where
    pub place_good : (j k : ℕ) (ty : Ty) → has_loop js j ≡ true → place_type schema f (j, k) ≡ Some ty → IsColOf schema froms (column g (number_in s.loops j) j k) × (ty_of_col schema froms (column g (number_in s.loops j) j k) ≡ Some ty)
    place_good j k ty h e = column_at froms (number_in s.loops j) j k ty (holds.item j h) (holds.table j h) (place_typed g f refl j k ty e)

    side_good : (a : Operand) (ty : Ty) → operand_within js a ≡ true → operand_type schema f a ≡ Some ty → OperandIsHeld a → HasType schema f.entries froms (side g s a) ty
    side_good (operands.Field j k) ty h e held = place_good j k ty h e
    side_good (operands.Entry k) ty h e held = e
    side_good (operands.Lit x) ty h e held = (held, types_same x ∙ some_eq (scalar_type x) ty e)

    -- one of two operands is a column
    pair_beside : (cmp : Cmp) (a b : Operand) (ty : Ty) → (is_field a || is_field b) ≡ true → HasType schema f.entries froms (side g s a) ty → HasType schema f.entries froms (side g s b) ty → IsBeside schema froms (Compare cmp (side g s a) (side g s b))
    pair_beside cmp (operands.Field j k) (operands.Field i l) ty h x y = tt
    pair_beside cmp (operands.Field j k) (operands.Lit v) ty h x y = tt
    pair_beside cmp (operands.Lit v) (operands.Field i l) ty h x y = tt
    pair_beside cmp (operands.Field j k) (operands.Entry n) ty h x y = (beside_column schema f.entries froms cmp n (column g (number_in s.loops j) j k) ty x.1, tt)
    pair_beside cmp (operands.Entry n) (operands.Field i l) ty h x y =
        (some_left (ty_beside schema froms (suc n) (opnds.Param (suc n)) (opnds.Column (column g (number_in s.loops i) i l))) [] (beside_column schema f.entries froms cmp n (column g (number_in s.loops i) i l) ty y.1), tt)
    pair_beside cmp (operands.Entry m) (operands.Entry n) ty h x y = absurd cc
    pair_beside cmp (operands.Entry m) (operands.Lit v) ty h x y = absurd cc
    pair_beside cmp (operands.Lit v) (operands.Entry n) ty h x y = absurd cc
    pair_beside cmp (operands.Lit v) (operands.Lit u) ty h x y = absurd cc

    pair_sound : (cmp : Cmp) (a b : Operand) (ty : Ty) → (is_field a || is_field b) ≡ true → HasType schema f.entries froms (side g s a) ty → HasType schema f.entries froms (side g s b) ty → is_compared_by cmp ty ≡ true → IsSound schema f.entries froms (Compare cmp (side g s a) (side g s b))
    pair_sound cmp a b ty h x y fits = record { good = record { ty = ty; first = x; second = y; fits = fits }; beside = pair_beside cmp a b ty h x y }

    less_sound : (a b : Operand) (h : Bool) → operand_within js a ≡ true → operand_within js b ≡ true → atom_is_typed schema f (atoms.Less a b) ≡ true → (is_field a || is_field b) ≡ true → AtomIsHeld (atoms.Less a b) → IsSound schema f.entries froms (less_condition g s a b h)
    less_sound a b h in_a in_b t fields held = go (is_field a || not (is_field b))
      where
        one : OneType (operand_type schema f a) (operand_type schema f b)
        one = one_type (operand_type schema f a) (operand_type schema f b) (and_left (same_type (operand_type schema f a) (operand_type schema f b)) (not (is_type tys.Bool (operand_type schema f a))) t)

        order : not (is_type tys.Bool (Some one.ty)) ≡ true
        order = subst (λ o. not (is_type tys.Bool o) ≡ true) one.first (and_right (same_type (operand_type schema f a) (operand_type schema f b)) (not (is_type tys.Bool (operand_type schema f a))) t)

        x : HasType schema f.entries froms (side g s a) one.ty
        x = side_good a one.ty in_a one.first held.0

        y : HasType schema f.entries froms (side g s b) one.ty
        y = side_good b one.ty in_b one.second held.1

        other : (is_field b || is_field a) ≡ true
        other = or_swap (is_field a) (is_field b) fields

        go : (left : Bool) → IsSound schema f.entries froms (cond left (Compare (less_test h) (side g s a) (side g s b)) (Compare (greater_test h) (side g s b) (side g s a)))
        go true = pair_sound (less_test h) a b one.ty fields x y (not_bool one.ty order (less_test h))
        go false = pair_sound (greater_test h) b a one.ty other y x (not_bool one.ty order (greater_test h))

    same_sound : (a b : Operand) (h : Bool) → operand_within js a ≡ true → operand_within js b ≡ true → atom_is_typed schema f (atoms.Same a b) ≡ true → (is_field a || is_field b) ≡ true → AtomIsHeld (atoms.Same a b) → IsSound schema f.entries froms (Compare (same_test h) (side g s a) (side g s b))
    same_sound a b h in_a in_b t fields held =
        let one : OneType (operand_type schema f a) (operand_type schema f b) = one_type (operand_type schema f a) (operand_type schema f b) t in
        pair_sound (same_test h) a b one.ty fields (side_good a one.ty in_a one.first held.0) (side_good b one.ty in_b one.second held.1) (same_compared h one.ty)

    truth_sound : (a : Operand) (h : Bool) → operand_within js a ≡ true → atom_is_typed schema f (atoms.Truth a) ≡ true → is_field a ≡ true → IsSound schema f.entries froms (Compare tests.Eq (side g s a) (opnds.Lit (scalars.Bool h)))
    truth_sound (operands.Field j k) h in_a t field =
        let one : OneType (Some tys.Bool) (operand_type schema f (operands.Field j k)) = one_type (Some tys.Bool) (operand_type schema f (operands.Field j k)) t in
        record { good = record { ty = tys.Bool; first = side_good (operands.Field j k) tys.Bool in_a (one.second ∙ sym one.first) tt; second = (tt, refl); fits = refl }; beside = tt }
    truth_sound (operands.Entry k) h in_a t field = absurd cc
    truth_sound (operands.Lit x) h in_a t field = absurd cc

    -- IN over a known query
    within_sound : (are : AreKnownTo schema f known args) → AllByRecursion QueryIsCounted known → (i : ℕ) (a : Operand) (n : ℕ) (h : Bool) → slice_get f.atoms i ≡ Some (atoms.Member a n) → operand_within js a ≡ true
        → IsSound schema f.entries froms (within_query g s a (args_of (slice_get args n)) (slice_get known n) h)
    within_sound are counted i a n h at in_a = go (slice_get known n) refl
      where
        field : is_field a ≡ true
        field = list_all_at has_a_field f.atoms i (atoms.Member a n) (fields_there f valid) at

        one : OneType (operand_type schema f a) (operand_type schema f a)
        one = one_type (operand_type schema f a) (operand_type schema f a)
            (and_right (is_field a) (same_type (operand_type schema f a) (operand_type schema f a)) (list_all_at (atom_is_typed schema f) f.atoms i (atoms.Member a n) (tests_typed schema f typed) at))

        fits : operand_type schema f a ≡ known_type schema (slice_get known n)
        fits = all_at (MemberFits schema f known) f.atoms i (atoms.Member a n) are.members at

        no_uses : (a : Operand) → is_field a ≡ true → opnd_uses (side g s a) ≡ []
        no_uses (operands.Field j k) e = refl
        no_uses (operands.Entry k) e = absurd cc
        no_uses (operands.Lit x) e = absurd cc

        no_held : (a : Operand) → is_field a ≡ true → OperandIsHeld a
        no_held (operands.Field j k) e = tt
        no_held (operands.Entry k) e = tt
        no_held (operands.Lit x) e = absurd cc

        sound_within : (ks : List ℕ) (q : PlainListing) → IsKnownQuery schema f.entries (Listing q) ks → QueryIsCounted (Listing q) → known_type schema (Some (Listing q)) ≡ Some one.ty → IsSound schema f.entries froms (within_query g s a ks (Some (Listing q)) h)
        sound_within ks q k c e = record { good = (within_is, items_are, filter_good); beside = subst (AllByRecursion (λ n. is_some (tys_beside schema froms (suc n) (within_query g s a ks (Some (Listing q)) h)) ≡ true)) (ap (λ us. us ++ filter_uses (moved_filter s.count ks q.filter)) (sym (no_uses a field))) uses_beside }
          where
            names : IsListingOf schema q
            names = k.valid.names

            is_col : IsColOf schema q.from (item_col q.item)
            is_col = subst (λ i. IsColOf schema q.from (item_col i)) (sym item) (subst (λ i. IsItemOf schema q.from i) item names.item)
              where
                item : q.item ≡ items.Column k.col
                item = ap (λ p. listing_item q.item p) k.is ∙ k.item

            params : map (slice_get f.entries) ks ≡ map Some q.params
            params = k.entries ∙ ap (λ p. map Some (listing_params p)) (sym k.is)

            last : length q.params ≡ filter_param q.filter
            last = bound (ty_of_param schema q.from q.filter) (filter_param q.filter) q.params k.valid.params

            arg_count : length ks ≡ length q.params
            arg_count = maps_length f.entries ks q.params params

            known_type_at : (m n : ℕ) → nth ks m ≡ Some n → ty_of_param schema q.from q.filter m ≡ slice_get f.entries n
            known_type_at m n e =
                let l = nth_within ks m n e in
                param_types (ty_of_param schema q.from q.filter) (filter_param q.filter) q.params k.valid.params m l.0 (omega (arith, l.1, last, arg_count)) ∙ sym (types_at f.entries ks q.params params m n e)

            arg_at : (m : ℕ) → 1 ≤ m → m ≤ length ks → (n : ℕ) × (ty : Ty) × ((nth ks m ≡ Some n) × (ty_of_param schema q.from q.filter m ≡ Some ty))
            arg_at m low high =
                let n = nth_there ks m low high in
                let t = nth_there q.params m low (omega (arith, high, arg_count)) in
                (n.0, t.0, (n.1, param_types (ty_of_param schema q.from q.filter) (filter_param q.filter) q.params k.valid.params m low (omega (arith, high, last, arg_count)) ∙ t.1))

            around : length (froms ++ q.from) ≤ 6 + length q.from
            around = let l = length-append froms q.from in let few = holds.few in omega (arith, l, few)

            moved_good : GoodFilter schema f.entries (froms ++ q.from) (moved_filter (length froms) ks q.filter)
            moved_good = good_filter schema f.entries froms ks (ty_of_param schema q.from q.filter) known_type_at arg_at (6 + length q.from) q.from q.filter around c.1 names.filter_ (omega (arith, last, arg_count)) k.valid.types

            filter_good : GoodFilter schema f.entries (froms ++ q.from) (moved_filter s.count ks q.filter)
            filter_good = subst (λ n. GoodFilter schema f.entries (froms ++ q.from) (moved_filter n ks q.filter)) holds.count moved_good

            items_are : AreItems schema froms q.from
            items_are = record { some = names.items.some; few = omega (arith, around, c.0); each = names.items.each }

            within_is : IsWithin schema f.entries froms (froms ++ q.from) (side g s a) (moved_col s.count (item_col q.item))
            within_is = record {
              ty = one.ty;
              opnd = side_good a one.ty in_a one.first (no_held a field);
              is_col = subst (λ n. IsColOf schema (froms ++ q.from) (moved_col n (item_col q.item))) holds.count (col_named schema f.entries froms ks (ty_of_param schema q.from q.filter) known_type_at arg_at q.from (item_col q.item) is_col);
              col_type = ap (λ n. ty_of_col schema (froms ++ q.from) (moved_col n (item_col q.item))) (sym holds.count) ∙ col_typed schema f.entries froms ks (ty_of_param schema q.from q.filter) known_type_at arg_at q.from (item_col q.item) is_col ∙ e;
            }

            shown_at : (m n : ℕ) → nth ks m ≡ Some n → is_some (filter_tys schema (froms ++ q.from) (suc n) (moved_filter s.count ks q.filter)) ≡ true
            shown_at m n e =
                let l = nth_within ks m n e in
                let t = arg_at m l.0 l.1 in
                ap (λ c. is_some (filter_tys schema (froms ++ q.from) (suc n) (moved_filter c ks q.filter))) (sym holds.count)
                ∙ filter_moved schema f.entries froms ks (ty_of_param schema q.from q.filter) known_type_at arg_at m n e q.from q.filter names.filter_ (some_types (filter_tys schema q.from m q.filter) t.1 t.2.1)

            uses_shown : AllByRecursion (λ n. is_some (filter_tys schema (froms ++ q.from) (suc n) (moved_filter s.count ks q.filter)) ≡ true) (filter_uses (moved_filter s.count ks q.filter))
            uses_shown =
                filter_use (λ n. is_some (filter_tys schema (froms ++ q.from) (suc n) (moved_filter s.count ks q.filter)) ≡ true) (moved_filter s.count ks q.filter)
                (moved_filter_param (λ n. is_some (filter_tys schema (froms ++ q.from) (suc n) (moved_filter s.count ks q.filter)) ≡ true) schema s.count ks (all_nth (λ n. is_some (filter_tys schema (froms ++ q.from) (suc n) (moved_filter s.count ks q.filter)) ≡ true) ks shown_at) q.from q.filter names.filter_ (omega (arith, last, arg_count)))

            uses_beside : AllByRecursion (λ n. is_some (tys_beside schema froms (suc n) (within_query g s a ks (Some (Listing q)) h)) ≡ true) (filter_uses (moved_filter s.count ks q.filter))
            uses_beside =
                all_then (λ n. is_some (filter_tys schema (froms ++ q.from) (suc n) (moved_filter s.count ks q.filter)) ≡ true) (λ n. is_some (tys_beside schema froms (suc n) (within_query g s a ks (Some (Listing q)) h)) ≡ true)
                (λ n e. some_right (ty_beside schema (froms ++ q.from) (suc n) (side g s a) (opnds.Column (moved_col s.count (item_col q.item)))) (filter_tys schema (froms ++ q.from) (suc n) (moved_filter s.count ks q.filter)) e) (filter_uses (moved_filter s.count ks q.filter)) uses_shown

        go : (o : Option PlainQuery) → slice_get known n ≡ o → IsSound schema f.entries froms (within_query g s a (args_of (slice_get args n)) o h)
        go None e = sound_fixed schema f.entries froms (not h)
        go (Some (Listing q)) e =
            sound_within (args_of (slice_get args n)) q (known_there schema f.entries known args are.each n (Listing q) e) (all_at QueryIsCounted known n (Listing q) counted e) (sym (ap (known_type schema) e) ∙ sym fits ∙ one.first)
        go (Some (Number q)) e = sound_fixed schema f.entries froms (not h)
        go (Some (Truth q)) e = sound_fixed schema f.entries froms (not h)

  -- ---- literals and formulas

  module _ (are : AreKnownTo schema f known args) (counted : AllByRecursion QueryIsCounted known) (held : IsHeld f) (flag : FlagCondition) (s : Scope) (froms : List FromItem) (js : List ℕ) (holds : Holds s froms js) where
    abbrev FlagIsSound : ℕ → Type 0
    FlagIsSound k = (n : ℕ) (loops : List ℕ) → slice_get f.atoms k ≡ Some (atoms.Flag n loops) → atom_within js (atoms.Flag n loops) ≡ true → IsSound schema f.entries froms (flag s n)

    atom_sound : (k : ℕ) (a : Atom) (h : Bool) → slice_get f.atoms k ≡ Some a → FlagIsSound k → atom_within js a ≡ true → IsSound schema f.entries froms (literal flag g s (Some a) h)
    atom_sound k (atoms.Less a b) h e flags i =
        less_sound s froms js holds a b h (and_left (operand_within js a) (operand_within js b) i) (and_right (operand_within js a) (operand_within js b) i) (list_all_at (atom_is_typed schema f) f.atoms k (atoms.Less a b) (tests_typed schema f typed) e)
        (list_all_at has_a_field f.atoms k (atoms.Less a b) (fields_there f valid) e) (all_at AtomIsHeld f.atoms k (atoms.Less a b) held.atoms_held e)
    atom_sound k (atoms.Same a b) h e flags i =
        same_sound s froms js holds a b h (and_left (operand_within js a) (operand_within js b) i) (and_right (operand_within js a) (operand_within js b) i) (list_all_at (atom_is_typed schema f) f.atoms k (atoms.Same a b) (tests_typed schema f typed) e)
        (list_all_at has_a_field f.atoms k (atoms.Same a b) (fields_there f valid) e) (all_at AtomIsHeld f.atoms k (atoms.Same a b) held.atoms_held e)
    atom_sound k (atoms.Truth a) h e flags i =
        truth_sound s froms js holds a h i (list_all_at (atom_is_typed schema f) f.atoms k (atoms.Truth a) (tests_typed schema f typed) e) (list_all_at has_a_field f.atoms k (atoms.Truth a) (fields_there f valid) e)
    atom_sound k (atoms.Member a n) h e flags i = within_sound s froms js holds are counted k a n h e i
    atom_sound k (atoms.Flag n loops) h e flags i = sound_signed schema f.entries froms h (flag s n) (flags n loops e i)

    literal_sound : (k : ℕ) (h : Bool) → FlagIsSound k → known_within js (slice_get f.atoms k) ≡ true → IsSound schema f.entries froms (literal flag g s (slice_get f.atoms k) h)
    literal_sound k h flags i = go (slice_get f.atoms k) refl i
      where
        go : (o : Option Atom) → slice_get f.atoms k ≡ o → known_within js o ≡ true → IsSound schema f.entries froms (literal flag g s o h)
        go None e i = absurd cc
        go (Some a) e i = atom_sound k a h e flags i

    formula_sound : (p : Form) → AtomsOf FlagIsSound p → form_within f.atoms js p ≡ true → IsSound schema f.entries froms (formula flag g s p)
    formula_sound (Is k h) flags i = literal_sound k h flags i
    formula_sound (Both p q) flags i =
        sound_both schema f.entries froms (formula flag g s p) (formula flag g s q) (formula_sound p flags.0 (and_left (form_within f.atoms js p) (form_within f.atoms js q) i)) (formula_sound q flags.1 (and_right (form_within f.atoms js p) (form_within f.atoms js q) i))
    formula_sound (Either p q) flags i =
        sound_either schema f.entries froms (formula flag g s p) (formula flag g s q) (formula_sound p flags.0 (and_left (form_within f.atoms js p) (form_within f.atoms js q) i)) (formula_sound q flags.1 (and_right (form_within f.atoms js p) (form_within f.atoms js q) i))

    pub formulas_sound : (fs : List Form) → AllByRecursion (AtomsOf FlagIsSound) fs → list_all (form_within f.atoms js) fs ≡ true → AllByRecursion (IsSound schema f.entries froms) (map (formula flag g s) fs)
    formulas_sound [] flags i = tt
    formulas_sound (p ∷ fs) flags i = (formula_sound p flags.0 (and_left (form_within f.atoms js p) (list_all (form_within f.atoms js) fs) i), formulas_sound fs flags.1 (and_right (form_within f.atoms js p) (list_all (form_within f.atoms js) fs) i))

  -- ---- limits and starts

  limit_held : (ds : List ListDef) (n j : ℕ) → list_all (λ d. limit_is_valid n d.limit) ds ≡ true → limit_is_valid n (def_of (slice_get ds j)).limit ≡ true
  limit_held [] n j h = refl
  limit_held (d ∷ ds) n zero h = and_left (limit_is_valid n d.limit) (list_all (λ d. limit_is_valid n d.limit) ds) h
  limit_held (d ∷ ds) n (suc j) h = limit_held ds n j (and_right (limit_is_valid n d.limit) (list_all (λ d. limit_is_valid n d.limit) ds) h)

  pub limit_fits : (j m : ℕ) → (list_of g j).limit ≡ Some m → fits_long (pos m) ≡ true
  limit_fits j m e = and_left (nat_lt m (2 ^ 63)) (nat_eq (length f.lists) 1) (subst (λ o. limit_is_valid (length f.lists) o ≡ true) e (limit_held f.lists (length f.lists) j (limits_hold f valid)))

  -- FROM items, each at its number
  pub record AreAt (froms : List FromItem) (n : ℕ) (js : List ℕ) : Type 0 where
    pub each : (i j : ℕ) → slice_get js i ≡ Some j → nth froms (suc (n + i)) ≡ Some (from_item g j)

  pub next_at : (froms : List FromItem) (n j : ℕ) (js : List ℕ) → AreAt froms n (j ∷ js) → AreAt froms (suc n) js
  next_at froms n j js a = record { each = λ i k e. let m : suc n + i ≡ n + suc i = omega arith in ap (λ x. nth froms (suc x)) m ∙ a.each (suc i) k e }

  pub first_at : (froms : List FromItem) (n j : ℕ) (js : List ℕ) → AreAt froms n (j ∷ js) → nth froms (suc n) ≡ Some (from_item g j)
  first_at froms n j js a = let m : n + 0 ≡ n = omega arith in ap (λ x. nth froms (suc x)) (sym m) ∙ a.each 0 j refl

  pub limits_sound : (froms : List FromItem) (n : ℕ) (js : List ℕ) → AreAt froms n js → list_all (λ j. nat_lt j (length f.lists)) js ≡ true → AllByRecursion (IsSound schema f.entries froms) (limits g n js)
  limits_sound froms n [] a h = tt
  limits_sound froms n (j ∷ js) a h =
      all_both (IsSound schema f.entries froms) (limit_tests (suc n) (list_of g j).keys (list_of g j).limit) (limits g (suc n) js) (go (list_of g j).keys (list_of g j).limit (limit_fits j))
      (limits_sound froms (suc n) js (next_at froms n j js a) (and_right (nat_lt j (length f.lists)) (list_all (λ j. nat_lt j (length f.lists)) js) h))
    where
      t : HasTable j
      t = table_at j (and_left (nat_lt j (length f.lists)) (list_all (λ j. nat_lt j (length f.lists)) js) h)

      go : (keys : List Col) (limit : Option ℕ) → ((m : ℕ) → limit ≡ Some m → fits_long (pos m) ≡ true) → AllByRecursion (IsSound schema f.entries froms) (limit_tests (suc n) keys limit)
      go (k ∷ keys) limit fits = tt
      go [] None fits = tt
      go [] (Some m) fits = (
        record {
          good = record {
            ty = tys.Long;
            first = (is_position schema is named froms (suc n) (from_item g j) (first_at froms n j js a) t.0 t.1, position_long schema is named froms (suc n) (from_item g j) (first_at froms n j js a) t.0 t.1);
            second = (fits m refl, refl);
            fits = refl;
          };
          beside = tt;
        },
        tt,
      )

  way_ordered : (way : Way) → is_compared_by (way_test way) tys.Long ≡ true
  way_ordered ways.Max = refl
  way_ordered ways.Min = refl

  number_start : (x : Scalar) → is_number x ≡ true → ty_of_scalar x ≡ tys.Long
  number_start (scalars.Long n) h = refl
  number_start (scalars.Bool b) h = absurd cc
  number_start (scalars.Text t) h = absurd cc

  -- the column of a number
  pub long_column : (s : Scope) (froms : List FromItem) (js : List ℕ) (holds : Holds s froms js) (j k : ℕ) → has_loop js j ≡ true → is_type tys.Long (place_type schema f (j, k)) ≡ true
      → IsColOf schema froms (column g (number_in s.loops j) j k) × (ty_of_col schema froms (column g (number_in s.loops j) j k) ≡ Some tys.Long)
  long_column s froms js holds j k h long =
      let one : OneType (Some tys.Long) (place_type schema f (j, k)) = one_type (Some tys.Long) (place_type schema f (j, k)) long in
      place_good s froms js holds j k tys.Long h (one.second ∙ sym one.first)

  pub best_sound : (s : Scope) (froms : List FromItem) (js : List ℕ) → Holds s froms js → (u : Update) (start : Option Scalar) → element_within js (element_of u) ≡ true → start_is_valid u start ≡ true → takes_a_column u ≡ true → update_is_typed schema f u ≡ true → StartIsHeld start
      → AllByRecursion (IsSound schema f.entries froms) (best_tests g s u start)
  best_sound s froms js holds (updates.Best way (elems.Field j k)) (Some x) within starts takes long held =
      let col = long_column s froms js holds j k within long in
      (record { good = record { ty = tys.Long; first = col; second = (held, number_start x starts); fits = way_ordered way }; beside = tt }, tt)
  best_sound s froms js holds (updates.Best way (elems.Whole j)) (Some x) within starts takes long held = absurd cc
  best_sound s froms js holds (updates.Best way e) None within starts takes long held = absurd cc
  best_sound s froms js holds (updates.Push e) start within starts takes long held = tt
  best_sound s froms js holds (updates.PushNew e) start within starts takes long held = tt
  best_sound s froms js holds updates.Tick start within starts takes long held = tt
  best_sound s froms js holds (updates.Plus e) start within starts takes long held = tt
  best_sound s froms js holds updates.Mark start within starts takes long held = tt

  -- ---- FROM

  item_of : (j : ℕ) → nat_lt j (length f.lists) ≡ true → IsFromItem schema (from_item g j)
  item_of j h = let t = table_at j h in is_item schema is named (from_item g j) t.0 t.1 (ap table_name t.1)

  each_item : (js : List ℕ) → list_all (λ j. nat_lt j (length f.lists)) js ≡ true → AllByRecursion (IsFromItem schema) (from_items g js)
  each_item [] h = tt
  each_item (j ∷ js) h = (item_of j (and_left (nat_lt j (length f.lists)) (list_all (λ j. nat_lt j (length f.lists)) js) h), each_item js (and_right (nat_lt j (length f.lists)) (list_all (λ j. nat_lt j (length f.lists)) js) h))

  pub items_of : (around : List FromItem) (js : List ℕ) → length around ≤ 3 → 0 < length js → length js ≤ 3 → list_all (λ j. nat_lt j (length f.lists)) js ≡ true → AreItems schema around (from_items g js)
  items_of around js few some short h =
      let n = length_map (from_item g) js in let l = length-append around (from_items g js) in
      record { some = omega (arith, n, some); few = omega (arith, few, n, l, short); each = each_item js h }
