-- IN over a known query is membership in its list.
use Rattle.std.proofs.Common.{◌≡◌, ℕ, zero, suc, Bool, true, false, not, ◌&&◌, ◌||◌, List, [], ◌∷◌, ◌++◌, map, length, slice_get, get_or, refl, sym, ap, ap₂, ◌∙◌, subst}
use Rattle.std.specs.List.{AllByRecursion, list_any, list_all}
use Rattle.std.specs.declared.option.Option.{Option}
use Rattle.std.specs.declared.option.Option.TheVariants.{Some, None}
use Rattle.qbs_base.specs.declared.scalar.Row.{Row}
use Rattle.qbs_base.specs.declared.scalar.Scalar.{Scalar}
use Rattle.qbs_base.specs.declared.scalar.Scalar.TheVariants as scalars
use Rattle.qbs_base.specs.declared.scalar.Ty.{Ty}
use Rattle.qbs_base.specs.declared.scalar.Ty.TheVariants as tys
use Rattle.qbs_base.specs.Scalar.{compared, scalar_same}
use Rattle.qbs_base.specs.Values.{Schema, Database, IsDatabaseOf, AreOf}
use Rattle.qbs_base.proofs.Order.{all_kept}
use Rattle.tor_terms.specs.declared.term.Operand.{Operand}
use Rattle.tor_terms.specs.Truth.{same_variant, is_member, same_bool}
use Rattle.kernel_lang.specs.Fitting.{is_of}
use Rattle.kernel_lang.proofs.Listing.{some_eq}
use Rattle.sql_ast.specs.declared.tree.SqlCol.{SqlCol}
use Rattle.sql_ast.specs.declared.tree.SqlItem.TheVariants as items
use Rattle.sql_ast.specs.Meaning.{Combination, Answered, Rows, One, TooLarge, column_of, operand_of, turned_if, truth_of, passes, product, true_ones, plain_row, listing_rows, query_answer}
use Rattle.sql_ast.specs.Tree.{PlainListing, PlainQuery, Listing, Number, Truth}
use Rattle.sql_ast.specs.Typing.{ty_of_col}
use Rattle.sql_ast.specs.Valid.{IsColOf, IsListingOf, IsItemOf}
use Rattle.sql_parts.specs.Scopes.{Ground, Scope}
use Rattle.sql_parts.specs.Emitted.{side, moved_col, moved_filter, item_col, args_of, within_query}
use Rattle.sql_parts.specs.Given.{IsKnownQuery, AreKnown, known_type, values_at, as_rows, AreAnswers}
use Rattle.sql_parts.proofs.Known.{AreThere, cell_in, found_same, any_rows}
use Rattle.sql_parts.proofs.Rows.{IsScalarOf, entry_typed}
use Rattle.sql_parts.proofs.Tables.{TypedFor, product_typed, col_typed}
use Rattle.sql_parts.proofs.Tools.{any_map, same_true, same_false}

-- ---- a known query and its list, by number

pub record KnownAt (schema : Schema) (types : List Ty) (db : Database) (values : List Scalar) (q : PlainQuery) (args : List ℕ) (list : List Scalar) : Type 0 where
  pub query : IsKnownQuery schema types q args
  pub answer : query_answer db (values_at values args) q ≡ as_rows list

pub known_at : (schema : Schema) (types : List Ty) (db : Database) (values : List Scalar) (qs : List PlainQuery) (args : List (List ℕ)) (lists : List (List Scalar)) → AreKnown schema types qs args → AreAnswers db values qs args lists
    → (n : ℕ) (q : PlainQuery) → slice_get qs n ≡ Some q → KnownAt schema types db values q (args_of (slice_get args n)) (get_or lists n [])
known_at schema types db values [] args lists known answers n q e = absurd cc
known_at schema types db values (p ∷ qs) [] lists known answers n q e = absurd known
known_at schema types db values (p ∷ qs) (as' ∷ args) [] known answers n q e = absurd answers
known_at schema types db values (p ∷ qs) (as' ∷ args) (list ∷ lists) known answers zero q e =
    subst (λ q. KnownAt schema types db values q as' list) (some_eq p q e) (record { query = known.0; answer = answers.0 })
known_at schema types db values (p ∷ qs) (as' ∷ args) (list ∷ lists) known answers (suc n) q e = known_at schema types db values qs args lists known.1 answers.1 n q e

rows_in : Answered → List Row
rows_in (Rows rows) = rows
rows_in (One x) = []
rows_in TooLarge = []

rows_same : (rows others : List Row) → Rows rows ≡ Rows others → rows ≡ others
unfolding rows_in
rows_same rows others e = ap rows_in e

abbrev listing_or : PlainListing → PlainQuery → PlainListing
listing_or other (Listing q) = q
listing_or other (Number q) = other
listing_or other (Truth q) = other

listing_same : (p q : PlainListing) → Listing p ≡ Listing q → p ≡ q
listing_same p q e = ap (listing_or p) e

-- ---- arguments

args_there : (types : List Ty) (values : List Scalar) → AreOf types values → (args : List ℕ) (params : List Ty) → map (slice_get types) args ≡ map Some params → AreThere values args
args_there types values of [] params e = tt
args_there types values of (k ∷ args) [] e = absurd cc
args_there types values of (k ∷ args) (ty ∷ params) e =
    let first : slice_get types k ≡ Some ty = cc in
    let rest : map (slice_get types) args ≡ map Some params = cc in
    let here : IsScalarOf ty (slice_get values k) = entry_typed types values k ty of first in
    ((here.scalar, here.is), args_there types values of args params rest)

-- ---- variants

abbrev of_variant : Scalar → Option Scalar → Bool
of_variant v None = false
of_variant v (Some y) = same_variant v y

variants : (ty : Ty) (v y : Scalar) → is_of ty (Some v) ≡ true → is_of ty (Some y) ≡ true → same_variant v y ≡ true
variants ty (scalars.Long m) (scalars.Long n) a b = refl
variants ty (scalars.Bool m) (scalars.Bool n) a b = refl
variants ty (scalars.Text m) (scalars.Text n) a b = refl
variants tys.Long (scalars.Long m) (scalars.Bool n) a b = absurd cc
variants tys.Bool (scalars.Long m) (scalars.Bool n) a b = absurd cc
variants tys.Text (scalars.Long m) (scalars.Bool n) a b = absurd cc
variants tys.Long (scalars.Long m) (scalars.Text n) a b = absurd cc
variants tys.Bool (scalars.Long m) (scalars.Text n) a b = absurd cc
variants tys.Text (scalars.Long m) (scalars.Text n) a b = absurd cc
variants tys.Long (scalars.Bool m) (scalars.Long n) a b = absurd cc
variants tys.Bool (scalars.Bool m) (scalars.Long n) a b = absurd cc
variants tys.Text (scalars.Bool m) (scalars.Long n) a b = absurd cc
variants tys.Long (scalars.Bool m) (scalars.Text n) a b = absurd cc
variants tys.Bool (scalars.Bool m) (scalars.Text n) a b = absurd cc
variants tys.Text (scalars.Bool m) (scalars.Text n) a b = absurd cc
variants tys.Long (scalars.Text m) (scalars.Long n) a b = absurd cc
variants tys.Bool (scalars.Text m) (scalars.Long n) a b = absurd cc
variants tys.Text (scalars.Text m) (scalars.Long n) a b = absurd cc
variants tys.Long (scalars.Text m) (scalars.Bool n) a b = absurd cc
variants tys.Bool (scalars.Text m) (scalars.Bool n) a b = absurd cc
variants tys.Text (scalars.Text m) (scalars.Bool n) a b = absurd cc

module _ (ty : Ty) (v : Scalar) (of : is_of ty (Some v) ≡ true) (col : SqlCol) where
  abbrev Typed : Combination → Type 0
  Typed c = IsScalarOf ty (column_of c col)

  no_other : (cs : List Combination) → AllByRecursion Typed cs → list_any (λ o. not (of_variant v o)) (map (λ c. column_of c col) cs) ≡ false
  no_other [] h = refl
  no_other (c ∷ cs) h = ap₂ (λ a b. a || b) (ap (λ o. not (of_variant v o)) h.0.is ∙ ap not (variants ty v h.0.scalar of h.0.of)) (no_other cs h.1)

neither : (a b : Bool) → (not a || b) ≡ false → (a ≡ true) × (b ≡ false)
neither true b e = (refl, e)
neither false b e = absurd cc

all_of_variant : (v : Scalar) (xs : List Scalar) → list_any (λ o. not (of_variant v o)) (map Some xs) ≡ false → list_all (same_variant v) xs ≡ true
all_of_variant v [] e = refl
all_of_variant v (x ∷ xs) e =
    let h = neither (same_variant v x) (list_any (λ o. not (of_variant v o)) (map Some xs)) e in
    ap₂ (λ a b. a && b) h.0 (all_of_variant v xs h.1)

any_listed : (p : Option Scalar → Bool) (xs : List Scalar) → list_any p (map cell_in (map (λ x. plain_row (Some x)) xs)) ≡ list_any p (map Some xs)
any_listed p [] = refl
any_listed p (x ∷ xs) = ap (λ b. p (Some x) || b) (any_listed p xs)

turned : (h b : Bool) → turned_if (not h) b ≡ same_bool b h
turned true b = sym (same_true b)
turned false b = sym (same_false b)

-- ---- membership

module _ (schema : Schema) (types : List Ty) (db : Database) (is_db : IsDatabaseOf schema db) (values : List Scalar) (are : AreOf types values) where
  module _ (listing : PlainListing) (args : List ℕ) (list : List Scalar) (known : IsKnownQuery schema types (Listing listing) args) (col : SqlCol) (item : listing.item ≡ items.Column col) (whole : listing.limit ≡ None)
      (params : map (slice_get types) args ≡ map Some listing.params) (answer : listing_rows db (values_at values args) listing ≡ map (λ x. plain_row (Some x)) list) where
    abbrev found : List Combination
    found = true_ones db (values_at values args) listing.from listing.filter

    names : IsListingOf schema listing
    names = known.valid.names

    is_col : IsColOf schema listing.from col
    is_col = subst (λ i. IsItemOf schema listing.from i) item names.item

    any_member : (p : Option Scalar → Bool) → list_any p (map Some list) ≡ list_any p (map (λ c. column_of c col) found)
    any_member p = sym (any_listed p list) ∙ ap (λ (rows : List Row). list_any p (map cell_in rows)) (sym answer) ∙ any_rows p listing col item whole known.valid.groups found

    found_typed : (ty : Ty) → ty_of_col schema listing.from col ≡ Some ty → AllByRecursion (λ c. IsScalarOf ty (column_of c col)) found
    found_typed ty e =
        all_kept (TypedFor schema listing.from) (λ c. IsScalarOf ty (column_of c col)) (passes db (values_at values args) listing.filter) (λ c h k. col_typed schema listing.from c col ty h e) (product db listing.from)
        (product_typed schema db is_db listing.from)

    member_is : (ty : Ty) (v : Scalar) → is_of ty (Some v) ≡ true → ty_of_col schema listing.from col ≡ Some ty → list_any (compared scalar_same (Some v)) (map (λ c. column_of c col) found) ≡ is_member (Some v) list
    member_is ty v of e =
        sym (any_member (compared scalar_same (Some v)))
        ∙ any_map (compared scalar_same (Some v)) Some list
        ∙ sym (ap (λ b. list_any (scalar_same v) list && b) all_same ∙ and_true (list_any (scalar_same v) list))
      where
        all_same : list_all (same_variant v) list ≡ true
        all_same = all_of_variant v list (any_member (λ o. not (of_variant v o)) ∙ no_other ty v of col found (found_typed ty e))

        and_true : (b : Bool) → (b && true) ≡ b
        and_true true = refl
        and_true false = refl

    within_listing : (g : Ground) (s : Scope) (c : Combination) → length c ≡ s.count → (a : Operand) (x : Option Scalar) (ty : Ty) → operand_of values c (side g s a) ≡ x → IsScalarOf ty x → ty_of_col schema listing.from col ≡ Some ty → (h : Bool)
        → truth_of db values (within_query g s a args (Some (Listing listing)) h) c ≡ same_bool (is_member x list) h
    within_listing g s c count a x ty same typed e h =
        turned h (list_any (λ d. passes db values (moved_filter s.count args listing.filter) (c ++ d) && compared scalar_same (operand_of values c (side g s a)) (column_of (c ++ d) (moved_col s.count (item_col listing.item)))) (product db listing.from))
        ∙ ap (λ b. same_bool b h)
        (ap₂ (λ (n : ℕ) (k : SqlCol). list_any (λ d. passes db values (moved_filter n args listing.filter) (c ++ d) && compared scalar_same (operand_of values c (side g s a)) (column_of (c ++ d) (moved_col n k))) (product db listing.from)) (sym count) (ap item_col item)
        ∙ found_same schema db values args (args_there types values are args listing.params params) c listing.from listing.filter col (operand_of values c (side g s a)) names.filter_ is_col
        ∙ ap (λ o. list_any (compared scalar_same o) (map (λ d. column_of d col) found)) (same ∙ typed.is)
        ∙ member_is ty typed.scalar typed.of e
        ∙ ap (λ o. is_member o list) (sym typed.is))

  pub within_known : (q : PlainQuery) (args : List ℕ) (list : List Scalar) → KnownAt schema types db values q args list → (g : Ground) (s : Scope) (c : Combination) → length c ≡ s.count → (a : Operand) (x : Option Scalar) (ty : Ty)
      → operand_of values c (side g s a) ≡ x → IsScalarOf ty x → known_type schema (Some q) ≡ Some ty → (h : Bool) → truth_of db values (within_query g s a args (Some q) h) c ≡ same_bool (is_member x list) h
  within_known (Listing listing) args list k g s c count a x ty same typed e h =
      within_listing listing args list k.query k.query.col item whole params (rows_same (listing_rows db (values_at values args) listing) (map (λ x. plain_row (Some x)) list) k.answer) g s c count a x ty same typed
      (ap (ty_of_col schema listing.from) (ap item_col (sym item)) ∙ e) h
    where
      same_listing : k.query.listing ≡ listing
      same_listing = listing_same k.query.listing listing (sym k.query.is)

      item : listing.item ≡ items.Column k.query.col
      item = ap (λ (q : PlainListing). q.item) (sym same_listing) ∙ k.query.item

      whole : listing.limit ≡ None
      whole = ap (λ (q : PlainListing). q.limit) (sym same_listing) ∙ k.query.whole

      params : map (slice_get types) args ≡ map Some listing.params
      params = k.query.entries ∙ ap (λ (q : PlainListing). map Some q.params) same_listing
  within_known (Number q) args list k g s c count a x ty same typed e h = absurd cc
  within_known (Truth q) args list k g s c count a x ty same typed e h = absurd cc
