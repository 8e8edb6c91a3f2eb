-- The parameters of a query, numbered by their first use, have the types of their entries.
use Rattle.std.proofs.Common.{◌≡◌, ℕ, zero, suc, pred, ◌<◌, ◌≤◌, max, Bool, true, false, cond, ◌&&◌, ◌||◌, List, [], ◌∷◌, ◌++◌, map, take, length, slice_get, refl, sym, ap, ap₂, ◌∙◌, subst, arith, nat_eq, ◌⊎◌, inl, inr}
use Rattle.std.specs.List.{AllByRecursion, IsDistinct, list_all, list_any}
use Rattle.std.specs.declared.option.Option.{Option}
use Rattle.std.specs.declared.option.Option.TheVariants.{Some, None}
use Rattle.std.proofs.lemmas.Bool.Decides.{nat_tests}
use Rattle.std.proofs.lemmas.Map.Steps.{length-le_from_distinct_below}
use Rattle.qbs_base.specs.Folded.{is_some}
use Rattle.qbs_base.specs.declared.scalar.Ty.{Ty}
use Rattle.qbs_base.specs.declared.scalar.Ty.TheVariants as tys
use Rattle.qbs_base.specs.Values.{Schema}
use Rattle.qbs_base.specs.Columns.{same_ty}
use Rattle.sql_ast.specs.declared.tree.FromItem.{FromItem}
use Rattle.sql_ast.specs.declared.tree.SqlCol.{SqlCol}
use Rattle.sql_ast.specs.declared.tree.SqlOpnd.{SqlOpnd}
use Rattle.sql_ast.specs.declared.tree.SqlOpnd.TheVariants as opnds
use Rattle.sql_ast.specs.Names.{◌>>=◌}
use Rattle.sql_ast.specs.Tree.{Condition, Both, Either, Not, Compare, Bare, Exists, Within, Filter, Everything, Where}
use Rattle.sql_ast.specs.Typing.{ty_of_col, ty_beside, tys_beside, filter_tys, one_ty, ty_of_param, source_fits, opnd_param, last_param, filter_param, tys_up_to, source_params}
use Rattle.sql_ast.specs.Valid.{IsFilterOf}
use Rattle.sql_build.specs.Types.{type_of}
use Rattle.sql_parts.specs.Numbered.{opnd_uses, uses, filter_uses, entered, first_uses, number_among, renumbered_opnd, renumbered, renumbered_filter}
use Rattle.sql_parts.proofs.Grammar.{HasType, Good, GoodFilter, IsOrder, place_of, filter_named, all_tys_same, all_fits}
use Rattle.sql_parts.proofs.Numbering.{IsIn, uses_in}
use Rattle.sql_parts.proofs.Tools.{or_left, or_right, eq_true, eq_itself}
use Rattle.kernel_lang.proofs.Listing.{some_eq}

-- ---- the order is of distinct numbers

record Ordering (seen : List ℕ) : Type 0 where
  places : IsOrder seen
  distinct : IsDistinct nat_eq seen

not_in_all : (seen : List ℕ) (n : ℕ) → list_any (nat_eq n) seen ≡ false → AllByRecursion (λ m. nat_eq m n ≡ false) seen
not_in_all [] n h = tt
not_in_all (m ∷ seen) n h = (flip m n (first (nat_eq n m) (list_any (nat_eq n) seen) h), not_in_all seen n (second (nat_eq n m) (list_any (nat_eq n) seen) h))
  where
    first : (a b : Bool) → (a || b) ≡ false → a ≡ false
    first false b h = refl
    first true b h = absurd cc

    second : (a b : Bool) → (a || b) ≡ false → b ≡ false
    second false b h = h
    second true b h = absurd cc

    flip : (a b : ℕ) → nat_eq b a ≡ false → nat_eq a b ≡ false
    flip a b h = grind (arith, nat_tests)

more_distinct : (seen : List ℕ) (n : ℕ) → IsDistinct nat_eq seen → AllByRecursion (λ m. nat_eq m n ≡ false) seen → IsDistinct nat_eq (seen ++ n ∷ [])
unfolding IsDistinct
more_distinct [] n d h = (tt, tt)
more_distinct (m ∷ seen) n d h = (push seen d.0, more_distinct seen n d.1 h.1)
  where
    push : (xs : List ℕ) → AllByRecursion (λ y. nat_eq m y ≡ false) xs → AllByRecursion (λ y. nat_eq m y ≡ false) (xs ++ n ∷ [])
    push [] a = (h.0, tt)
    push (x ∷ xs) a = (a.0, push xs a.1)

none_distinct : IsDistinct nat_eq []
unfolding IsDistinct
none_distinct = tt

among_front : (seen : List ℕ) (n k i : ℕ) → slice_get seen i ≡ Some k → number_among seen k ≡ suc i → number_among (seen ++ n ∷ []) k ≡ suc i
among_front [] n k i e h = absurd cc
among_front (m ∷ seen) n k zero e h = ap (λ b. cond b 1 (suc (number_among (seen ++ n ∷ []) k))) (ap (λ x. nat_eq x k) (some_eq m k e) ∙ eq_itself k)
among_front (m ∷ seen) n k (suc i) e h = go (nat_eq m k) h (λ l. among_front seen n k i e l)
  where
    go : (b : Bool) → cond b 1 (suc (number_among seen k)) ≡ suc (suc i) → (number_among seen k ≡ suc i → number_among (seen ++ n ∷ []) k ≡ suc i) → cond b 1 (suc (number_among (seen ++ n ∷ []) k)) ≡ suc (suc i)
    go true h later = absurd (omega (arith, h))
    go false h later = ap suc (later (omega (arith, h)))

among_last : (seen : List ℕ) (n : ℕ) → AllByRecursion (λ m. nat_eq m n ≡ false) seen → number_among (seen ++ n ∷ []) n ≡ suc (length seen)
among_last [] n h = ap (λ b. cond {A = ℕ} b 1 1) (eq_itself n)
among_last (m ∷ seen) n h = ap (λ b. cond b 1 (suc (number_among (seen ++ n ∷ []) n))) h.0 ∙ ap suc (among_last seen n h.1)

get_more : (seen : List ℕ) (n i k : ℕ) → slice_get (seen ++ n ∷ []) i ≡ Some k → (slice_get seen i ≡ Some k) ⊎ ((i ≡ length seen) × (n ≡ k))
get_more [] n zero k e = inr (refl, some_eq n k e)
get_more [] n (suc i) k e = absurd cc
get_more (m ∷ seen) n zero k e = inl e
get_more (m ∷ seen) n (suc i) k e = elim (get_more seen n i k e) [ inl h ↦ inl h | inr h ↦ inr (ap suc h.0, h.1) ]

more_order : (seen : List ℕ) (n : ℕ) → Ordering seen → list_any (nat_eq n) seen ≡ false → Ordering (seen ++ n ∷ [])
more_order seen n o h = record { places = places; distinct = more_distinct seen n o.distinct others }
  where
    others : AllByRecursion (λ m. nat_eq m n ≡ false) seen
    others = not_in_all seen n h

    places : IsOrder (seen ++ n ∷ [])
    places i k e = elim (get_more seen n i k e) [
      | inl g ↦ among_front seen n k i g (o.places i k g)
      | inr g ↦ ap (number_among (seen ++ n ∷ [])) (sym g.1) ∙ among_last seen n others ∙ ap suc (sym g.0)
    ]

entered_order : (seen : List ℕ) (n : ℕ) → Ordering seen → Ordering (entered seen n)
entered_order seen n o = go (list_any (nat_eq n) seen) refl
  where
    go : (b : Bool) → list_any (nat_eq n) seen ≡ b → Ordering (cond b seen (seen ++ n ∷ []))
    go true e = o
    go false e = more_order seen n o e

uses_order : (seen ns : List ℕ) → Ordering seen → Ordering (first_uses seen ns)
uses_order seen [] o = o
uses_order seen (n ∷ ns) o = uses_order (entered seen n) ns (entered_order seen n o)

nothing_ordered : Ordering []
nothing_ordered = record { places = λ i k e. absurd cc; distinct = none_distinct }

-- ---- what is used is in the order, and only that

module _ (P : ℕ → Type 0) where
  entered_all : (seen : List ℕ) (n : ℕ) → AllByRecursion P seen → P n → AllByRecursion P (entered seen n)
  entered_all seen n h p = go (list_any (nat_eq n) seen)
    where
      push : (xs : List ℕ) → AllByRecursion P xs → AllByRecursion P (xs ++ n ∷ [])
      push [] a = (p, tt)
      push (x ∷ xs) a = (a.0, push xs a.1)

      go : (b : Bool) → AllByRecursion P (cond b seen (seen ++ n ∷ []))
      go true = h
      go false = push seen h

  pub only_used : (seen ns : List ℕ) → AllByRecursion P seen → AllByRecursion P ns → AllByRecursion P (first_uses seen ns)
  only_used seen [] h u = h
  only_used seen (n ∷ ns) h u = only_used (entered seen n) ns (entered_all seen n h u.0) u.1

all_from_in : (P : ℕ → Type 0) (order : List ℕ) → AllByRecursion P order → (k : ℕ) → IsIn order k → P k
all_from_in P [] h k i = absurd cc
all_from_in P (m ∷ order) h k i = go (nat_eq k m) refl i (λ j. all_from_in P order h.1 k j)
  where
    go : (b : Bool) → nat_eq k m ≡ b → (b || list_any (nat_eq k) order) ≡ true → (IsIn order k → P k) → P k
    go true e i later = subst P (sym (eq_true k m e)) h.0
    go false e i later = later i

few_numbers : (order : List ℕ) (n : ℕ) → IsDistinct nat_eq order → AllByRecursion (λ k. k < n) order → length order ≤ n
few_numbers order n d h = length-le_from_distinct_below order n d (λ q i. all_from_in (λ k. k < n) order h q i)

-- ---- types of entries

module _ (schema : Schema) (types : List Ty) where
  -- each type beside a parameter is that of its entry
  beside_all : (froms : List FromItem) (k : ℕ) (a : SqlOpnd) (col : SqlCol) (ty : Ty) (inner : List FromItem) → HasType schema types froms a ty → ty_of_col schema inner col ≡ Some ty → AllByRecursion (λ t. slice_get types k ≡ Some t) (ty_beside schema inner (suc k) a (opnds.Column col))
  beside_all froms k (opnds.Column c) col ty inner h e = tt
  beside_all froms k (opnds.Lit x) col ty inner h e = tt
  beside_all froms k (opnds.Param zero) col ty inner h e = absurd h
  beside_all froms k (opnds.Param (suc j)) col ty inner h e = go (nat_eq (suc j) (suc k)) refl (ty_of_col schema inner col) e
    where
      go : (b : Bool) → nat_eq (suc j) (suc k) ≡ b → (o : Option Ty) → o ≡ Some ty → AllByRecursion (λ t. slice_get types k ≡ Some t) (cond b (elim o as (λ _. List Ty) [ Some ty ↦ ty ∷ [] | None ↦ [] ]) [])
      go false is o e = tt
      go true is None e = tt
      go true is (Some t) e = let number : suc j ≡ suc k = eq_true (suc j) (suc k) is in let same : j ≡ k = omega (arith, number) in (ap (slice_get types) (sym same) ∙ h ∙ sym e, tt)

  pair_all : (froms : List FromItem) (k : ℕ) (a b : SqlOpnd) (ty : Ty) → HasType schema types froms a ty → HasType schema types froms b ty → AllByRecursion (λ t. slice_get types k ≡ Some t) (ty_beside schema froms (suc k) a b)
  pair_all froms k a (opnds.Column col) ty h g = beside_all froms k a col ty froms h g.1
  pair_all froms k (opnds.Column c) (opnds.Lit x) ty h g = tt
  pair_all froms k (opnds.Lit y) (opnds.Lit x) ty h g = tt
  pair_all froms k (opnds.Param n) (opnds.Lit x) ty h g = tt
  pair_all froms k (opnds.Column c) (opnds.Param n) ty h g = tt
  pair_all froms k (opnds.Lit y) (opnds.Param n) ty h g = tt
  pair_all froms k (opnds.Param m) (opnds.Param n) ty h g = tt

  both_all : (P : Ty → Type 0) (xs ys : List Ty) → AllByRecursion P xs → AllByRecursion P ys → AllByRecursion P (xs ++ ys)
  both_all P [] ys a b = b
  both_all P (x ∷ xs) ys a b = (a.0, both_all P xs ys a.1 b)

  mutual
    tys_all : (froms : List FromItem) (k : ℕ) (t : Condition) → Good schema types froms t → AllByRecursion (λ t. slice_get types k ≡ Some t) (tys_beside schema froms (suc k) t)
    tys_all froms k (Both a b) h = both_all (λ t. slice_get types k ≡ Some t) (tys_beside schema froms (suc k) a) (tys_beside schema froms (suc k) b) (tys_all froms k a h.0) (tys_all froms k b h.1)
    tys_all froms k (Either a b) h = both_all (λ t. slice_get types k ≡ Some t) (tys_beside schema froms (suc k) a) (tys_beside schema froms (suc k) b) (tys_all froms k a h.0) (tys_all froms k b h.1)
    tys_all froms k (Not a) h = tys_all froms k a h
    tys_all froms k (Compare cmp a b) h =
        both_all (λ t. slice_get types k ≡ Some t) (ty_beside schema froms (suc k) a b) (ty_beside schema froms (suc k) b a) (pair_all froms k a b h.ty h.first h.second) (pair_all froms k b a h.ty h.second h.first)
    tys_all froms k (Bare col) h = tt
    tys_all froms k (Exists from f) h = filter_all (froms ++ from) k f h.1
    tys_all froms k (Within a negated col from f) h =
        both_all (λ t. slice_get types k ≡ Some t) (ty_beside schema (froms ++ from) (suc k) a (opnds.Column col)) (filter_tys schema (froms ++ from) (suc k) f) (beside_all froms k a col h.0.ty (froms ++ from) h.0.opnd h.0.col_type) (filter_all (froms ++ from) k f h.2)

    filter_all : (froms : List FromItem) (k : ℕ) (f : Filter) → GoodFilter schema types froms f → AllByRecursion (λ t. slice_get types k ≡ Some t) (filter_tys schema froms (suc k) f)
    filter_all froms k Everything h = tt
    filter_all froms k (Where a) h = tys_all froms k a h

  one_type : (o : Option Ty) (ts : List Ty) → AllByRecursion (λ t. o ≡ Some t) ts → is_some ts ≡ true → one_ty ts ≡ o
  one_type o [] h e = absurd cc
  one_type o (t ∷ ts) h e = ap (λ b. cond b (Some t) None) (all_same ts h.1) ∙ sym h.0
    where
      same : (u : Ty) → Some t ≡ Some u → same_ty t u ≡ true
      same u e = let is : t ≡ u = some_eq t u e in subst (λ x. same_ty t x ≡ true) is (itself t)
        where
          itself : (ty : Ty) → same_ty ty ty ≡ true
          itself tys.Long = refl
          itself tys.Bool = refl
          itself tys.Text = refl

      all_same : (us : List Ty) → AllByRecursion (λ u. o ≡ Some u) us → list_all (same_ty t) us ≡ true
      all_same [] a = refl
      all_same (u ∷ us) a = ap₂ (λ x y. x && y) (same u (sym h.0 ∙ a.0)) (all_same us a.1)

-- ---- the greatest number

abbrev greatest : List ℕ → ℕ
greatest [] = 0
greatest (n ∷ ns) = max n (greatest ns)

greatest_append : (xs ys : List ℕ) → greatest (xs ++ ys) ≡ max (greatest xs) (greatest ys)
greatest_append [] ys = omega arith
greatest_append (x ∷ xs) ys = let later = greatest_append xs ys in omega (arith, later)

map_append : (f : ℕ → ℕ) (xs ys : List ℕ) → map f (xs ++ ys) ≡ map f xs ++ map f ys
map_append f [] ys = refl
map_append f (x ∷ xs) ys = ap (λ zs. f x ∷ zs) (map_append f xs ys)

two_parts : (f : ℕ → ℕ) (xs ys : List ℕ) (a b : ℕ) → a ≡ greatest (map f xs) → b ≡ greatest (map f ys) → max a b ≡ greatest (map f (xs ++ ys))
two_parts f xs ys a b h k = ap₂ max h k ∙ sym (ap greatest (map_append f xs ys) ∙ greatest_append (map f xs) (map f ys))

module _ (order : List ℕ) where
  opnd_last : (a : SqlOpnd) → opnd_param (renumbered_opnd order a) ≡ greatest (map (number_among order) (opnd_uses a))
  opnd_last (opnds.Column col) = refl
  opnd_last (opnds.Lit x) = refl
  opnd_last (opnds.Param n) = one (number_among order (pred n))
    where
      one : (m : ℕ) → m ≡ max m 0
      one m = omega arith

  mutual
    last_is : (t : Condition) → last_param (renumbered order t) ≡ greatest (map (number_among order) (uses t))
    last_is (Both a b) = two_parts (number_among order) (uses a) (uses b) (last_param (renumbered order a)) (last_param (renumbered order b)) (last_is a) (last_is b)
    last_is (Either a b) = two_parts (number_among order) (uses a) (uses b) (last_param (renumbered order a)) (last_param (renumbered order b)) (last_is a) (last_is b)
    last_is (Not a) = last_is a
    last_is (Compare cmp a b) = two_parts (number_among order) (opnd_uses a) (opnd_uses b) (opnd_param (renumbered_opnd order a)) (opnd_param (renumbered_opnd order b)) (opnd_last a) (opnd_last b)
    last_is (Bare col) = refl
    last_is (Exists from f) = filter_last f
    last_is (Within a negated col from f) = two_parts (number_among order) (opnd_uses a) (filter_uses f) (opnd_param (renumbered_opnd order a)) (filter_param (renumbered_filter order f)) (opnd_last a) (filter_last f)

    filter_last : (f : Filter) → filter_param (renumbered_filter order f) ≡ greatest (map (number_among order) (filter_uses f))
    filter_last Everything = refl
    filter_last (Where a) = last_is a

  at_most : (ns : List ℕ) → AllByRecursion (IsIn order) ns → greatest (map (number_among order) ns) ≤ length order
  at_most [] h = omega arith
  at_most (n ∷ ns) h =
      let p = place_of order n h.0 in
      let l : p.0 < length order = within order p.0 n p.1.0 in
      let later = at_most ns h.1 in
      omega (arith, p.1.1, l, later)
    where
      within : (xs : List ℕ) (i x : ℕ) → slice_get xs i ≡ Some x → i < length xs
      within [] i x e = absurd cc
      within (y ∷ xs) zero x e = omega arith
      within (y ∷ xs) (suc i) x e = let l = within xs i x e in omega (arith, l)

  at_least : (ns : List ℕ) (k : ℕ) → IsIn ns k → number_among order k ≤ greatest (map (number_among order) ns)
  at_least [] k h = absurd cc
  at_least (n ∷ ns) k h = go (nat_eq k n) refl h (λ r. at_least ns k r)
    where
      go : (b : Bool) → nat_eq k n ≡ b → (b || list_any (nat_eq k) ns) ≡ true → (IsIn ns k → number_among order k ≤ greatest (map (number_among order) ns)) → number_among order k ≤ max (number_among order n) (greatest (map (number_among order) ns))
      go true e h later = let same : number_among order k ≡ number_among order n = ap (number_among order) (eq_true k n e) in omega (arith, same)
      go false e h later = let l = later h in omega (arith, l)

-- the last of a list
last_of : (order : List ℕ) → 0 < length order → (i k : ℕ) × ((slice_get order i ≡ Some k) × (suc i ≡ length order))
last_of [] h = absurd (omega (arith, h))
last_of (m ∷ []) h = (0, m, (refl, refl))
last_of (m ∷ n ∷ order) h = let p = last_of (n ∷ order) (omega arith) in (suc p.0, p.1, (p.2.0, ap suc p.2.1))

in_at : (order : List ℕ) (i k : ℕ) → slice_get order i ≡ Some k → IsIn order k
in_at [] i k e = absurd cc
in_at (m ∷ order) zero k e = or_left (nat_eq k m) (list_any (nat_eq k) order) (ap (nat_eq k) (some_eq m k e) ∙ eq_itself k)
in_at (m ∷ order) (suc i) k e = or_right (nat_eq k m) (list_any (nat_eq k) order) (in_at order i k e)

-- each of a list is in it
all_own : (ns : List ℕ) → AllByRecursion (IsIn ns) ns
all_own [] = tt
all_own (n ∷ ns) = (or_left (nat_eq n n) (list_any (nat_eq n) ns) (eq_itself n), wider ns (all_own ns))
  where
    wider : (ms : List ℕ) → AllByRecursion (IsIn ns) ms → AllByRecursion (IsIn (n ∷ ns)) ms
    wider [] h = tt
    wider (m ∷ ms) h = (or_right (nat_eq m n) (list_any (nat_eq m) ns) h.0, wider ms h.1)

take_more : {X : Type 0} (xs : List X) (n : ℕ) (x : X) → slice_get xs n ≡ Some x → take (suc n) xs ≡ take n xs ++ x ∷ []
take_more [] n x e = absurd cc
take_more (y ∷ xs) zero x e = ap (λ z. z ∷ []) (some_eq y x e)
take_more (y ∷ xs) (suc n) x e = ap (λ ys. y ∷ ys) (take_more xs n x e)

take_all : {X : Type 0} (xs : List X) → take (length xs) xs ≡ xs
take_all [] = refl
take_all (x ∷ xs) = ap (λ ys. x ∷ ys) (take_all xs)

there_at : {X : Type 0} (xs : List X) (n : ℕ) → n < length xs → (x : X) × (slice_get xs n ≡ Some x)
there_at [] n h = absurd (omega (arith, h))
there_at (x ∷ xs) zero h = (x, refl)
there_at (x ∷ xs) (suc n) h = there_at xs n (omega (arith, h))

get_mapped : {X Y : Type 0} (f : X → Y) (xs : List X) (n : ℕ) (x : X) → slice_get xs n ≡ Some x → slice_get (map f xs) n ≡ Some (f x)
get_mapped f [] n x e = absurd cc
get_mapped f (y ∷ xs) zero x e = ap Some (ap f (some_eq y x e))
get_mapped f (y ∷ xs) (suc n) x e = get_mapped f xs n x e

map_count : {X Y : Type 0} (f : X → Y) (xs : List X) → length (map f xs) ≡ length xs
map_count f [] = refl
map_count f (x ∷ xs) = ap suc (map_count f xs)

-- ---- a filter that is numbered in order

pub record IsNumbered (schema : Schema) (types : List Ty) (froms : List FromItem) (f : Filter) : Type 0 where
  pub named : IsFilterOf schema froms (renumbered_filter (first_uses [] (filter_uses f)) f)
  pub fits : source_fits schema froms (renumbered_filter (first_uses [] (filter_uses f)) f) ≡ true
  pub params : source_params schema froms (renumbered_filter (first_uses [] (filter_uses f)) f) ≡ Some (map (λ k. type_of (slice_get types k)) (first_uses [] (filter_uses f)))

module _ (schema : Schema) (types : List Ty) (small : length types ≤ 9) (froms : List FromItem) (f : Filter) (good : GoodFilter schema types froms f) (there : AllByRecursion (λ k. k < length types) (filter_uses f))
    (beside : AllByRecursion (λ k. is_some (filter_tys schema froms (suc k) f) ≡ true) (filter_uses f)) where
  abbrev order : List ℕ
  order = first_uses [] (filter_uses f)

  abbrev own : Filter
  own = renumbered_filter order f

  ordering : Ordering order
  ordering = uses_order [] (filter_uses f) nothing_ordered

  used : AllByRecursion (IsIn order) (filter_uses f)
  used = uses_in (filter_uses f)

  order_there : AllByRecursion (λ k. k < length types) order
  order_there = only_used (λ k. k < length types) [] (filter_uses f) tt there

  few : length order ≤ 9
  few = let l = few_numbers order (length types) ordering.distinct order_there in omega (arith, l, small)

  type_is : (k : ℕ) → IsIn order k → ty_of_param schema froms own (number_among order k) ≡ slice_get types k
  type_is k h =
      ap one_ty (all_tys_same schema types order few k h froms f good used)
      ∙ one_type schema types (slice_get types k) (filter_tys schema froms (suc k) f) (filter_all schema types froms k f good)
      (all_from_in (λ k. is_some (filter_tys schema froms (suc k) f) ≡ true) order (only_used (λ k. is_some (filter_tys schema froms (suc k) f) ≡ true) [] (filter_uses f) tt beside) k h)

  some_type : (o : Option Ty) (ty : Ty) → o ≡ Some ty → o ≡ Some (type_of o)
  some_type None ty e = absurd cc
  some_type (Some t) ty e = refl

  abbrev typ : ℕ → Ty
  typ k = type_of (slice_get types k)

  step : (n k : ℕ) → slice_get order n ≡ Some k → ty_of_param schema froms own (suc n) ≡ Some (typ k)
  step n k e =
      let i = in_at order n k e in
      let t = there_at types k (all_from_in (λ k. k < length types) order order_there k i) in
      ap (ty_of_param schema froms own) (sym (ordering.places n k e)) ∙ type_is k i ∙ some_type (slice_get types k) t.0 t.1

  up_to : (n : ℕ) → n ≤ length order → tys_up_to (ty_of_param schema froms own) n ≡ Some (take n (map typ order))
  up_to zero h = refl
  up_to (suc n) h =
      let at = there_at order n (omega (arith, h)) in
      ap (λ o. o >>= λ us. ty_of_param schema froms own (suc n) >>= λ ty. Some (us ++ ty ∷ [])) (up_to n (omega (arith, h)))
      ∙ ap (λ o. o >>= λ ty. Some (take n (map typ order) ++ ty ∷ [])) (step n at.0 at.1)
      ∙ ap Some (sym (take_more (map typ order) n (typ at.0) (get_mapped typ order n at.0 at.1)))

  last_number : filter_param own ≡ length order
  last_number = filter_last order f ∙ go (length order) refl
    where
      upper : greatest (map (number_among order) (filter_uses f)) ≤ length order
      upper = at_most order (filter_uses f) used

      go : (n : ℕ) → length order ≡ n → greatest (map (number_among order) (filter_uses f)) ≡ length order
      go zero e = omega (arith, e, upper)
      go (suc n) e =
          let (i, k, p) = last_of order (omega (arith, e)) in
          let number : number_among order k ≡ suc i = ordering.places i k p.0 in
          let l : number_among order k ≤ greatest (map (number_among order) (filter_uses f)) = at_least order (filter_uses f) k (back_to_uses k (in_at order i k p.0)) in
          omega (arith, e, upper, number, l, p.1)
        where
          back_to_uses : (k : ℕ) → IsIn order k → IsIn (filter_uses f) k
          back_to_uses k h = all_from_in (IsIn (filter_uses f)) order (only_used (IsIn (filter_uses f)) [] (filter_uses f) tt (all_own (filter_uses f))) k h

  pub is_numbered : IsNumbered schema types froms f
  is_numbered = record {
    named = filter_named schema types order few froms f good used;
    fits = all_fits schema types order few (ty_of_param schema froms own) type_is froms f good used;
    params = ap (tys_up_to (ty_of_param schema froms own)) last_number ∙ up_to (length order) (omega arith) ∙ ap Some (ap (λ n. take n (map typ order)) (sym (map_count typ order)) ∙ take_all (map typ order));
  }
