-- A condition whose operands have their types is one of the grammar when its parameters are numbered in order.
use Rattle.std.proofs.Common.{◌≡◌, ℕ, zero, suc, ◌<◌, ◌≤◌, Bool, true, false, cond, ◌&&◌, ◌||◌, List, [], ◌∷◌, ◌++◌, length, slice_get, refl, sym, ap, ap₂, ◌∙◌, subst, arith, nat_eq}
use Rattle.std.specs.List.{AllByRecursion, list_any}
use Rattle.std.specs.declared.option.Option.{Option}
use Rattle.std.specs.declared.option.Option.TheVariants.{Some, None}
use Rattle.std.proofs.lemmas.Bool.Decides.{nat_tests}
use Rattle.qbs_base.specs.Folded.{is_some}
use Rattle.qbs_base.specs.declared.scalar.Ty.{Ty}
use Rattle.qbs_base.specs.declared.scalar.Ty.TheVariants as tys
use Rattle.qbs_base.specs.Values.{Schema}
use Rattle.qbs_base.specs.Columns.{same_ty}
use Rattle.sql_ast.specs.declared.tree.Cmp.{Cmp}
use Rattle.sql_ast.specs.declared.tree.Cmp.TheVariants as tests
use Rattle.sql_ast.specs.declared.tree.FromItem.{FromItem}
use Rattle.sql_ast.specs.declared.tree.SqlCol.{SqlCol}
use Rattle.sql_ast.specs.declared.tree.SqlOpnd.{SqlOpnd}
use Rattle.sql_ast.specs.declared.tree.SqlOpnd.TheVariants as opnds
use Rattle.sql_ast.specs.Tree.{Condition, Both, Either, Not, Compare, Bare, Exists, Within, Filter, Everything, Where}
use Rattle.sql_ast.specs.Typing.{ty_of_scalar, ty_of_col, ty_beside, tys_beside, filter_tys, is_compared_by, pair_fits, ty_of_opnd, is_of, condition_fits, filter_fits}
use Rattle.sql_ast.specs.Valid.{AreItems, IsColOf, FitsScalar, IsOpndOf, IsConditionOf, IsFilterOf}
use Rattle.sql_parts.specs.Numbered.{opnd_uses, uses, filter_uses, number_among, renumbered_opnd, renumbered, renumbered_filter}
use Rattle.sql_parts.proofs.Numbering.{IsIn, front_of, back_of}
use Rattle.sql_parts.proofs.Tools.{eq_true, eq_itself}
use Rattle.kernel_lang.proofs.Listing.{some_eq}

-- ---- operands with a type; a parameter has that of its entry

abbrev pub HasType : Schema → List Ty → List FromItem → SqlOpnd → Ty → Type 0
HasType schema types froms (opnds.Column col) ty = IsColOf schema froms col × (ty_of_col schema froms col ≡ Some ty)
HasType schema types froms (opnds.Lit x) ty = FitsScalar x × (ty_of_scalar x ≡ ty)
HasType schema types froms (opnds.Param zero) ty = ⊥
HasType schema types froms (opnds.Param (suc k)) ty = slice_get types k ≡ Some ty

pub record IsCompared (schema : Schema) (types : List Ty) (froms : List FromItem) (cmp : Cmp) (a b : SqlOpnd) : Type 0 where
  pub ty : Ty
  pub first : HasType schema types froms a ty
  pub second : HasType schema types froms b ty
  pub fits : is_compared_by cmp ty ≡ true

pub record IsWithin (schema : Schema) (types : List Ty) (froms inner : List FromItem) (a : SqlOpnd) (col : SqlCol) : Type 0 where
  pub ty : Ty
  pub opnd : HasType schema types froms a ty
  pub is_col : IsColOf schema inner col
  pub col_type : ty_of_col schema inner col ≡ Some ty

abbrev mutual
  pub Good : Schema → List Ty → List FromItem → Condition → Type 0
  Good schema types froms (Both a b) = Good schema types froms a × Good schema types froms b
  Good schema types froms (Either a b) = Good schema types froms a × Good schema types froms b
  Good schema types froms (Not a) = Good schema types froms a
  Good schema types froms (Compare cmp a b) = IsCompared schema types froms cmp a b
  Good schema types froms (Bare col) = IsColOf schema froms col × (ty_of_col schema froms col ≡ Some tys.Bool)
  Good schema types froms (Exists from f) = AreItems schema froms from × GoodFilter schema types (froms ++ from) f
  Good schema types froms (Within a negated col from f) = IsWithin schema types froms (froms ++ from) a col × AreItems schema froms from × GoodFilter schema types (froms ++ from) f

  pub GoodFilter : Schema → List Ty → List FromItem → Filter → Type 0
  GoodFilter schema types froms Everything = Unit {0}
  GoodFilter schema types froms (Where a) = Good schema types froms a

-- each entry that is used is compared with a column
abbrev pub IsBeside : Schema → List FromItem → Condition → ℕ → Type 0
IsBeside schema froms t k = is_some (tys_beside schema froms (suc k) t) ≡ true

-- ---- distinct numbers

-- each place of the order is that of its number
abbrev pub IsOrder : List ℕ → Type 0
IsOrder order = (i k : ℕ) → slice_get order i ≡ Some k → number_among order k ≡ suc i

flip_false : (a b : ℕ) → nat_eq a b ≡ false → nat_eq b a ≡ false
flip_false a b h = go (nat_eq b a) refl
  where
    go : (s : Bool) → nat_eq b a ≡ s → nat_eq b a ≡ false
    go false e = e
    go true e = let no : true ≡ false = sym (subst (λ n. nat_eq n b ≡ true) (eq_true b a e) (eq_itself b)) ∙ h in absurd cc

flip_true : (a b : ℕ) → nat_eq a b ≡ true → nat_eq b a ≡ true
flip_true a b h = subst (λ n. nat_eq n a ≡ true) (eq_true a b h) (eq_itself a)

-- where a number is, if it is there
pub place_of : (order : List ℕ) (k : ℕ) → IsIn order k → (i : ℕ) × ((slice_get order i ≡ Some k) × (number_among order k ≡ suc i))
place_of [] k h = absurd cc
place_of (m ∷ order) k h = go (nat_eq m k) refl (nat_eq k m) refl h (λ r. place_of order k r)
  where
    go : (a : Bool) → nat_eq m k ≡ a → (b : Bool) → nat_eq k m ≡ b → (b || list_any (nat_eq k) order) ≡ true
        → (IsIn order k → (i : ℕ) × ((slice_get order i ≡ Some k) × (number_among order k ≡ suc i))) → (i : ℕ) × ((slice_get (m ∷ order) i ≡ Some k) × (cond a 1 (suc (number_among order k)) ≡ suc i))
    go true is b d e r = (0, (ap Some (eq_true m k is), refl))
    go false is true d e r = let no : true ≡ false = sym (flip_true k m d) ∙ is in absurd cc
    go false is false d e r = let p = r e in (suc p.0, (p.1.0, ap suc p.1.1))

-- numbers of two entries are one where the entries are
pub same_number : (order : List ℕ) (j k : ℕ) → IsIn order j → IsIn order k → nat_eq (number_among order j) (number_among order k) ≡ nat_eq (suc j) (suc k)
same_number order j k in_j in_k = go (nat_eq j k) refl
  where
    p : (i : ℕ) × ((slice_get order i ≡ Some j) × (number_among order j ≡ suc i))
    p = place_of order j in_j

    q : (i : ℕ) × ((slice_get order i ≡ Some k) × (number_among order k ≡ suc i))
    q = place_of order k in_k

    sucs : (a b : ℕ) → nat_eq (suc a) (suc b) ≡ nat_eq a b
    sucs a b = grind (arith, nat_tests)

    go : (b : Bool) → nat_eq j k ≡ b → nat_eq (number_among order j) (number_among order k) ≡ nat_eq (suc j) (suc k)
    go true e = ap (λ n. nat_eq (number_among order n) (number_among order k)) (eq_true j k e) ∙ eq_itself (number_among order k) ∙ sym (sucs j k ∙ e)
    go false e = differ (nat_eq (number_among order j) (number_among order k)) refl ∙ sym (sucs j k ∙ e)
      where
        differ : (s : Bool) → nat_eq (number_among order j) (number_among order k) ≡ s → nat_eq (number_among order j) (number_among order k) ≡ false
        differ false d = d
        differ true d =
            let number : suc p.0 ≡ suc q.0 = sym p.1.1 ∙ eq_true (number_among order j) (number_among order k) d ∙ q.1.1 in
            let place : p.0 ≡ q.0 = omega (arith, number) in
            let same : j ≡ k = some_eq j k (sym p.1.0 ∙ ap (slice_get order) place ∙ q.1.0) in
            let no : true ≡ false = sym (eq_itself k) ∙ ap (λ n. nat_eq n k) (sym same) ∙ e in absurd cc

-- ---- numbered conditions

module _ (schema : Schema) (types : List Ty) (order : List ℕ) (few : length order ≤ 9) where
  number_within : (k : ℕ) → IsIn order k → (1 ≤ number_among order k) × (number_among order k ≤ 9)
  number_within k h =
      let p = place_of order k h in
      let l = within order p.0 k p.1.0 in
      (omega (arith, p.1.1), omega (arith, few, l, p.1.1))
    where
      within : (xs : List ℕ) (n x : ℕ) → slice_get xs n ≡ Some x → n < length xs
      within [] n x e = absurd cc
      within (y ∷ xs) zero x e = omega arith
      within (y ∷ xs) (suc n) x e = let l = within xs n x e in omega (arith, l)

  opnd_named : (froms : List FromItem) (a : SqlOpnd) (ty : Ty) → HasType schema types froms a ty → AllByRecursion (IsIn order) (opnd_uses a) → IsOpndOf schema froms (renumbered_opnd order a)
  opnd_named froms (opnds.Column col) ty h u = h.0
  opnd_named froms (opnds.Lit x) ty h u = h.0
  opnd_named froms (opnds.Param zero) ty h u = absurd h
  opnd_named froms (opnds.Param (suc k)) ty h u = number_within k u.0

  mutual
    named : (froms : List FromItem) (t : Condition) → Good schema types froms t → AllByRecursion (IsIn order) (uses t) → IsConditionOf schema froms (renumbered order t)
    named froms (Both a b) h u = (named froms a h.0 (front_of (IsIn order) (uses a) (uses b) u), named froms b h.1 (back_of (IsIn order) (uses a) (uses b) u))
    named froms (Either a b) h u = (named froms a h.0 (front_of (IsIn order) (uses a) (uses b) u), named froms b h.1 (back_of (IsIn order) (uses a) (uses b) u))
    named froms (Not a) h u = named froms a h u
    named froms (Compare cmp a b) h u = (opnd_named froms a h.ty h.first (front_of (IsIn order) (opnd_uses a) (opnd_uses b) u), opnd_named froms b h.ty h.second (back_of (IsIn order) (opnd_uses a) (opnd_uses b) u))
    named froms (Bare col) h u = h.0
    named froms (Exists from f) h u = (h.0, filter_named (froms ++ from) f h.1 u)
    named froms (Within a negated col from f) h u =
        (opnd_named froms a h.0.ty h.0.opnd (front_of (IsIn order) (opnd_uses a) (filter_uses f) u), h.1, h.0.is_col, filter_named (froms ++ from) f h.2 (back_of (IsIn order) (opnd_uses a) (filter_uses f) u))

    pub filter_named : (froms : List FromItem) (f : Filter) → GoodFilter schema types froms f → AllByRecursion (IsIn order) (filter_uses f) → IsFilterOf schema froms (renumbered_filter order f)
    filter_named froms Everything h u = tt
    filter_named froms (Where a) h u = named froms a h u

  -- ---- the types beside a parameter

  module _ (k : ℕ) (in_order : IsIn order k) where
    beside_same : (froms : List FromItem) (a b : SqlOpnd) (ty : Ty) → HasType schema types froms a ty → AllByRecursion (IsIn order) (opnd_uses a)
        → ty_beside schema froms (number_among order k) (renumbered_opnd order a) (renumbered_opnd order b) ≡ ty_beside schema froms (suc k) a b
    beside_same froms (opnds.Column col) b ty h u = refl
    beside_same froms (opnds.Lit x) b ty h u = refl
    beside_same froms (opnds.Param zero) b ty h u = absurd h
    beside_same froms (opnds.Param (suc j)) (opnds.Column col) ty h u =
        ap (λ b. cond b (elim (ty_of_col schema froms col) as (λ _. List Ty) [ Some ty ↦ ty ∷ [] | None ↦ [] ]) []) (same_number order j k u.0 in_order)
    beside_same froms (opnds.Param (suc j)) (opnds.Lit x) ty h u = refl
    beside_same froms (opnds.Param (suc j)) (opnds.Param n) ty h u = refl

    within_same : (inner froms : List FromItem) (a : SqlOpnd) (col : SqlCol) (ty : Ty) → HasType schema types froms a ty → AllByRecursion (IsIn order) (opnd_uses a)
        → ty_beside schema inner (number_among order k) (renumbered_opnd order a) (opnds.Column col) ≡ ty_beside schema inner (suc k) a (opnds.Column col)
    within_same inner froms (opnds.Column c) col ty h u = refl
    within_same inner froms (opnds.Lit x) col ty h u = refl
    within_same inner froms (opnds.Param zero) col ty h u = absurd h
    within_same inner froms (opnds.Param (suc j)) col ty h u =
        ap (λ b. cond b (elim (ty_of_col schema inner col) as (λ _. List Ty) [ Some ty ↦ ty ∷ [] | None ↦ [] ]) []) (same_number order j k u.0 in_order)

    mutual
      tys_same : (froms : List FromItem) (t : Condition) → Good schema types froms t → AllByRecursion (IsIn order) (uses t) → tys_beside schema froms (number_among order k) (renumbered order t) ≡ tys_beside schema froms (suc k) t
      tys_same froms (Both a b) h u = ap₂ (λ (x y : List Ty). x ++ y) (tys_same froms a h.0 (front_of (IsIn order) (uses a) (uses b) u)) (tys_same froms b h.1 (back_of (IsIn order) (uses a) (uses b) u))
      tys_same froms (Either a b) h u = ap₂ (λ (x y : List Ty). x ++ y) (tys_same froms a h.0 (front_of (IsIn order) (uses a) (uses b) u)) (tys_same froms b h.1 (back_of (IsIn order) (uses a) (uses b) u))
      tys_same froms (Not a) h u = tys_same froms a h u
      tys_same froms (Compare cmp a b) h u =
          ap₂ (λ (x y : List Ty). x ++ y) (beside_same froms a b h.ty h.first (front_of (IsIn order) (opnd_uses a) (opnd_uses b) u)) (beside_same froms b a h.ty h.second (back_of (IsIn order) (opnd_uses a) (opnd_uses b) u))
      tys_same froms (Bare col) h u = refl
      tys_same froms (Exists from f) h u = filter_same froms from f h.1 u
      tys_same froms (Within a negated col from f) h u =
          ap₂ (λ (x y : List Ty). x ++ y) (within_same (froms ++ from) froms a col h.0.ty h.0.opnd (front_of (IsIn order) (opnd_uses a) (filter_uses f) u)) (filter_same froms from f h.2 (back_of (IsIn order) (opnd_uses a) (filter_uses f) u))

      filter_same : (froms from : List FromItem) (f : Filter) → GoodFilter schema types (froms ++ from) f → AllByRecursion (IsIn order) (filter_uses f) → filter_tys schema (froms ++ from) (number_among order k) (renumbered_filter order f) ≡ filter_tys schema (froms ++ from) (suc k) f
      filter_same froms from Everything h u = refl
      filter_same froms from (Where a) h u = tys_same (froms ++ from) a h u

    pub all_tys_same : (froms : List FromItem) (f : Filter) → GoodFilter schema types froms f → AllByRecursion (IsIn order) (filter_uses f) → filter_tys schema froms (number_among order k) (renumbered_filter order f) ≡ filter_tys schema froms (suc k) f
    all_tys_same froms Everything h u = refl
    all_tys_same froms (Where a) h u = tys_same froms a h u

  -- ---- types of comparisons

  module _ (P : ℕ → Option Ty) (known : (k : ℕ) → IsIn order k → P (number_among order k) ≡ slice_get types k) where
    opnd_type : (froms : List FromItem) (a : SqlOpnd) (ty : Ty) → HasType schema types froms a ty → AllByRecursion (IsIn order) (opnd_uses a) → ty_of_opnd P schema froms (renumbered_opnd order a) ≡ Some ty
    opnd_type froms (opnds.Column col) ty h u = h.1
    opnd_type froms (opnds.Lit x) ty h u = ap Some h.1
    opnd_type froms (opnds.Param zero) ty h u = absurd h
    opnd_type froms (opnds.Param (suc k)) ty h u = known k u.0 ∙ h

    itself : (ty : Ty) → same_ty ty ty ≡ true
    itself tys.Long = refl
    itself tys.Bool = refl
    itself tys.Text = refl

    pair : (cmp : Cmp) (a b : Option Ty) (ty : Ty) → a ≡ Some ty → b ≡ Some ty → is_compared_by cmp ty ≡ true → pair_fits cmp a b ≡ true
    pair cmp a b ty e d h = ap₂ (pair_fits cmp) e d ∙ ap₂ (λ x y. x && y) (itself ty) h

    equal_fits : (ty : Ty) → is_compared_by tests.Eq ty ≡ true
    equal_fits ty = refl

    mutual
      fits : (froms : List FromItem) (t : Condition) → Good schema types froms t → AllByRecursion (IsIn order) (uses t) → condition_fits P schema froms (renumbered order t) ≡ true
      fits froms (Both a b) h u = ap₂ (λ x y. x && y) (fits froms a h.0 (front_of (IsIn order) (uses a) (uses b) u)) (fits froms b h.1 (back_of (IsIn order) (uses a) (uses b) u))
      fits froms (Either a b) h u = ap₂ (λ x y. x && y) (fits froms a h.0 (front_of (IsIn order) (uses a) (uses b) u)) (fits froms b h.1 (back_of (IsIn order) (uses a) (uses b) u))
      fits froms (Not a) h u = fits froms a h u
      fits froms (Compare cmp a b) h u =
          pair cmp (ty_of_opnd P schema froms (renumbered_opnd order a)) (ty_of_opnd P schema froms (renumbered_opnd order b)) h.ty
          (opnd_type froms a h.ty h.first (front_of (IsIn order) (opnd_uses a) (opnd_uses b) u)) (opnd_type froms b h.ty h.second (back_of (IsIn order) (opnd_uses a) (opnd_uses b) u)) h.fits
      fits froms (Bare col) h u = ap (is_of tys.Bool) h.1
      fits froms (Exists from f) h u = all_fits (froms ++ from) f h.1 u
      fits froms (Within a negated col from f) h u =
          ap₂ (λ x y. x && y)
          (pair tests.Eq (ty_of_opnd P schema froms (renumbered_opnd order a)) (ty_of_col schema (froms ++ from) col) h.0.ty (opnd_type froms a h.0.ty h.0.opnd (front_of (IsIn order) (opnd_uses a) (filter_uses f) u)) h.0.col_type (equal_fits h.0.ty))
          (all_fits (froms ++ from) f h.2 (back_of (IsIn order) (opnd_uses a) (filter_uses f) u))

      pub all_fits : (froms : List FromItem) (f : Filter) → GoodFilter schema types froms f → AllByRecursion (IsIn order) (filter_uses f) → filter_fits P schema froms (renumbered_filter order f) ≡ true
      all_fits froms Everything h u = refl
      all_fits froms (Where a) h u = fits froms a h u
