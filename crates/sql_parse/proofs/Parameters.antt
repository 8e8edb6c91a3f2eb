-- The types of parameters, as they are seen from left to right.
use Rattle.std.proofs.Common.{◌≡◌, ℕ, zero, suc, ◌+◌, ◌-◌, ◌<◌, ◌≤◌, Bool, true, false, List, [], ◌∷◌, ◌++◌, length, Option, Some, None, refl, sym, ap, ◌∙◌, subst, arith, add-one}
use Rattle.std.proofs.Math.Path.{fun_ext}
use Rattle.std.specs.Prelude.{nat_eq, nat_lt, slice_get, if◌then◌else◌}
use Rattle.std.specs.List.{list_all}
use Rattle.std.proofs.lemmas.Bool.Decides.{nat_tests}
use Rattle.qbs_base.specs.declared.scalar.Ty.{Ty}
use Rattle.qbs_base.specs.Values.{Schema}
use Rattle.qbs_base.specs.Columns.{same_ty}
use Rattle.sql_ast.specs.declared.tree.FromItem.{FromItem}
use Rattle.sql_ast.specs.declared.tree.SqlOpnd.{SqlOpnd}
use Rattle.sql_ast.specs.declared.tree.SqlOpnd.TheVariants as opnds
use Rattle.sql_ast.specs.Names.{◌>>=◌}
use Rattle.sql_ast.specs.Tree.{Condition, Both, Either, Not, Compare, Bare, Exists, Within, Filter, Everything, Where}
use Rattle.sql_ast.specs.Typing.{one_ty, ty_beside, tys_beside, filter_tys, ty_of_param, opnd_param, last_param, filter_param, tys_up_to}
use Rattle.sql_parse.specs.declared.typing.Seen.{Seen}
use Rattle.sql_parse.specs.declared.typing.Seen.TheVariants as seens
use Rattle.sql_parse.specs.Types.{seen_ty, seen_all, only_ty, param_at, tys_below}

-- ---- the one type

several_stay : (tys : List Ty) → seen_all seens.Several tys ≡ seens.Several
several_stay [] = refl
several_stay (ty ∷ tys) = several_stay tys

one_stays : (ty : Ty) (tys : List Ty) → only_ty (seen_all (seens.One ty) tys) ≡ (if list_all (same_ty ty) tys then Some ty else None)
one_stays ty [] = refl
one_stays ty (other ∷ tys) = by (same_ty ty other) refl (one_stays ty tys)
  where
    by : (v : Bool) → same_ty ty other ≡ v → only_ty (seen_all (seens.One ty) tys) ≡ (if list_all (same_ty ty) tys then Some ty else None) → only_ty (seen_all (seens.One ty) (other ∷ tys)) ≡ (if list_all (same_ty ty) (other ∷ tys) then Some ty else None)
    by true e again = rw e again
    by false e again = rw e (ap only_ty (several_stay tys))

pub only_of_seen : (tys : List Ty) → only_ty (seen_all seens.Nothing tys) ≡ one_ty tys
only_of_seen [] = refl
only_of_seen (ty ∷ tys) = one_stays ty tys

pub seen_both : (seen : Seen) (xs ys : List Ty) → seen_all seen (xs ++ ys) ≡ seen_all (seen_all seen xs) ys
seen_both seen [] ys = refl
seen_both seen (x ∷ xs) ys = seen_both (seen_ty seen x) xs ys

-- ---- no parameter beyond the last

other_beside : (schema : Schema) (froms : List FromItem) (n : ℕ) (a b : SqlOpnd) → opnd_param a < n → ty_beside schema froms n a b ≡ []
other_beside schema froms n (opnds.Param m) (opnds.Column col) h = let other : nat_eq m n ≡ false = grind (arith, nat_tests, h) in rw other refl
other_beside schema froms n (opnds.Param m) (opnds.Lit x) h = refl
other_beside schema froms n (opnds.Param m) (opnds.Param k) h = refl
other_beside schema froms n (opnds.Column c) b h = refl
other_beside schema froms n (opnds.Lit x) b h = refl

mutual
  none_past : (schema : Schema) (froms : List FromItem) (n : ℕ) (a : Condition) → last_param a < n → tys_beside schema froms n a ≡ []
  none_past schema froms n (Both a b) h = rw (none_past schema froms n a (omega (arith, h)), none_past schema froms n b (omega (arith, h))) refl
  none_past schema froms n (Either a b) h = rw (none_past schema froms n a (omega (arith, h)), none_past schema froms n b (omega (arith, h))) refl
  none_past schema froms n (Not a) h = none_past schema froms n a h
  none_past schema froms n (Compare cmp a b) h = rw (other_beside schema froms n a b (omega (arith, h)), other_beside schema froms n b a (omega (arith, h))) refl
  none_past schema froms n (Bare col) h = refl
  none_past schema froms n (Exists from filter_) h = none_past_filter schema (froms ++ from) n filter_ h
  none_past schema froms n (Within opnd negated col from filter_) h =
      rw (other_beside schema (froms ++ from) n opnd (opnds.Column col) (omega (arith, h)), none_past_filter schema (froms ++ from) n filter_ (omega (arith, h))) refl

  none_past_filter : (schema : Schema) (froms : List FromItem) (n : ℕ) (f : Filter) → filter_param f < n → filter_tys schema froms n f ≡ []
  none_past_filter schema froms n Everything h = refl
  none_past_filter schema froms n (Where a) h = none_past schema froms n a h

-- ---- the table of types

length_below : (params : ℕ → Option Ty) (m : ℕ) → length (tys_below params m) ≡ m
length_below params zero = refl
length_below params (suc m) = length_last (tys_below params m) (params m) ∙ ap suc (length_below params m)
  where
    length_last : (xs : List (Option Ty)) (x : Option Ty) → length (xs ++ x ∷ []) ≡ suc (length xs)
    length_last [] x = refl
    length_last (y ∷ ys) x = ap suc (length_last ys x)

at_front : {A : Type 0} (xs ys : List A) (n : ℕ) → n < length xs → slice_get (xs ++ ys) n ≡ slice_get xs n
at_front [] ys n h = absurd (omega (arith, h))
at_front (x ∷ xs) ys zero h = refl
at_front (x ∷ xs) ys (suc n) h = at_front xs ys n (omega (arith, h))

at_end : {A : Type 0} (xs : List A) (y : A) (n : ℕ) → n ≡ length xs → slice_get (xs ++ y ∷ []) n ≡ Some y
at_end [] y zero h = refl
at_end [] y (suc n) h = absurd (omega (arith, h))
at_end (x ∷ xs) y zero h = absurd (omega (arith, h))
at_end (x ∷ xs) y (suc n) h = at_end xs y n (omega (arith, h))

past_end : {A : Type 0} (xs : List A) (n : ℕ) → length xs ≤ n → slice_get xs n ≡ None
past_end [] n h = refl
past_end (x ∷ xs) zero h = absurd (omega (arith, h))
past_end (x ∷ xs) (suc n) h = past_end xs n (omega (arith, h))

below_at : (params : ℕ → Option Ty) (m n : ℕ) → n < m → slice_get (tys_below params m) n ≡ Some (params n)
below_at params zero n h = absurd (omega (arith, h))
below_at params (suc m) n h = by (nat_eq n m) refl (λ less. below_at params m n less)
  where
    by : (v : Bool) → nat_eq n m ≡ v → (n < m → slice_get (tys_below params m) n ≡ Some (params n)) → slice_get (tys_below params m ++ params m ∷ []) n ≡ Some (params n)
    by true e again = let same : n ≡ m = grind (arith, nat_tests, e) in rw same (at_end (tys_below params m) (params m) m (sym (length_below params m)))
    by false e again =
        let less : n < m = grind (arith, nat_tests, e, h) in
        at_front (tys_below params m) (params m ∷ []) n (rw (length_below params m) less) ∙ again less

table_at : (params : ℕ → Option Ty) (last : ℕ) → ((n : ℕ) → last < n → params n ≡ None) → (n : ℕ) → param_at (tys_below params (suc last)) n ≡ params n
table_at params last past n = by (nat_lt n (suc last)) refl
  where
    by : (v : Bool) → nat_lt n (suc last) ≡ v → param_at (tys_below params (suc last)) n ≡ params n
    by true e = let less : n < suc last = grind (arith, nat_tests, e) in ap (λ r. r >>= λ ty. ty) (below_at params (suc last) n less)
    by false e =
        let more : last < n = grind (arith, nat_tests, e) in
        let long : length (tys_below params (suc last)) ≤ n = rw (length_below params (suc last)) more in
        ap (λ r. r >>= λ ty. ty) (past_end (tys_below params (suc last)) n long) ∙ sym (past n more)

-- the table has the types of all parameters
pub table_is : (schema : Schema) (froms : List FromItem) (f : Filter) (last : ℕ) → last ≡ filter_param f → param_at (tys_below (ty_of_param schema froms f) (suc last)) ≡ ty_of_param schema froms f
table_is schema froms f last e = fun_ext (table_at (ty_of_param schema froms f) last (λ n past. ap one_ty (none_past_filter schema froms n f (omega (arith, past, e)))))

pub table_len : (params : ℕ → Option Ty) (last n : ℕ) → last ≡ n → length (tys_below params (suc last)) ≡ suc n
table_len params last n e = length_below params (suc last) ∙ ap suc e

-- ---- the types from 1 on

pub known_more : (params : ℕ → Option Ty) (n : ℕ) (tys : List Ty) (ty : Ty) → tys_up_to params n ≡ Some tys → params (n + 1) ≡ Some ty → tys_up_to params (n + 1) ≡ Some (tys ++ ty ∷ [])
known_more params n tys ty e h = rw add-one (ap (λ r. r >>= λ ts. params (suc n) >>= λ t. Some (ts ++ t ∷ [])) e ∙ ap (λ r. r >>= λ t. Some (tys ++ t ∷ [])) (rw add-one at h))

unknown_next : (params : ℕ → Option Ty) (n : ℕ) (tys : List Ty) → tys_up_to params n ≡ Some tys → params (suc n) ≡ None → tys_up_to params (suc n) ≡ None
unknown_next params n tys e h = ap (λ r. r >>= λ ts. params (suc n) >>= λ t. Some (ts ++ t ∷ [])) e ∙ ap (λ r. r >>= λ t. Some (tys ++ t ∷ [])) h

stays_unknown : (params : ℕ → Option Ty) (k n : ℕ) → tys_up_to params n ≡ None → tys_up_to params (k + n) ≡ None
stays_unknown params zero n e = rw zero_add e
  where
    zero_add : 0 + n ≡ n
    zero_add = omega arith
stays_unknown params (suc k) n e = rw suc_add (ap (λ r. r >>= λ ts. params (suc (k + n)) >>= λ t. Some (ts ++ t ∷ [])) (stays_unknown params k n e))
  where
    suc_add : suc k + n ≡ suc (k + n)
    suc_add = omega arith

pub unknown_all : (params : ℕ → Option Ty) (n last : ℕ) (tys : List Ty) → n < last → tys_up_to params n ≡ Some tys → params (n + 1) ≡ None → tys_up_to params last ≡ None
unknown_all params n last tys h e none =
    let whole : (last - suc n) + suc n ≡ last = omega arith in
    subst (λ (m : ℕ). tys_up_to params m ≡ None) whole (stays_unknown params (last - suc n) (suc n) (unknown_next params n tys e (rw add-one at none)))
