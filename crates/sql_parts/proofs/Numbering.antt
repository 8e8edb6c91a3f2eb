-- Numbering parameters by their first occurrence changes no truth.
use Rattle.std.proofs.Common.{◌≡◌, ℕ, zero, suc, Bool, true, false, cond, not, ◌&&◌, ◌||◌, List, [], ◌∷◌, ◌++◌, map, slice_get, refl, sym, ap, ap₂, ◌∙◌, subst, nat_eq}
use Rattle.std.specs.List.{AllByRecursion, list_any}
use Rattle.std.specs.declared.option.Option.TheVariants.{Some}
use Rattle.std.proofs.lemmas.List.Folds.{list_any-append}
use Rattle.qbs_base.specs.declared.scalar.Scalar.{Scalar}
use Rattle.qbs_base.specs.Scalar.{compared, scalar_same}
use Rattle.qbs_base.specs.Values.{Database}
use Rattle.sql_ast.specs.declared.tree.SqlOpnd.{SqlOpnd}
use Rattle.sql_ast.specs.declared.tree.SqlOpnd.TheVariants as opnds
use Rattle.sql_ast.specs.Meaning.{Combination, nth, column_of, operand_of, holds, turned_if, truth_of, passes, product, true_ones, query_answer, rows_from, total_of, number_answered, One, Rows}
use Rattle.sql_ast.specs.Tree.{Condition, Both, Either, Not, Compare, Bare, Exists, Within, Filter, Everything, Where, PlainQuery, Listing, Number, Truth}
use Rattle.qbs_base.specs.declared.scalar.Scalar.TheVariants as scalars
use Rattle.qbs_base.specs.declared.scalar.Ty.{Ty}
use Rattle.sql_parts.specs.Given.{value_or, values_at}
use Rattle.sql_parts.specs.Numbered.{opnd_uses, uses, filter_uses, entered, first_uses, number_among, renumbered_opnd, renumbered, renumbered_filter, filter_in, with_filter}
use Rattle.sql_parts.proofs.Tools.{any_agree, or_left, or_right, eq_true, eq_itself, filter_agree_on}

-- ---- what holds of the entry of each parameter

abbrev pub OpndParam : (ℕ → Type 0) → SqlOpnd → Type 0
OpndParam P (opnds.Column col) = Unit {0}
OpndParam P (opnds.Lit x) = Unit {0}
OpndParam P (opnds.Param zero) = ⊥
OpndParam P (opnds.Param (suc k)) = P k

abbrev mutual
  pub EachParam : (ℕ → Type 0) → Condition → Type 0
  EachParam P (Both a b) = EachParam P a × EachParam P b
  EachParam P (Either a b) = EachParam P a × EachParam P b
  EachParam P (Not a) = EachParam P a
  EachParam P (Compare cmp a b) = OpndParam P a × OpndParam P b
  EachParam P (Bare col) = Unit {0}
  EachParam P (Exists from f) = FilterParam P f
  EachParam P (Within a negated col from f) = OpndParam P a × FilterParam P f

  pub FilterParam : (ℕ → Type 0) → Filter → Type 0
  FilterParam P Everything = Unit {0}
  FilterParam P (Where a) = EachParam P a

-- ---- the number of an entry

among_at : {X : Type 0} (h : ℕ → X) (order : List ℕ) (k : ℕ) → list_any (nat_eq k) order ≡ true → nth (map h order) (number_among order k) ≡ Some (h k)
among_at h [] k e = absurd cc
among_at h (m ∷ order) k e = go (nat_eq m k) refl (nat_eq k m) refl e (among_at h order k)
  where
    flip : (a b : ℕ) → nat_eq a b ≡ true → nat_eq b a ≡ true
    flip a b e = subst (λ n. nat_eq n a ≡ true) (eq_true a b e) (eq_itself a)

    later : (i : ℕ) → nth (map h order) i ≡ Some (h k) → nth (h m ∷ map h order) (suc i) ≡ Some (h k)
    later zero e = absurd cc
    later (suc i) e = e

    go : (a : Bool) → nat_eq m k ≡ a → (b : Bool) → nat_eq k m ≡ b → (b || list_any (nat_eq k) order) ≡ true → (list_any (nat_eq k) order ≡ true → nth (map h order) (number_among order k) ≡ Some (h k)) → nth (h m ∷ map h order) (cond a 1 (suc (number_among order k))) ≡ Some (h k)
    go true is b d e r = ap (λ n. Some (h n)) (eq_true m k is)
    go false is true d e r = let no : true ≡ false = sym (flip k m d) ∙ is in absurd cc
    go false is false d e r = later (number_among order k) (r e)

-- ---- truths

abbrev IsUsed : List Scalar → List ℕ → ℕ → Type 0
IsUsed values order k = (list_any (nat_eq k) order ≡ true) × ((x : Scalar) × (slice_get values k ≡ Some x))

module _ (db : Database) (values : List Scalar) (order : List ℕ) where
  some_value : (k : ℕ) → ((x : Scalar) × (slice_get values k ≡ Some x)) → Some (value_or (slice_get values k)) ≡ slice_get values k
  some_value k h = ap (λ o. Some (value_or o)) h.1 ∙ sym h.1

  opnd_same : (a : SqlOpnd) → OpndParam (IsUsed values order) a → (c : Combination) → operand_of (values_at values order) c (renumbered_opnd order a) ≡ operand_of values c a
  opnd_same (opnds.Column col) h c = refl
  opnd_same (opnds.Lit x) h c = refl
  opnd_same (opnds.Param zero) h c = absurd h
  opnd_same (opnds.Param (suc k)) h c = among_at (λ k. value_or (slice_get values k)) order k h.0 ∙ some_value k h.1

  mutual
    truth_same : (t : Condition) → EachParam (IsUsed values order) t → (c : Combination) → truth_of db (values_at values order) (renumbered order t) c ≡ truth_of db values t c
    truth_same (Both a b) h c = ap₂ (λ x y. x && y) (truth_same a h.0 c) (truth_same b h.1 c)
    truth_same (Either a b) h c = ap₂ (λ x y. x || y) (truth_same a h.0 c) (truth_same b h.1 c)
    truth_same (Not a) h c = ap not (truth_same a h c)
    truth_same (Compare cmp a b) h c = ap₂ (holds cmp) (opnd_same a h.0 c) (opnd_same b h.1 c)
    truth_same (Bare col) h c = refl
    truth_same (Exists from f) h c = any_agree (λ d. passes db (values_at values order) (renumbered_filter order f) (c ++ d)) (λ d. passes db values f (c ++ d)) (λ d. filter_same f h (c ++ d)) (product db from)
    truth_same (Within a negated col from f) h c =
        ap (turned_if negated)
        (any_agree (λ d. passes db (values_at values order) (renumbered_filter order f) (c ++ d) && compared scalar_same (operand_of (values_at values order) c (renumbered_opnd order a)) (column_of (c ++ d) col))
        (λ d. passes db values f (c ++ d) && compared scalar_same (operand_of values c a) (column_of (c ++ d) col))
        (λ d. ap₂ (λ x y. x && compared scalar_same y (column_of (c ++ d) col)) (filter_same f h.1 (c ++ d)) (opnd_same a h.0 c)) (product db from))

    filter_same : (f : Filter) → FilterParam (IsUsed values order) f → (c : Combination) → passes db (values_at values order) (renumbered_filter order f) c ≡ passes db values f c
    filter_same Everything h c = refl
    filter_same (Where a) h c = truth_same a h c

  any_comb : (cs : List Combination) → AllByRecursion (λ c. Unit {0}) cs
  any_comb [] = tt
  any_comb (c ∷ cs) = (tt, any_comb cs)

  found_same : (f : Filter) → FilterParam (IsUsed values order) f → (from : List _) → true_ones db (values_at values order) from (renumbered_filter order f) ≡ true_ones db values from f
  found_same f h from = filter_agree_on (λ c. Unit {0}) (passes db (values_at values order) (renumbered_filter order f)) (passes db values f) (λ c u. filter_same f h c) (product db from) (any_comb (product db from))

  -- and so no answer
  pub answer_same : (q : PlainQuery) (types : List Ty) → FilterParam (IsUsed values order) (filter_in q) → query_answer db (values_at values order) (with_filter q (renumbered_filter order (filter_in q)) types) ≡ query_answer db values q
  answer_same (Listing q) types h = ap (λ (cs : List Combination). Rows (rows_from q q.group cs)) (found_same q.filter h q.from)
  answer_same (Number q) types h = ap (λ (cs : List Combination). number_answered (total_of q.kind cs)) (found_same q.filter h q.from)
  answer_same (Truth q) types h =
      ap (λ b. One (scalars.Bool (turned_if q.negated b))) (any_agree (passes db (values_at values order) (renumbered_filter order q.filter)) (passes db values q.filter) (λ c. filter_same q.filter h c) (product db q.from))

-- ---- each use is in the order of first uses

abbrev pub IsIn : List ℕ → ℕ → Type 0
IsIn order k = list_any (nat_eq k) order ≡ true

in_front : (k : ℕ) (xs ys : List ℕ) → IsIn xs k → IsIn (xs ++ ys) k
in_front k xs ys h = list_any-append (nat_eq k) xs ys ∙ or_left (list_any (nat_eq k) xs) (list_any (nat_eq k) ys) h

kept_in : (seen : List ℕ) (n k : ℕ) → IsIn seen k → IsIn (entered seen n) k
kept_in seen n k h = go (list_any (nat_eq n) seen)
  where
    go : (b : Bool) → IsIn (cond b seen (seen ++ n ∷ [])) k
    go true = h
    go false = in_front k seen (n ∷ []) h

pub entered_in : (seen : List ℕ) (n : ℕ) → IsIn (entered seen n) n
entered_in seen n = go (list_any (nat_eq n) seen) refl
  where
    go : (b : Bool) → list_any (nat_eq n) seen ≡ b → IsIn (cond b seen (seen ++ n ∷ [])) n
    go true e = e
    go false e = list_any-append (nat_eq n) seen (n ∷ []) ∙ or_right (list_any (nat_eq n) seen) (nat_eq n n || false) (ap (λ b. b || false) (eq_itself n))

pub still_in : (seen ns : List ℕ) (k : ℕ) → IsIn seen k → IsIn (first_uses seen ns) k
still_in seen [] k h = h
still_in seen (n ∷ ns) k h = still_in (entered seen n) ns k (kept_in seen n k h)

all_in : (seen ns : List ℕ) → AllByRecursion (IsIn (first_uses seen ns)) ns
all_in seen [] = tt
all_in seen (n ∷ ns) = (still_in (entered seen n) ns n (entered_in seen n), all_in (entered seen n) ns)

pub uses_in : (ns : List ℕ) → AllByRecursion (IsIn (first_uses [] ns)) ns
uses_in ns = all_in [] ns

pub front_of : (P : ℕ → Type 0) (xs ys : List ℕ) → AllByRecursion P (xs ++ ys) → AllByRecursion P xs
front_of P [] ys h = tt
front_of P (x ∷ xs) ys h = (h.0, front_of P xs ys h.1)

pub back_of : (P : ℕ → Type 0) (xs ys : List ℕ) → AllByRecursion P (xs ++ ys) → AllByRecursion P ys
back_of P [] ys h = h
back_of P (x ∷ xs) ys h = back_of P xs ys h.1

-- what holds of each parameter, and of the uses
module _ (P Q : ℕ → Type 0) where
  opnd_both : (a : SqlOpnd) → OpndParam P a → AllByRecursion Q (opnd_uses a) → OpndParam (λ k. Q k × P k) a
  opnd_both (opnds.Column col) h u = tt
  opnd_both (opnds.Lit x) h u = tt
  opnd_both (opnds.Param zero) h u = absurd h
  opnd_both (opnds.Param (suc k)) h u = (u.0, h)

  mutual
    each_both : (t : Condition) → EachParam P t → AllByRecursion Q (uses t) → EachParam (λ k. Q k × P k) t
    each_both (Both a b) h u = (each_both a h.0 (front_of Q (uses a) (uses b) u), each_both b h.1 (back_of Q (uses a) (uses b) u))
    each_both (Either a b) h u = (each_both a h.0 (front_of Q (uses a) (uses b) u), each_both b h.1 (back_of Q (uses a) (uses b) u))
    each_both (Not a) h u = each_both a h u
    each_both (Compare cmp a b) h u = (opnd_both a h.0 (front_of Q (opnd_uses a) (opnd_uses b) u), opnd_both b h.1 (back_of Q (opnd_uses a) (opnd_uses b) u))
    each_both (Bare col) h u = tt
    each_both (Exists from f) h u = filter_both f h u
    each_both (Within a negated col from f) h u = (opnd_both a h.0 (front_of Q (opnd_uses a) (filter_uses f) u), filter_both f h.1 (back_of Q (opnd_uses a) (filter_uses f) u))

    pub filter_both : (f : Filter) → FilterParam P f → AllByRecursion Q (filter_uses f) → FilterParam (λ k. Q k × P k) f
    filter_both Everything h u = tt
    filter_both (Where a) h u = each_both a h u

-- what follows of each parameter
module _ (P Q : ℕ → Type 0) (h : (k : ℕ) → P k → Q k) where
  opnd_more : (a : SqlOpnd) → OpndParam P a → OpndParam Q a
  opnd_more (opnds.Column col) p = tt
  opnd_more (opnds.Lit x) p = tt
  opnd_more (opnds.Param zero) p = absurd p
  opnd_more (opnds.Param (suc k)) p = h k p

  mutual
    condition_more : (t : Condition) → EachParam P t → EachParam Q t
    condition_more (Both a b) p = (condition_more a p.0, condition_more b p.1)
    condition_more (Either a b) p = (condition_more a p.0, condition_more b p.1)
    condition_more (Not a) p = condition_more a p
    condition_more (Compare cmp a b) p = (opnd_more a p.0, opnd_more b p.1)
    condition_more (Bare col) p = tt
    condition_more (Exists from f) p = each_more f p
    condition_more (Within a negated col from f) p = (opnd_more a p.0, each_more f p.1)

    pub each_more : (f : Filter) → FilterParam P f → FilterParam Q f
    each_more Everything p = tt
    each_more (Where a) p = condition_more a p
