-- What breaks a rule where all places are left aside: as many places as before, all of them none.
use Rattle.std.specs.Prelude.{ℕ, Bool, true, false, not, ◌&&◌, List, [], ◌∷◌, ◌++◌, Option, Some, None}
use Rattle.std.proofs.Common.{◌≡◌, refl, sym, ap, ◌∙◌}
use Rattle.std.specs.Option.{option_map}
use Rattle.qbs_base.specs.declared.scalar.Ty.{Ty}
use Rattle.qbs_base.specs.declared.span.Span.{Span}
use Rattle.qbs_base.specs.Columns.{same_ty}
use Rattle.qbs_base.specs.Values.{Schema}
use Rattle.sql_ast.specs.Tree.{PlainQuery}
use Rattle.sql_ast.specs.Valid.{params_in}
use Rattle.java_ast.specs.declared.tree.Op.{Op}
use Rattle.java_ast.specs.declared.tree.Op.TheVariants as ops
use Rattle.java_ast.specs.Tree as plain
use Rattle.java_ast.specs.Tree.{Spelled, Expression, Expressions, Statement, Statements}
use Rattle.java_ast.specs.Unplaced.{nowhere, unplaced, unplaced_all, unplaced_statement, unplaced_block}
use Rattle.java_mean.specs.Places.{Place, value, step, param, whole}
use Rattle.java_mean.specs.Rules.{type_of, at_of, column_in, only_if, is_none, may_be, unless, unless_both, unless_single, is_scalar, unless_scalar, is_many, is_many_kindred, is_listed, element_of, scalars_of, unless_passes, unknown_column, unknown_keys, unknown_result, unknown, is_set_of_rows, both_operands, scalar_ty, unless_alike, compared, operands, is_row, copied_row, given, arguments, params_of, walked_element, returned, unless_element, set_result, mismatch, double_name, two_texts, text_identity, aliased, list_alias, modified_in_loop, bad_query, unordered_query, returns, returns_in, return_place, same_length, fits_query, arity, break_place, of_long, of_bool, of_text, listed_in, lists_scalars}
use Rattle.java_mean.specs.declared.types.JavaType.{JavaType}
use Rattle.java_mean.specs.declared.types.JavaType.TheVariants.{Of}
use Rattle.java_mean.specs.declared.types.Kindred.{Kindred}
use Rattle.java_mean.specs.declared.types.Kindred.TheVariants.{Only}
use Rattle.java_mean.specs.declared.types.Single.{Single}
use Rattle.java_mean.specs.declared.types.Single.TheVariants.{ScalarOf}
use Rattle.java_mean.specs.Types.{type_spelled}
use Rattle.java_mean.specs.Visible.{Visible, type_at}
use Rattle.java_unplaced.proofs.Seen.{bare_place}

abbrev pub bare_ats : List Span → List Span
bare_ats [] = []
bare_ats (at ∷ ats) = nowhere ∷ bare_ats ats

joined : (xs ys : List Span) → bare_ats (xs ++ ys) ≡ bare_ats xs ++ bare_ats ys
joined [] ys = refl
joined (x ∷ xs) ys = ap (λ (ats : List Span). nowhere ∷ ats) (joined xs ys)

both : (xs ys xs' ys' : List Span) → xs' ≡ bare_ats xs → ys' ≡ bare_ats ys → xs' ++ ys' ≡ bare_ats (xs ++ ys)
both xs ys xs' ys' e f = ap (λ (ats : List Span). ats ++ ys') e ∙ (ap (λ (ats : List Span). bare_ats xs ++ ats) f ∙ sym (joined xs ys))

-- ---- types don't hang on places

type_bare : (schema : Schema) (vs : Visible) (e : Expression) → type_of schema vs (unplaced e) ≡ type_of schema vs e
type_bare schema vs (plain.Lit at x) = refl
type_bare schema vs (plain.Var at x) = refl
type_bare schema vs (plain.Field at e f) = rw (type_bare schema vs e) refl
type_bare schema vs (plain.Binary at op a b) = refl
type_bare schema vs (plain.Not at e) = refl
type_bare schema vs (plain.Equals at a b) = refl
type_bare schema vs (plain.Size at x) = refl
type_bare schema vs (plain.Get at x e) = refl
type_bare schema vs (plain.Contains at x e) = refl
type_bare schema vs (plain.Fetch at t) = refl
type_bare schema vs (plain.Query at ty text es) = refl
type_bare schema vs (plain.QueryLong at text es) = refl
type_bare schema vs (plain.QueryBoolean at text es) = refl
type_bare schema vs (plain.NewList at) = refl
type_bare schema vs (plain.NewSet at) = refl
type_bare schema vs (plain.NewSetOf at e) = rw (type_bare schema vs e) refl

at_bare : (e : Expression) → at_of (unplaced e) ≡ nowhere
at_bare (plain.Lit at x) = refl
at_bare (plain.Var at x) = refl
at_bare (plain.Field at e f) = refl
at_bare (plain.Binary at op a b) = refl
at_bare (plain.Not at e) = refl
at_bare (plain.Equals at a b) = refl
at_bare (plain.Size at x) = refl
at_bare (plain.Get at x e) = refl
at_bare (plain.Contains at x e) = refl
at_bare (plain.Fetch at t) = refl
at_bare (plain.Query at ty text es) = refl
at_bare (plain.QueryLong at text es) = refl
at_bare (plain.QueryBoolean at text es) = refl
at_bare (plain.NewList at) = refl
at_bare (plain.NewSet at) = refl
at_bare (plain.NewSetOf at e) = refl

-- ---- the words of the rules

only : (b : Bool) (at : Span) → only_if b nowhere ≡ bare_ats (only_if b at)
only true at = refl
only false at = refl

unless_bare : (k : Option Kindred) (j : JavaType) (at : Span) → unless k j nowhere ≡ bare_ats (unless k j at)
unless_bare None j at = refl
unless_bare (Some k) j at = only (not (may_be k j)) at

unless_both_bare : (k : Option Kindred) (j : Option JavaType) (at : Span) → unless_both k j nowhere ≡ bare_ats (unless_both k j at)
unless_both_bare k None at = refl
unless_both_bare k (Some j) at = unless_bare k j at

unless_single_bare : (k : Option Kindred) (a : Option Single) (at : Span) → unless_single k a nowhere ≡ bare_ats (unless_single k a at)
unless_single_bare k None at = refl
unless_single_bare k (Some a) at = unless_bare k (Of a) at

unless_scalar_bare : (k : Option Kindred) (at : Span) → unless_scalar k nowhere ≡ bare_ats (unless_scalar k at)
unless_scalar_bare None at = refl
unless_scalar_bare (Some k) at = only (not (is_scalar k)) at

passes_bare : {A : Type 0} (test : A → Bool) (k : Option A) (at : Span) → unless_passes test k nowhere ≡ bare_ats (unless_passes test k at)
passes_bare test None at = refl
passes_bare test (Some k) at = only (not (test k)) at

column_bare : (schema : Schema) (k : Option Kindred) (f : List ℕ) (at : Span) → unknown_column schema k f nowhere ≡ bare_ats (unknown_column schema k f at)
column_bare schema None f at = refl
column_bare schema (Some k) f at = only (is_none (column_in schema (Some k) f)) at

keys_bare : (schema : Schema) (a : Option Single) (keys : List (List ℕ)) (at : Span) → unknown_keys schema a keys nowhere ≡ bare_ats (unknown_keys schema a keys at)
keys_bare schema None keys at = refl
keys_bare schema (Some a) [] at = refl
keys_bare schema (Some a) (key ∷ keys) at = both _ _ _ _ (column_bare schema (Some (Only (Of a))) key at) (keys_bare schema (Some a) keys at)

result_bare : (schema : Schema) (r : Option Spelled) (at : Span) → unknown_result schema r nowhere ≡ bare_ats (unknown_result schema r at)
result_bare schema None at = refl
result_bare schema (Some ty) at = only (is_none (type_spelled schema ty)) at

operands_bare : (schema : Schema) (vs : Visible) (k : JavaType) (a b : Expression) → both_operands schema vs k (unplaced a) (unplaced b) ≡ bare_ats (both_operands schema vs k a b)
operands_bare schema vs k a b =
    rw (type_bare schema vs a, type_bare schema vs b, at_bare a, at_bare b) (both _ _ _ _ (unless_bare (type_of schema vs a) k (at_of a)) (unless_bare (type_of schema vs b) k (at_of b)))

alike_bare : (a b : Option Ty) (at : Span) → unless_alike a b nowhere ≡ bare_ats (unless_alike a b at)
alike_bare (Some a) (Some b) at = only (not (same_ty a b)) at
alike_bare (Some a) None at = refl
alike_bare None b at = refl

compared_bare : (schema : Schema) (vs : Visible) (at : Span) (a b : Expression) → compared schema vs nowhere (unplaced a) (unplaced b) ≡ bare_ats (compared schema vs at a b)
compared_bare schema vs at a b =
    rw (type_bare schema vs a, type_bare schema vs b, at_bare a, at_bare b)
    (both _ _ _ _ (unless_scalar_bare (type_of schema vs a) (at_of a))
    (both _ _ _ _ (unless_scalar_bare (type_of schema vs b) (at_of b)) (alike_bare (scalar_ty (type_of schema vs a)) (scalar_ty (type_of schema vs b)) at)))

operator_bare : (schema : Schema) (vs : Visible) (at : Span) (op : Op) (a b : Expression) → operands schema vs nowhere op (unplaced a) (unplaced b) ≡ bare_ats (operands schema vs at op a b)
operator_bare schema vs at ops.Or a b = operands_bare schema vs of_bool a b
operator_bare schema vs at ops.And a b = operands_bare schema vs of_bool a b
operator_bare schema vs at ops.Eq a b = compared_bare schema vs at a b
operator_bare schema vs at ops.Ne a b = compared_bare schema vs at a b
operator_bare schema vs at ops.Lt a b = operands_bare schema vs of_long a b
operator_bare schema vs at ops.Le a b = operands_bare schema vs of_long a b
operator_bare schema vs at ops.Gt a b = operands_bare schema vs of_long a b
operator_bare schema vs at ops.Ge a b = operands_bare schema vs of_long a b
operator_bare schema vs at ops.Add a b = operands_bare schema vs of_long a b
operator_bare schema vs at ops.Sub a b = operands_bare schema vs of_long a b
operator_bare schema vs at ops.Mul a b = operands_bare schema vs of_long a b

copied_bare : (vs : Visible) (e : Expression) → copied_row vs (unplaced e) ≡ bare_ats (copied_row vs e)
copied_bare vs (plain.Var at x) = only (is_row (type_at vs x)) at
copied_bare vs (plain.Lit at x) = refl
copied_bare vs (plain.Field at e f) = refl
copied_bare vs (plain.Binary at op a b) = refl
copied_bare vs (plain.Not at e) = refl
copied_bare vs (plain.Equals at a b) = refl
copied_bare vs (plain.Size at x) = refl
copied_bare vs (plain.Get at x e) = refl
copied_bare vs (plain.Contains at x e) = refl
copied_bare vs (plain.Fetch at t) = refl
copied_bare vs (plain.Query at ty text es) = refl
copied_bare vs (plain.QueryLong at text es) = refl
copied_bare vs (plain.QueryBoolean at text es) = refl
copied_bare vs (plain.NewList at) = refl
copied_bare vs (plain.NewSet at) = refl
copied_bare vs (plain.NewSetOf at e) = refl

given_bare : (schema : Schema) (vs : Visible) (k : Option JavaType) (e : Expression) → given schema vs k (unplaced e) ≡ bare_ats (given schema vs k e)
given_bare schema vs k e = rw (type_bare schema vs e, at_bare e) (both _ _ _ _ (unless_both_bare (type_of schema vs e) k (at_of e)) (copied_bare vs e))

arguments_bare : (schema : Schema) (vs : Visible) (tys : List Ty) (es : Expressions) → arguments schema vs tys (unplaced_all es) ≡ bare_ats (arguments schema vs tys es)
arguments_bare schema vs [] es = refl
arguments_bare schema vs (ty ∷ tys) plain.NoMore = refl
arguments_bare schema vs (ty ∷ tys) (plain.And e es) =
    rw (type_bare schema vs e, at_bare e) (both _ _ _ _ (unless_bare (type_of schema vs e) (Of (ScalarOf ty)) (at_of e)) (arguments_bare schema vs tys es))

returned_bare : (schema : Schema) (vs : Visible) (r : Option Spelled) (at : Span) (e : Option Expression) → returned schema vs r nowhere (option_map unplaced e) ≡ bare_ats (returned schema vs r at e)
returned_bare schema vs None at None = refl
returned_bare schema vs None at (Some e) = rw (at_bare e) refl
returned_bare schema vs (Some ty) at None = refl
returned_bare schema vs (Some ty) at (Some e) = rw (type_bare schema vs e, at_bare e) (unless_both_bare (type_of schema vs e) (type_spelled schema ty) (at_of e))

element_bare : (a : Option Single) (k : Option JavaType) (at : Span) → unless_element a k nowhere ≡ bare_ats (unless_element a k at)
element_bare (Some a) (Some k) at = only _ at
element_bare (Some a) None at = refl
element_bare None k at = refl

set_bare : (r : Option Spelled) (at : Span) → set_result r nowhere ≡ bare_ats (set_result r at)
set_bare None at = refl
set_bare (Some ty) at = only (is_set_of_rows ty) at

aliased_bare : (k : Option JavaType) (x : List ℕ) (e : Expression) → aliased k x (unplaced e) ≡ bare_ats (aliased k x e)
aliased_bare k x (plain.Var at y) = only _ at
aliased_bare k x (plain.Lit at y) = refl
aliased_bare k x (plain.Field at e f) = refl
aliased_bare k x (plain.Binary at op a b) = refl
aliased_bare k x (plain.Not at e) = refl
aliased_bare k x (plain.Equals at a b) = refl
aliased_bare k x (plain.Size at y) = refl
aliased_bare k x (plain.Get at y e) = refl
aliased_bare k x (plain.Contains at y e) = refl
aliased_bare k x (plain.Fetch at t) = refl
aliased_bare k x (plain.Query at ty text es) = refl
aliased_bare k x (plain.QueryLong at text es) = refl
aliased_bare k x (plain.QueryBoolean at text es) = refl
aliased_bare k x (plain.NewList at) = refl
aliased_bare k x (plain.NewSet at) = refl
aliased_bare k x (plain.NewSetOf at e) = refl

mutual
  returns_bare : (p : Statements) → returns (unplaced_block p) ≡ returns p
  returns_bare plain.Nothing = refl
  returns_bare (plain.Then a p) = rw (returns_in_bare a, returns_bare p) refl

  returns_in_bare : (a : Statement) → returns_in (unplaced_statement a) ≡ returns_in a
  returns_in_bare (plain.If at c a) = returns_bare a
  returns_in_bare (plain.IfElse at c a b) = rw (returns_bare a, returns_bare b) refl
  returns_in_bare (plain.ForEach at ty x e body) = returns_bare body
  returns_in_bare (plain.While at c body) = returns_bare body
  returns_in_bare (plain.Return at e) = refl
  returns_in_bare (plain.Declare at ty x e) = refl
  returns_in_bare (plain.Assign at x e) = refl
  returns_in_bare (plain.Add at x e) = refl
  returns_in_bare (plain.Sort at x keys down) = refl
  returns_in_bare (plain.Print at e) = refl
  returns_in_bare (plain.Break at) = refl

length_bare : (tys : List Ty) (es : Expressions) → same_length tys (unplaced_all es) ≡ same_length tys es
length_bare [] plain.NoMore = refl
length_bare [] (plain.And e es) = refl
length_bare (ty ∷ tys) plain.NoMore = refl
length_bare (ty ∷ tys) (plain.And e es) = length_bare tys es

fits_bare : (q : Option PlainQuery) (es : Expressions) → fits_query q (unplaced_all es) ≡ fits_query q es
fits_bare None es = refl
fits_bare (Some q) es = length_bare (params_in q) es

-- ---- the rules

abbrev Bare : (Place → List Span) → Type 0
Bare rule = (p : Place) → rule (bare_place p) ≡ bare_ats (rule p)

pub unknown_bare : (schema : Schema) → Bare (unknown schema)
unknown_bare schema (value vs (plain.Var at x)) = only _ at
unknown_bare schema (value vs (plain.Size at x)) = only _ at
unknown_bare schema (value vs (plain.Get at x e)) = only _ at
unknown_bare schema (value vs (plain.Contains at x e)) = only _ at
unknown_bare schema (value vs (plain.Field at e f)) = rw (type_bare schema vs e) (column_bare schema (type_of schema vs e) f at)
unknown_bare schema (value vs (plain.Fetch at t)) = only _ at
unknown_bare schema (value vs (plain.Query at ty text es)) = only _ at
unknown_bare schema (value vs (plain.Lit at x)) = refl
unknown_bare schema (value vs (plain.Binary at op a b)) = refl
unknown_bare schema (value vs (plain.Not at e)) = refl
unknown_bare schema (value vs (plain.Equals at a b)) = refl
unknown_bare schema (value vs (plain.QueryLong at text es)) = refl
unknown_bare schema (value vs (plain.QueryBoolean at text es)) = refl
unknown_bare schema (value vs (plain.NewList at)) = refl
unknown_bare schema (value vs (plain.NewSet at)) = refl
unknown_bare schema (value vs (plain.NewSetOf at e)) = refl
unknown_bare schema (step vs w last (plain.Declare at ty x e)) = only _ at
unknown_bare schema (step vs w last (plain.Assign at x e)) = only _ at
unknown_bare schema (step vs w last (plain.Add at x e)) = only _ at
unknown_bare schema (step vs w last (plain.Sort at x keys down)) = both _ _ _ _ (only _ at) (keys_bare schema (listed_in (type_at vs x)) keys at)
unknown_bare schema (step vs w last (plain.ForEach at ty x e body)) = only _ at
unknown_bare schema (step vs w last (plain.If at c a)) = refl
unknown_bare schema (step vs w last (plain.IfElse at c a b)) = refl
unknown_bare schema (step vs w last (plain.While at c body)) = refl
unknown_bare schema (step vs w last (plain.Print at e)) = refl
unknown_bare schema (step vs w last (plain.Return at e)) = refl
unknown_bare schema (step vs w last (plain.Break at)) = refl
unknown_bare schema (param vs at p) = only _ at
unknown_bare schema (whole double m) = result_bare schema m.result m.span

pub mismatch_bare : (schema : Schema) (read : List ℕ → Option PlainQuery) (r : Option Spelled) → Bare (mismatch schema read r)
mismatch_bare schema read r (value vs (plain.Binary at op a b)) = operator_bare schema vs at op a b
mismatch_bare schema read r (value vs (plain.Not at e)) = rw (type_bare schema vs e, at_bare e) (unless_bare (type_of schema vs e) of_bool (at_of e))
mismatch_bare schema read r (value vs (plain.Equals at a b)) = operands_bare schema vs of_text a b
mismatch_bare schema read r (value vs (plain.Size at x)) = passes_bare is_many (type_at vs x) at
mismatch_bare schema read r (value vs (plain.Get at x e)) = rw (type_bare schema vs e, at_bare e) (both _ _ _ _ (passes_bare is_listed (type_at vs x) at) (unless_bare (type_of schema vs e) of_long (at_of e)))
mismatch_bare schema read r (value vs (plain.Contains at x e)) =
    rw (type_bare schema vs e, at_bare e)
    (both _ _ _ _ (passes_bare (λ (k : JavaType). not (is_none (scalars_of (Some k)))) (type_at vs x) at) (unless_single_bare (type_of schema vs e) (scalars_of (type_at vs x)) (at_of e)))
mismatch_bare schema read r (value vs (plain.Query at ty text es)) = arguments_bare schema vs (params_of (read text)) es
mismatch_bare schema read r (value vs (plain.QueryLong at text es)) = arguments_bare schema vs (params_of (read text)) es
mismatch_bare schema read r (value vs (plain.QueryBoolean at text es)) = arguments_bare schema vs (params_of (read text)) es
mismatch_bare schema read r (value vs (plain.NewSetOf at e)) = rw (type_bare schema vs e) (passes_bare lists_scalars (type_of schema vs e) at)
mismatch_bare schema read r (value vs (plain.Lit at x)) = refl
mismatch_bare schema read r (value vs (plain.Var at x)) = refl
mismatch_bare schema read r (value vs (plain.Field at e f)) = refl
mismatch_bare schema read r (value vs (plain.Fetch at t)) = refl
mismatch_bare schema read r (value vs (plain.NewList at)) = refl
mismatch_bare schema read r (value vs (plain.NewSet at)) = refl
mismatch_bare schema read r (step vs w last (plain.Declare at ty x e)) = both _ _ _ _ (only (is_set_of_rows ty) at) (given_bare schema vs (type_spelled schema ty) e)
mismatch_bare schema read r (step vs w last (plain.Assign at x e)) = given_bare schema vs (type_at vs x) e
mismatch_bare schema read r (step vs w last (plain.Add at x e)) =
    rw (type_bare schema vs e, at_bare e) (both _ _ _ _ (passes_bare is_many (type_at vs x) at) (unless_single_bare (type_of schema vs e) (element_of (type_at vs x)) (at_of e)))
mismatch_bare schema read r (step vs w last (plain.Sort at x keys down)) = passes_bare is_listed (type_at vs x) at
mismatch_bare schema read r (step vs w last (plain.If at c a)) = rw (type_bare schema vs c, at_bare c) (unless_bare (type_of schema vs c) of_bool (at_of c))
mismatch_bare schema read r (step vs w last (plain.IfElse at c a b)) = rw (type_bare schema vs c, at_bare c) (unless_bare (type_of schema vs c) of_bool (at_of c))
mismatch_bare schema read r (step vs w last (plain.ForEach at ty x e body)) =
    rw (type_bare schema vs e, at_bare e)
    (both _ _ _ _ (only (is_set_of_rows ty) at)
    (both _ _ _ _ (passes_bare is_many_kindred (type_of schema vs e) (at_of e)) (element_bare (walked_element (type_of schema vs e)) (type_spelled schema ty) (at_of e))))
mismatch_bare schema read r (step vs w last (plain.While at c body)) = rw (type_bare schema vs c, at_bare c) (unless_bare (type_of schema vs c) of_bool (at_of c))
mismatch_bare schema read r (step vs w last (plain.Print at e)) = rw (type_bare schema vs e, at_bare e) (unless_scalar_bare (type_of schema vs e) (at_of e))
mismatch_bare schema read r (step vs w last (plain.Return at e)) = returned_bare schema vs r at e
mismatch_bare schema read r (step vs w last (plain.Break at)) = refl
mismatch_bare schema read r (param vs at p) = only (is_set_of_rows p.ty) at
mismatch_bare schema read r (whole double m) = set_bare m.result m.span

pub double_bare : Bare double_name
double_bare (step vs w last (plain.Declare at ty x e)) = only _ at
double_bare (step vs w last (plain.ForEach at ty x e body)) = only _ at
double_bare (step vs w last (plain.Assign at x e)) = refl
double_bare (step vs w last (plain.Add at x e)) = refl
double_bare (step vs w last (plain.Sort at x keys down)) = refl
double_bare (step vs w last (plain.If at c a)) = refl
double_bare (step vs w last (plain.IfElse at c a b)) = refl
double_bare (step vs w last (plain.While at c body)) = refl
double_bare (step vs w last (plain.Print at e)) = refl
double_bare (step vs w last (plain.Return at e)) = refl
double_bare (step vs w last (plain.Break at)) = refl
double_bare (param vs at p) = only _ at
double_bare (whole double m) = only double m.span
double_bare (value vs e) = refl

texts_bare : (schema : Schema) (vs : Visible) (a b : Expression) → two_texts schema vs (unplaced a) (unplaced b) ≡ two_texts schema vs a b
texts_bare schema vs a b = rw (type_bare schema vs a, type_bare schema vs b) refl

operator_texts : (schema : Schema) (vs : Visible) (at : Span) (op : Op) (a b : Expression) → text_identity schema (value vs (plain.Binary nowhere op (unplaced a) (unplaced b))) ≡ bare_ats (text_identity schema (value vs (plain.Binary at op a b)))
operator_texts schema vs at ops.Eq a b = rw (texts_bare schema vs a b) (only (two_texts schema vs a b) at)
operator_texts schema vs at ops.Ne a b = rw (texts_bare schema vs a b) (only (two_texts schema vs a b) at)
operator_texts schema vs at ops.Or a b = refl
operator_texts schema vs at ops.And a b = refl
operator_texts schema vs at ops.Lt a b = refl
operator_texts schema vs at ops.Le a b = refl
operator_texts schema vs at ops.Gt a b = refl
operator_texts schema vs at ops.Ge a b = refl
operator_texts schema vs at ops.Add a b = refl
operator_texts schema vs at ops.Sub a b = refl
operator_texts schema vs at ops.Mul a b = refl

pub identity_bare : (schema : Schema) → Bare (text_identity schema)
identity_bare schema (value vs (plain.Binary at op a b)) = operator_texts schema vs at op a b
identity_bare schema (value vs (plain.Lit at x)) = refl
identity_bare schema (value vs (plain.Var at x)) = refl
identity_bare schema (value vs (plain.Field at e f)) = refl
identity_bare schema (value vs (plain.Not at e)) = refl
identity_bare schema (value vs (plain.Equals at a b)) = refl
identity_bare schema (value vs (plain.Size at x)) = refl
identity_bare schema (value vs (plain.Get at x e)) = refl
identity_bare schema (value vs (plain.Contains at x e)) = refl
identity_bare schema (value vs (plain.Fetch at t)) = refl
identity_bare schema (value vs (plain.Query at ty text es)) = refl
identity_bare schema (value vs (plain.QueryLong at text es)) = refl
identity_bare schema (value vs (plain.QueryBoolean at text es)) = refl
identity_bare schema (value vs (plain.NewList at)) = refl
identity_bare schema (value vs (plain.NewSet at)) = refl
identity_bare schema (value vs (plain.NewSetOf at e)) = refl
identity_bare schema (step vs w last a) = refl
identity_bare schema (param vs at p) = refl
identity_bare schema (whole double m) = refl

pub alias_bare : (schema : Schema) → Bare (list_alias schema)
alias_bare schema (step vs w last (plain.Declare at ty x e)) = aliased_bare (type_spelled schema ty) x e
alias_bare schema (step vs w last (plain.Assign at x e)) = aliased_bare (type_at vs x) x e
alias_bare schema (step vs w last (plain.Add at x e)) = refl
alias_bare schema (step vs w last (plain.Sort at x keys down)) = refl
alias_bare schema (step vs w last (plain.If at c a)) = refl
alias_bare schema (step vs w last (plain.IfElse at c a b)) = refl
alias_bare schema (step vs w last (plain.ForEach at ty x e body)) = refl
alias_bare schema (step vs w last (plain.While at c body)) = refl
alias_bare schema (step vs w last (plain.Print at e)) = refl
alias_bare schema (step vs w last (plain.Return at e)) = refl
alias_bare schema (step vs w last (plain.Break at)) = refl
alias_bare schema (value vs e) = refl
alias_bare schema (param vs at p) = refl
alias_bare schema (whole double m) = refl

pub modified_bare : Bare modified_in_loop
modified_bare (step vs w last (plain.Assign at x e)) = only _ at
modified_bare (step vs w last (plain.Add at x e)) = only _ at
modified_bare (step vs w last (plain.Sort at x keys down)) = only _ at
modified_bare (step vs w last (plain.Declare at ty x e)) = refl
modified_bare (step vs w last (plain.If at c a)) = refl
modified_bare (step vs w last (plain.IfElse at c a b)) = refl
modified_bare (step vs w last (plain.ForEach at ty x e body)) = refl
modified_bare (step vs w last (plain.While at c body)) = refl
modified_bare (step vs w last (plain.Print at e)) = refl
modified_bare (step vs w last (plain.Return at e)) = refl
modified_bare (step vs w last (plain.Break at)) = refl
modified_bare (value vs e) = refl
modified_bare (param vs at p) = refl
modified_bare (whole double m) = refl

pub query_bare : (schema : Schema) (read : List ℕ → Option PlainQuery) → Bare (bad_query schema read)
query_bare schema read (value vs (plain.Query at ty text es)) = only _ at
query_bare schema read (value vs (plain.QueryLong at text es)) = only _ at
query_bare schema read (value vs (plain.QueryBoolean at text es)) = only _ at
query_bare schema read (value vs (plain.Lit at x)) = refl
query_bare schema read (value vs (plain.Var at x)) = refl
query_bare schema read (value vs (plain.Field at e f)) = refl
query_bare schema read (value vs (plain.Binary at op a b)) = refl
query_bare schema read (value vs (plain.Not at e)) = refl
query_bare schema read (value vs (plain.Equals at a b)) = refl
query_bare schema read (value vs (plain.Size at x)) = refl
query_bare schema read (value vs (plain.Get at x e)) = refl
query_bare schema read (value vs (plain.Contains at x e)) = refl
query_bare schema read (value vs (plain.Fetch at t)) = refl
query_bare schema read (value vs (plain.NewList at)) = refl
query_bare schema read (value vs (plain.NewSet at)) = refl
query_bare schema read (value vs (plain.NewSetOf at e)) = refl
query_bare schema read (step vs w last a) = refl
query_bare schema read (param vs at p) = refl
query_bare schema read (whole double m) = refl

pub order_bare : (read : List ℕ → Option PlainQuery) → Bare (unordered_query read)
order_bare read (value vs (plain.Query at ty text es)) = only _ at
order_bare read (value vs (plain.QueryLong at text es)) = refl
order_bare read (value vs (plain.QueryBoolean at text es)) = refl
order_bare read (value vs (plain.Lit at x)) = refl
order_bare read (value vs (plain.Var at x)) = refl
order_bare read (value vs (plain.Field at e f)) = refl
order_bare read (value vs (plain.Binary at op a b)) = refl
order_bare read (value vs (plain.Not at e)) = refl
order_bare read (value vs (plain.Equals at a b)) = refl
order_bare read (value vs (plain.Size at x)) = refl
order_bare read (value vs (plain.Get at x e)) = refl
order_bare read (value vs (plain.Contains at x e)) = refl
order_bare read (value vs (plain.Fetch at t)) = refl
order_bare read (value vs (plain.NewList at)) = refl
order_bare read (value vs (plain.NewSet at)) = refl
order_bare read (value vs (plain.NewSetOf at e)) = refl
order_bare read (step vs w last a) = refl
order_bare read (param vs at p) = refl
order_bare read (whole double m) = refl

pub return_bare : Bare return_place
return_bare (step vs w last (plain.Return at e)) = only _ at
return_bare (step vs w last (plain.Declare at ty x e)) = refl
return_bare (step vs w last (plain.Assign at x e)) = refl
return_bare (step vs w last (plain.Add at x e)) = refl
return_bare (step vs w last (plain.Sort at x keys down)) = refl
return_bare (step vs w last (plain.If at c a)) = refl
return_bare (step vs w last (plain.IfElse at c a b)) = refl
return_bare (step vs w last (plain.ForEach at ty x e body)) = refl
return_bare (step vs w last (plain.While at c body)) = refl
return_bare (step vs w last (plain.Print at e)) = refl
return_bare (step vs w last (plain.Break at)) = refl
return_bare (whole double m) = rw (returns_bare m.body) (only (not (is_none m.result) && not (returns m.body)) m.span)
return_bare (value vs e) = refl
return_bare (param vs at p) = refl

pub arity_bare : (read : List ℕ → Option PlainQuery) → Bare (arity read)
arity_bare read (value vs (plain.Query at ty text es)) = rw (fits_bare (read text) es) (only (not (fits_query (read text) es)) at)
arity_bare read (value vs (plain.QueryLong at text es)) = rw (fits_bare (read text) es) (only (not (fits_query (read text) es)) at)
arity_bare read (value vs (plain.QueryBoolean at text es)) = rw (fits_bare (read text) es) (only (not (fits_query (read text) es)) at)
arity_bare read (value vs (plain.Lit at x)) = refl
arity_bare read (value vs (plain.Var at x)) = refl
arity_bare read (value vs (plain.Field at e f)) = refl
arity_bare read (value vs (plain.Binary at op a b)) = refl
arity_bare read (value vs (plain.Not at e)) = refl
arity_bare read (value vs (plain.Equals at a b)) = refl
arity_bare read (value vs (plain.Size at x)) = refl
arity_bare read (value vs (plain.Get at x e)) = refl
arity_bare read (value vs (plain.Contains at x e)) = refl
arity_bare read (value vs (plain.Fetch at t)) = refl
arity_bare read (value vs (plain.NewList at)) = refl
arity_bare read (value vs (plain.NewSet at)) = refl
arity_bare read (value vs (plain.NewSetOf at e)) = refl
arity_bare read (step vs w last a) = refl
arity_bare read (param vs at p) = refl
arity_bare read (whole double m) = refl

pub break_bare : Bare break_place
break_bare (step vs w last (plain.Break at)) = only _ at
break_bare (step vs w last (plain.Declare at ty x e)) = refl
break_bare (step vs w last (plain.Assign at x e)) = refl
break_bare (step vs w last (plain.Add at x e)) = refl
break_bare (step vs w last (plain.Sort at x keys down)) = refl
break_bare (step vs w last (plain.If at c a)) = refl
break_bare (step vs w last (plain.IfElse at c a b)) = refl
break_bare (step vs w last (plain.ForEach at ty x e body)) = refl
break_bare (step vs w last (plain.While at c body)) = refl
break_bare (step vs w last (plain.Print at e)) = refl
break_bare (step vs w last (plain.Return at e)) = refl
break_bare (value vs e) = refl
break_bare (param vs at p) = refl
break_bare (whole double m) = refl
