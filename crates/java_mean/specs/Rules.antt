-- The type rules, each a definition of its own: where a place of a program breaks it.
use Rattle.std.specs.Prelude.{ℕ, Bool, true, false, not, ◌&&◌, ◌||◌, List, [], ◌∷◌, ◌++◌, codes, nat_eq, bytes_eq, slice_get, if◌then◌else◌}
use Rattle.std.specs.List.{list_any}
use Rattle.std.specs.Option.{option_map}
use Rattle.std.specs.declared.option.Option.{Option}
use Rattle.std.specs.declared.option.Option.TheVariants.{Some, None}
use Rattle.qbs_base.specs.declared.columns.Column.{Column}
use Rattle.qbs_base.specs.declared.scalar.Scalar.{Scalar}
use Rattle.qbs_base.specs.declared.scalar.Scalar.TheVariants as scalars
use Rattle.qbs_base.specs.declared.scalar.Ty.{Ty}
use Rattle.qbs_base.specs.declared.scalar.Ty.TheVariants as tys
use Rattle.qbs_base.specs.declared.span.Span.{Span}
use Rattle.qbs_base.specs.Values.{Schema}
use Rattle.qbs_base.specs.Columns.{table_number, column_number, columns_at, same_ty}
use Rattle.sql_ast.specs.Answers.{is_order_complete}
use Rattle.sql_ast.specs.Tree.{PlainQuery, Listing, Number, Truth}
use Rattle.sql_ast.specs.Valid.{params_in}
use Rattle.java_ast.specs.declared.tree.Op.{Op}
use Rattle.java_ast.specs.declared.tree.Op.TheVariants as ops
use Rattle.java_ast.specs.Tree.{Spelled, Table, SetOf, Expression, Lit, Var, Field, Binary, Not, Equals, Size, Get, Contains, Fetch, Query, QueryLong, QueryBoolean, NewList, NewSet, NewSetOf, Expressions, NoMore, And, Statement, Declare, Assign, Add, Sort, If, IfElse, ForEach, While, Print, Return, Break, Statements, Nothing, Then}
use Rattle.java_mean.specs.Asks.{element_type}
use Rattle.java_mean.specs.Types.{Single, ScalarOf, RowOf, JavaType, Of, Listed, Distinct, single_spelled, type_spelled}
pub use Rattle.java_mean.specs.declared.types.Kindred.{Kindred}
pub use Rattle.java_mean.specs.declared.types.Kindred.TheVariants.{Only, AnyList, AnySet}
use Rattle.java_mean.specs.Visible.{Visible, is_visible, type_at}
use Rattle.java_mean.specs.Places.{Around, Place, value, step, param, whole}

-- ---- Types of expressions

abbrev pub of_long : JavaType
of_long = Of (ScalarOf tys.Long)

abbrev pub of_bool : JavaType
of_bool = Of (ScalarOf tys.Bool)

abbrev pub of_text : JavaType
of_text = Of (ScalarOf tys.Text)

abbrev pub ty_of : Scalar → Ty
ty_of (scalars.Long n) = tys.Long
ty_of (scalars.Bool b) = tys.Bool
ty_of (scalars.Text t) = tys.Text

abbrev pub type_of_op : Op → JavaType
type_of_op ops.Add = of_long
type_of_op ops.Sub = of_long
type_of_op ops.Mul = of_long
type_of_op _ = of_bool

abbrev pub type_at_number : List Column → Option ℕ → Option Ty
type_at_number columns None = None
type_at_number columns (Some i) = option_map (λ (c : Column). c.ty) (slice_get columns i)

-- the type of the column with this name
abbrev pub column_type : List Column → List ℕ → Option Ty
column_type columns f = type_at_number columns (column_number columns f)

-- the type of a row's column
abbrev pub column_in : Schema → Option Kindred → List ℕ → Option Ty
column_in schema (Some (Only (Of (RowOf n)))) f = column_type (columns_at schema n) f
column_in schema _ f = None

-- the elements of a list
abbrev pub listed_in : Option JavaType → Option Single
listed_in (Some (Listed a)) = Some a
listed_in _ = None

-- a set by its head, of what a query lists: where those aren't scalars its elements aren't known, which breaks no further rule
abbrev pub set_of : Option Kindred → Option Kindred
set_of (Some (Only (Listed (ScalarOf ty)))) = Some (Only (Distinct (ScalarOf ty)))
set_of _ = Some AnySet

-- a list of scalars, of which a set can be made
abbrev pub lists_scalars : Kindred → Bool
lists_scalars (Only (Listed (ScalarOf ty))) = true
lists_scalars _ = false

-- The type of an expression, by its head: none where a variable, a table or a column isn't known, which
-- breaks no further rule.
abbrev pub type_of : Schema → Visible → Expression → Option Kindred
type_of schema vs (Lit at x) = Some (Only (Of (ScalarOf (ty_of x))))
type_of schema vs (Var at x) = option_map Only (type_at vs x)
type_of schema vs (Field at e f) = option_map (λ (ty : Ty). Only (Of (ScalarOf ty))) (column_in schema (type_of schema vs e) f)
type_of schema vs (Binary at op a b) = Some (Only (type_of_op op))
type_of schema vs (Not at e) = Some (Only of_bool)
type_of schema vs (Equals at a b) = Some (Only of_bool)
type_of schema vs (Size at x) = Some (Only of_long)
type_of schema vs (Get at x e) = option_map (λ (a : Single). Only (Of a)) (listed_in (type_at vs x))
type_of schema vs (Contains at x e) = Some (Only of_bool)
type_of schema vs (Fetch at t) = option_map (λ (n : ℕ). Only (Listed (RowOf n))) (table_number schema t)
type_of schema vs (Query at ty text es) = option_map (λ (a : Single). Only (Listed a)) (single_spelled schema ty)
type_of schema vs (QueryLong at text es) = Some (Only of_long)
type_of schema vs (QueryBoolean at text es) = Some (Only of_bool)
type_of schema vs (NewList at) = Some AnyList
type_of schema vs (NewSet at) = Some AnySet
type_of schema vs (NewSetOf at e) = set_of (type_of schema vs e)

abbrev pub at_of : Expression → Span
at_of (Lit at x) = at
at_of (Var at x) = at
at_of (Field at e f) = at
at_of (Binary at op a b) = at
at_of (Not at e) = at
at_of (Equals at a b) = at
at_of (Size at x) = at
at_of (Get at x e) = at
at_of (Contains at x e) = at
at_of (Fetch at t) = at
at_of (Query at ty text es) = at
at_of (QueryLong at text es) = at
at_of (QueryBoolean at text es) = at
at_of (NewList at) = at
at_of (NewSet at) = at
at_of (NewSetOf at e) = at

-- ---- Words of the rules: each gives the place where something is broken, and says nothing of what has no type

abbrev pub only_if : Bool → Span → List Span
only_if b at = if b then at ∷ [] else []

abbrev pub is_none : {A : Type 0} → Option A → Bool
is_none None = true
is_none (Some x) = false

abbrev pub same_single : Single → Single → Bool
same_single (ScalarOf a) (ScalarOf b) = same_ty a b
same_single (RowOf m) (RowOf n) = nat_eq m n
same_single _ _ = false

abbrev pub same_type : JavaType → JavaType → Bool
same_type (Of a) (Of b) = same_single a b
same_type (Listed a) (Listed b) = same_single a b
same_type (Distinct a) (Distinct b) = same_single a b
same_type _ _ = false

-- what is of this kindred may be of the type
abbrev pub may_be : Kindred → JavaType → Bool
may_be (Only k) j = same_type k j
may_be AnyList (Listed a) = true
may_be AnySet (Distinct a) = true
may_be _ j = false

abbrev pub unless : Option Kindred → JavaType → Span → List Span
unless None j at = []
unless (Some k) j at = only_if (not (may_be k j)) at

abbrev pub unless_both : Option Kindred → Option JavaType → Span → List Span
unless_both k None at = []
unless_both k (Some j) at = unless k j at

abbrev pub unless_single : Option Kindred → Option Single → Span → List Span
unless_single k None at = []
unless_single k (Some a) at = unless k (Of a) at

abbrev pub is_scalar : Kindred → Bool
is_scalar (Only (Of (ScalarOf ty))) = true
is_scalar _ = false

abbrev pub unless_scalar : Option Kindred → Span → List Span
unless_scalar None at = []
unless_scalar (Some k) at = only_if (not (is_scalar k)) at

-- a list or a set
abbrev pub is_many : JavaType → Bool
is_many (Of a) = false
is_many (Listed a) = true
is_many (Distinct a) = true

abbrev pub is_many_kindred : Kindred → Bool
is_many_kindred (Only k) = is_many k
is_many_kindred AnyList = true
is_many_kindred AnySet = true

abbrev pub is_listed : JavaType → Bool
is_listed (Listed a) = true
is_listed _ = false

-- the elements of a list or a set
abbrev pub element : JavaType → Option Single
element (Of a) = None
element (Listed a) = Some a
element (Distinct a) = Some a

abbrev pub element_of : Option JavaType → Option Single
element_of None = None
element_of (Some k) = element k

-- the scalars of a list or a set of scalars
abbrev pub scalars_of : Option JavaType → Option Single
scalars_of (Some (Listed (ScalarOf ty))) = Some (ScalarOf ty)
scalars_of (Some (Distinct (ScalarOf ty))) = Some (ScalarOf ty)
scalars_of _ = None

-- the place, where there is a type that does not pass the test
abbrev pub unless_passes : {A : Type 0} → (A → Bool) → Option A → Span → List Span
unless_passes test None at = []
unless_passes test (Some k) at = only_if (not (test k)) at

-- ---- 1. Unknown: each variable, table and column is known

abbrev pub unknown_variable : Visible → List ℕ → Span → List Span
unknown_variable vs x at = only_if (not (is_visible vs x)) at

-- the table that a type names isn't there
abbrev pub unknown_type : Schema → Spelled → Span → List Span
unknown_type schema ty at = only_if (is_none (type_spelled schema ty)) at

-- a field of what is no row, or of a row without such a column
abbrev pub unknown_column : Schema → Option Kindred → List ℕ → Span → List Span
unknown_column schema None f at = []
unknown_column schema (Some k) f at = only_if (is_none (column_in schema (Some k) f)) at

-- keys of lists, one by one
abbrev pub unknown_keys : Schema → Option Single → List (List ℕ) → Span → List Span
unknown_keys schema None keys at = []
unknown_keys schema (Some a) [] at = []
unknown_keys schema (Some a) (key ∷ keys) at = unknown_column schema (Some (Only (Of a))) key at ++ unknown_keys schema (Some a) keys at

abbrev pub unknown_result : Schema → Option Spelled → Span → List Span
unknown_result schema None at = []
unknown_result schema (Some ty) at = unknown_type schema ty at

abbrev pub unknown : Schema → Place → List Span
unknown schema (value vs (Var at x)) = unknown_variable vs x at
unknown schema (value vs (Size at x)) = unknown_variable vs x at
unknown schema (value vs (Get at x e)) = unknown_variable vs x at
unknown schema (value vs (Contains at x e)) = unknown_variable vs x at
unknown schema (value vs (Field at e f)) = unknown_column schema (type_of schema vs e) f at
unknown schema (value vs (Fetch at t)) = only_if (is_none (table_number schema t)) at
unknown schema (value vs (Query at ty text es)) = only_if (is_none (single_spelled schema ty)) at
unknown schema (step vs w last (Declare at ty x e)) = unknown_type schema ty at
unknown schema (step vs w last (Assign at x e)) = unknown_variable vs x at
unknown schema (step vs w last (Add at x e)) = unknown_variable vs x at
unknown schema (step vs w last (Sort at x keys down)) = unknown_variable vs x at ++ unknown_keys schema (listed_in (type_at vs x)) keys at
unknown schema (step vs w last (ForEach at ty x e body)) = unknown_type schema ty at
unknown schema (param vs at p) = unknown_type schema p.ty at
unknown schema (whole double m) = unknown_result schema m.result m.span
unknown schema _ = []

-- ---- 2. Mismatch: operands, values and conditions have the types that they are to have

-- a set has scalars
abbrev pub is_set_of_rows : Spelled → Bool
is_set_of_rows (SetOf (Table name)) = true
is_set_of_rows _ = false

abbrev pub set_of_rows : Spelled → Span → List Span
set_of_rows ty at = only_if (is_set_of_rows ty) at

abbrev pub both_operands : Schema → Visible → JavaType → Expression → Expression → List Span
both_operands schema vs k a b = unless (type_of schema vs a) k (at_of a) ++ unless (type_of schema vs b) k (at_of b)

abbrev pub scalar_ty : Option Kindred → Option Ty
scalar_ty (Some (Only (Of (ScalarOf ty)))) = Some ty
scalar_ty _ = None

-- two scalars of different types
abbrev pub unless_alike : Option Ty → Option Ty → Span → List Span
unless_alike (Some a) (Some b) at = only_if (not (same_ty a b)) at
unless_alike _ _ at = []

abbrev pub compared : Schema → Visible → Span → Expression → Expression → List Span
compared schema vs at a b = unless_scalar (type_of schema vs a) (at_of a) ++ (unless_scalar (type_of schema vs b) (at_of b) ++ unless_alike (scalar_ty (type_of schema vs a)) (scalar_ty (type_of schema vs b)) at)

abbrev pub operands : Schema → Visible → Span → Op → Expression → Expression → List Span
operands schema vs at ops.Or a b = both_operands schema vs of_bool a b
operands schema vs at ops.And a b = both_operands schema vs of_bool a b
operands schema vs at ops.Eq a b = compared schema vs at a b
operands schema vs at ops.Ne a b = compared schema vs at a b
operands schema vs at _ a b = both_operands schema vs of_long a b

abbrev pub is_row : Option JavaType → Bool
is_row (Some (Of (RowOf n))) = true
is_row _ = false

-- a variable of a row is no value of a variable
abbrev pub copied_row : Visible → Expression → List Span
copied_row vs (Var at x) = only_if (is_row (type_at vs x)) at
copied_row vs _ = []

-- a value for a variable of the type
abbrev pub given : Schema → Visible → Option JavaType → Expression → List Span
given schema vs k e = unless_both (type_of schema vs e) k (at_of e) ++ copied_row vs e

-- arguments of the parameters' types, as far as there are both
abbrev pub arguments : Schema → Visible → List Ty → Expressions → List Span
arguments schema vs [] es = []
arguments schema vs (ty ∷ types) NoMore = []
arguments schema vs (ty ∷ types) (And e es) = unless (type_of schema vs e) (Of (ScalarOf ty)) (at_of e) ++ arguments schema vs types es

abbrev pub params_of : Option PlainQuery → List Ty
params_of None = []
params_of (Some q) = params_in q

-- the elements of what a for-each walks
abbrev pub walked_element : Option Kindred → Option Single
walked_element (Some (Only k)) = element k
walked_element _ = None

-- a value where the method has a result, none where it has none
abbrev pub returned : Schema → Visible → Option Spelled → Span → Option Expression → List Span
returned schema vs None at None = []
returned schema vs None at (Some e) = at_of e ∷ []
returned schema vs (Some ty) at None = at ∷ []
returned schema vs (Some ty) at (Some e) = unless_both (type_of schema vs e) (type_spelled schema ty) (at_of e)

-- the elements are of the type that a for-each declares
abbrev pub unless_element : Option Single → Option JavaType → Span → List Span
unless_element (Some a) (Some k) at = only_if (not (same_type (Of a) k)) at
unless_element _ _ at = []

abbrev pub set_result : Option Spelled → Span → List Span
set_result None at = []
set_result (Some ty) at = set_of_rows ty at

abbrev pub mismatch : Schema → (List ℕ → Option PlainQuery) → Option Spelled → Place → List Span
mismatch schema read r (value vs (Binary at op a b)) = operands schema vs at op a b
mismatch schema read r (value vs (Not at e)) = unless (type_of schema vs e) of_bool (at_of e)
mismatch schema read r (value vs (Equals at a b)) = both_operands schema vs of_text a b
mismatch schema read r (value vs (Size at x)) = unless_passes is_many (type_at vs x) at
mismatch schema read r (value vs (Get at x e)) = unless_passes is_listed (type_at vs x) at ++ unless (type_of schema vs e) of_long (at_of e)
mismatch schema read r (value vs (Contains at x e)) = unless_passes (λ (k : JavaType). not (is_none (scalars_of (Some k)))) (type_at vs x) at ++ unless_single (type_of schema vs e) (scalars_of (type_at vs x)) (at_of e)
mismatch schema read r (value vs (Query at ty text es)) = arguments schema vs (params_of (read text)) es
mismatch schema read r (value vs (QueryLong at text es)) = arguments schema vs (params_of (read text)) es
mismatch schema read r (value vs (QueryBoolean at text es)) = arguments schema vs (params_of (read text)) es
mismatch schema read r (value vs (NewSetOf at e)) = unless_passes lists_scalars (type_of schema vs e) at
mismatch schema read r (step vs w last (Declare at ty x e)) = set_of_rows ty at ++ given schema vs (type_spelled schema ty) e
mismatch schema read r (step vs w last (Assign at x e)) = given schema vs (type_at vs x) e
mismatch schema read r (step vs w last (Add at x e)) = unless_passes is_many (type_at vs x) at ++ unless_single (type_of schema vs e) (element_of (type_at vs x)) (at_of e)
mismatch schema read r (step vs w last (Sort at x keys down)) = unless_passes is_listed (type_at vs x) at
mismatch schema read r (step vs w last (If at c a)) = unless (type_of schema vs c) of_bool (at_of c)
mismatch schema read r (step vs w last (IfElse at c a b)) = unless (type_of schema vs c) of_bool (at_of c)
mismatch schema read r (step vs w last (ForEach at ty x e body)) = set_of_rows ty at ++ (unless_passes is_many_kindred (type_of schema vs e) (at_of e) ++ unless_element (walked_element (type_of schema vs e)) (type_spelled schema ty) (at_of e))
mismatch schema read r (step vs w last (While at c body)) = unless (type_of schema vs c) of_bool (at_of c)
mismatch schema read r (step vs w last (Print at e)) = unless_scalar (type_of schema vs e) (at_of e)
mismatch schema read r (step vs w last (Return at e)) = returned schema vs r at e
mismatch schema read r (param vs at p) = set_of_rows p.ty at
mismatch schema read r (whole double m) = set_result m.result m.span
mismatch schema read r _ = []

-- ---- 3. DoubleName: no visible variable is declared again, none is called `db`, no two methods have one name

abbrev pub taken : Visible → List ℕ → Bool
taken vs x = is_visible vs x || bytes_eq x (codes "db")

abbrev pub double_name : Place → List Span
double_name (step vs w last (Declare at ty x e)) = only_if (taken vs x) at
double_name (step vs w last (ForEach at ty x e body)) = only_if (taken vs x) at
double_name (param vs at p) = only_if (taken vs p.name) at
double_name (whole double m) = only_if double m.span
double_name _ = []

-- ---- 4. TextIdentity: two texts are compared by `equals` alone

abbrev pub is_text : Option Ty → Bool
is_text (Some tys.Text) = true
is_text _ = false

abbrev pub two_texts : Schema → Visible → Expression → Expression → Bool
two_texts schema vs a b = is_text (scalar_ty (type_of schema vs a)) && is_text (scalar_ty (type_of schema vs b))

abbrev pub text_identity : Schema → Place → List Span
text_identity schema (value vs (Binary at ops.Eq a b)) = only_if (two_texts schema vs a b) at
text_identity schema (value vs (Binary at ops.Ne a b)) = only_if (two_texts schema vs a b) at
text_identity schema _ = []

-- ---- 5. ListAlias: a variable of a list or a set is not given the value of another variable

abbrev pub has_many : Option JavaType → Bool
has_many None = false
has_many (Some k) = is_many k

abbrev pub aliased : Option JavaType → List ℕ → Expression → List Span
aliased k x (Var at y) = only_if (has_many k && not (bytes_eq x y)) at
aliased k x _ = []

abbrev pub list_alias : Schema → Place → List Span
list_alias schema (step vs w last (Declare at ty x e)) = aliased (type_spelled schema ty) x e
list_alias schema (step vs w last (Assign at x e)) = aliased (type_at vs x) x e
list_alias schema _ = []

-- ---- 6. ModifiedInLoop: what a for-each walks is not added to, sorted or assigned in its body

abbrev pub is_walked : Around → List ℕ → Bool
is_walked w x = list_any (bytes_eq x) w.walked

abbrev pub modified_in_loop : Place → List Span
modified_in_loop (step vs w last (Assign at x e)) = only_if (is_walked w x) at
modified_in_loop (step vs w last (Add at x e)) = only_if (is_walked w x) at
modified_in_loop (step vs w last (Sort at x keys down)) = only_if (is_walked w x) at
modified_in_loop _ = []

-- ---- 7. BadQuery: a text has a query of the call's form and elements

abbrev pub is_single : Single → Option Single → Bool
is_single a None = false
is_single a (Some b) = same_single a b

abbrev pub lists : Schema → Option Single → Option PlainQuery → Bool
lists schema (Some a) (Some (Listing q)) = is_single a (element_type schema q q.group)
lists schema _ _ = false

abbrev pub is_number : Option PlainQuery → Bool
is_number (Some (Number q)) = true
is_number _ = false

abbrev pub is_truth : Option PlainQuery → Bool
is_truth (Some (Truth q)) = true
is_truth _ = false

abbrev pub bad_query : Schema → (List ℕ → Option PlainQuery) → Place → List Span
bad_query schema read (value vs (Query at ty text es)) = only_if (not (lists schema (single_spelled schema ty) (read text))) at
bad_query schema read (value vs (QueryLong at text es)) = only_if (not (is_number (read text))) at
bad_query schema read (value vs (QueryBoolean at text es)) = only_if (not (is_truth (read text))) at
bad_query schema read _ = []

-- ---- 8. UnorderedQuery: a query of a list is order complete

abbrev pub has_order : Option PlainQuery → Bool
has_order (Some q) = is_order_complete q
has_order None = true

abbrev pub unordered_query : (List ℕ → Option PlainQuery) → Place → List Span
unordered_query read (value vs (Query at ty text es)) = only_if (not (has_order (read text))) at
unordered_query read _ = []

-- ---- 9. ReturnPlace: `return` is the last statement of its method, and a method with a result has one

abbrev mutual
  pub returns : Statements → Bool
  returns Nothing = false
  returns (Then a p) = returns_in a || returns p

  pub returns_in : Statement → Bool
  returns_in (If at c a) = returns a
  returns_in (IfElse at c a b) = returns a || returns b
  returns_in (ForEach at ty x e body) = returns body
  returns_in (While at c body) = returns body
  returns_in (Return at e) = true
  returns_in _ = false

abbrev pub return_place : Place → List Span
return_place (step vs w last (Return at e)) = only_if (not (w.final && last)) at
return_place (whole double m) = only_if (not (is_none m.result) && not (returns m.body)) m.span
return_place _ = []

-- ---- 10. Arity: a query has as many arguments as its text has parameters

abbrev pub same_length : List Ty → Expressions → Bool
same_length [] NoMore = true
same_length (ty ∷ types) (And e es) = same_length types es
same_length _ _ = false

abbrev pub fits_query : Option PlainQuery → Expressions → Bool
fits_query None es = true
fits_query (Some q) es = same_length (params_in q) es

abbrev pub arity : (List ℕ → Option PlainQuery) → Place → List Span
arity read (value vs (Query at ty text es)) = only_if (not (fits_query (read text) es)) at
arity read (value vs (QueryLong at text es)) = only_if (not (fits_query (read text) es)) at
arity read (value vs (QueryBoolean at text es)) = only_if (not (fits_query (read text) es)) at
arity read _ = []

-- ---- 11. BreakPlace: `break` stands in a loop, as the last statement of its block

abbrev pub break_place : Place → List Span
break_place (step vs w last (Break at)) = only_if (not (w.in_loop && last)) at
break_place _ = []
