-- Types of the language, values of them, and stores that are typed at a place.
use Rattle.std.specs.Prelude.{◌≡◌, ℕ, zero, suc, Bool, true, false, List, [], ◌∷◌, Option, Some, None, bytes_eq, if◌then◌else◌}
use Rattle.std.specs.List.{AllByRecursion, list_any}
use Rattle.qbs_base.specs.declared.scalar.Scalar.{Scalar}
use Rattle.qbs_base.specs.declared.scalar.Ty.TheVariants as tys
use Rattle.qbs_base.specs.declared.scalar.Kind.TheVariants as kinds
use Rattle.qbs_base.specs.declared.scalar.Row.{Row}
use Rattle.qbs_base.specs.declared.scalar.Value.{Value}
use Rattle.qbs_base.specs.declared.scalar.Value.TheVariants.{One, Whole, Many}
use Rattle.qbs_base.specs.Named.{at_name}
use Rattle.qbs_base.specs.Values.{Schema, HasTy, AreOf, IsRowOf}
use Rattle.qbs_base.specs.Columns.{table_number, columns_at}
use Rattle.java_ast.specs.Tree.{Spelled, Int, Long, Boolean, String, BoxedInteger, BoxedLong, BoxedBoolean, Table, ListOf, SetOf, Statement, Declare, If, IfElse, ForEach, While, Statements, Nothing, Then, PlainParam, PlainMethod}
pub use Rattle.java_mean.specs.declared.types.Single.{Single}
pub use Rattle.java_mean.specs.declared.types.Single.TheVariants.{ScalarOf, RowOf}
pub use Rattle.java_mean.specs.declared.types.JavaType.{JavaType}
pub use Rattle.java_mean.specs.declared.types.JavaType.TheVariants.{Of, Listed, Distinct}
use Rattle.java_mean.specs.Store.{Store, Variable}
use Rattle.java_mean.specs.Expression.{same_member}

-- ---- Spelled types

abbrev pub row_type : Option ℕ → Option Single
row_type (Some n) = Some (RowOf n)
row_type None = None

abbrev pub single_spelled : Schema → Spelled → Option Single
single_spelled schema Int = Some (ScalarOf tys.Long)
single_spelled schema Long = Some (ScalarOf tys.Long)
single_spelled schema Boolean = Some (ScalarOf tys.Bool)
single_spelled schema String = Some (ScalarOf tys.Text)
single_spelled schema BoxedInteger = Some (ScalarOf tys.Long)
single_spelled schema BoxedLong = Some (ScalarOf tys.Long)
single_spelled schema BoxedBoolean = Some (ScalarOf tys.Bool)
single_spelled schema (Table name) = row_type (table_number schema name)
single_spelled schema (ListOf e) = None
single_spelled schema (SetOf e) = None

abbrev pub made_of : (Single → JavaType) → Option Single → Option JavaType
made_of f (Some k) = Some (f k)
made_of f None = None

-- the type that is spelled so, and none where its table isn't known
abbrev pub type_spelled : Schema → Spelled → Option JavaType
type_spelled schema (ListOf e) = made_of Listed (single_spelled schema e)
type_spelled schema (SetOf e) = made_of Distinct (single_spelled schema e)
type_spelled schema ty = made_of Of (single_spelled schema ty)

-- ---- Values of types

abbrev pub IsSingle : Schema → Single → Value → Type 0
IsSingle schema (ScalarOf ty) (One x) = HasTy ty x
IsSingle schema (RowOf n) (Whole row) = IsRowOf n (columns_at schema n) row
IsSingle schema _ _ = ⊥

-- a member of a list: a row, or a scalar as a row of one cell
abbrev pub IsMember : Schema → Single → Row → Type 0
IsMember schema (ScalarOf ty) row = (row.kind ≡ kinds.Plain) × AreOf (ty ∷ []) row.cells
IsMember schema (RowOf n) row = IsRowOf n (columns_at schema n) row

-- no member is equal to one before it
abbrev pub AreDistinct : List Row → Type 0
AreDistinct [] = Unit {0}
AreDistinct (row ∷ rows) = (list_any (same_member row) rows ≡ false) × AreDistinct rows

-- a value is of a type: numbers have 64 bits, rows are those of their table, and a set has no two equal members
abbrev pub IsOf : Schema → JavaType → Value → Type 0
IsOf schema (Of k) v = IsSingle schema k v
IsOf schema (Listed k) (Many rows) = AllByRecursion (IsMember schema k) rows
IsOf schema (Distinct k) (Many rows) = AllByRecursion (IsMember schema k) rows × AreDistinct rows
IsOf schema _ _ = ⊥

abbrev pub is_distinct : JavaType → Bool
is_distinct (Distinct k) = true
is_distinct _ = false

-- a variable has a value of the type
pub record IsVariableOf (schema : Schema) (k : JavaType) (held : Variable) : Type 0 where
  pub value : IsOf schema k held.value
  pub set : held.is_set ≡ is_distinct k

-- ---- What is visible

-- the visible variables with their types
abbrev pub Types : Type 0
Types = List ℕ → Option JavaType

abbrev pub with_type : List ℕ → Option JavaType → Types → Types
with_type x k types = λ y. if bytes_eq x y then k else types y

abbrev pub types_of_params : Schema → List PlainParam → Types
types_of_params schema [] = λ y. None
types_of_params schema (p ∷ ps) = with_type p.name (type_spelled schema p.ty) (types_of_params schema ps)

-- what is visible after a statement
abbrev pub types_after : Schema → Types → Statement → Types
types_after schema types (Declare at ty x e) = with_type x (type_spelled schema ty) types
types_after schema types _ = types

-- what is visible after statements of a block
abbrev pub types_past : Schema → Types → Statements → Types
types_past schema types Nothing = types
types_past schema types (Then a p) = types_past schema (types_after schema types a) p

-- What is visible at a place in a list of statements: before the statement with this number, or
-- further down in its body or first branch (0) or its other branch (1).
abbrev mutual
  pub visible_at : Schema → Types → Statements → ℕ → List ℕ → Option Types
  visible_at schema types Nothing zero [] = Some types
  visible_at schema types Nothing _ path = None
  visible_at schema types (Then a p) zero path = visible_in schema types a path
  visible_at schema types (Then a p) (suc n) path = visible_at schema (types_after schema types a) p n path

  pub visible_in : Schema → Types → Statement → List ℕ → Option Types
  visible_in schema types a [] = Some types
  visible_in schema types (If at c a) (zero ∷ n ∷ path) = visible_at schema types a n path
  visible_in schema types (IfElse at c a o) (zero ∷ n ∷ path) = visible_at schema types a n path
  visible_in schema types (IfElse at c a o) (suc zero ∷ n ∷ path) = visible_at schema types o n path
  visible_in schema types (ForEach at ty x e body) (zero ∷ n ∷ path) = visible_at schema (with_type x (type_spelled schema ty) types) body n path
  visible_in schema types (While at c body) (zero ∷ n ∷ path) = visible_at schema types body n path
  visible_in schema types _ _ = None

-- the store gives each of these variables a value of its type
pub record IsTyped (schema : Schema) (types : Types) (store : Store) : Type 0 where
  pub held : (x : List ℕ) (k : JavaType) → types x ≡ Some k → (v : Variable) × (at_name store x ≡ Some v) × IsVariableOf schema k v

-- a store is typed at a place of a method
pub record IsTypedAt (schema : Schema) (m : PlainMethod) (first : ℕ) (path : List ℕ) (store : Store) : Type 0 where
  pub types : Types
  pub visible : visible_at schema (types_of_params schema m.params) m.body first path ≡ Some types
  pub typed : IsTyped schema types store

-- ---- Arguments

-- a scalar is of a scalar type
abbrev pub IsArgument : Option Single → Scalar → Type 0
IsArgument (Some (ScalarOf ty)) x = HasTy ty x
IsArgument _ x = ⊥

-- scalars are of the parameters' types, one for each
abbrev pub AreArguments : Schema → List PlainParam → List Scalar → Type 0
AreArguments schema [] [] = Unit {0}
AreArguments schema (p ∷ ps) (x ∷ xs) = IsArgument (single_spelled schema p.ty) x × AreArguments schema ps xs
AreArguments schema _ _ = ⊥
