-- Which expressions and statements have types, as relations with one rule for each form.
use Rattle.std.specs.Prelude.{◌≡◌, ℕ, Bool, List, [], ◌∷◌, slice_get}
use Rattle.std.specs.declared.option.Option.{Option}
use Rattle.std.specs.declared.option.Option.TheVariants.{Some, None}
use Rattle.qbs_base.specs.declared.span.Span.{Span}
use Rattle.qbs_base.specs.declared.scalar.Scalar.{Scalar}
use Rattle.qbs_base.specs.declared.scalar.Ty.{Ty}
use Rattle.qbs_base.specs.declared.scalar.Ty.TheVariants as tys
use Rattle.qbs_base.specs.declared.scalar.Value.TheVariants.{One, Many}
use Rattle.qbs_base.specs.declared.columns.Column.{Column}
use Rattle.qbs_base.specs.Values.{Schema, Database, HasTy, AreOf, IsDatabaseOf}
use Rattle.qbs_base.specs.Columns.{table_number, column_number, columns_at}
use Rattle.java_ast.specs.declared.tree.Op.{Op}
use Rattle.java_ast.specs.declared.tree.Op.TheVariants as ops
use Rattle.java_ast.specs.Tree as tree
use Rattle.java_ast.specs.Tree.{Spelled, Expression, Expressions, Statement, Statements}
use Rattle.java_mean.specs.Queries.{Answered}
use Rattle.java_mean.specs.Queries as answers
use Rattle.java_mean.specs.Types.{Single, ScalarOf, RowOf, JavaType, Of, Listed, Distinct, Types, with_type, type_spelled, IsOf}
use Rattle.java_mean.specs.World.{World}

-- the types of a query's parameters, and of its answer
pub record QueryType : Type 0 where
  pub params : List Ty
  pub answer : JavaType

-- what a method is typed under: the schema, the types of query texts, what a text answers to
-- arguments on a database, and the type of the method's result
pub record Frame : Type 0 where
  pub schema : Schema
  pub asks : List ℕ → Option QueryType
  pub answers : Database → List ℕ → List Scalar → Option Answered
  pub result : Option JavaType

-- an answer of a type; a total may be too large
abbrev pub IsAnswer : Schema → JavaType → Option Answered → Type 0
IsAnswer schema k (Some (answers.Rows rows)) = IsOf schema k (Many rows)
IsAnswer schema k (Some (answers.One x)) = IsOf schema k (One x)
IsAnswer schema k (Some answers.TooLarge) = Unit {0}
IsAnswer schema k None = ⊥

-- the world has the schema and a database of it, and answers query texts as they do on that
-- database, by their types
pub record IsWorld (c : Frame) (w : World) : Type 0 where
  pub schema : w.schema ≡ c.schema
  pub tables : IsDatabaseOf c.schema w.db
  pub asked : (text : List ℕ) (args : List Scalar) → w.ask text args ≡ c.answers w.db text args
  pub answers : (text : List ℕ) (k : QueryType) (args : List Scalar) → c.asks text ≡ Some k → AreOf k.params args → IsAnswer c.schema k.answer (w.ask text args)

-- an operator takes two operands of the first type, and gives the second
pub data Takes : Op → Ty → Ty → Type 0 where
  or_takes : Takes ops.Or tys.Bool tys.Bool
  and_takes : Takes ops.And tys.Bool tys.Bool
  eq_longs : Takes ops.Eq tys.Long tys.Bool
  eq_bools : Takes ops.Eq tys.Bool tys.Bool
  ne_longs : Takes ops.Ne tys.Long tys.Bool
  ne_bools : Takes ops.Ne tys.Bool tys.Bool
  lt_takes : Takes ops.Lt tys.Long tys.Bool
  le_takes : Takes ops.Le tys.Long tys.Bool
  gt_takes : Takes ops.Gt tys.Long tys.Bool
  ge_takes : Takes ops.Ge tys.Long tys.Bool
  add_takes : Takes ops.Add tys.Long tys.Long
  sub_takes : Takes ops.Sub tys.Long tys.Long
  mul_takes : Takes ops.Mul tys.Long tys.Long

-- the members of a list or a set
pub data Has : JavaType → Single → Type 0 where
  listed : (a : Single) → Has (Listed a) a
  distinct : (a : Single) → Has (Distinct a) a

mutual
  pub data HasType (c : Frame) (g : Types) : Expression → JavaType → Type 0 where
    lit : (at : Span) (x : Scalar) (ty : Ty) → HasTy ty x → HasType c g (tree.Lit at x) (Of (ScalarOf ty))
    var : (at : Span) (x : List ℕ) (k : JavaType) → g x ≡ Some k → HasType c g (tree.Var at x) k
    field : (at : Span) (e : Expression) (f : List ℕ) (n i : ℕ) (column : Column) → HasType c g e (Of (RowOf n)) → column_number (columns_at c.schema n) f ≡ Some i → slice_get (columns_at c.schema n) i ≡ Some column → HasType c g (tree.Field at e f) (Of (ScalarOf column.ty))
    binary : (at : Span) (op : Op) (a b : Expression) (from to : Ty) → Takes op from to → HasType c g a (Of (ScalarOf from)) → HasType c g b (Of (ScalarOf from)) → HasType c g (tree.Binary at op a b) (Of (ScalarOf to))
    negated : (at : Span) (e : Expression) → HasType c g e (Of (ScalarOf tys.Bool)) → HasType c g (tree.Not at e) (Of (ScalarOf tys.Bool))
    equals : (at : Span) (a b : Expression) → HasType c g a (Of (ScalarOf tys.Text)) → HasType c g b (Of (ScalarOf tys.Text)) → HasType c g (tree.Equals at a b) (Of (ScalarOf tys.Bool))
    size : (at : Span) (x : List ℕ) (k : JavaType) (a : Single) → g x ≡ Some k → Has k a → HasType c g (tree.Size at x) (Of (ScalarOf tys.Long))
    get : (at : Span) (x : List ℕ) (e : Expression) (a : Single) → g x ≡ Some (Listed a) → HasType c g e (Of (ScalarOf tys.Long)) → HasType c g (tree.Get at x e) (Of a)
    contains : (at : Span) (x : List ℕ) (e : Expression) (k : JavaType) (ty : Ty) → g x ≡ Some k → Has k (ScalarOf ty) → HasType c g e (Of (ScalarOf ty)) → HasType c g (tree.Contains at x e) (Of (ScalarOf tys.Bool))
    fetch : (at : Span) (t : List ℕ) (n : ℕ) → table_number c.schema t ≡ Some n → HasType c g (tree.Fetch at t) (Listed (RowOf n))
    query : (at : Span) (ty : Spelled) (text : List ℕ) (es : Expressions) (q : QueryType) → c.asks text ≡ Some q → HaveTypes c g es q.params → HasType c g (tree.Query at ty text es) q.answer
    query_long : (at : Span) (text : List ℕ) (es : Expressions) (q : QueryType) → c.asks text ≡ Some q → HaveTypes c g es q.params → HasType c g (tree.QueryLong at text es) q.answer
    query_boolean : (at : Span) (text : List ℕ) (es : Expressions) (q : QueryType) → c.asks text ≡ Some q → HaveTypes c g es q.params → HasType c g (tree.QueryBoolean at text es) q.answer
    new_list : (at : Span) (a : Single) → HasType c g (tree.NewList at) (Listed a)
    new_set : (at : Span) (a : Single) → HasType c g (tree.NewSet at) (Distinct a)
    new_set_of : (at : Span) (e : Expression) (a : Single) → HasType c g e (Listed a) → HasType c g (tree.NewSetOf at e) (Distinct a)

  pub data HaveTypes (c : Frame) (g : Types) : Expressions → List Ty → Type 0 where
    no_more : HaveTypes c g tree.NoMore []
    and : (e : Expression) (es : Expressions) (ty : Ty) (types : List Ty) → HasType c g e (Of (ScalarOf ty)) → HaveTypes c g es types → HaveTypes c g (tree.And e es) (ty ∷ types)

-- a new list or set, which is empty, and may be one of any type
pub data IsNew : Expression → Type 0 where
  is_new_list : (at : Span) → IsNew (tree.NewList at)
  is_new_set : (at : Span) → IsNew (tree.NewSet at)

-- what is visible in the first is visible in the second, with its type
abbrev pub Extends : Types → Types → Type 0
Extends h g = (x : List ℕ) (k : JavaType) → g x ≡ Some k → h x ≡ Some k

abbrev pub bool : JavaType
bool = Of (ScalarOf tys.Bool)

-- A statement is well typed in a loop at whose body's start the first types are visible, or in none,
-- where the second are visible, and leaves the last visible.
mutual
  pub data TypedStatement (c : Frame) : Option Types → Types → Statement → Types → Type 0 where
    declare : (l : Option Types) (g : Types) (at : Span) (ty : Spelled) (x : List ℕ) (e : Expression) (k : JavaType) → g x ≡ None → type_spelled c.schema ty ≡ Some k → HasType c g e k → TypedStatement c l g (tree.Declare at ty x e) (with_type x (Some k) g)
    assign : (l : Option Types) (g : Types) (at : Span) (x : List ℕ) (e : Expression) (k : JavaType) → g x ≡ Some k → HasType c g e k → TypedStatement c l g (tree.Assign at x e) g
    add : (l : Option Types) (g : Types) (at : Span) (x : List ℕ) (e : Expression) (k : JavaType) (a : Single) → g x ≡ Some k → Has k a → HasType c g e (Of a) → TypedStatement c l g (tree.Add at x e) g
    sort : (l : Option Types) (g : Types) (at : Span) (x : List ℕ) (keys : List (List ℕ)) (down : List Bool) (a : Single) → g x ≡ Some (Listed a) → TypedStatement c l g (tree.Sort at x keys down) g
    when : (l : Option Types) (g h : Types) (at : Span) (e : Expression) (p : Statements) → HasType c g e bool → TypedStatements c l g p h → TypedStatement c l g (tree.If at e p) g
    choose : (l : Option Types) (g h h' : Types) (at : Span) (e : Expression) (p q : Statements) → HasType c g e bool → TypedStatements c l g p h → TypedStatements c l g q h' → TypedStatement c l g (tree.IfElse at e p q) g
    for_each : (l : Option Types) (g h : Types) (at : Span) (ty : Spelled) (x : List ℕ) (e : Expression) (p : Statements) (k : JavaType) (a : Single) → g x ≡ None → HasType c g e k → Has k a → TypedStatements c (Some (with_type x (Some (Of a)) g)) (with_type x (Some (Of a)) g) p h → TypedStatement c l g (tree.ForEach at ty x e p) g
    for_each_new : (l : Option Types) (g h : Types) (at : Span) (ty : Spelled) (x : List ℕ) (e : Expression) (p : Statements) (k : JavaType) → g x ≡ None → type_spelled c.schema ty ≡ Some k → IsNew e → TypedStatements c (Some (with_type x (Some k) g)) (with_type x (Some k) g) p h → TypedStatement c l g (tree.ForEach at ty x e p) g
    while_true : (l : Option Types) (g h : Types) (at : Span) (e : Expression) (p : Statements) → HasType c g e bool → TypedStatements c (Some g) g p h → TypedStatement c l g (tree.While at e p) g
    print : (l : Option Types) (g : Types) (at : Span) (e : Expression) (ty : Ty) → HasType c g e (Of (ScalarOf ty)) → TypedStatement c l g (tree.Print at e) g
    return_none : (l : Option Types) (g : Types) (at : Span) → c.result ≡ None → TypedStatement c l g (tree.Return at None) g
    return_value : (l : Option Types) (g : Types) (at : Span) (e : Expression) (k : JavaType) → c.result ≡ Some k → HasType c g e k → TypedStatement c l g (tree.Return at (Some e)) g
    leave : (b g : Types) (at : Span) → Extends g b → TypedStatement c (Some b) g (tree.Break at) g

  pub data TypedStatements (c : Frame) : Option Types → Types → Statements → Types → Type 0 where
    done : (l : Option Types) (g : Types) → TypedStatements c l g tree.Nothing g
    next : (l : Option Types) (g h m : Types) (s : Statement) (p : Statements) → TypedStatement c l g s h → TypedStatements c l h p m → TypedStatements c l g (tree.Then s p) m
