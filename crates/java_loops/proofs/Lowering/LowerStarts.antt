-- An accumulator that starts with an integer is a number.
use Rattle.std.proofs.Common.{◌≡◌, ℕ, Bool, true, false, List, Option, Some, None, refl, sym, ap, ◌∙◌, cond, bytes_eq}
use Rattle.qbs_base.specs.declared.scalar.Scalar.TheVariants as scalars
use Rattle.qbs_base.specs.declared.scalar.Ty.TheVariants as tys
use Rattle.java_ast.specs.Tree as tree
use Rattle.java_ast.specs.Tree.{Spelled, Expression, Statement, Statements, Nothing, Then}
use Rattle.java_mean.specs.declared.types.JavaType.{JavaType}
use Rattle.java_mean.specs.declared.types.JavaType.TheVariants.{Of}
use Rattle.java_mean.specs.declared.types.Single.TheVariants.{ScalarOf}
use Rattle.java_mean.specs.Types.{Types}
use Rattle.java_mean.specs.Typing.{Frame, HasType, TypedStatement, TypedStatements, done, next}
use Rattle.java_mean.proofs.Puts.{names_equal, name_same}
use Rattle.java_mean.proofs.TypedRuns.{extends_statements}
use Rattle.loop_text.specs.Kernel.KernelStarts.{is_integer}
use Rattle.loop_text.specs.Statements.Setting.{touches, first_touching, given_by}
use Rattle.java_loops.proofs.Typing.BoundTyping.{TypedDeclare, typed_declare, TypedAssign, typed_assign}
use Rattle.java_loops.proofs.Formed.FormTyping.{literal_typed}

abbrev pub long : JavaType
long = Of (ScalarOf tys.Long)

-- an integer is a number
integer_typed : (c : Frame) (g : Types) (e : Expression) (k : JavaType) → is_integer e ≡ true → HasType c g e k → k ≡ long
integer_typed c g (tree.Lit at (scalars.Long n)) k h t = literal_typed c g at (scalars.Long n) k t
integer_typed c g (tree.Lit at (scalars.Bool b)) k h t = absurd cc
integer_typed c g (tree.Lit at (scalars.Text b)) k h t = absurd cc
integer_typed c g (tree.Var at x) k h t = absurd cc
integer_typed c g (tree.Field at e n) k h t = absurd cc
integer_typed c g (tree.Binary at op a b) k h t = absurd cc
integer_typed c g (tree.Not at e) k h t = absurd cc
integer_typed c g (tree.Equals at a b) k h t = absurd cc
integer_typed c g (tree.Size at x) k h t = absurd cc
integer_typed c g (tree.Get at x e) k h t = absurd cc
integer_typed c g (tree.Contains at x e) k h t = absurd cc
integer_typed c g (tree.Fetch at n) k h t = absurd cc
integer_typed c g (tree.Query at ty text es) k h t = absurd cc
integer_typed c g (tree.QueryLong at text es) k h t = absurd cc
integer_typed c g (tree.QueryBoolean at text es) k h t = absurd cc
integer_typed c g (tree.NewList at) k h t = absurd cc
integer_typed c g (tree.NewSet at) k h t = absurd cc
integer_typed c g (tree.NewSetOf at e) k h t = absurd cc

-- the value that is given to a name
record GivenTo (x y : List ℕ) (e value : Expression) : Type 0 where
  name : y ≡ x
  is : e ≡ value

given_to : (x y : List ℕ) (e value : Expression) (q : Bool) → bytes_eq y x ≡ q → cond q (Some e) None ≡ Some value → GivenTo x y e value
given_to x y e value true q h = record { name = names_equal y x q; is = cc }
given_to x y e value false q h = absurd cc

-- behind a statement that gives an integer to a variable this is a number
given_long : (c : Frame) (l : Option Types) (g h : Types) (s : Statement) (x : List ℕ) (value : Expression) → given_by x s ≡ Some value → is_integer value ≡ true → TypedStatement c l g s h → h x ≡ Some long
given_long c l g h (tree.Declare at ty y e) x value given int t =
    let d : TypedDeclare c g h ty y e = typed_declare c l g at ty y e h t in
    let to : GivenTo x y e value = given_to x y e value (bytes_eq y x) refl given in
    let type : d.type ≡ long = integer_typed c g e d.type (ap is_integer to.is ∙ int) d.value in
    ap (λ z. z x) d.after ∙ ap (λ z. cond (bytes_eq y z) (Some d.type) (g x)) (sym to.name) ∙ ap (λ q. cond q (Some d.type) (g x)) (name_same y) ∙ ap (λ z. Some z) type
given_long c l g h (tree.Assign at y e) x value given int t =
    let d : TypedAssign c g h y e = typed_assign c l g h at y e t in
    let to : GivenTo x y e value = given_to x y e value (bytes_eq y x) refl given in
    let type : d.type ≡ long = integer_typed c g e d.type (ap is_integer to.is ∙ int) d.value in
    ap (λ z. z x) d.after ∙ ap g (sym to.name) ∙ d.seen ∙ ap (λ z. Some z) type
given_long c l g h (tree.Add at y e) x value given int t = absurd cc
given_long c l g h (tree.Sort at y keys downs) x value given int t = absurd cc
given_long c l g h (tree.If at e p) x value given int t = absurd cc
given_long c l g h (tree.IfElse at e p q) x value given int t = absurd cc
given_long c l g h (tree.ForEach at ty y e p) x value given int t = absurd cc
given_long c l g h (tree.While at e p) x value given int t = absurd cc
given_long c l g h (tree.Print at e) x value given int t = absurd cc
given_long c l g h (tree.Return at e) x value given int t = absurd cc
given_long c l g h (tree.Break at) x value given int t = absurd cc

first_long : (c : Frame) (l : Option Types) (g m h : Types) (a s : Statement) (p : Statements) (x : List ℕ) (value : Expression) (q : Bool) → touches x a ≡ q → cond q (Some a) (first_touching x p) ≡ Some s → given_by x s ≡ Some value → is_integer value ≡ true → TypedStatement c l g a m → TypedStatements c l m p h → (first_touching x p ≡ Some s → h x ≡ Some long) → h x ≡ Some long
first_long c l g m h a s p x value true e first given int t rest more =
    let same : a ≡ s = cc in
    let here : m x ≡ Some long = given_long c l g m a x value (ap (given_by x) same ∙ given) int t in
    extends_statements c l m h p rest x long here
first_long c l g m h a s p x value false e first given int t rest more = more first

-- A variable to which the first statement of a run that mentions it gives an integer is a number behind the run.
pub started_long : (c : Frame) (l : Option Types) (g h : Types) (run : Statements) → TypedStatements c l g run h → (s : Statement) (x : List ℕ) (value : Expression) → first_touching x run ≡ Some s → given_by x s ≡ Some value → is_integer value ≡ true → h x ≡ Some long
started_long c _ _ _ _ (done l g) s x value first given int = absurd cc
started_long c _ _ _ _ (next l g m h a p t rest) s x value first given int =
    first_long c l g m h a s p x value (touches x a) refl first given int t rest (λ f. started_long c l m h p rest s x value f given int)
