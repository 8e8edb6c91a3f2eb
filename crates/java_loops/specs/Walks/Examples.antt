-- A loop that counts, and a run and a loop that give way.
use Rattle.std.specs.Prelude.{ℕ, pos, true, false, List, [], ◌∷◌, bytes_eq}
use Rattle.std.specs.declared.option.Option.TheVariants.{Some, None}
use Rattle.qbs_base.specs.declared.span.Span.{Span}
use Rattle.qbs_base.specs.declared.scalar.Scalar.TheVariants as scalars
use Rattle.java_ast.specs.declared.tree.Op.TheVariants as ops
use Rattle.java_ast.specs.Tree.{Spelled, Long, Boolean, Table, Expression, Lit, Var, Field, Binary, Not, Statement, Declare, Assign, Add, If, While, Statements, Nothing, Then}
use Rattle.java_mean.specs.Types.{Types}
use Rattle.java_loops.specs.Walks.Reads.{Set}
use Rattle.java_loops.specs.Walks.Replacing.{Ask}
use Rattle.java_loops.specs.Walks.Counting.{below_size, below_count}

abbrev pub b : List ℕ
b = 98 ∷ []

abbrev pub i : List ℕ
i = 105 ∷ []

abbrev pub m : List ℕ
m = 109 ∷ []

abbrev pub out : List ℕ
out = 111 ∷ []

abbrev pub u : List ℕ
u = 117 ∷ []

abbrev pub xs : List ℕ
xs = 120 ∷ []

-- `T`
abbrev pub table : Spelled
table = Table (84 ∷ [])

-- ---- `while (i < xs.size() && i < 2) { T u = xs.get(i); if (u.b) { out.add(u); } i = i + 1; }`

abbrev pub first_two : Span → Expression
first_two at = Binary at ops.And (below_size at at at i xs) (below_count at at at i 2)

-- `if (u.b) { out.add(u); }`
abbrev pub adding : Span → Statements
adding at = Then (If at (Field at (Var at u) b) (Then (Add at out (Var at u)) Nothing)) Nothing

-- ---- `boolean b = false; long m = 5; while (!b) { b = true; }`, which gives way to `long m = 5; boolean b = true;`

abbrev pub starting : Span → Statements
starting at = Then (Declare at Boolean b (Lit at (scalars.Bool false))) (Then (Declare at Long m (Lit at (scalars.Long (pos 5)))) Nothing)

-- `{ b = true; }`
abbrev pub setting : Span → Statements
setting at = Then (Assign at b (Lit at (scalars.Bool true))) Nothing

abbrev pub until_set : Span → Statement
until_set at = While at (Not at (Var at b)) (setting at)

abbrev pub kept_names : Set
kept_names = bytes_eq m

abbrev pub set_at_once : Span → List Ask
set_at_once at = record { at = at; ty = Some Boolean; name = b; value = Lit at (scalars.Bool true) } ∷ []

abbrev pub set_before : Span → Statements
set_before at = Then (Declare at Long m (Lit at (scalars.Long (pos 5)))) (Then (Declare at Boolean b (Lit at (scalars.Bool true))) Nothing)

-- ---- `i = m; b = i; i = u;`, all of which is kept for the sake of b

abbrev pub moving : Span → Statements
moving at = Then (Assign at i (Var at m)) (Then (Assign at b (Var at i)) (Then (Assign at i (Var at u)) Nothing))

-- ---- None

abbrev pub no_names : Set
no_names = λ x. false

-- before the run no variable is visible
abbrev pub none_visible : Types
none_visible = λ x. None
