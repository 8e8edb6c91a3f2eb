-- Small loops, of the kernel form and outside of it. Each statement stands on a line of its own.
use Rattle.std.specs.Prelude.{ℕ, pos, true, false, List, [], ◌∷◌, codes}
use Rattle.std.specs.Option.{option_map}
use Rattle.std.specs.declared.option.Option.{Option}
use Rattle.std.specs.declared.option.Option.TheVariants.{None}
use Rattle.qbs_base.specs.declared.span.Span.{Span}
use Rattle.qbs_base.specs.declared.scalar.Scalar.TheVariants as scalars
use Rattle.java_ast.specs.declared.tree.Op.TheVariants as ops
use Rattle.java_ast.specs.Tree.{Long, Boolean, Table, Expression, Lit, Var, Field, Binary, Fetch, Statement, Declare, Assign, If, ForEach, While, Print, Break, PlainMethod}
use Rattle.sql_ast.specs.Worked.{staff_schema}
use Rattle.java_mean.specs.Worked.{block, give, method}
use Rattle.kernel_lang.specs.Plain.{Fragment}
use Rattle.java_loops.specs.Kernel.Kernel.{Broken, outside_at, lowered_at}
use Rattle.java_loops.specs.Lowering.Lowered.{Lowering}
use Rattle.java_loops.specs.Kernel.Worked.{program_of}

-- a rule and the line of the place that breaks it
abbrev pub seen : Broken → ℕ × ℕ
seen b = (b.rule, b.at.line)

-- the rule that the loop of a method breaks, where no text has a query
abbrev pub outside : List ℕ → PlainMethod → Option (ℕ × ℕ)
outside path m = option_map seen (outside_at staff_schema (λ text. None) path (program_of m))

abbrev pub lowered : List ℕ → PlainMethod → Option Fragment
lowered path m = option_map (λ (l : Lowering). l.fragment) (lowered_at staff_schema (λ text. None) path (program_of m))

abbrev pub line : ℕ → Span
line n = record { line = n; column = 1; start = n; end = n }

abbrev number : ℕ → ℕ → Expression
number at k = Lit (line at) (scalars.Long (pos k))

abbrev truth : ℕ → Expression
truth at = Lit (line at) (scalars.Bool true)

abbrev name : ℕ → List ℕ → Expression
name at x = Var (line at) x

abbrev n : List ℕ
n = codes "n"

abbrev flag : List ℕ
flag = codes "flag"

-- `n = n + k;`
abbrev pub counts : ℕ → ℕ → Statement
counts at k = Assign (line at) n (Binary (line at) ops.Add (name at n) (number at k))

-- `long n = k;`
abbrev pub starts : ℕ → ℕ → Statement
starts at k = Declare (line at) Long n (number at k)

-- `for (User x : db.fetch(User.class)) { .. }`
abbrev pub users : ℕ → List ℕ → List Statement → Statement
users at x body = ForEach (line at) (Table (codes "User")) x (Fetch (line at) (codes "User")) (block body)

-- a loop over a variable that the run does not fetch
abbrev pub over_sizes : ℕ → List Statement → Statement
over_sizes at body = ForEach (line at) (Table (codes "User")) (codes "u") (name at (codes "given")) (block body)

-- `if (x.active) { .. }`
abbrev pub active : ℕ → List ℕ → List Statement → Statement
active at x body = If (line at) (Field (line at) (name at x) (codes "active")) (block body)

-- `boolean flag = b;` and `flag = b;`
abbrev pub lowers_flag : ℕ → Statement
lowers_flag at = Declare (line at) Boolean flag (Lit (line at) (scalars.Bool false))

abbrev pub raises_flag : ℕ → Statement
raises_flag at = Assign (line at) flag (truth at)

-- `if (flag) { .. }`
abbrev pub flagged : ℕ → List Statement → Statement
flagged at body = If (line at) (name at flag) (block body)

abbrev pub prints : ℕ → Statement
prints at = Print (line at) (number at 1)

abbrev pub leaves : ℕ → Statement
leaves at = Break (line at)

abbrev pub always : ℕ → List Statement → Statement
always at body = If (line at) (truth at) (block body)

abbrev pub forever : ℕ → List Statement → Statement
forever at body = While (line at) (truth at) (block body)

-- `long n = k;` on line 1, a loop from line 2 on, and `return n;`
abbrev pub returning : ℕ → Statement → PlainMethod
returning k loop = method (starts 1 k ∷ loop ∷ give n ∷ [])

abbrev pub u : List ℕ
u = codes "u"

abbrev pub v : List ℕ
v = codes "v"

-- a loop over users, from line 2 on
abbrev pub walking : List Statement → PlainMethod
walking body = returning 0 (users 2 u body)
