-- A class of the grammar that breaks no rule of calls and is ill typed: its inlined class is none of the grammar.
use Rattle.std.specs.Prelude.{ℕ, pos, List, [], ◌∷◌, false, codes}
use Rattle.std.specs.declared.option.Option.TheVariants.{Some, None}
use Rattle.qbs_base.specs.declared.scalar.Scalar.TheVariants as scalars
use Rattle.java_ast.specs.declared.tree.Access.TheVariants as access
use Rattle.java_ast.specs.Tree.{Int, Long, Table, ListOf, Lit, Var, Size, Fetch, QueryLong, NoMore, Declare, Return, Statements, Nothing, Then, PlainMethod, PlainProgram}
use Rattle.java_mean.specs.Worked.{somewhere, User}

abbrev pub v : List ℕ
v = codes "v"

-- a variable of this name can be declared, and no expression reads it
abbrev pub unreadable : List ℕ
unreadable = codes "Long"

abbrev pub counting : List ℕ → List ℕ → Statements → Statements
counting v n rest = Then (Declare somewhere (ListOf (Table User)) v (Fetch somewhere User)) (Then (Declare somewhere Int n (Size somewhere v)) rest)

-- long all() { List<User> v = db.fetch(User.class); int n = v.size(); return v; }
abbrev pub all : PlainMethod
all = record { access = access.Plain; fixed = false; result = Some Long; name = codes "all"; params = []; body = counting v (codes "n") (Then (Return somewhere (Some (Var somewhere v))) Nothing); span = somewhere }

abbrev pub one_returned : Statements
one_returned = Then (Return somewhere (Some (Lit somewhere (scalars.Long (pos 1))))) Nothing

abbrev pub one_with : Statements → PlainMethod
one_with body = record { access = access.Plain; fixed = false; result = Some Long; name = codes "one"; params = []; body = body; span = somewhere }

abbrev pub ill_typed_with : Statements → PlainProgram
ill_typed_with body = record { «package» = None; imports = []; public = false; name = codes "I"; methods = all ∷ one_with body ∷ [] }

-- long Long = all(); return 1;
abbrev pub asking : Statements
asking = Then (Declare somewhere Long unreadable (QueryLong somewhere (codes "all") NoMore)) one_returned

-- List<User> Long = db.fetch(User.class); int n_1 = Long.size(); return 1;
abbrev pub asked : Statements
asked = counting unreadable (codes "n_1") one_returned
