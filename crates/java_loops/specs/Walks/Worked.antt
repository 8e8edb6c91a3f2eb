-- Loops that show what the definitions say.
use Rattle.std.specs.Prelude.{ℕ, false, List, [], ◌∷◌, codes}
use Rattle.qbs_base.specs.declared.scalar.Scalar.TheVariants as scalars
use Rattle.qbs_base.specs.declared.scalar.Value.TheVariants.{Many}
use Rattle.java_ast.specs.Tree.{Lit, Fetch, Not, Statement, Assign, If, ForEach, Break, Statements, Nothing, Then}
use Rattle.java_mean.specs.Store.{Store, put, plainly}
use Rattle.sql_ast.specs.Worked.{role}
use Rattle.java_mean.specs.Worked.{User, u, somewhere, block, field, for_each}

-- the first for-each of a block
abbrev pub first_loop : Statements → Statement
first_loop Nothing = Break somewhere
first_loop (Then (ForEach at ty x e b) p) = ForEach at ty x e b
first_loop (Then s p) = first_loop p

abbrev pub roles : List ℕ
roles = codes "roles"

abbrev pub best : List ℕ
best = codes "best"

-- the roles of the worked tables in a variable
abbrev pub with_roles : Store
with_roles = put [] roles (plainly (Many (role 1 (codes "admin") ∷ role 2 (codes "staff") ∷ role 2 (codes "crew") ∷ [])))

abbrev pub all : List ℕ
all = codes "all"

-- for (User u : db.fetch(User.class)) { if (!u.active) { all = false; break; } }
abbrev pub all_active : Statement
all_active = for_each User u (Fetch somewhere User) (If somewhere (Not somewhere (field u (codes "active"))) (block (Assign somewhere all (Lit somewhere (scalars.Bool false)) ∷ Break somewhere ∷ [])) ∷ [])
