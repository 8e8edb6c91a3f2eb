use Rattle.std.proofs.Common.{◌≡◌, [], ◌∷◌}
use Rattle.qbs_base.specs.Tables.{NamedRows}
use Rattle.sample_data.specs.Tables.{Role, roles}
use Rattle.sample_data.proofs.tables.put_roles.Given as goal

-- the roles so far
abbrev pub invariant-loop-j : goal.invariant-loop-j
invariant-loop-j l = (users : NamedRows) → l.fn.db ≡ users ∷ (Role, []) ∷ [] → l.db ≡ users ∷ (Role, roles l.j) ∷ []
