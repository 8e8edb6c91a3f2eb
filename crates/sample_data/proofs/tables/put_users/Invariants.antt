use Rattle.std.proofs.Common.{◌≡◌, [], ◌∷◌}
use Rattle.sample_data.specs.Tables.{User, users}
use Rattle.sample_data.proofs.tables.put_users.Given as goal

-- the users so far
abbrev pub invariant-loop-i : goal.invariant-loop-i
invariant-loop-i l = l.db ≡ (User, users l.i) ∷ []
