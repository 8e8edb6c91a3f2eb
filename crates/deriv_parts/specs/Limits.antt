-- The limit of derivations.
use Rattle.std.specs.Prelude.{ℕ}

-- how many splits may stand inside one another
abbrev pub most_splits : ℕ
most_splits = 10
