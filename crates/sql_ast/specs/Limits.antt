-- The numbers that a limit may have.
use Rattle.std.specs.Prelude.{ℕ, pos, if◌then◌else◌}
use Rattle.std.specs.declared.option.Option.{Option}
use Rattle.std.specs.declared.option.Option.TheVariants.{Some, None}
use Rattle.qbs_base.specs.Values.{fits_long}

-- a number below 2^63
abbrev pub limit_within : ℕ → Option ℕ
limit_within number = if fits_long (pos number) then Some number else None
