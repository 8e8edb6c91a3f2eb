-- Patterns that are read item by item.
use Rattle.std.proofs.Common.{ℕ, ◌+◌, Result, Ok}
use Rattle.view_map.specs.declared.fault.MapFault.{MapFault}
use Rattle.view_map.specs.Reading.{◌>>=◌}

-- so many more items
abbrev pub added : ℕ → Result ℕ MapFault → Result ℕ MapFault
added n read = read >>= λ k. Ok (n + k)
