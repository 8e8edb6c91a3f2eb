use Rattle.std.proofs.Common.{◌≡◌, map, slice_get, take}
use Rattle.sql_build.specs.Types.{type_of}
use Rattle.sql_build.proofs.types.types_in.Given as goal

abbrev pub invariant-loop-k : goal.invariant-loop-k
invariant-loop-k l = l.all ≡ map (λ k. type_of (slice_get l.types k)) (take l.k-index l.order)
