use Rattle.std.proofs.Common.{◌≡◌, ◌++◌, ◌-◌, ◌∷◌, []}
use Rattle.std.specs.List.{repeat}
use Rattle.cases.specs.Files.{bytes_under, padded}
use Rattle.cases.proofs.held.padded_of.Given as goal

-- what is there and the blanks that are left are all
abbrev pub invariant-loop : goal.invariant-loop
invariant-loop l = l.bytes.items ++ repeat (l.length - l.counter) (32 ∷ []) ≡ padded (bytes_under l.files l.name) l.length
