use Rattle.std.proofs.Common.{◌≡◌, ℕ, ◌++◌, drop, map, slice_get}
use Rattle.java_ast.specs.Reading.{expression}
use Rattle.rewrite_core.specs.Asked.{entry_at}
use Rattle.rewrite_core.proofs.values.list_entries.Given as goal

abbrev pub invariant-loop-number : goal.invariant-loop-number
invariant-loop-number l =
    map expression l.all.items ++ map (λ (k : ℕ). entry_at l.at (slice_get (map expression l.entries) k)) (drop l.number-index l.numbers)
    ≡ map (λ (k : ℕ). entry_at l.at (slice_get (map expression l.entries) k)) l.numbers
