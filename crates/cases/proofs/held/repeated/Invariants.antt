use Rattle.std.proofs.Common.{◌≡◌}
use Rattle.std.specs.List.{flat_map}
use Rattle.cases.specs.Files.{repeated_line}
use Rattle.cases.proofs.held.repeated.Given as goal

abbrev pub invariant-loop-line : goal.invariant-loop-line
invariant-loop-line l = l.bytes.items ≡ flat_map (λ x. repeated_line l.end x.now) l.yielded
