use Rattle.std.proofs.Common.{◌≡◌, ◌++◌, drop, map}
use Rattle.std.specs.List.{flat_map}
use Rattle.std.specs.String.{string_bytes}
use Rattle.java_ast.specs.Reading.{method}
use Rattle.java_text.specs.Canonical.{line_end, separated, canonical_method}
use Rattle.java_text.proofs.printing.put_methods.Given as goal

abbrev pub invariant-loop-m : goal.invariant-loop-m
invariant-loop-m l = string_bytes l.out ++ flat_map (λ y. line_end ++ canonical_method y) (map method (drop l.m-index l.further)) ≡ string_bytes l.fn.out ++ separated line_end canonical_method (map method l.methods)
