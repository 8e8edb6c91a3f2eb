use Rattle.std.proofs.Common.{◌≡◌, ◌++◌, drop, map, codes}
use Rattle.std.specs.List.{flat_map}
use Rattle.std.specs.String.{string_bytes}
use Rattle.java_ast.specs.Reading.{param}
use Rattle.java_text.specs.Canonical.{separated, canonical_param}
use Rattle.java_text.proofs.printing.put_params.Given as goal

abbrev pub invariant-loop-p : goal.invariant-loop-p
invariant-loop-p l = string_bytes l.out ++ flat_map (λ y. codes ", " ++ canonical_param y) (map param (drop l.p-index l.further)) ≡ string_bytes l.fn.out ++ separated (codes ", ") canonical_param (map param l.params)
