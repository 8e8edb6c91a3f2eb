use Rattle.std.proofs.Common.{◌≡◌, ◌++◌}
use Rattle.std.specs.List.{flat_map}
use Rattle.std.specs.String.{string_bytes}
use Rattle.qbs_base.specs.Literal.{escaped}
use Rattle.qbs_base.proofs.literal.push_escaped.Given as goal

abbrev pub invariant-loop-c : goal.invariant-loop-c
invariant-loop-c l = string_bytes l.out ++ flat_map escaped l.c-iterator.rest.now ≡ string_bytes l.fn.out ++ flat_map escaped l.text
