use Rattle.std.proofs.Common.{◌≡◌, drop}
use Rattle.std.specs.List.{flat_map}
use Rattle.java_calls.specs.ProgramNames.{dotted_parts}
use Rattle.inlining.specs.Endings.{all_noted}
use Rattle.inlining.proofs.class.note_imports.Given as goal

abbrev pub invariant-loop-name : goal.invariant-loop-name
invariant-loop-name l = all_noted l.tails (flat_map dotted_parts (drop l.name-index l.imports)) ≡ all_noted l.fn.tails (flat_map dotted_parts l.imports)
