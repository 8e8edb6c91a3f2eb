use Rattle.std.proofs.Common.{◌≡◌, drop, map}
use Rattle.std.specs.List.{flat_map}
use Rattle.java_ast.specs.Reading.{method}
use Rattle.java_calls.specs.ProgramNames.{method_names}
use Rattle.inlining.specs.Endings.{all_noted}
use Rattle.inlining.proofs.names.note_methods.Given as goal

abbrev pub invariant-loop-m : goal.invariant-loop-m
invariant-loop-m l = all_noted l.tails (flat_map method_names (map method (drop l.m-index l.methods))) ≡ all_noted l.fn.tails (flat_map method_names (map method l.methods))
