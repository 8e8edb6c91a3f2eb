use Rattle.std.proofs.Common.{◌≡◌, ◌++◌, drop, map}
use Rattle.java_ast.specs.Reading.{method}
use Rattle.call_rules.specs.Noted.{all_notes}
use Rattle.call_rules.proofs.notes.notes_in_methods.Given as goal

abbrev pub invariant-loop-m : goal.invariant-loop-m
invariant-loop-m l = l.all ++ all_notes (map method l.helpers) (map method (drop l.m-index l.methods)) ≡ all_notes (map method l.helpers) (map method l.methods)
