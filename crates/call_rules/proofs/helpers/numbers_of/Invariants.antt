use Rattle.std.proofs.Common.{◌≡◌, ◌++◌, drop, map}
use Rattle.std.proofs.Common.{List, ℕ}
use Rattle.java_ast.specs.Reading.{method}
use Rattle.java_calls.specs.Rules.{number_named}
use Rattle.call_rules.proofs.Numbers.{number_or}
use Rattle.call_rules.proofs.helpers.numbers_of.Given as goal

abbrev pub invariant-loop-i : goal.invariant-loop-i
invariant-loop-i l = (x : List ℕ) → number_or l.numbers l.i (drop l.i l.methods) x ≡ number_named (map method l.methods) x
