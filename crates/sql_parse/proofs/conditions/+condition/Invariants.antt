use Rattle.std.proofs.Common.{◌≡◌, ◌+◌, ◌-◌, ◌*◌, codes, length}
use Rattle.sql_ast.specs.Reader.{joined_from, negation_at, atom_at, conjunction_at, condition_at}
use Rattle.sql_ast.specs.Written.{Both, Either}
use Rattle.sql_parse.specs.Said.{condition_of}
use Rattle.sql_parse.specs.Seen.{tokens_of}
use Rattle.sql_parse.proofs.conditions.+condition.Given as goal

-- a function calls those below it at the same room, and conditions at less
abbrev pub decreases-conjunction : goal.decreases-conjunction
decreases-conjunction l = l.room * 5 + 4

abbrev pub decreases-negation : goal.decreases-negation
decreases-negation l = l.room * 5 + 3

abbrev pub decreases-atom : goal.decreases-atom
decreases-atom l = l.room * 5 + 2

abbrev pub decreases-source : goal.decreases-source
decreases-source l = l.room * 5 + 1

abbrev pub decreases-condition : goal.decreases-condition
decreases-condition l = l.room * 5

abbrev pub invariant-conjunction-loop : goal.invariant-conjunction-loop
invariant-conjunction-loop l =
    joined_from (codes "AND") Both (negation_at (atom_at (condition_at l.room))) (length l.initial.rest - l.counter) (condition_of l.left.value) (tokens_of l.rest) ≡ conjunction_at (condition_at l.room) (tokens_of l.tokens)

abbrev pub invariant-condition-loop : goal.invariant-condition-loop
invariant-condition-loop l =
    joined_from (codes "OR") Either (conjunction_at (condition_at l.room)) (length l.initial.rest - l.counter) (condition_of l.left.value) (tokens_of l.rest) ≡ condition_at l.fn.room (tokens_of l.tokens)
