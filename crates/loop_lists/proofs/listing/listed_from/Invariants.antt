use Rattle.std.proofs.Common.{◌≡◌, ◌≤◌, ◌-◌, length, take, map}
use Rattle.java_ast.specs.Reading.{method as plain_method}
use Rattle.loop_text.specs.Statements.Loops.{loops_of_methods}
use Rattle.loop_lists.proofs.listing.listed_from.Given as goal

-- the loops of the methods so far are among those that stand
abbrev pub invariant-loop-number : goal.invariant-loop-number
invariant-loop-number l = record { behind : l.before ≤ l.standing; is : l.before ≡ length (loops_of_methods 0 (take l.number (map plain_method l.methods))) }

abbrev pub decreases-loop-number : goal.decreases-loop-number
decreases-loop-number l = length l.methods - l.number
