use Rattle.java_ast.specs.Reading.{program as plain_program}
use Rattle.qbs.proofs.Made.{Leads}
use Rattle.qbs.proofs.make.plan_runs.Given as goal

-- what is due for the methods that are left, behind what is written, is due for all
abbrev pub invariant-loop-number : goal.invariant-loop-number
invariant-loop-number l = Leads l.schema l.db (plain_program l.typed.program).methods l.fn.written.items l.out.items l.number
