use Rattle.java_ast.specs.Reading.{program as plain_program}
use Rattle.qbs.specs.Rewrite.{size_of, budget_of}
use Rattle.qbs.proofs.Gathering.{searched_before, gathers_found}
use Rattle.qbs.proofs.gather.plan_program.Goals as goal

pub gather_all-requires-clause-before : goal.gather_all-requires-clause-before
gather_all-requires-clause-before c =
    rw c.as_slice.ensures
    (searched_before c.args.schema.now c.size_of-size.result c.budget_of-budget.result (plain_program c.args.typed.now.program) c.in_ok-searching.searching.searches c.in_ok-searching.ensures.searches)

pub returns : goal.returns
returns c =
    gathers_found c.args.schema.now c.size_of-size.result (size_of c.args.options.now) c.budget_of-budget.result (budget_of c.args.options.now) (plain_program c.args.typed.now.program)
    c.in_ok-searching.searching.searches c.in_ok-searching.searching.verdicts c.gather_all.new.bank c.plan_bank.result c.size_of-size.ensures.is c.budget_of-budget.ensures.is
    c.in_ok-searching.ensures.searches c.in_ok-searching.ensures.verdicts
    (rw (c.as_slice.ensures, c.new-bank.ensures) at c.in_ok-gather_all.ensures.gathers) c.plan_bank.ensures.store (rw c.as_slice-2.ensures at c.plan_bank.ensures.plan)
