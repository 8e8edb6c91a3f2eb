use Rattle.std.proofs.Common.{◌∙◌, sym}
use Rattle.loop_places.proofs.RunsThere.{no_statement, no_loop, run_before}
use Rattle.loop_places.proofs.run.run_here.Goals as goal

pub returns-in_default : goal.returns-in_default
returns-in_default c = no_statement c.args.number c.args.block.now c.in_default.ensures.lookup.3

pub returns-then-not-is_loop : goal.returns-then-not-is_loop
returns-then-not-is_loop c = no_loop c.args.number c.args.block.now c.in-Some.looped.now c.in-Some.ensures.lookup.3.0 c.in-Some.ensures.lookup.1 (sym c.is_loop.ensures ∙ c.if-not-is_loop.true)

pub returns : goal.returns
returns c =
    run_before c.args.number c.args.block.now c.before_number.result.now c.split_run.result.1.now c.in-Some.looped.now c.in-Some.ensures.lookup.3.0 c.in-Some.ensures.lookup.1 (sym c.is_loop.ensures ∙ c.if-not-is_loop.false) c.before_number.ensures c.split_run.ensures.run
