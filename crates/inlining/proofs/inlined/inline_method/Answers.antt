use Rattle.std.proofs.Common.{ap, ◌∙◌}
use Rattle.java_ast.specs.Reading.{method, program, statements}
use Rattle.inlining.specs.Walked.{most_open}
use Rattle.inlining.proofs.Made.{method_full, method_pushed}
use Rattle.inlining.proofs.inlined.inline_method.Goals as goal

pub returns-in-Full : goal.returns-in-Full
returns-in-Full c =
    method_full c.in_ok-walk_block.field-0 most_open (program c.args.class.now) c.args.m.now c.as_slice.result.now c.args.counts.now c.walk_block.new.counts (statements c.new-body.result.items) (statements c.walk_block.new.out.items) c.as_slice.ensures c.in-Full.is c.in_ok-walk_block.ensures

pub returns-in_ok-new-in-Pushed : goal.returns-in_ok-new-in-Pushed
returns-in_ok-new-in-Pushed c =
    method_pushed c.in_ok-walk_block.field-0 most_open (program c.args.class.now) c.args.m.now c.as_slice.result.now c.args.counts.now c.walk_block.new.counts (statements c.new-body.result.items) (statements c.walk_block.new.out.items) c.as_slice.ensures c.in-Pushed.is c.in_ok-walk_block.ensures
    (ap statements c.new-body.ensures.items) (method c.in_ok-new-in-Pushed.field-0.value) (ap method c.in_ok-new-in-Pushed.ensures.ok ∙ c.in_ok-made-in-Pushed.ensures)
