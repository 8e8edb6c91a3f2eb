use Rattle.std.proofs.Common.{ap, ◌∙◌}
use Rattle.java_ast.specs.Reading.{program}
use Rattle.inlining.proofs.Listed.{too_large, whole_is}
use Rattle.inlining.proofs.inlined.inline_helpers.Goals as goal

pub returns-in-TooLarge : goal.returns-in-TooLarge
returns-in-TooLarge c = too_large (program c.args.program.now) c.in_ok-fault.field-0 c.in_ok-at-in-None.field-0 c.in-TooLarge.at c.in-None.is c.in_ok-fault.ensures c.in-TooLarge.is c.in_ok-at-in-None.ensures

pub returns-in_ok-new-in-Whole : goal.returns-in_ok-new-in-Whole
returns-in_ok-new-in-Whole c =
    whole_is (program c.args.program.now) c.in_ok-fault.field-0 c.in_ok-at-in-None.field-0 c.in-Whole.methods (program c.in_ok-new-in-Whole.field-0.value) c.in-None.is c.in_ok-fault.ensures c.in-Whole.is c.in_ok-at-in-None.ensures
    (ap program c.in_ok-new-in-Whole.ensures.ok ∙ c.in_ok-whole-in-Whole.ensures)
