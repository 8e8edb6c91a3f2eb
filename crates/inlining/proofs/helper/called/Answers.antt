use Rattle.std.proofs.Common.{◌∙◌, sym}
use Rattle.inlining.proofs.Arguments.{call_is, no_call_is}
use Rattle.inlining.proofs.helper.called.Goals as goal

pub returns-then-is_single_name : goal.returns-then-is_single_name
returns-then-is_single_name c = call_is c.args.e.now c.in-QueryLong.text c.in-QueryLong.arguments c.as_slice.result.now c.in-QueryLong.is c.as_slice.ensures.value (sym c.is_single_name.ensures ∙ c.if-is_single_name.true)

pub returns-else-is_single_name : goal.returns-else-is_single_name
returns-else-is_single_name c = no_call_is c.args.e.now c.in-QueryLong.text c.in-QueryLong.arguments c.in-QueryLong.is (sym c.is_single_name.ensures ∙ c.if-is_single_name.false)
