use Rattle.std.proofs.Common.{map}
use Rattle.kernel_lang.specs.Plain.{accumulator}
use Rattle.kernel_lang.specs.Validity.{count_conditions}
use Rattle.kernel_lang.proofs.Capped.{few}
use Rattle.lowering.proofs.rules.k8_sizes.conditions_are_few.Goals as goal

pub returns : goal.returns
returns c = few (count_conditions (map accumulator c.args.accs.now)) c.count_conditions.result c.count_conditions.ensures
