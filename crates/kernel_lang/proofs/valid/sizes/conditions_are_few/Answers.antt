use Rattle.std.proofs.Common.{◌≡◌, map, min}
use Rattle.kernel_lang.specs.Plain.{accumulator}
use Rattle.kernel_lang.specs.Validity.{conditions_are_few, count_conditions}
use Rattle.kernel_lang.proofs.Capped.{few}
use Rattle.kernel_lang.proofs.valid.sizes.conditions_are_few.Goals as goal

pub returns : goal.returns
unfolding conditions_are_few
returns c =
    let e : c.count_conditions.result ≡ min (count_conditions (map accumulator c.args.p.now.accs)) 4097 = rw c.as_slice.ensures at c.count_conditions.ensures in
    few (count_conditions (map accumulator c.args.p.now.accs)) c.count_conditions.result e
