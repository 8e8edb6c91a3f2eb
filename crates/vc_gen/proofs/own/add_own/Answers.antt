use Rattle.kernel_lang.specs.Plain.{accumulator}
use Rattle.vc_gen.proofs.Short.{cut_short}
use Rattle.vc_gen.proofs.own.add_own.Goals as goal

pub add_in_place-requires : goal.add_in_place-requires
add_in_place-requires c =
    cut_short (accumulator c.args.a.now) c.in_ok-levels.levels c.first_levels-outside.result.now c.last_levels-inside.result.now c.in_ok-levels.ensures (rw c.as_slice.ensures at c.first_levels-outside.ensures) (rw c.as_slice-2.ensures at c.last_levels-inside.ensures)
    c.requires
