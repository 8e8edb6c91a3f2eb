use Rattle.kernel_lang.specs.Plain.{accumulator}
use Rattle.vc_gen.proofs.Short.{cut_short}
use Rattle.vc_gen.proofs.Staged.{outlined}
use Rattle.vc_gen.proofs.outline.outline_of.Goals as goal

pub stages_inside-requires : goal.stages_inside-requires
stages_inside-requires c =
    cut_short (accumulator c.args.a.now) c.in_ok-levels.levels c.first_levels-outside.result.now c.last_levels-inside.result.now c.in_ok-levels.ensures (rw c.as_slice.ensures at c.first_levels-outside.ensures) (rw c.as_slice-2.ensures at c.last_levels-inside.ensures)
    c.requires

pub returns : goal.returns
returns c =
    outlined (accumulator c.args.a.now) c.in_ok-levels.levels c.first_levels-outside.result.now c.last_levels-inside.result.now c.in_ok-stages.stages c.in_ok-levels.ensures (rw c.as_slice.ensures at c.first_levels-outside.ensures) (rw c.as_slice-2.ensures at c.last_levels-inside.ensures)
    c.in_ok-stages.ensures
