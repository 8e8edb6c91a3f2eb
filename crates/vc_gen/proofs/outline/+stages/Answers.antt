use Rattle.std.proofs.Common.{ap, ◌∙◌}
use Rattle.kernel_lang.specs.Paths.{each_with}
use Rattle.vc_gen.specs.Levels.{layer_seen, layers_seen}
use Rattle.vc_gen.proofs.Staged.{stood}
use Rattle.vc_gen.proofs.outline.+stages.Goals as goal

pub returns-in_ok-all-in-Some : goal.returns-in_ok-all-in-Some
returns-in_ok-all-in-Some t c =
    let first = c.in_ok-first-in-Some.first in
    rw (c.in-Some.ensures.cases.0, c.in_ok-all-in-Some.ensures)
    (stood c.args.place c.args.ways (layer_seen c.in-Some.y.now) (layers_seen c.in-Some.rest.now) first c.in_ok-others-in-Some.others c.in_ok-inner-in-Some.inner c.in_ok-more-in-Some.more
    c.in_ok-first-in-Some.ensures.place c.in_ok-first-in-Some.ensures.ways c.in_ok-first-in-Some.ensures.of c.in_ok-inner-in-Some.ensures.outer c.in_ok-inner-in-Some.ensures.entry
    (c.in_ok-more-in-Some.ensures ∙ ap (λ qs. each_with qs c.as_slice-in-Some.result.now) c.as_slice.ensures ∙ ap (λ qs. each_with first.ways qs) c.as_slice-in-Some.ensures)
    c.in_ok-others-in-Some.ensures)
