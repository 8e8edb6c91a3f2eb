use Rattle.std.proofs.Common.{◌≡◌, IfOk, sym, ap, ◌∙◌, subst}
use Rattle.tor_terms.specs.Plain.{forms_of, tree_of}
use Rattle.vc_gen.specs.Conditions.{level}
use Rattle.vc_gen.specs.Levels.{layer_seen, layers_seen}
use Rattle.vc_gen.specs.Outlines.{staged}
use Rattle.vc_gen.specs.Sought.{sought_seen}
use Rattle.vc_gen.proofs.Seeking.{here_first, left_then}
use Rattle.vc_gen.proofs.nth.+in_stages.Goals as goal

pub returns-in-Here : goal.returns-in-Here
returns-in-Here t c =
    let chosen = c.args.chosen.now in
    let stage = c.in-Some-split_first.stage.now in
    let own = level chosen.atoms.now chosen.update (forms_of chosen.formulas.now) stage.place.outer stage.ways (tree_of stage.place.entry.value) (layer_seen c.in-Some.y.now) (layers_seen c.in-Some.rest.now) in
    let further = staged chosen.atoms.now chosen.update (forms_of chosen.formulas.now) (layers_seen c.in-Some.rest.now) c.in-Some-split_first.others.now in
    rw (c.in-Some.ensures.cases.0, c.in-Some-split_first.ensures.cases.0) (here_first own further c.args.n _ (sym (ap (sought_seen chosen.atoms.now) c.in-Here.is) ∙ c.in_ok-c-in-Some-split_first.ensures))

pub returns-in-Left : goal.returns-in-Left
returns-in-Left t c =
    let chosen = c.args.chosen.now in
    let stage = c.in-Some-split_first.stage.now in
    let own = level chosen.atoms.now chosen.update (forms_of chosen.formulas.now) stage.place.outer stage.ways (tree_of stage.place.entry.value) (layer_seen c.in-Some.y.now) (layers_seen c.in-Some.rest.now) in
    let further = staged chosen.atoms.now chosen.update (forms_of chosen.formulas.now) (layers_seen c.in-Some.rest.now) c.in-Some-split_first.others.now in
    let h = sym (ap (sought_seen chosen.atoms.now) c.in-Left.is) ∙ c.in_ok-c-in-Some-split_first.ensures in
    rw (c.in-Some.ensures.cases.0, c.in-Some-split_first.ensures.cases.0) (subst (λ x. IfOk c.in_stages.result (λ s. sought_seen chosen.atoms.now s ≡ x)) (left_then own further c.args.n c.in-Left.n h) c.in_stages.ensures)
