use Rattle.std.proofs.Common.{◌≡◌, ◌%◌, IfOk, length, ap, ◌∙◌, subst}
use Rattle.tor_terms.specs.Plain.{forms_of, tree_of}
use Rattle.vc_gen.specs.Conditions.{at_level}
use Rattle.vc_gen.specs.Levels.{layer_seen, layers_seen}
use Rattle.vc_gen.specs.Sought.{sought, sought_seen}
use Rattle.vc_gen.proofs.Staged.{as_many, some_each, here_by_number, left_by_number, all_below}
use Rattle.vc_gen.proofs.nth.in_level.Goals as goal

pub returns-in-None : goal.returns-in-None
returns-in-None c =
    let g = at_level c.args.chosen.now.atoms.now c.args.chosen.now.update (forms_of c.args.chosen.now.formulas.now) c.args.stage.now.place.outer (tree_of c.args.stage.now.place.entry.value) (layer_seen c.args.y.now) (layers_seen c.args.ys.now) in
    rw c.len.ensures
    (left_by_number g c.args.stage.now.each (as_many c.args.chosen.now.atoms.now c.args.chosen.now.update (forms_of c.args.chosen.now.formulas.now) c.args.stage.now.place.outer (tree_of c.args.stage.now.place.entry.value) (layer_seen c.args.y.now) (layers_seen c.args.ys.now) c.args.stage.now c.requires)
    c.args.stage.now.ways c.args.n (all_below c.args.n c.args.stage.now.each (length c.args.stage.now.ways) (rw c.as_slice.ensures at c.in-None.ensures.lookup.3)))

pub returns-in-Some : goal.returns-in-Some
returns-in-Some c =
    let g = at_level c.args.chosen.now.atoms.now c.args.chosen.now.update (forms_of c.args.chosen.now.formulas.now) c.args.stage.now.place.outer (tree_of c.args.stage.now.place.entry.value) (layer_seen c.args.y.now) (layers_seen c.args.ys.now) in
    subst (λ z. IfOk c.by_way.result (λ s. sought_seen c.args.chosen.now.atoms.now s ≡ z))
    (ap (λ w. sought (g w) (c.args.n % c.args.stage.now.each)) c.as_slice-in-Some.ensures
    ∙ here_by_number g c.args.stage.now.each (as_many c.args.chosen.now.atoms.now c.args.chosen.now.update (forms_of c.args.chosen.now.formulas.now) c.args.stage.now.place.outer (tree_of c.args.stage.now.place.entry.value) (layer_seen c.args.y.now) (layers_seen c.args.ys.now) c.args.stage.now c.requires)
    c.args.stage.now.ways c.args.n c.in-Some.way.now (some_each (layer_seen c.args.y.now) c.args.stage.now c.requires) (rw c.as_slice.ensures at c.in-Some.ensures.lookup.3.0) (rw c.as_slice.ensures at c.in-Some.ensures.lookup.1))
    c.by_way.ensures
