use Rattle.std.proofs.Common.{◌≡◌, IfOk, sym, ap, ◌∙◌, subst}
use Rattle.tor_terms.specs.Plain.{forms_of, tree_of}
use Rattle.vc_gen.specs.Conditions.{entry, true_steps, false_steps, exit}
use Rattle.vc_gen.specs.Levels.{layer_seen, layers_seen}
use Rattle.vc_gen.specs.Sought.{sought_seen}
use Rattle.vc_gen.proofs.Seeking.{here_true, here_false, at_exit}
use Rattle.vc_gen.proofs.nth.by_way.Goals as goal

pub returns-in-Here-2 : goal.returns-in-Here-2
returns-in-Here-2 c =
    let e = entry c.args.chosen.now.atoms.now c.args.chosen.now.update (forms_of c.args.chosen.now.formulas.now) c.args.stage.now.place.outer (tree_of c.args.stage.now.place.entry.value) (layer_seen c.args.y.now) (layers_seen c.args.ys.now) c.args.way.now in
    let x = exit c.args.chosen.now.atoms.now c.args.chosen.now.update (forms_of c.args.chosen.now.formulas.now) c.args.stage.now.place.outer (tree_of c.args.stage.now.place.entry.value) (layer_seen c.args.y.now) (layers_seen c.args.ys.now) c.args.way.now in
    let ts = true_steps c.args.chosen.now.atoms.now c.args.chosen.now.update (forms_of c.args.chosen.now.formulas.now) c.args.stage.now.place.outer (tree_of c.args.stage.now.place.entry.value) (layer_seen c.args.y.now) (layers_seen c.args.ys.now) c.args.way.now in
    let fs = false_steps c.args.chosen.now.atoms.now c.args.chosen.now.update (forms_of c.args.chosen.now.formulas.now) c.args.stage.now.place.outer (tree_of c.args.stage.now.place.entry.value) (layer_seen c.args.y.now) (layers_seen c.args.ys.now) c.args.way.now in
    let start = sym (ap (sought_seen c.args.chosen.now.atoms.now) c.in-Left.is) ∙ c.in_ok-c.ensures in
    here_true e x ts fs c.args.n c.in-Left.n start _ (sym (ap (sought_seen c.args.chosen.now.atoms.now) c.in-Here-2.is) ∙ c.in_ok-c-in-Left.ensures)

pub returns-in-Here-3 : goal.returns-in-Here-3
returns-in-Here-3 c =
    let e = entry c.args.chosen.now.atoms.now c.args.chosen.now.update (forms_of c.args.chosen.now.formulas.now) c.args.stage.now.place.outer (tree_of c.args.stage.now.place.entry.value) (layer_seen c.args.y.now) (layers_seen c.args.ys.now) c.args.way.now in
    let x = exit c.args.chosen.now.atoms.now c.args.chosen.now.update (forms_of c.args.chosen.now.formulas.now) c.args.stage.now.place.outer (tree_of c.args.stage.now.place.entry.value) (layer_seen c.args.y.now) (layers_seen c.args.ys.now) c.args.way.now in
    let ts = true_steps c.args.chosen.now.atoms.now c.args.chosen.now.update (forms_of c.args.chosen.now.formulas.now) c.args.stage.now.place.outer (tree_of c.args.stage.now.place.entry.value) (layer_seen c.args.y.now) (layers_seen c.args.ys.now) c.args.way.now in
    let fs = false_steps c.args.chosen.now.atoms.now c.args.chosen.now.update (forms_of c.args.chosen.now.formulas.now) c.args.stage.now.place.outer (tree_of c.args.stage.now.place.entry.value) (layer_seen c.args.y.now) (layers_seen c.args.ys.now) c.args.way.now in
    let start = sym (ap (sought_seen c.args.chosen.now.atoms.now) c.in-Left.is) ∙ c.in_ok-c.ensures in
    let passed = sym (ap (sought_seen c.args.chosen.now.atoms.now) c.in-Left-2.is) ∙ c.in_ok-c-in-Left.ensures in
    here_false e x ts fs c.args.n c.in-Left.n start c.in-Left-2.n _ passed (sym (ap (sought_seen c.args.chosen.now.atoms.now) c.in-Here-3.is) ∙ c.in_ok-c-in-Left-2.ensures)

pub returns-in-Left-3 : goal.returns-in-Left-3
returns-in-Left-3 c =
    let e = entry c.args.chosen.now.atoms.now c.args.chosen.now.update (forms_of c.args.chosen.now.formulas.now) c.args.stage.now.place.outer (tree_of c.args.stage.now.place.entry.value) (layer_seen c.args.y.now) (layers_seen c.args.ys.now) c.args.way.now in
    let x = exit c.args.chosen.now.atoms.now c.args.chosen.now.update (forms_of c.args.chosen.now.formulas.now) c.args.stage.now.place.outer (tree_of c.args.stage.now.place.entry.value) (layer_seen c.args.y.now) (layers_seen c.args.ys.now) c.args.way.now in
    let ts = true_steps c.args.chosen.now.atoms.now c.args.chosen.now.update (forms_of c.args.chosen.now.formulas.now) c.args.stage.now.place.outer (tree_of c.args.stage.now.place.entry.value) (layer_seen c.args.y.now) (layers_seen c.args.ys.now) c.args.way.now in
    let fs = false_steps c.args.chosen.now.atoms.now c.args.chosen.now.update (forms_of c.args.chosen.now.formulas.now) c.args.stage.now.place.outer (tree_of c.args.stage.now.place.entry.value) (layer_seen c.args.y.now) (layers_seen c.args.ys.now) c.args.way.now in
    let start = sym (ap (sought_seen c.args.chosen.now.atoms.now) c.in-Left.is) ∙ c.in_ok-c.ensures in
    let passed = sym (ap (sought_seen c.args.chosen.now.atoms.now) c.in-Left-2.is) ∙ c.in_ok-c-in-Left.ensures in
    let failed = sym (ap (sought_seen c.args.chosen.now.atoms.now) c.in-Left-3.is) ∙ c.in_ok-c-in-Left-2.ensures in
    subst (λ z. IfOk c.exit.result (λ s. sought_seen c.args.chosen.now.atoms.now s ≡ z)) (at_exit e x ts fs c.args.n c.in-Left.n start c.in-Left-2.n c.in-Left-3.n passed failed) c.exit.ensures
