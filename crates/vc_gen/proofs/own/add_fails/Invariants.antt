use Rattle.std.proofs.Common.{◌≡◌, ◌++◌, drop}
use Rattle.tor_terms.specs.declared.term.Index.TheVariants.{At, Next}
use Rattle.tor_terms.specs.Plain.{forms_of, tree_of}
use Rattle.kernel_lang.specs.Postcondition.{part}
use Rattle.vc_gen.specs.Conditions.{by_paths}
use Rattle.vc_gen.specs.Lent.{claims_over}
use Rattle.vc_gen.specs.Levels.{layer_seen, layers_seen}
use Rattle.vc_gen.proofs.own.add_fails.Given as goal

-- the conditions by the paths that are left come behind those that were added
abbrev pub invariant-loop-path : goal.invariant-loop-path
invariant-loop-path l = claims_over l.chosen.atoms.now l.all ++ by_paths l.chosen.atoms.now l.way (part l.chosen.update (forms_of l.chosen.formulas.now) l.place.outer (tree_of l.place.entry.value) (layer_seen l.y) (layers_seen l.ys) (Next l.y.over)) (part l.chosen.update (forms_of l.chosen.formulas.now) l.place.outer (tree_of l.place.entry.value) (layer_seen l.y) (layers_seen l.ys) (At l.y.over)) (drop l.path-index l.fails)
    ≡ claims_over l.chosen.atoms.now l.initial.all ++ by_paths l.chosen.atoms.now l.way (part l.chosen.update (forms_of l.chosen.formulas.now) l.place.outer (tree_of l.place.entry.value) (layer_seen l.y) (layers_seen l.ys) (Next l.y.over)) (part l.chosen.update (forms_of l.chosen.formulas.now) l.place.outer (tree_of l.place.entry.value) (layer_seen l.y) (layers_seen l.ys) (At l.y.over)) l.fails
