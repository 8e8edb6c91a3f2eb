use Rattle.std.proofs.Common.{◌≡◌, ◌++◌, drop}
use Rattle.tor_terms.specs.Plain.{forms_of, tree_of}
use Rattle.vc_gen.specs.Conditions.{level}
use Rattle.vc_gen.specs.Lent.{claims_over}
use Rattle.vc_gen.specs.Levels.{layer_seen, layers_seen}
use Rattle.vc_gen.proofs.own.add_level.Given as goal

abbrev pub invariant-loop-way : goal.invariant-loop-way
invariant-loop-way l = claims_over l.chosen.atoms.now l.all ++ level l.chosen.atoms.now l.chosen.update (forms_of l.chosen.formulas.now) l.place.outer (drop l.way-index l.ways) (tree_of l.place.entry.value) (layer_seen l.y) (layers_seen l.ys)
    ≡ claims_over l.chosen.atoms.now l.initial.all ++ level l.chosen.atoms.now l.chosen.update (forms_of l.chosen.formulas.now) l.place.outer l.ways (tree_of l.place.entry.value) (layer_seen l.y) (layers_seen l.ys)
