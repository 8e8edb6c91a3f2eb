use Rattle.std.proofs.Common.{◌≡◌, true, Some, map, refl, sym, ap, ◌∙◌, length}
use Rattle.std.specs.Option.{option_map}
use Rattle.std.proofs.lemmas.Option.{slice_get_read, slice_get-map}
use Rattle.tor_terms.specs.Plain.{tree_of}
use Rattle.tor_terms.specs.Same.{same_tree}
use Rattle.tor_terms.proofs.Identical.{same_tree-true}
use Rattle.term_bank.proofs.Fronts.{has_at}
use Rattle.term_bank.proofs.entering.find.Goals as goal

pub returns-then-same_term-clause-found : goal.returns-then-same_term-clause-found
returns-then-same_term-clause-found c =
    let same : same_tree (tree_of c.args.t.now) (tree_of c.index-terms-n.result) ≡ true = sym c.same_term.ensures ∙ c.if-same_term.true in
    slice_get-map tree_of c.args.terms.now c.loop-n.n
    ∙ ap (option_map tree_of) (slice_get_read c.args.terms.now (length c.args.terms.now) c.loop-n.n c.index-terms-n.result refl c.loop-n-test.true c.index-terms-n.is)
    ∙ ap Some (sym (same_tree-true (tree_of c.args.t.now) (tree_of c.index-terms-n.result) same))

pub returns-then-same_term-clause-there : goal.returns-then-same_term-clause-there
returns-then-same_term-clause-there c = has_at (map tree_of c.args.terms.now) c.loop-n.n (tree_of c.args.t.now) (returns-then-same_term-clause-found c)
