use Rattle.std.proofs.Common.{◌≡◌, ◌-◌, false, IfOk, is_some, refl, ap, sym, ◌∙◌, subst, arith}
use Rattle.tor_terms.specs.Plain.{tree_of}
use Rattle.tor_axioms.specs.Decide.{literal, with_fact}
use Rattle.tor_prover.specs.Derive.{derived}
use Rattle.tor_prover.specs.Reduced.{verdict_seen}
use Rattle.tor_prover.proofs.Reducing.{derived-fails, derived-splits}
use Rattle.tor_prover.proofs.derivable.+derives_within.Goals as goal

pub derives_within-returns-then-not-branch : goal.derives_within-returns-then-not-branch
derives_within-returns-then-not-branch t c =
    let j = sym (ap verdict_seen c.in-Open.is) ∙ c.in_ok-compare.ensures in
    derived-fails c.args.atoms.now c.args.facts.now (tree_of c.args.condition.now.left) (tree_of c.args.condition.now.right) c.args.depth c.in-Open.k (omega arith) j (sym c.if-not-branch.true ∙ c.in_ok-derives_with-in-Open.ensures)

pub derives_within-returns-else-not-branch : goal.derives_within-returns-else-not-branch
derives_within-returns-else-not-branch t c =
    let j = sym (ap verdict_seen c.in-Open.is) ∙ c.in_ok-compare.ensures in
    let failing = is_some (derived c.args.atoms.now (c.args.depth - 1) (with_fact c.args.atoms.now c.args.facts.now (literal c.in-Open.k false)) (tree_of c.args.condition.now.left) (tree_of c.args.condition.now.right)) in
    let q = derived-splits c.args.atoms.now c.args.facts.now (tree_of c.args.condition.now.left) (tree_of c.args.condition.now.right) c.args.depth c.in-Open.k failing (omega arith) j (sym c.if-not-branch.false ∙ c.in_ok-derives_with-in-Open.ensures) refl in
    subst (λ x. IfOk c.derives_with-in-Open.result (λ b. b ≡ x)) q c.derives_with-in-Open.ensures
