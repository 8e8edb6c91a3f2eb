-- Conditions that are given their atoms, one after another.
use Rattle.std.proofs.Common.{◌≡◌, List, [], ◌∷◌, ◌++◌, sym, ap, ◌∙◌, append_assoc}
use Rattle.tor_terms.specs.declared.term.Atom.{Atom}
use Rattle.tor_axioms.specs.declared.derivation.Condition.{Condition}
use Rattle.tor_axioms.specs.declared.derivation.Vc.{Vc}
use Rattle.tor_axioms.specs.Accepts.{Claim, claim_over}
use Rattle.vc_gen.specs.Conditions.{claims_of}
use Rattle.vc_gen.specs.Lent.{claims_over}

pub given : (atoms : List Atom) (vcs new : List Vc) (cs rest : List Condition) (c made : Condition) → cs ≡ c ∷ rest → (all : List Claim) → made ≡ c → claims_of new ≡ claims_of vcs ++ claim_over atoms made ∷ []
    → claims_of vcs ++ claims_over atoms cs ≡ all → claims_of new ++ claims_over atoms rest ≡ all
given atoms vcs new cs rest c made is all same pushed so_far =
    ap (λ ys. ys ++ claims_over atoms rest) pushed
    ∙ append_assoc (claims_of vcs) (claim_over atoms made ∷ []) (claims_over atoms rest)
    ∙ ap (λ x. claims_of vcs ++ claim_over atoms x ∷ claims_over atoms rest) same
    ∙ ap (λ ds. claims_of vcs ++ claims_over atoms ds) (sym is)
    ∙ so_far
