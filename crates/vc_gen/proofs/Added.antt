-- Conditions that are added behind others, path by path.
use Rattle.std.proofs.Common.{◌≡◌, ℕ, ◌+◌, ◌<◌, List, [], ◌∷◌, ◌++◌, drop, length, get_or, sym, ap, ◌∙◌, append_assoc}
use Rattle.std.proofs.lemmas.List.{at_drop_more, map-append}
use Rattle.tor_terms.specs.declared.term.Atom.{Atom}
use Rattle.tor_terms.specs.Plain.{Tree}
use Rattle.tor_axioms.specs.declared.derivation.Condition.{Condition}
use Rattle.tor_axioms.specs.Accepts.{Claim, claim_over}
use Rattle.kernel_lang.specs.Paths.{Path}
use Rattle.vc_gen.specs.Conditions.{claim, by_paths}
use Rattle.vc_gen.specs.Lent.{claims_over}

pub added : (atoms : List Atom) (F : Path) (l r : Tree) (ps : List Path) (i : ℕ) (p seen tests : Path) (old new : List Condition) (c made : Condition) (all : List Claim) → i < length ps → p ≡ get_or ps i p
    → seen ≡ p → tests ≡ F ++ seen → claim_over atoms made ≡ claim atoms tests l r → c ≡ made → new ≡ old ++ c ∷ []
    → claims_over atoms old ++ by_paths atoms F l r (drop i ps) ≡ all → claims_over atoms new ++ by_paths atoms F l r (drop (i + 1) ps) ≡ all
added atoms F l r ps i p seen tests old new c made all there is read joined holds taken pushed so_far =
    let rest = by_paths atoms F l r (drop (i + 1) ps) in
    ap (λ cs. claims_over atoms cs ++ rest) pushed
    ∙ ap (λ cs. cs ++ rest) (map-append (claim_over atoms) old (c ∷ []))
    ∙ append_assoc (claims_over atoms old) (claim_over atoms c ∷ []) rest
    ∙ ap (λ x. claims_over atoms old ++ claim_over atoms x ∷ rest) taken
    ∙ ap (λ x. claims_over atoms old ++ x ∷ rest) (holds ∙ ap (λ t. claim atoms t l r) (joined ∙ ap (λ q. F ++ q) (read ∙ is)))
    ∙ sym (ap (λ cs. claims_over atoms old ++ cs) (at_drop_more (λ ds. by_paths atoms F l r ds) ps i p there))
    ∙ so_far
