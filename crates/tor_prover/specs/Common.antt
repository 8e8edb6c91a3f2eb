-- Conditions whose sides have terms in common, in one bank.
use Rattle.std.specs.Prelude.{◌≡◌, List, [], length}
use Rattle.tor_terms.specs.Plain.{Tree}
use Rattle.term_bank.specs.Banks.{with_term}
use Rattle.tor_axioms.specs.Accepts.{Claim}
use Rattle.tor_prover.specs.Worked.{chosen, turn_holding, turn_failing}

-- with both sides of a condition
abbrev with_sides : List Tree → Claim → List Tree
with_sides ts c = with_term (with_term ts c.left) c.right

-- a turn of a loop in which its test holds, and one in which it doesn't: the second has no term that the first hasn't
pub record Common : Type 0 where
  pub one : length (with_sides [] (turn_holding chosen)) ≡ 12
  pub both : with_sides (with_sides [] (turn_holding chosen)) (turn_failing chosen) ≡ with_sides [] (turn_holding chosen)
