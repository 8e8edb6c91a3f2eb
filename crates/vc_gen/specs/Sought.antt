-- The condition of a number, and what is left of the number where there are too few.
use Rattle.std.specs.Prelude.{ℕ, zero, suc, List, [], ◌∷◌}
use Rattle.tor_terms.specs.declared.term.Atom.{Atom}
use Rattle.tor_axioms.specs.Accepts.{Claim, claim_over}
use Rattle.vc_gen.specs.declared.nth.Sought.{Sought as SoughtCode}
use Rattle.vc_gen.specs.declared.nth.Sought.TheVariants as codes

-- the condition that is looked for, or how many of those that come later are to be passed over
pub data Sought : Type 0 where
  Here : Claim → Sought
  Left : ℕ → Sought

abbrev pub sought : List Claim → ℕ → Sought
sought [] n = Left n
sought (c ∷ cs) zero = Here c
sought (c ∷ cs) (suc n) = sought cs n

-- and else among these
abbrev pub or_among : List Claim → Sought → Sought
or_among cs (Here c) = Here c
or_among cs (Left n) = sought cs n

abbrev pub sought_seen : List Atom → SoughtCode → Sought
sought_seen atoms (codes.Here c) = Here (claim_over atoms c.value)
sought_seen atoms (codes.Left n) = Left n
