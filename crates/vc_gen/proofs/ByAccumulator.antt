-- The conditions of a candidate, accumulator by accumulator.
use Rattle.std.proofs.Common.{◌≡◌, ℕ, List, [], ◌∷◌, ◌++◌, refl, ap}
use Rattle.std.specs.List.{flat_map}
use Rattle.tor_terms.specs.declared.term.Atom.{Atom}
use Rattle.kernel_lang.specs.Plain.{Fragment}
use Rattle.kernel_lang.specs.Pools.{Member, members}
use Rattle.vc_gen.specs.Conditions.{conditions, own_conditions, all_conditions}

all-flat : (atoms : List Atom) (ms : List Member) → all_conditions atoms ms ≡ flat_map (own_conditions atoms) ms
all-flat atoms [] = refl
all-flat atoms (m ∷ ms) = ap (λ cs. own_conditions atoms m ++ cs) (all-flat atoms ms)

pub by_accumulator : (f : Fragment) (c : List ℕ) → conditions f c ≡ flat_map (own_conditions f.atoms) (members f c)
by_accumulator f c = all-flat f.atoms (members f c)
