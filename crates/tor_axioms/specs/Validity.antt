-- Valid conditions: both terms have one value.
use Rattle.std.specs.Prelude.{◌≡◌, List, IsTrue, is_some}
use Rattle.tor_terms.specs.declared.env.Env.{Env}
use Rattle.tor_terms.specs.declared.term.Atom.{Atom}
use Rattle.tor_terms.specs.Fits.{sort}
use Rattle.tor_terms.specs.Plain.{Tree}
use Rattle.tor_terms.specs.Truth.{World}
use Rattle.tor_terms.specs.Valid.{IsValidFor}
use Rattle.tor_terms.specs.Value.{value}
use Rattle.tor_terms.specs.Worlds.{world_of}
use Rattle.tor_axioms.specs.Accepts.{Claim}
use Rattle.tor_axioms.specs.Decide.{Satisfied}

-- a term fits an environment: it has a sort there; its numbers may be of any size
abbrev pub TermFits : Env → List Atom → Tree → Type 0
TermFits env atoms t = IsTrue (is_some (sort env atoms t))

-- both terms have one value in each environment that is valid for both, that both fit, and that has the facts
abbrev pub IsValid : Claim → Type 0
IsValid c =
    (env : Env) → IsValidFor (world_of env) c.left → IsValidFor (world_of env) c.right → TermFits env c.atoms c.left → TermFits env c.atoms c.right → Satisfied (world_of env) c.atoms c.facts
    → value (world_of env) c.atoms c.left ≡ value (world_of env) c.atoms c.right

-- one value in each world that is valid for both terms and has the facts, whether or not they fit
abbrev pub IsValidAnywhere : Claim → Type 0
IsValidAnywhere c = (w : World) → IsValidFor w c.left → IsValidFor w c.right → Satisfied w c.atoms c.facts → value w c.atoms c.left ≡ value w c.atoms c.right
