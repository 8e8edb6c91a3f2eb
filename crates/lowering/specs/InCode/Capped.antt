-- Pools, as far as they are small.
use Rattle.std.specs.Prelude.{◌<◌, Bool, List, [], ◌∷◌, length, nat_le}
use Rattle.tor_terms.specs.declared.term.Atom.{Atom}
use Rattle.tor_terms.specs.Plain.{Form}
use Rattle.tor_terms.specs.Same.{entered}
use Rattle.kernel_lang.specs.Plain.{Accumulator}
use Rattle.kernel_lang.specs.Pools.{pool_of}

-- a pool, or some formulas in place of one, where both have more than 16 members
pub data IsCapped : List Form → List Form → Type 0 where
  whole : (pool : List Form) → IsCapped pool pool
  many : (some pool : List Form) → 16 < length some → 16 < length pool → IsCapped some pool

-- formulas that enter a pool one by one, each where it isn't there yet
abbrev pub all_in : List Form → List Form → List Form
all_in pool [] = pool
all_in pool (f ∷ fs) = all_in (entered pool f) fs

-- the pool of an accumulator under these conditions of all `if`s has at most 16 members
abbrev pub has_few : List Atom → List Form → Accumulator → Bool
has_few atoms conditions a = nat_le (length (pool_of atoms conditions a.chain a.base)) 16
