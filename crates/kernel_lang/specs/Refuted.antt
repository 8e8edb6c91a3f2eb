-- Candidates that some database refutes.
use Rattle.std.specs.Prelude.{◌≡◌, ◌≢◌, ℕ, List, Some}
use Rattle.qbs_base.specs.declared.scalar.Value.{Value}
use Rattle.qbs_base.specs.Values.{Database}
use Rattle.kernel_lang.specs.declared.parts.Entry.{Entry}
use Rattle.kernel_lang.specs.Fitting.{PartsFit}
use Rattle.kernel_lang.specs.Plain.{Fragment}
use Rattle.kernel_lang.specs.Postcondition.{postconditions}
use Rattle.kernel_lang.specs.Running.{fragment_end}

-- The parts of a fragment fit a database, entry values and known lists, and there the fragment ends
-- without a count or a sum of more than 64 bits, some accumulator outside all loops not as the
-- candidate's postcondition says.
pub record Refutes (f : Fragment) (c : List ℕ) (db : Database) (entry : Entry) : Type 0 where
  pub ends : List Value
  pub fit : PartsFit f db entry
  pub ended : fragment_end f db entry ≡ Some ends
  pub differs : ends ≢ postconditions f c db entry

-- some database, entry values and known lists refute a candidate of a fragment
pub record IsRefuted (f : Fragment) (c : List ℕ) : Type 0 where
  pub db : Database
  pub entry : Entry
  pub refutes : Refutes f c db entry
