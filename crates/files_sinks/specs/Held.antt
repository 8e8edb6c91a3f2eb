-- Files that are held in memory, as a list of names and bytes.
use Rattle.std.specs.Prelude.{◌≡◌, ℕ, ◌≤◌, ◌<◌, ◌⊎◌, List, [], length, get_or, unwrap_or}
use Rattle.std.specs.declared.option.Option.{Option}
use Rattle.std.specs.declared.option.Option.TheVariants.{Some, None}
use Rattle.qbs_base.specs.Named.{at_name}

abbrev pub Entry : Type 0
Entry = List ℕ × List ℕ

-- the bytes that are held under a name, and none where it isn't held
abbrev pub held_or_empty : List Entry → List ℕ → Option (List ℕ)
held_or_empty entries name = Some (unwrap_or (at_name entries name) [])

-- what a MemFiles is: its files, the calls that are to fail, the calls so far and the faults so far
pub record MemFilesView : Type 0 where
  pub files : List Entry
  pub failing : List ℕ
  pub calls : ℕ
  pub faults : ℕ

-- the name isn't held, or a call to come is one that is to fail
abbrev pub MayFail : MemFilesView → List ℕ → Type 0
MayFail s name = (at_name s.files name ≡ None) ⊎ ((n : ℕ) × (n < length s.failing) × (s.calls ≤ get_or s.failing n 0))
