-- Which files were read: one after the other, each by one read, and nothing else was done to them.
use Rattle.std.specs.Prelude.{◌≡◌, ◌≤◌, ℕ, List, [], ◌∷◌, ◌++◌}
use Rattle.std.specs.declared.option.Option.{Option}

-- what is told of files, how often they failed, of which names a read may fail, and what one read of a name may leave of them
pub record Looks (D : Type 0) : Type 1 where
  pub told : D → List ℕ → Option (List ℕ)
  pub faults : D → ℕ
  pub may_fail : D → List ℕ → Type 0
  pub by_read : D → List ℕ → D → Type 0

abbrev pub looks : {D : Type 0} → (D → List ℕ → Option (List ℕ)) → (D → ℕ) → (D → List ℕ → Type 0) → (D → List ℕ → D → Type 0) → Looks D
looks told faults may_fail by_read = record { told = told; faults = faults; may_fail = may_fail; by_read = by_read }

-- from one state of files to another, by one read of each of these names in their order
pub data AreReadBy {D : Type 0} (by_read : D → List ℕ → D → Type 0) : List (List ℕ) → D → D → Type 0 where
  none : {files : D} → AreReadBy by_read [] files files
  next : {name : List ℕ} {names : List (List ℕ)} {old between new : D} → by_read old name between → AreReadBy by_read names between new → AreReadBy by_read (name ∷ names) old new

-- The first of these names are read so, or all of them, and nothing else is done: what is told stays, no count of faults falls, and a name
-- whose read may not fail before may not fail behind it.
pub record OnlyReads {D : Type 0} (l : Looks D) (all : List (List ℕ)) (old new : D) : Type 0 where
  pub names : List (List ℕ)
  pub others : List (List ℕ)
  pub front : all ≡ names ++ others
  pub read : AreReadBy l.by_read names old new
  pub held : l.told new ≡ l.told old
  pub later : l.faults old ≤ l.faults new
  pub fewer : (name : List ℕ) → l.may_fail new name → l.may_fail old name
