-- Files by their names, read in order and all within one limit.
use Rattle.std.specs.Prelude.{◌≡◌, ℕ, ◌-◌, ◌≤◌, ◌⊎◌, List, [], ◌∷◌, ◌++◌, length, Result, Ok, Err, ⊤}
use Rattle.std.specs.declared.option.Option.{Option}
use Rattle.std.specs.declared.option.Option.TheVariants.{Some}
use Rattle.deliveries.specs.declared.fetch.Stop.{Stop}
use Rattle.deliveries.specs.Plan.{Given}
use Rattle.deliveries.specs.Steps.{Ends, step, IsRead, IsNotRead}

-- each text is that of its file, in order and all within a limit
abbrev pub AreFilesRead : Given → List (List ℕ) → ℕ → List (List ℕ) → Type 0
AreFilesRead files [] left [] = Unit {0}
AreFilesRead files (name ∷ names) left (text ∷ texts) = IsRead files name left text × AreFilesRead files names (left - length text) texts
AreFilesRead files _ left _ = ⊥

-- the first file that isn't read, behind those before it; the limit has a name
abbrev pub AreFilesUnread : Given → List (List ℕ) → ℕ → List ℕ → Ends
AreFilesUnread files [] left label plan = ⊥
AreFilesUnread files (name ∷ names) left label plan =
    IsNotRead files name left label plan ⊎ ((text : List ℕ) × IsRead files name left text × AreFilesUnread files names (left - length text) label plan)

-- the files are read in order
abbrev pub reads_files : Given → List (List ℕ) → ℕ → List ℕ → (List (List ℕ) → Ends) → Ends
reads_files files names limit label next = step (AreFilesRead files names limit) (AreFilesUnread files names limit label) next

-- a file is one of these
abbrev pub IsNamed : List (List ℕ) → List ℕ → Type 0
IsNamed [] name = ⊥
IsNamed (other ∷ names) name = (name ≡ other) ⊎ IsNamed names name

-- the files are told with these texts, all together within a limit
abbrev pub AreHeld : (List ℕ → Option (List ℕ)) → List (List ℕ) → ℕ → List (List ℕ) → Type 0
AreHeld told [] left [] = Unit {0}
AreHeld told (name ∷ names) left (text ∷ texts) = (told name ≡ Some text) × (length text ≤ left) × AreHeld told names (left - length text) texts
AreHeld told _ left _ = ⊥

-- ---- What the reader of files promises

-- texts were put behind those that were there, or what is due without them
abbrev pub ReadsFiles : {A : Type 0} → Given → List (List ℕ) → ℕ → List ℕ → List (List ℕ) → List (List ℕ) → Result A Stop → Type 0
ReadsFiles files names left label old new (Ok done) = (more : List (List ℕ)) × (new ≡ old ++ more) × AreFilesRead files names left more
ReadsFiles files names left label old new (Err (Stop.Due plan)) = AreFilesUnread files names left label plan
ReadsFiles files names left label old new (Err Stop.Memory) = ⊤
