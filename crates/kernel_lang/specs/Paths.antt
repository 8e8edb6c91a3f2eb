-- The ways to decide a formula by its atoms.
use Rattle.std.specs.Prelude.{ℕ, ◌+◌, ◌*◌, Bool, true, false, List, [], ◌∷◌, ◌++◌, map}
use Rattle.std.specs.List.{flat_map}
use Rattle.std.specs.declared.option.Option.{Option}
use Rattle.std.specs.declared.option.Option.TheVariants.{Some, None}
use Rattle.tor_terms.specs.Plain.{Form, Is, Both, Either}
use Rattle.tor_terms.specs.Truth.{same_bool}

-- atoms by number, each with its truth
abbrev pub Path : Type 0
Path = List (ℕ × Bool)

-- each of ps followed by each of qs, the former varying slowest
abbrev pub each_with : List Path → List Path → List Path
each_with ps qs = flat_map (λ p. map (λ q. p ++ q) qs) ps

abbrev pub paths : Form → Bool → List Path
paths (Is k s) want = ((k, same_bool s want) ∷ []) ∷ []
paths (Both f g) true = each_with (paths f true) (paths g true)
paths (Both f g) false = paths f false ++ each_with (paths f true) (paths g false)
paths (Either f g) true = paths f true ++ each_with (paths f false) (paths g true)
paths (Either f g) false = each_with (paths f false) (paths g false)

abbrev pub guard_paths : Option Form → Bool → List Path
guard_paths None true = [] ∷ []
guard_paths None false = []
guard_paths (Some f) want = paths f want

-- how many there are
abbrev pub count_paths : Form → Bool → ℕ
count_paths (Is k s) want = 1
count_paths (Both f g) true = count_paths f true * count_paths g true
count_paths (Both f g) false = count_paths f false + count_paths f true * count_paths g false
count_paths (Either f g) true = count_paths f true + count_paths f false * count_paths g true
count_paths (Either f g) false = count_paths f false * count_paths g false

abbrev pub count_guard : Option Form → Bool → ℕ
count_guard None true = 1
count_guard None false = 0
count_guard (Some f) want = count_paths f want
