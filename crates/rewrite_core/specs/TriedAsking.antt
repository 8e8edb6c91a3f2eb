-- What is asked of the tries of a program's loops, and what stands after them.
use Rattle.std.specs.Prelude.{ℕ, List, [], ◌∷◌, ◌++◌}
use Rattle.qbs_base.specs.Values.{Schema}
use Rattle.query_search.specs.Verdicts.{Found, NoneOf, Budget}
use Rattle.java_types.specs.Texts.{read_by}
use Rattle.rewrite_core.specs.Asking.{MayBeAsked}
use Rattle.rewrite_core.specs.Trying.{Answer, Outside, Searched, Tried, standing_after}

-- where the answer is a candidate, the loop may be asked for with it
abbrev pub MayBeAskedBy : Schema → Tried → Answer → Type 0
MayBeAskedBy schema t (Searched f (Found h)) = MayBeAsked schema (read_by schema) t.program t.path t.setting h.candidate
MayBeAskedBy schema t _ = Unit {0}

-- so it is of each try
abbrev pub AllMayBeAsked : Schema → List Tried → Type 0
AllMayBeAsked schema [] = Unit {0}
AllMayBeAsked schema (t ∷ ts) = MayBeAskedBy schema t t.answer × AllMayBeAsked schema ts

-- ---- What stands

-- the path of a loop that was tried, where it stands after the try
abbrev pub standing_path : List ℕ → Answer → List (List ℕ)
standing_path path (Searched f (Found h)) = []
standing_path path (Searched f (NoneOf n)) = path ∷ []
standing_path path (Searched f (Budget b n)) = path ∷ []
standing_path path (Outside b) = path ∷ []

-- the paths of the loops that were tried and stand, in the order of the tries
abbrev pub standing_paths : List Tried → List (List ℕ)
standing_paths [] = []
standing_paths (t ∷ ts) = standing_path t.path t.answer ++ standing_paths ts

-- how many loops have been tried and stand after these tries, of so many before them
abbrev pub standing_left : ℕ → List Tried → ℕ
standing_left n [] = n
standing_left n (t ∷ ts) = standing_left (standing_after n t.answer) ts
