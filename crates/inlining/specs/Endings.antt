-- What names end in, and how many names there are.
use Rattle.std.specs.Prelude.{ℕ, suc, List, [], ◌∷◌, ◌==◌, if◌then◌else◌}
use Rattle.java_ast.specs.Names.{Names, with_name}
use Rattle.call_parts.specs.Called.{is_single_name}
use Rattle.java_calls.specs.ProgramNames.{onto_first}

-- a name's last `_` and what is behind it, or what was found before
abbrev pub tail_from : List ℕ → List ℕ → List ℕ
tail_from found [] = found
tail_from found (b ∷ bs) = tail_from (if b == 95 then (b ∷ bs) else found) bs

-- a name's last `_` and what is behind it; nothing where it has none
abbrev pub tail_of : List ℕ → List ℕ
tail_of x = tail_from [] x

-- what some names end in, each once, and how many names these are
abbrev pub Endings : Type 0
Endings = Names × ℕ

abbrev pub noted : Endings → List ℕ → Endings
noted t x = (with_name t.0 (tail_of x), suc t.1)

abbrev pub all_noted : Endings → Names → Endings
all_noted t [] = t
all_noted t (x ∷ xs) = all_noted (noted t x) xs

-- bytes in front of the first of some names
abbrev pub onto : List ℕ → Names → Names
onto [] ps = ps
onto (b ∷ w) ps = onto_first b (onto w ps)

-- the name of a call that a number query is, if it is one
abbrev pub called_names : List ℕ → Names
called_names text = if is_single_name text then text ∷ [] else []
