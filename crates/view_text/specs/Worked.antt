-- Cells of a method, and their text.
use Rattle.std.specs.Prelude.{ℕ, List, [], ◌∷◌, ◌++◌, map, ◌==◌, codes, if◌then◌else◌}
use Rattle.view_items.specs.declared.cell.Cell.{Cell}

-- words, each of which ends at a space
abbrev pub next_word : ℕ → List (List ℕ) → List (List ℕ)
next_word b [] = (b ∷ []) ∷ []
next_word b (w ∷ ws) = (b ∷ w) ∷ ws

abbrev pub words_of : List ℕ → List (List ℕ)
words_of [] = []
words_of (b ∷ bs) = if b == 32 then [] ∷ words_of bs else next_word b (words_of bs)

abbrev pub cell : List ℕ → Cell
cell bytes = record { bytes = bytes; from = 0; to = 0 }

abbrev pub cells : List Cell
cells = map cell (words_of (codes "class A { void s1 ( long d ) { Set < Long > ids = new LinkedHashSet < > ( ) ; for ( user_account u : db . fetch ( user_account . class ) ) { if ( ! u . enabled && ( u . id == d ) && u . age - - 1 < 3 ) { ids . add ( u . id ) ; } else { n ++ ; } } } }"))

abbrev line : List ℕ → List ℕ
line bytes = bytes ++ 10 ∷ []

abbrev pub text : List ℕ
text =
    line (codes "class A {")
    ++ line (codes "    void s1(long d) {")
    ++ line (codes "        Set<Long> ids = new LinkedHashSet<>();")
    ++ line (codes "        for (user_account u : db.fetch(user_account.class)) {")
    ++ line (codes "            if (!u.enabled && (u.id == d) && u.age - -1 < 3) {")
    ++ line (codes "                ids.add(u.id);")
    ++ line (codes "            } else {")
    ++ line (codes "                n++;")
    ++ line (codes "            }")
    ++ line (codes "        }")
    ++ line (codes "    }")
    ++ line (codes "}")
