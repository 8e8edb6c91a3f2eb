-- Where a name is mentioned, and where it may be set.
use Rattle.std.specs.Prelude.{ℕ, zero, suc, ◌+◌, ◌-◌, Bool, false, ◌||◌, ◌&&◌, not, List, [], ◌∷◌, ◌++◌, length, codes, if◌then◌else◌}
use Rattle.std.specs.List.{list_any, filter}
use Rattle.view_items.specs.declared.item.Item.{Item}
use Rattle.view_shapes.specs.Found.{is_word, is_sign, is_one_of_signs, before}

-- the numbers from one up to another
unfoldable pub numbers : ℕ → ℕ → List ℕ
numbers from zero = []
numbers from (suc n) = from ∷ numbers (from + 1) n

-- the item is the name, and no dot stands before it
abbrev pub is_mention : List Item → List ℕ → ℕ → Bool
is_mention items name k = is_word name items k && not (before (is_sign (codes ".") items) k)

-- a number, if so
abbrev pub one_if : Bool → ℕ → List ℕ
one_if b k = if b then k ∷ [] else []

abbrev pub mentions : List Item → List ℕ → ℕ → ℕ → List ℕ
mentions items name from to = filter (is_mention items name) (numbers from (to - from))

abbrev pub is_named : List Item → List ℕ → ℕ → ℕ → Bool
is_named items name from to = list_any (is_mention items name) (numbers from (to - from))

abbrev pub counting_signs : List (List ℕ)
counting_signs = codes "++" ∷ codes "--" ∷ []

-- `<<=`, `>>=` and `>>>=` too
abbrev pub setting_signs : List (List ℕ)
setting_signs =
    codes "=" ∷ codes "+=" ∷ codes "-=" ∷ codes "*=" ∷ codes "/=" ∷ codes "%=" ∷ codes "&=" ∷ codes "|=" ∷ codes "^="
    ∷ codes "<<=" ∷ codes ">>=" ∷ codes ">>>=" ∷ codes "++" ∷ codes "--" ∷ []

abbrev pub is_beside : List Item → ℕ → ℕ → Bool
is_beside items first last = is_one_of_signs setting_signs items (last + 1) || before (is_one_of_signs counting_signs items) first

-- a parenthesis stands before and one behind
abbrev pub is_wrapped : List Item → ℕ → ℕ → Bool
is_wrapped items first last = before (is_sign (codes "(") items) first && is_sign (codes ")") items (last + 1)

-- the items from a number to another stand beside a sign that sets, or in parentheses that do
unfoldable pub is_set_within : ℕ → List Item → ℕ → ℕ → Bool
is_set_within zero items first last = false
is_set_within (suc steps) items first last =
    is_beside items first last || (is_wrapped items first last && is_set_within steps items (first - 1) (last + 1))

-- what the item names may be set there
abbrev pub is_set_at : List Item → ℕ → Bool
is_set_at items k = is_set_within (length items) items k k

-- a name may be set between two numbers
abbrev pub may_be_set : List Item → List ℕ → ℕ → ℕ → Bool
may_be_set items name from to = list_any (λ k. is_mention items name k && is_set_at items k) (numbers from (to - from))
