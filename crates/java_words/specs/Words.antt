-- Words that have a meaning of their own in the source language.
use Rattle.std.specs.Prelude.{ℕ, List, [], ◌∷◌, Bool, false, ◌||◌, codes}
use Rattle.std.specs.Str.{bytes_eq}

abbrev pub is_among : List ℕ → List (List ℕ) → Bool
is_among word [] = false
is_among word (text ∷ texts) = bytes_eq word text || is_among word texts

abbrev pub reserved_words : List (List ℕ)
reserved_words =
    codes "class" ∷ codes "public" ∷ codes "private" ∷ codes "static" ∷ codes "void" ∷ codes "int" ∷ codes "long" ∷ codes "boolean"
    ∷ codes "if" ∷ codes "else" ∷ codes "for" ∷ codes "while" ∷ codes "return" ∷ codes "new" ∷ codes "true" ∷ codes "false"
    ∷ codes "import" ∷ codes "package" ∷ codes "break" ∷ []

-- the names of types and classes, which are no table's
abbrev pub type_words : List (List ℕ)
type_words = codes "List" ∷ codes "Set" ∷ codes "String" ∷ codes "Long" ∷ codes "Integer" ∷ codes "Boolean" ∷ codes "Comparator" ∷ codes "System" ∷ []

abbrev pub is_reserved_word : List ℕ → Bool
is_reserved_word word = is_among word reserved_words

abbrev pub is_type_word : List ℕ → Bool
is_type_word word = is_among word type_words
