-- Keywords and reserved names.
use Rattle.std.specs.Prelude.{Bool, false, ◌||◌, ℕ, List, [], ◌∷◌, codes}
use Rattle.std.specs.Str.{str_eq_ignore_ascii_case}
pub use Rattle.java_words.specs.Words.{is_reserved_word, is_type_word}
use Rattle.schema.specs.Bytes.{begins_with}

-- a word is a keyword in any letter case
abbrev pub spells : List ℕ → List ℕ → Bool
spells keyword word = str_eq_ignore_ascii_case keyword word

-- some word of a list passes
abbrev pub is_among : (List ℕ → List ℕ → Bool) → List (List ℕ) → List ℕ → Bool
is_among test [] word = false
is_among test (w ∷ words) word = test w word || is_among test words word

-- the words of queries, which are read in any letter case
abbrev pub query_words : List (List ℕ)
query_words =
    codes "SELECT" ∷ codes "FROM" ∷ codes "WHERE" ∷ codes "GROUP" ∷ codes "BY" ∷ codes "ORDER" ∷ codes "LIMIT" ∷ codes "AND" ∷ codes "OR"
    ∷ codes "NOT" ∷ codes "EXISTS" ∷ codes "IN" ∷ codes "AS" ∷ codes "ASC" ∷ codes "DESC" ∷ codes "TRUE" ∷ codes "FALSE" ∷ []

-- no column and no table may have such a name
abbrev pub is_reserved : List ℕ → Bool
is_reserved name = begins_with 95 name || is_among spells query_words name || is_reserved_word name

-- no table may have such a name
abbrev pub is_reserved_table : List ℕ → Bool
is_reserved_table name = is_reserved name || is_type_word name
