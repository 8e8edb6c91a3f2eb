-- Lists and sets.
use Rattle.std.specs.Prelude.{ℕ, List, [], ◌∷◌, Bool, true, false, ◌&&◌, ◌||◌, not, Option, Some, None, codes, if◌then◌else◌}
use Rattle.view_rules.specs.declared.java_type.JavaType.{JavaType}
use Rattle.view_rules.specs.declared.java_type.JavaType.TheVariants as types
use Rattle.view_rules.specs.declared.sight.Sighted.{Sighted}
use Rattle.view_rules.specs.Decisions.{truth, is_int, element_of, contains, same_type, same_kind, is_text_kind}
use Rattle.view_rules.specs.Names.{Seen, variable_at}
use Rattle.view_rules.specs.Options.{◌>>=◌, where_so}
use Rattle.view_rules.specs.Setting.{Within, is_at, past, past_all, next, here}
use Rattle.view_rules.specs.Spelled.{argument_at}
use Rattle.view_rules.specs.Tree.{PlainExpression}
use Rattle.view_rules.specs.Tree as plain

abbrev pub is_list : JavaType → Bool
is_list (types.Rows c) = true
is_list (types.Scalars k) = true
is_list _ = false

abbrev pub is_many : JavaType → Bool
is_many (types.Distinct k) = true
is_many java = is_list java

-- a list or set of the slice's own
abbrev pub own_many : Sighted → Option JavaType
own_many v = where_so (not v.outside && is_many v.java) v.java

abbrev pub many_at : Within → List Sighted → ℕ → Option JavaType
many_at w s i = variable_at w s i >>= λ v. own_many v

-- a call of a list's or set's method, up to these words
abbrev pub past_method : Within → List Sighted → ℕ → List (List ℕ) → ℕ → Option Seen
past_method w s at words i =
    here at i >>= λ h. many_at w s h >>= λ java. next w h >>= λ j. past_all w words j >>= λ k. Some (k, java)

abbrev pub got_element : JavaType → Option JavaType
got_element (types.Distinct k) = None
got_element java = element_of java

-- `xs.get(`, where its fault isn't caught; a set has no places
abbrev pub past_get : Within → List Sighted → ℕ → ℕ → Option Seen
past_get w s at i =
    past_method w s at (codes "." ∷ codes "get" ∷ codes "(" ∷ []) i >>= λ xs. (if w.gets then (got_element xs.1 >>= λ java. Some (xs.0, java)) else None)

-- a place is an `int`
abbrev pub got : JavaType → Seen → Option Seen
got element place = where_so (is_int place.1) (place.0, element)

abbrev pub contained : Within → JavaType → Seen → Option Seen
contained w xs value = where_so (contains w.map.texts_binary xs value.1) (value.0, truth)

-- ---- New ones

abbrev pub is_type_of_set : Bool → JavaType → Bool
is_type_of_set binary (types.Distinct k) = binary || not (is_text_kind k)
is_type_of_set binary _ = false

abbrev pub is_argument : Option JavaType → JavaType → Bool
is_argument (Some element) java = same_type element java
is_argument None java = false

-- `<>`, or `<E>` with the element type
abbrev pub past_arguments : Within → JavaType → ℕ → Option ℕ
past_arguments w java i =
    past w (codes "<") i >>= λ j.
    (if is_at w j (codes ">") then past w (codes ">") j
    else (argument_at w i >>= λ e. where_so (is_argument (element_of java) e.java) e.to))

-- `new C<..>(`
abbrev pub past_new : Within → List ℕ → JavaType → ℕ → ℕ → Option ℕ
past_new w word java at i =
    here at i >>= λ h. past w (codes "new") h >>= λ j. past w word j >>= λ k. past_arguments w java k >>= λ l. past w (codes "(") l

abbrev pub new_list : Within → JavaType → ℕ → ℕ → Option Seen
new_list w java at i =
    past_new w (codes "ArrayList") java at i >>= λ j. past w (codes ")") j >>= λ k. where_so (is_list java) (k, java)

abbrev pub set_word : Bool → List ℕ
set_word true = codes "HashSet"
set_word false = codes "LinkedHashSet"

abbrev pub new_set : Within → Bool → JavaType → ℕ → ℕ → Option Seen
new_set w hashed java at i =
    past_new w (set_word hashed) java at i >>= λ j. past w (codes ")") j >>= λ k. where_so (is_type_of_set w.map.texts_binary java) (k, java)

abbrev pub is_query : PlainExpression → Bool
is_query (plain.Query at cast number text java arguments) = true
is_query _ = false

abbrev pub is_set_of : JavaType → JavaType → Bool
is_set_of (types.Distinct k) (types.Scalars l) = same_kind k l
is_set_of _ _ = false

-- a set of what a list query gives
abbrev pub set_of_query : Within → JavaType → Bool → Seen → Option Seen
set_of_query w java query e = where_so ((query && is_set_of java e.1) && is_type_of_set w.map.texts_binary java) (e.0, java)
