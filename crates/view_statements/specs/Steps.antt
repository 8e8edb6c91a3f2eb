-- The parts of statements: variables that are set, heads of loops, and what stands between expressions.
use Rattle.std.specs.Prelude.{ℕ, ◌+◌, ◌-◌, Bool, true, false, ◌&&◌, ◌||◌, ◌==◌, not, List, [], ◌∷◌, ◌++◌, codes, Option, Some, None, slice_get, is_some, if◌then◌else◌}
use Rattle.std.specs.List.{list_any}
use Rattle.view_shapes.specs.Mentions.{is_named}
use Rattle.view_rules.specs.declared.java_type.JavaType.{JavaType}
use Rattle.view_rules.specs.declared.java_type.JavaType.TheVariants as types
use Rattle.view_rules.specs.declared.sight.Param.{Param}
use Rattle.view_rules.specs.declared.sight.Sighted.{Sighted}
use Rattle.view_rules.specs.declared.spelled.Spelled.{Spelled}
use Rattle.view_rules.specs.Decisions.{is_number, is_scalar, is_boolean, may_be_walked, element_of, is_text_kind}
use Rattle.view_rules.specs.Names.{Seen, variable_at, may_be_read, is_param}
use Rattle.view_rules.specs.Options.{◌>>=◌, where_so}
use Rattle.view_rules.specs.Seen.{expression_of}
use Rattle.view_rules.specs.Setting.{Within, is_at, past, past_all, next, here}
use Rattle.view_rules.specs.Spelled.{bytes_at, type_at}
use Rattle.view_rules.specs.Tree.{PlainExpression}
use Rattle.view_shapes.specs.Prefixes.{variable_prefix_end}
use Rattle.view_statements.specs.Places.{Frame, is_new_name, has_columns}

-- ---- Expressions

-- an expression, and these words behind it: the number behind them, and its type
abbrev pub then_past : Frame → List (List ℕ) → Seen → Option Seen
then_past f words e = past_all f.within words e.0 >>= λ j. Some (j, e.1)

abbrev pub value_to : Frame → List Sighted → PlainExpression → List (List ℕ) → ℕ → Option Seen
value_to f s e words i = expression_of f.within s e i >>= λ seen. then_past f words seen

-- a parenthesis that closes at the number that is named
abbrev pub past_close : Frame → ℕ → ℕ → Option ℕ
past_close f close i = here close i >>= λ h. past f.within (codes ")") h

-- a truth value in parentheses, behind this word
abbrev pub condition_in : Frame → List Sighted → List ℕ → PlainExpression → ℕ → ℕ → ℕ → Option ℕ
condition_in f s word e at close i =
    here at i >>= λ h. past_all f.within (word ∷ codes "(" ∷ []) h >>= λ j.
    expression_of f.within s e j >>= λ c. where_so (is_boolean c.1) c.0 >>= λ k. past_close f close k

-- ---- What is declared

-- behind annotations and `final` a type and a name of it: the type
abbrev pub declared_to : Frame → List Sighted → ℕ → Spelled → Option JavaType
declared_to f s name t = here name t.to >>= λ n. where_so (is_new_name f s n) t.java

abbrev pub declared_at : Frame → List Sighted → ℕ → ℕ → Option JavaType
declared_at f s name i =
    variable_prefix_end f.within.items f.closings i >>= λ k. type_at f.within k >>= λ t. declared_to f s name t

-- behind annotations and `final` the word `var` and a new name
abbrev pub inferred_at : Frame → List Sighted → ℕ → ℕ → Option ℕ
inferred_at f s name i =
    variable_prefix_end f.within.items f.closings i >>= λ k. past f.within (codes "var") k >>= λ n. here name n >>= λ m. where_so (is_new_name f s m) m

-- `var` takes the type of a number, a truth value or a text that is no box
abbrev pub is_inferred : JavaType → Bool
is_inferred (types.Scalar t) = not t.boxed || is_text_kind t.kind
is_inferred java = false

-- ---- What is set

-- a scalar from outside is a parameter of the same name
abbrev pub is_its_param : List ℕ → Param → Bool
is_its_param name p = is_param (Some p) name None

abbrev pub has_param : List ℕ → List Param → Bool
has_param name params = list_any (is_its_param name) params

abbrev pub is_handed : Within → Sighted → Bool
is_handed w v = may_be_read w v && has_param v.name w.params

-- A variable that may be set: a scalar from outside, or a variable of the slice's own, but no name of a column and no row of which there is one.
abbrev pub may_be_set : Within → List Sighted → Sighted → Bool
may_be_set w s v = not (is_some v.column) && (not (has_columns s v.name) && (not v.outside || (is_scalar v.java && is_handed w v)))

abbrev pub set_at : Frame → List Sighted → ℕ → Option Sighted
set_at f s name = variable_at f.within s name >>= λ v. where_so (may_be_set f.within s v) v

-- the type of one that is a number
abbrev pub counted_at : Frame → List Sighted → ℕ → Option JavaType
counted_at f s name = set_at f s name >>= λ v. where_so (is_number v.java) v.java

-- ---- Loops

-- the type of what goes through a list or set: the element type or its primitive
abbrev pub walker : Frame → List Sighted → Bool → ℕ → ℕ → JavaType → Option JavaType
walker f s true name i many = inferred_at f s name i >>= λ n. element_of many
walker f s false name i many = declared_at f s name i >>= λ java. where_so (may_be_walked many java) java

-- `size` and `get` of the list of this name, `hasNext` and `next` of the iterator
abbrev pub size_words : List ℕ → List ℕ → List (List ℕ)
size_words i xs = codes "=" ∷ codes "0" ∷ codes ";" ∷ i ∷ codes "<" ∷ xs ∷ codes "." ∷ codes "size" ∷ codes "(" ∷ codes ")" ∷ codes ";" ∷ []

abbrev pub counted_words : List ℕ → Bool → List (List ℕ)
counted_words i true = codes "++" ∷ i ∷ codes ")" ∷ codes "{" ∷ []
counted_words i false = i ∷ codes "++" ∷ codes ")" ∷ codes "{" ∷ []

abbrev pub get_words : List ℕ → List ℕ → List (List ℕ)
get_words i xs = codes "=" ∷ xs ∷ codes "." ∷ codes "get" ∷ codes "(" ∷ i ∷ codes ")" ∷ codes ";" ∷ []

abbrev pub iterator_words : List ℕ → List ℕ → List (List ℕ)
iterator_words it xs =
    codes "=" ∷ xs ∷ codes "." ∷ codes "iterator" ∷ codes "(" ∷ codes ")" ∷ codes ";" ∷ it ∷ codes "." ∷ codes "hasNext" ∷ codes "(" ∷ codes ")"
    ∷ codes ";" ∷ codes ")" ∷ codes "{" ∷ []

abbrev pub next_words : List ℕ → List (List ℕ)
next_words it = codes "=" ∷ it ∷ codes "." ∷ codes "next" ∷ codes "(" ∷ codes ")" ∷ codes ";" ∷ []

-- neither name stands between two numbers
abbrev pub are_unnamed : Frame → List ℕ → List ℕ → ℕ → ℕ → Bool
are_unnamed f a b from to = not (is_named f.within.items a from to) && not (is_named f.within.items b from to)
