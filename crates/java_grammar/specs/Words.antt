-- What single tokens are: names, words of types, literals, operators.
use Rattle.std.specs.Prelude.{ℕ, ℤ, pos, negsuc, List, [], ◌∷◌, Bool, true, false, not, ◌&&◌, ◌||◌, Option, Some, None, codes, if◌then◌else◌}
use Rattle.std.specs.Str.{bytes_eq}
use Rattle.qbs_base.specs.declared.scalar.Scalar.{Scalar}
use Rattle.qbs_base.specs.declared.scalar.Scalar.TheVariants as scalars
use Rattle.java_lex.specs.declared.token.TokenNode.{TokenNode}
use Rattle.java_lex.specs.declared.token.TokenNode.TheVariants as tokens
use Rattle.java_words.specs.Words.{is_among, is_reserved_word, is_type_word}
use Rattle.java_ast.specs.declared.tree.Op.{Op}
use Rattle.java_ast.specs.declared.tree.Op.TheVariants as ops
use Rattle.java_ast.specs.Tree.{Spelled}
use Rattle.java_ast.specs.Tree as plain

abbrev pub is_name : List ℕ → Bool
is_name w = not (is_reserved_word w)

abbrev pub is_table : List ℕ → Bool
is_table w = is_name w && not (is_type_word w)

-- the two names of numbers, which are no variables
abbrev pub is_number_type : List ℕ → Bool
is_number_type w = is_among w (codes "Long" ∷ codes "Integer" ∷ [])

abbrev pub is_variable : List ℕ → Bool
is_variable w = is_name w && not (is_number_type w)

-- a word, if it passes
abbrev pub word_if : (List ℕ → Bool) → TokenNode → Option (List ℕ)
word_if passes (tokens.Word w) = if passes w then Some w else None
word_if passes _ = None

abbrev pub name_in : TokenNode → Option (List ℕ)
name_in n = word_if is_name n

abbrev pub table_in : TokenNode → Option (List ℕ)
table_in n = word_if is_table n

abbrev pub variable_in : TokenNode → Option (List ℕ)
variable_in n = word_if is_variable n

abbrev pub text_in : TokenNode → Option (List ℕ)
text_in (tokens.Text text) = Some text
text_in _ = None

-- what a word is by a function of words
abbrev pub by_word : {A : Type 0} → (List ℕ → Option A) → TokenNode → Option A
by_word f (tokens.Word w) = f w
by_word f _ = None

-- ---- types

abbrev pub scalar_type : List ℕ → Option Spelled
scalar_type w =
    if bytes_eq w (codes "int") then Some plain.Int
    else (if bytes_eq w (codes "long") then Some plain.Long
    else (if bytes_eq w (codes "boolean") then Some plain.Boolean
    else (if bytes_eq w (codes "String") then Some plain.String
    else None)))

abbrev pub table_type : List ℕ → Option Spelled
table_type w = if is_table w then Some (plain.Table w) else None

abbrev pub or_else : Option Spelled → Option Spelled → Option Spelled
or_else None other = other
or_else (Some s) other = Some s

-- a type of one word
abbrev pub word_type : List ℕ → Option Spelled
word_type w = or_else (scalar_type w) (table_type w)

-- what a list or a set is of
abbrev pub element_type : List ℕ → Option Spelled
element_type w =
    if bytes_eq w (codes "Integer") then Some plain.BoxedInteger
    else (if bytes_eq w (codes "Long") then Some plain.BoxedLong
    else (if bytes_eq w (codes "Boolean") then Some plain.BoxedBoolean
    else (if bytes_eq w (codes "String") then Some plain.String
    else table_type w)))

-- List or Set; true where it is List
abbrev pub collection : List ℕ → Option Bool
collection w = if bytes_eq w (codes "List") then Some true else (if bytes_eq w (codes "Set") then Some false else None)

abbrev pub collection_of : Bool → Spelled → Spelled
collection_of true s = plain.ListOf s
collection_of false s = plain.SetOf s

-- ---- literals

-- an integer from 0 on, as each one of a text is
abbrev pub natural : ℤ → Option ℤ
natural (pos n) = Some (pos n)
natural (negsuc n) = None

abbrev pub natural_in : TokenNode → Option ℤ
natural_in (tokens.Integer value long) = natural value
natural_in _ = None

abbrev pub truth_of : List ℕ → Option Scalar
truth_of w = if bytes_eq w (codes "true") then Some (scalars.Bool true) else (if bytes_eq w (codes "false") then Some (scalars.Bool false) else None)

abbrev pub literal_in : TokenNode → Option Scalar
literal_in (tokens.Integer value long) = Some (scalars.Long value)
literal_in (tokens.Text text) = Some (scalars.Text text)
literal_in (tokens.Word w) = truth_of w
literal_in (tokens.Sign s) = None

-- ---- operators

-- an operator by its sign, and how loosely it binds, from 0 on
abbrev pub operator_of : List ℕ → Option (Op × ℕ)
operator_of s =
    if bytes_eq s (codes "*") then Some (ops.Mul, 0)
    else (if bytes_eq s (codes "+") then Some (ops.Add, 1)
    else (if bytes_eq s (codes "-") then Some (ops.Sub, 1)
    else (if bytes_eq s (codes "<") then Some (ops.Lt, 2)
    else (if bytes_eq s (codes "<=") then Some (ops.Le, 2)
    else (if bytes_eq s (codes ">") then Some (ops.Gt, 2)
    else (if bytes_eq s (codes ">=") then Some (ops.Ge, 2)
    else (if bytes_eq s (codes "==") then Some (ops.Eq, 3)
    else (if bytes_eq s (codes "!=") then Some (ops.Ne, 3)
    else (if bytes_eq s (codes "&&") then Some (ops.And, 4)
    else (if bytes_eq s (codes "||") then Some (ops.Or, 5)
    else None))))))))))
