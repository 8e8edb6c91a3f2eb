-- What cells are to those beside them, and between which of them no space stands.
use Rattle.std.specs.Prelude.{ℕ, List, [], ◌∷◌, Bool, true, false, ◌||◌, ◌&&◌, ◌==◌, not, codes, if◌then◌else◌}
use Rattle.std.specs.Str.{bytes_eq}
use Rattle.qbs_base.specs.Bytes.{is_digit, is_name_start, is_name_part}
use Rattle.java_lex.specs.Bytes.{quote, is_long_sign}
use Rattle.view_text.specs.declared.role.Gap.{Gap}
use Rattle.view_text.specs.declared.role.Gap.TheVariants.{None, Space, Line}
use Rattle.view_text.specs.declared.role.Role.{Role}
use Rattle.view_text.specs.declared.role.Role.TheVariants.{Start, Brace, BraceEnd, Paren, ParenEnd, Semicolon, Comma, Dot, Increment, Not, TypeOpen, Element, TypeClose, Negative, Operator, Else, Keyword, Container, Name, Number, Text}

-- ---- words

abbrev pub is_else : List ℕ → Bool
is_else word = bytes_eq word (codes "else")

-- words behind which a parenthesis stands apart
abbrev pub is_keyword : List ℕ → Bool
is_keyword word = bytes_eq word (codes "if") || bytes_eq word (codes "for") || bytes_eq word (codes "while") || bytes_eq word (codes "return")

-- types behind whose names the type of their elements is written
abbrev pub is_container : List ℕ → Bool
is_container word = bytes_eq word (codes "List") || bytes_eq word (codes "Set") || bytes_eq word (codes "ArrayList") || bytes_eq word (codes "LinkedHashSet")

abbrev pub opens_type : Role → Bool
opens_type TypeOpen = true
opens_type _ = false

abbrev pub word_role : Role → List ℕ → Role
word_role before word =
    if opens_type before then Element
    else (if is_else word then Else
    else (if is_keyword word then Keyword
    else (if is_container word then Container
    else Name)))

-- ---- signs

-- `<` is a comparison but behind the name of a container
abbrev pub less_role : Role → Role
less_role Container = TypeOpen
less_role _ = Operator

-- `>` closes what was opened directly before it, or before one word
abbrev pub more_role : Role → Role
more_role TypeOpen = TypeClose
more_role Element = TypeClose
more_role _ = Operator

-- `-` takes one value from another where a value ends before it, and else belongs to a number
abbrev pub minus_role : Role → Role
minus_role Name = Operator
minus_role Number = Operator
minus_role Text = Operator
minus_role ParenEnd = Operator
minus_role Container = Operator
minus_role Element = Operator
minus_role _ = Negative

-- a sign of one byte
abbrev pub short_role : Role → ℕ → Role
short_role before b =
    if b == 123 then Brace
    else (if b == 125 then BraceEnd
    else (if b == 40 then Paren
    else (if b == 41 then ParenEnd
    else (if b == 59 then Semicolon
    else (if b == 44 then Comma
    else (if b == 46 then Dot
    else (if b == 33 then Not
    else (if b == 60 then less_role before
    else (if b == 62 then more_role before
    else (if b == 45 then minus_role before
    else Operator))))))))))

-- of the longer signs `++` alone stands without a space before it
abbrev pub long_role : List ℕ → Role
long_role bytes = if bytes_eq bytes (codes "++") then Increment else Operator

abbrev pub sign_role : Role → List ℕ → Role
sign_role before [] = Operator
sign_role before (b ∷ []) = short_role before b
sign_role before (b ∷ c ∷ bs) = long_role (b ∷ c ∷ bs)

-- ---- any cell

-- the role of a cell, behind one of another role
abbrev pub role_of : Role → List ℕ → Role
role_of before [] = Operator
role_of before (b ∷ bs) =
    if is_name_start b then word_role before (b ∷ bs)
    else (if is_digit b then Number
    else (if b == quote then Text
    else sign_role before (b ∷ bs)))

-- ---- between two cells

abbrev pub is_start : Role → Bool
is_start Start = true
is_start _ = false

abbrev pub is_brace_end : Role → Bool
is_brace_end BraceEnd = true
is_brace_end _ = false

abbrev pub is_other_branch : Role → Bool
is_other_branch Else = true
is_other_branch _ = false

abbrev pub ends_line : Role → Bool
ends_line Brace = true
ends_line Semicolon = true
ends_line _ = false

-- `{` and `;` end their lines; `}` stands on a line of its own, but for `} else {`
abbrev pub starts_line : Role → Role → Bool
starts_line before here = is_brace_end here || ends_line before || (is_brace_end before && not (is_other_branch here))

-- no space before . ) ; , ++ nor before the < > of a type
abbrev pub hugs_left : Role → Bool
hugs_left Dot = true
hugs_left ParenEnd = true
hugs_left Semicolon = true
hugs_left Comma = true
hugs_left Increment = true
hugs_left TypeOpen = true
hugs_left TypeClose = true
hugs_left _ = false

-- no space behind . ( ! nor behind the < of a type
abbrev pub hugs_right : Role → Bool
hugs_right Dot = true
hugs_right Paren = true
hugs_right Not = true
hugs_right TypeOpen = true
hugs_right _ = false

-- no space between a name, or a type, and the parenthesis behind it
abbrev pub takes_arguments : Role → Bool
takes_arguments Name = true
takes_arguments Container = true
takes_arguments Element = true
takes_arguments TypeClose = true
takes_arguments _ = false

abbrev pub is_paren : Role → Bool
is_paren Paren = true
is_paren _ = false

-- no space between a `-` and the number that it belongs to
abbrev pub is_negative : Role → Bool
is_negative Negative = true
is_negative _ = false

abbrev pub is_number : Role → Bool
is_number Number = true
is_number _ = false

abbrev pub touches : Role → Role → Bool
touches before here = hugs_left here || hugs_right before || (takes_arguments before && is_paren here) || (is_negative before && is_number here)

-- directly behind this byte, the first of these would be read together with it: as one word, one number or one sign
abbrev pub joins : ℕ → List ℕ → Bool
joins last [] = false
joins last (b ∷ bs) = (is_name_part last && is_name_part b) || is_long_sign last b

-- what stands before a cell, behind one of another role that ends in a byte
abbrev pub gap_before : Role → ℕ → Role → List ℕ → Gap
gap_before before last here bytes =
    if is_start before then None
    else (if starts_line before here then Line
    else (if touches before here && not (joins last bytes) then None
    else Space))
