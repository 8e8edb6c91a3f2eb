-- Kinds of bytes.
use Rattle.std.specs.Prelude.{ℕ, List, [], ◌∷◌, Bool, false, ◌||◌, ◌&&◌, ◌==◌, not, Option, Some, None, if◌then◌else◌}
use Rattle.qbs_base.specs.Bytes.{line_feed, carriage_return, tab}

abbrev pub quote : ℕ
quote = 34

abbrev pub backslash : ℕ
backslash = 92

abbrev pub slash : ℕ
slash = 47

abbrev pub star : ℕ
star = 42

abbrev pub zero_digit : ℕ
zero_digit = 48

-- the letter L
abbrev pub long_mark : ℕ
long_mark = 76

-- a line feed alone ends a line
abbrev pub is_in_line : ℕ → Bool
is_in_line b = not (b == line_feed)

-- a text literal stands on one line
abbrev pub ends_line : ℕ → Bool
ends_line b = (b == line_feed) || (b == carriage_return)

-- a byte of a text literal that stands for itself
abbrev pub is_plain : ℕ → Bool
is_plain b = not ((b == quote) || ends_line b || (b == backslash))

-- what a backslash and this byte stand for: \" \\ \' \n \r \t
abbrev pub escape_of : ℕ → Option ℕ
escape_of b =
    if b == quote then Some quote
    else (if b == backslash then Some backslash
    else (if b == 39 then Some 39
    else (if b == 110 then Some line_feed
    else (if b == 114 then Some carriage_return
    else (if b == 116 then Some tab
    else None)))))

-- the signs of one byte: { } ( ) ; , . < > = + - * ! :
abbrev pub is_sign : ℕ → Bool
is_sign b =
    (b == 123) || (b == 125) || (b == 40) || (b == 41) || (b == 59) || (b == 44) || (b == 46) || (b == 60)
    || (b == 62) || (b == 61) || (b == 43) || (b == 45) || (b == 42) || (b == 33) || (b == 58)

-- the signs of two bytes: -> ++ += == != <= >= && ||
abbrev pub is_long_sign : ℕ → ℕ → Bool
is_long_sign b c =
    ((b == 45) && (c == 62)) || ((b == 43) && ((c == 43) || (c == 61)))
    || (((b == 61) || (b == 33) || (b == 60) || (b == 62)) && (c == 61))
    || ((b == 38) && (c == 38)) || ((b == 124) && (c == 124))

-- the first byte, if there is one, is this
abbrev pub begins_with : ℕ → List ℕ → Bool
begins_with b [] = false
begins_with b (c ∷ cs) = c == b
