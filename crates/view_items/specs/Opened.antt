-- What is opened and has to be closed: comments, text blocks, texts and characters.
use Rattle.std.specs.Prelude.{ℕ, ◌+◌, Bool, true, false, ◌&&◌, ◌==◌, not, List, [], ◌∷◌, length, drop, codes, if◌then◌else◌}
use Rattle.std.specs.List.{starts_with}
use Rattle.std.specs.declared.option.Option.{Option}
use Rattle.std.specs.declared.option.Option.TheVariants.{Some, None}
use Rattle.view_items.specs.declared.opened.Opened.{Opened}
use Rattle.view_items.specs.declared.opened.Opened.TheVariants as opens
use Rattle.view_items.specs.Bytes.{ends_line}

-- whether bytes begin with these
abbrev pub begins_with : List ℕ → List ℕ → Bool
begins_with bs front = starts_with (λ x y. x == y) bs front

abbrev pub opening_mark : Opened → List ℕ
opening_mark opens.Comment = codes "/*"
opening_mark opens.Block = codes "\"\"\""
opening_mark opens.Text = codes "\""
opening_mark opens.Char = codes "'"

abbrev pub closing_mark : Opened → List ℕ
closing_mark opens.Comment = codes "*/"
closing_mark opens.Block = codes "\"\"\""
closing_mark opens.Text = codes "\""
closing_mark opens.Char = codes "'"

-- a backslash takes the byte behind it with it
abbrev pub has_escapes : Opened → Bool
has_escapes opens.Comment = false
has_escapes _ = true

-- it has to be closed on its line
abbrev pub is_in_line : Opened → Bool
is_in_line opens.Text = true
is_in_line opens.Char = true
is_in_line _ = false

abbrev pub plus : ℕ → Option ℕ → Option ℕ
plus n None = None
plus n (Some m) = Some (n + m)

-- the line ends on which it has to be closed
abbrev pub breaks : Opened → ℕ → Bool
breaks o b = is_in_line o && ends_line b

abbrev pub is_closed : Opened → Bool → List ℕ → Bool
is_closed o escaped bs = not escaped && begins_with bs (closing_mark o)

abbrev pub escapes : Opened → Bool → ℕ → Bool
escapes o escaped b = not escaped && has_escapes o && (b == 92)

-- how many bytes there are up to the closing mark and with it, if there is one; the first byte may be escaped
unfoldable pub closing : Opened → Bool → List ℕ → Option ℕ
closing o escaped [] = None
closing o escaped (b ∷ bs) =
    if breaks o b then None
    else (if is_closed o escaped (b ∷ bs) then Some (length (closing_mark o)) else plus 1 (closing o (escapes o escaped b) bs))

-- how many bytes there are with what is opened at the front, if it is closed
abbrev pub opened_len : Opened → List ℕ → Option ℕ
opened_len o bs = plus (length (opening_mark o)) (closing o false (drop (length (opening_mark o)) bs))
