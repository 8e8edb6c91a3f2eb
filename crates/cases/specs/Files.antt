-- Files that are held, and the bytes that a rule makes.
use Rattle.std.specs.Prelude.{ℕ, ◌-◌, Bool, ◌||◌, List, [], ◌∷◌, ◌++◌, length, codes, map, reverse, unwrap_or, string_bytes, if◌then◌else◌}
use Rattle.std.specs.List.{flat_map, repeat, slice_split}
use Rattle.std.specs.Str.{bytes_eq}
use Rattle.std.specs.declared.option.Option.{Option}
use Rattle.std.specs.declared.option.Option.TheVariants.{Some, None}
use Rattle.qbs_base.specs.Named.{at_name}
use Rattle.cases.specs.declared.held.File.{File}
use Rattle.cases.specs.Lines.{first_word, rest_of, is_empty, is_line_feed, number_in, before_end}

-- a file as its name and its bytes
abbrev pub entry_of : File → List ℕ × List ℕ
entry_of file = (string_bytes file.name, file.bytes.items)

abbrev pub entries_of : List File → List (List ℕ × List ℕ)
entries_of files = map entry_of files

-- the bytes of the first file of that name, none where there is no such file
abbrev pub bytes_under : List File → List ℕ → List ℕ
bytes_under files name = unwrap_or (at_name (entries_of files) name) []

-- the bytes of the last file of that name, if there is one
abbrev pub last_under : List File → List ℕ → Option (List ℕ)
last_under files name = at_name (reverse (entries_of files)) name

-- the same where these bytes stand under a name
abbrev pub last_with : List File → List ℕ → List ℕ → List ℕ → Option (List ℕ)
last_with files name bytes other = if bytes_eq name other then Some bytes else last_under files other

-- a text with a line feed at its end, where it isn't empty; a last line of `----` goes, and the line feed before it
abbrev pub filled_bytes : List ℕ → List ℕ
filled_bytes text =
    elim (before_end (codes "\n----") text) [
      | Some before ↦ before
      | None ↦ (if is_empty text then [] else text ++ 10 ∷ [])
    ]

-- a line's rest and this end, as often as its first word says
abbrev pub repeated_line : List ℕ → List ℕ → List ℕ
repeated_line end line = repeat (number_in (first_word line)) (rest_of line ++ end)

-- the same of all lines of a text
abbrev pub repeated_lines : List ℕ → List ℕ → List ℕ
repeated_lines end text = flat_map (repeated_line end) (slice_split is_line_feed text)

-- bytes and blanks behind them, up to this length
abbrev pub padded : List ℕ → ℕ → List ℕ
padded bytes length_of = bytes ++ repeat (length_of - length bytes) (32 ∷ [])

-- the bytes of a file by its kind, the rest of its line and its text
abbrev pub bytes_made : List File → List ℕ → List ℕ → List ℕ → List ℕ
bytes_made files kind rule text =
    if bytes_eq kind (codes "lines") then repeated_lines (codes "\n") text
    else (if bytes_eq kind (codes "pieces") then repeated_lines [] text
    else (if bytes_eq kind (codes "padded") then padded (bytes_under files (rest_of rule)) (number_in (first_word rule))
    else (if bytes_eq kind (codes "copy") then bytes_under files rule
    else filled_bytes text)))

-- the name that a line begins with, and the bytes by its kind, the rest of the line and the text
abbrev pub entry_made : List File → List ℕ → List ℕ → List ℕ → List ℕ × List ℕ
entry_made files kind line text = (first_word line, bytes_made files kind (rest_of line) text)

-- the kinds of parts that hold no file
abbrev pub is_order : List ℕ → Bool
is_order kind =
    bytes_eq kind (codes "fails") || bytes_eq kind (codes "room") || bytes_eq kind (codes "command")
    || bytes_eq kind (codes "clean") || bytes_eq kind (codes "prefixes")

-- the file that a part of a kind that is no order holds
abbrev pub entries_added : List File → List ℕ → List ℕ → List (List ℕ × List ℕ)
entries_added files head text = if is_order (first_word head) then [] else entry_made files (first_word head) (rest_of head) text ∷ []
