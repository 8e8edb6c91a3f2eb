-- Calls that are to fail, and what is printed of a command.
use Rattle.std.specs.Prelude.{◌≡◌, ◌≢◌, ℕ, ◌+◌, ◌-◌, ◌^◌, ◌≤◌, min, nat_lt, nat_eq, Bool, true, cond, ◌&&◌, List, [], ◌∷◌, ◌++◌, length, codes, if◌then◌else◌}
use Rattle.std.specs.Fmt.{decimal}
use Rattle.std.specs.List.{flat_map, slice_split, ends_with}
use Rattle.std.specs.Str.{bytes_eq, is_utf8}
use Rattle.std.specs.declared.option.Option.{Option}
use Rattle.std.specs.declared.option.Option.TheVariants.{Some, None}
use Rattle.qbs_base.specs.declared.status.Status.{Status}
use Rattle.qbs_base.specs.declared.status.Status.TheVariants.{ReadFault, WriteFault}
use Rattle.cases.specs.declared.calls.Ends.{Ends}
use Rattle.cases.specs.declared.prefixes.Count.{Count}
use Rattle.cases.specs.Lines.{first_word, rest_of, is_empty, is_line_feed, number_in, before_end}

abbrev pub whole_ends : Ends
whole_ends = record { files = None; out = None; rep = None; room = 1000 }

-- the call that a line gives by its number, a million at most
abbrev pub call_of : List ℕ → Option ℕ
call_of line = Some (min (number_in (rest_of line)) 1000000)

-- the ends with that call for whom the line names
abbrev pub failing_by : Ends → List ℕ → Ends
failing_by ends line =
    if bytes_eq (first_word line) (codes "files") then record ends { files = call_of line }
    else (if bytes_eq (first_word line) (codes "out") then record ends { out = call_of line }
    else record ends { rep = call_of line })

-- the one call, or none
abbrev pub listed : Option ℕ → List ℕ
listed (Some call) = call ∷ []
listed None = []

abbrev pub status_line : ℕ → List ℕ
status_line code = codes "==== status " ++ decimal code ++ codes "\n"

-- a status of files and sinks that never fail
abbrev pub IsClean : Status → Type 0
IsClean status = (status ≢ ReadFault) × (status ≢ WriteFault)

-- a line behind a mark
abbrev pub marked : List ℕ → List ℕ → List ℕ
marked mark line = mark ++ codes " " ++ line ++ codes "\n"

abbrev pub marked_lines : List ℕ → List ℕ → List ℕ
marked_lines mark text = flat_map (marked mark) (slice_split is_line_feed text)

-- the lines of a text behind a mark; where its last line has no line feed, one more says so
abbrev pub marked_text : List ℕ → List ℕ → List ℕ
marked_text mark text =
    if is_empty text then []
    else elim (before_end (codes "\n") text) [
      | Some before ↦ marked_lines mark before
      | None ↦ marked_lines mark text ++ codes "(no line feed)\n"
    ]

-- what is printed of bytes: their number alone where there are more than 4000
abbrev pub shown : List ℕ → List ℕ → List ℕ
shown mark bytes =
    if nat_lt 4000 (length bytes) then marked mark (decimal (length bytes) ++ codes " bytes")
    else (if is_utf8 bytes then marked_text mark bytes else codes "no UTF-8\n")

-- a status line, and what stood on the output and on the report
pub record IsShown (added : List ℕ) : Type 0 where
  pub code : ℕ
  pub text : List ℕ
  pub report : List ℕ
  pub is : added ≡ status_line code ++ shown (codes ">") text ++ shown (codes "!") report

-- a number behind a blank, and a line feed
abbrev pub number_end : ℕ → List ℕ
number_end number = codes " " ++ decimal number ++ codes "\n"

-- one more where it is so, as far as 64 bits go
abbrev pub up : ℕ → Bool → ℕ
up n is_so = min (n + cond is_so 1 0) (2 ^ 64 - 1)

-- whether a command ended with the status and wrote nothing, and whether its report then ends with the number, counted
abbrev pub counted_by : Count → ℕ → List ℕ → List ℕ → ℕ → ℕ → Count
counted_by count code out rep status number =
    let refused = nat_eq code status && is_empty out in
    record {
      all = up count.all true;
      refused = up count.refused refused;
      placed = up count.placed (refused && ends_with nat_eq rep (number_end number));
    }

-- what is counted over the prefixes of so many bytes that lack at least so many of them
pub record IsCounted (bytes less : ℕ) (count : Count) : Type 0 where
  pub all : count.all ≡ min bytes (bytes + 1 - less)
  pub refused : count.refused ≤ count.all
  pub placed : count.placed ≤ count.refused

abbrev pub prefixes_line : List ℕ → ℕ → Count → List ℕ
prefixes_line command status count =
    command ++ codes ": status " ++ decimal status ++ codes " and no output " ++ decimal count.refused
    ++ codes " of " ++ decimal count.all ++ codes ", at their ends " ++ decimal count.placed ++ codes "\n"

-- the second text begins with the first
abbrev pub Extends : List ℕ → List ℕ → Type 0
Extends before after = (more : List ℕ) × (after ≡ before ++ more)

-- the ends of the next command after a part of this kind
abbrev pub ends_after : Ends → List ℕ → List ℕ → Ends
ends_after ends kind line =
    if bytes_eq kind (codes "fails") then failing_by ends line
    else (if bytes_eq kind (codes "room") then record ends { room = number_in line }
    else (if bytes_eq kind (codes "command") then whole_ends
    else ends))
