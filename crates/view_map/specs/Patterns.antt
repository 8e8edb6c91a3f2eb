-- Patterns: expressions that bind tightly, up to the semicolon behind them.
use Rattle.std.specs.Prelude.{ℕ, suc, ◌+◌, ◌-◌, ◌==◌, ◌||◌, ◌&&◌, List, [], ◌∷◌, map, take, drop, Bool, true, false, codes, Result, Ok, Err, if◌then◌else◌}
use Rattle.std.specs.declared.option.Option.{Option}
use Rattle.std.specs.declared.option.Option.TheVariants.{Some, None}
use Rattle.view_items.specs.declared.item.Item.{Item}
use Rattle.view_map.specs.declared.fault.MapFault.{MapFault}
use Rattle.view_map.specs.declared.model.PatternItem.{PatternItem}
use Rattle.view_map.specs.declared.patterns.Expected.{Expected}
use Rattle.view_map.specs.declared.patterns.Expected.TheVariants as expected
use Rattle.view_map.specs.declared.patterns.Shape.{Shape}
use Rattle.view_map.specs.Words.{is_spelled, is_name_kind, is_literal_kind}
use Rattle.view_map.specs.Reading.{◌>>=◌, Read, option_cases, unexpected}

-- `(`, `[` and `{`, and what closes them
abbrev pub is_open : Item → Bool
is_open i = is_spelled (codes "(") i || is_spelled (codes "[") i || is_spelled (codes "{") i

abbrev pub is_close : Item → Bool
is_close i = is_spelled (codes ")") i || is_spelled (codes "]") i || is_spelled (codes "}") i

abbrev pub shape : Expected → ℕ → Shape
shape e depth = record { expected = e; depth = depth }

-- nothing has been read
abbrev pub at_front : Shape
at_front = shape expected.Operand 0

-- an operand may stand here: at the front, or behind a cast
abbrev pub takes_operand : Expected → Bool
takes_operand expected.Operand = true
takes_operand expected.Cast = true
takes_operand _ = false

-- an operand stands before, or what may be one: a parenthesis
abbrev pub follows_operand : Expected → Bool
follows_operand expected.Cast = true
follows_operand expected.Rest = true
follows_operand _ = false

-- behind a parenthesis at the front either an operand follows, and it was a cast, or it was the operand
abbrev pub behind_parenthesis : Expected → Option Expected
behind_parenthesis expected.Operand = Some expected.Cast
behind_parenthesis expected.Cast = Some expected.Cast
behind_parenthesis expected.Rest = Some expected.Rest
behind_parenthesis expected.Name = None

-- an operand begins with a name, `new`, or a literal, and a name stands behind `new` and a dot
abbrev pub behind_name : Expected → Item → Option Expected
behind_name expected.Name i = Some expected.Rest
behind_name expected.Rest i = None
behind_name _ i = if is_spelled (codes "new") i then Some expected.Name else Some expected.Rest

abbrev pub is_brace : Item → Bool
is_brace i = is_spelled (codes "{") i || is_spelled (codes "}") i

abbrev pub shape_if : Bool → Expected → Option Shape
shape_if holds e = if holds then Some (shape e 0) else None

-- outside of brackets: what may stand behind an item, and none where the item can't stand here. The braces of a template stand behind an
-- operand.
unfoldable pub behind_outside : Bool → Expected → Item → Option Shape
behind_outside template e i =
    if is_name_kind i.kind then option_cases (behind_name e i) None (λ next. Some (shape next 0))
    else (if is_literal_kind i.kind then shape_if (takes_operand e) expected.Rest
    else (if is_spelled (codes "(") i then option_cases (behind_parenthesis e) None (λ next. Some (shape next 1))
    else (if is_spelled (codes ".") i then shape_if (follows_operand e) expected.Name
    else shape_if (is_brace i && template && follows_operand e) expected.Rest)))

-- in brackets anything stands
abbrev pub depth_behind : ℕ → Item → ℕ
depth_behind depth i = if is_open i then depth + 1 else (if is_close i then depth - 1 else depth)

abbrev pub behind_item : Bool → Shape → Item → Option Shape
behind_item template s i = if s.depth == 0 then behind_outside template s.expected i else Some (shape s.expected (depth_behind s.depth i))

-- a semicolon outside of brackets, behind an operand
abbrev pub ends_pattern : Shape → Item → Bool
ends_pattern s i = (s.depth == 0) && follows_operand s.expected && is_spelled (codes ";") i

abbrev pub one_more : Result ℕ MapFault → Result ℕ MapFault
one_more n = n >>= λ k. Ok (suc k)

-- how many items a pattern has
unfoldable pub pattern_len : Bool → Shape → ℕ → List Item → Result ℕ MapFault
pattern_len template s end [] = Err (unexpected end [])
pattern_len template s end (i ∷ is) =
    if ends_pattern s i then Ok 0
    else option_cases (behind_item template s i) (Err (unexpected end (i ∷ is))) (λ t. one_more (pattern_len template t end is))

-- the items of a pattern, and what stands behind it
unfoldable pub pattern_at : Bool → ℕ → List Item → Read (List Item)
pattern_at template end is = pattern_len template at_front end is >>= λ n. Ok (take n is, drop n is)

abbrev pub pattern_item : Item → PatternItem
pattern_item i = record { kind = i.kind; bytes = i.bytes }

abbrev pub pattern_items : List Item → List PatternItem
pattern_items is = map pattern_item is
