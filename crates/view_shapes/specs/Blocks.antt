-- The blocks of a method's body whose statements run where they stand.
use Rattle.std.specs.Prelude.{ℕ, zero, suc, ◌+◌, Bool, ◌&&◌, List, [], ◌∷◌, ◌++◌, length, codes, if◌then◌else◌}
use Rattle.std.specs.List.{flat_map}
use Rattle.std.specs.declared.option.Option.{Option}
use Rattle.std.specs.declared.option.Option.TheVariants.{Some, None}
use Rattle.view_items.specs.declared.item.Item.{Item}
use Rattle.view_shapes.specs.declared.members.Stretch.{Stretch}
use Rattle.view_shapes.specs.declared.statements.Form.{Form}
use Rattle.view_shapes.specs.declared.statements.Form.TheVariants as forms
use Rattle.view_items.specs.Brackets.{if_some}
use Rattle.view_shapes.specs.Found.{is_word, is_sign, is_over, before, closing_at, behind, step_over}
use Rattle.view_shapes.specs.Statements.{head, form_of, brace_of, is_clause, end_within, end_of}
use Rattle.view_shapes.specs.Members.{and_then}

-- what comes of a number, nothing where there is none
abbrev pub listed : Option ℕ → (ℕ → List Stretch) → List Stretch
listed None f = []
listed (Some k) f = f k

-- the items between the brace at a number and its closing one
abbrev pub block_to : ℕ → ℕ → List Stretch
block_to k c = record { from = k + 1; to = c } ∷ []

abbrev pub block_at : List Item → List ℕ → ℕ → List Stretch
block_at items closings k = listed (closing_at items closings k) (block_to k)

-- the clause behind the block of a brace
abbrev pub clause_from : List Item → ℕ → Option ℕ
clause_from items k = if is_clause items k then Some k else None

abbrev pub next_clause : List Item → List ℕ → ℕ → Option ℕ
next_clause items closings b = if_some (behind items closings b) (clause_from items)

-- the blocks of `try`, `catch` or `finally` at a number, and of the clauses that follow
unfoldable pub try_blocks : ℕ → List Item → List ℕ → ℕ → List Stretch
try_blocks zero items closings k = []
try_blocks (suc steps) items closings k =
    listed (brace_of items closings k) (λ b. block_at items closings b ++ listed (next_clause items closings b) (try_blocks steps items closings))

-- the blocks directly behind a colon, from a number of a switch on
abbrev pub is_case_block : List Item → ℕ → Bool
is_case_block items k = is_sign (codes "{") items k && before (is_sign (codes ":") items) k

abbrev pub case_block : List Item → List ℕ → ℕ → List Stretch
case_block items closings k = if is_case_block items k then block_at items closings k else []

unfoldable pub case_blocks : ℕ → List Item → List ℕ → ℕ → List Stretch
case_blocks zero items closings k = []
case_blocks (suc steps) items closings k =
    if is_over items k then []
    else case_block items closings k ++ listed (step_over items closings k) (case_blocks steps items closings)

-- the blocks of the statement behind `else`
abbrev pub else_blocks : (ℕ → List Stretch) → List Item → ℕ → List Stretch
else_blocks inner items k = if is_word (codes "else") items k then inner (k + 1) else []

-- the blocks of a statement of a form, where the statements in it have these ends and blocks
abbrev pub form_blocks : (ℕ → Option ℕ) → (ℕ → List Stretch) → List Item → List ℕ → ℕ → Form → List Stretch
form_blocks ends inner items closings k forms.Braces = block_at items closings k
form_blocks ends inner items closings k forms.If = listed (head items closings k) (λ b. inner b ++ listed (ends b) (else_blocks inner items))
form_blocks ends inner items closings k forms.Headed = listed (head items closings k) inner
form_blocks ends inner items closings k forms.Do = inner (k + 1)
form_blocks ends inner items closings k forms.Switch = listed (head items closings k) (λ b. case_blocks (length items) items closings (b + 1))
form_blocks ends inner items closings k forms.Try = try_blocks (length items) items closings k
form_blocks ends inner items closings k forms.Label = inner (k + 2)
form_blocks ends inner items closings k forms.Local = []
form_blocks ends inner items closings k forms.Simple = []

-- the outermost blocks of the statement that begins at a number, if at most so many stand inside one another without brackets
unfoldable pub blocks_within : ℕ → List Item → List ℕ → ℕ → List Stretch
blocks_within zero items closings k = []
blocks_within (suc levels) items closings k =
    if is_over items k then []
    else form_blocks (end_within levels items closings) (blocks_within levels items closings) items closings k (form_of items closings k)

abbrev pub inner_blocks : List Item → List ℕ → ℕ → List Stretch
inner_blocks items closings k = blocks_within 65 items closings k

-- the statements that stand one behind the other from a number on
unfoldable pub statements_in : ℕ → List Item → List ℕ → ℕ → List Stretch
statements_in zero items closings k = []
statements_in (suc steps) items closings k = and_then k (end_of items closings k) (λ m. statements_in steps items closings m)

abbrev pub statements_of : List Item → List ℕ → ℕ → List Stretch
statements_of items closings k = statements_in (length items) items closings k

-- the blocks of a statement, where each of its outermost blocks has these
abbrev pub blocks_below : (Stretch → List Stretch) → List Item → List ℕ → Stretch → List Stretch
blocks_below under items closings s = flat_map under (inner_blocks items closings s.from)

-- a block, and all blocks of its statements, outside before inside, if at most so many stand inside one another
unfoldable pub blocks_under : ℕ → List Item → List ℕ → Stretch → List Stretch
blocks_under zero items closings b = []
blocks_under (suc levels) items closings b = b ∷ flat_map (blocks_below (blocks_under levels items closings) items closings) (statements_of items closings b.from)

-- the blocks of a body in which at most 64 brackets are open at an item, in the order of the text
abbrev pub blocks_of : List Item → List ℕ → Stretch → List Stretch
blocks_of items closings body = blocks_under 65 items closings body
