-- Reading statements with bodies, declarations and blocks from left to right. A statement is read with whether it ends in
-- an `if` without an `else`, so that an `else` goes to the nearest `if` that has none.
use Rattle.std.specs.Prelude.{ℕ, zero, suc, pred, List, [], ◌∷◌, length, Bool, true, false, is_some, Option, Some, None, Err, codes, if◌then◌else◌}
use Rattle.qbs_base.specs.declared.span.Span.{Span}
use Rattle.java_lex.specs.declared.token.TokenNode.{TokenNode}
use Rattle.readers.specs.declared.fault.Fault.TheVariants.{Unexpected, TooDeep}
use Rattle.readers.specs.Reading.{made}
use Rattle.java_ast.specs.Tree.{Spelled, Expression, Statement, Statements, Declare, If, IfElse, ForEach, While, Nothing, Then as Followed}
use Rattle.java_grammar.specs.Words.{name_in, word_type, collection, collection_of}
use Rattle.java_grammar.specs.Reading.{Reader, then_at, seq_at, empty_at, one_at, placed_at, first_is, or_at, is_word, is_sign, word_at, sign_at, opening_at, many_at}
use Rattle.java_grammar.specs.ReadingTypes.{element_at, is_word_type, spelling_at}
use Rattle.java_grammar.specs.ReadingExpressions.{expression_at}
use Rattle.java_grammar.specs.ReadingStatements.{condition_at, value_at, named_rest_at, plain_at}

-- ---- declarations

-- name = expr ;   behind the type
unfoldable pub declared_as_at : ℕ → Spelled → Reader (Span → Statement)
declared_as_at room ty ts = made (λ x at. Declare at ty x.0 x.1.1) (seq_at (one_at name_in) (seq_at (sign_at (codes "=")) (value_at room))) ts

unfoldable pub declaration_at : ℕ → Reader Statement
declaration_at room ts = placed_at (λ at x. x.1 at) (then_at spelling_at (declared_as_at room)) ts

-- < elem > name = expr ;   behind List or Set
unfoldable pub declared_list_at : ℕ → Bool → Reader (Span → Statement)
declared_list_at room list ts = made (λ x. x.1) (then_at element_at (λ element. declared_as_at room (collection_of list element))) ts

abbrev pub is_name_token : TokenNode → Bool
is_name_token n = is_some (name_in n)

-- behind a word, which is this type or none: a declaration where a name follows
unfoldable pub typed_rest_at : ℕ → List ℕ → Option Spelled → Reader (Span → Statement)
typed_rest_at room w None ts = named_rest_at room w ts
typed_rest_at room w (Some ty) ts = or_at is_name_token (declared_as_at room ty) (named_rest_at room w) ts

-- behind a word, which is List, Set or neither
unfoldable pub word_rest_at : ℕ → List ℕ → Option Bool → Reader (Span → Statement)
word_rest_at room w None ts = typed_rest_at room w (word_type w) ts
word_rest_at room w (Some list) ts = or_at (is_sign (codes "<")) (declared_list_at room list) (named_rest_at room w) ts

-- a declaration, or a statement, that begins with a name
unfoldable pub named_item_at : ℕ → Reader Statement
named_item_at room ts = placed_at (λ at x. x.1 at) (then_at (one_at name_in) (λ w. word_rest_at room w (collection w))) ts

-- ---- heads

unfoldable pub if_head_at : ℕ → Reader Expression
if_head_at room ts = made (λ x. x.1) (seq_at (word_at (codes "if")) (condition_at room)) ts

unfoldable pub while_head_at : ℕ → Reader Expression
while_head_at room ts = made (λ x. x.1) (seq_at (word_at (codes "while")) (condition_at room)) ts

-- type name : expr
unfoldable pub walk_at : ℕ → Reader (Spelled × (List ℕ × Expression))
walk_at room ts = made (λ x. (x.0, (x.1.0, x.1.1.1))) (seq_at spelling_at (seq_at (one_at name_in) (seq_at (sign_at (codes ":")) (expression_at room)))) ts

-- ( type name : expr )
unfoldable pub walk_part_at : ℕ → Reader (Spelled × (List ℕ × Expression))
walk_part_at room ts = made (λ x. x.1.0) (seq_at (opening_at room (codes "(")) (seq_at (walk_at (pred room)) (sign_at (codes ")")))) ts

unfoldable pub for_head_at : ℕ → Reader (Spelled × (List ℕ × Expression))
for_head_at room ts = made (λ x. x.1) (seq_at (word_at (codes "for")) (walk_part_at room)) ts

-- ---- bodies, by the readers of what stands one level deeper

unfoldable pub block_in : ℕ → Reader Statements → Reader Statements
block_in room inner ts = made (λ x. x.1.0) (seq_at (opening_at room (codes "{")) (seq_at inner (sign_at (codes "}")))) ts

-- a statement that is no declaration begins with this token
abbrev pub is_keyword : TokenNode → Bool
is_keyword n = if is_word (codes "if") n then true else (if is_word (codes "for") n then true else (if is_word (codes "while") n then true else (if is_word (codes "return") n then true else is_word (codes "break") n)))

abbrev pub begins_statement : TokenNode → Bool
begins_statement n = if is_keyword n then true else is_name_token n

abbrev pub alone : Bool × Statement → Bool × Statements
alone x = (x.0, Followed x.1 Nothing)

-- a statement as a body, which opens at its first token
unfoldable pub single_in : ℕ → Reader (Bool × Statement) → Reader (Bool × Statements)
single_in zero inner ts = if first_is begins_statement ts then Err (TooDeep (length ts)) else Err (Unexpected (length ts))
single_in (suc room) inner ts = made alone inner ts

unfoldable pub body_in : ℕ → Reader (Bool × Statement) → Reader Statements → Reader (Bool × Statements)
body_in room statement block ts = or_at (is_sign (codes "{")) (made (λ xs. (false, xs)) (block_in room block)) (single_in room statement) ts

-- ---- statements with bodies

-- what is done else: none where the body before ends in an `if` without an `else`
unfoldable pub otherwise_at : Reader (Bool × Statements) → Bool → Reader (Option (Bool × Statements))
otherwise_at body true ts = empty_at None ts
otherwise_at body false ts = or_at (is_word (codes "else")) (made (λ x. Some x.1) (seq_at (word_at (codes "else")) body)) (empty_at None) ts

abbrev pub if_of : Span → Expression → Statements → Option (Bool × Statements) → Bool × Statement
if_of at cond first None = (true, If at cond first)
if_of at cond first (Some other) = (other.0, IfElse at cond first other.1)

unfoldable pub if_at : ℕ → Reader (Bool × Statements) → Reader (Bool × Statement)
if_at room body ts = placed_at (λ at x. if_of at x.0 x.1.0.1 x.1.1) (seq_at (if_head_at room) (then_at body (λ first. otherwise_at body first.0))) ts

unfoldable pub for_at : ℕ → Reader (Bool × Statements) → Reader (Bool × Statement)
for_at room body ts = placed_at (λ at x. (x.1.0, ForEach at x.0.0 x.0.1.0 x.0.1.1 x.1.1)) (seq_at (for_head_at room) body) ts

unfoldable pub while_at : ℕ → Reader (Bool × Statements) → Reader (Bool × Statement)
while_at room body ts = placed_at (λ at x. (x.1.0, While at x.0 x.1.1)) (seq_at (while_head_at room) body) ts

-- a statement that is no declaration, by the reader of its bodies
unfoldable pub statement_by : ℕ → Reader (Bool × Statements) → Reader (Bool × Statement)
statement_by room body ts = or_at (is_word (codes "if")) (if_at room body) (or_at (is_word (codes "for")) (for_at room body) (or_at (is_word (codes "while")) (while_at room body) (made (λ x. (false, x)) (plain_at room)))) ts

-- a declaration, or a statement
unfoldable pub item_by : ℕ → Reader (Bool × Statement) → Reader Statement
item_by room statement ts = or_at is_name_token (named_item_at room) (or_at is_word_type (declaration_at room) (made (λ x. x.1) statement)) ts

abbrev pub is_close : TokenNode → Bool
is_close n = is_sign (codes "}") n

abbrev pub listed : List Statement → Statements
listed [] = Nothing
listed (x ∷ xs) = Followed x (listed xs)

-- statements up to a closing brace
unfoldable pub items_by : ℕ → Reader (Bool × Statement) → Reader Statements
items_by room statement ts = made listed (many_at is_close (item_by room statement)) ts

-- Behind something that opens, where as many more may be open as before it. Nothing is read where it may not open.
unfoldable mutual
  pub statement_inside : ℕ → Reader (Bool × Statement)
  statement_inside zero ts = Err (TooDeep (length ts))
  statement_inside (suc room) ts = statement_by room (body_in room (statement_inside room) (statements_inside room)) ts

  pub statements_inside : ℕ → Reader Statements
  statements_inside zero ts = Err (TooDeep (length ts))
  statements_inside (suc room) ts = items_by room (statement_by room (body_in room (statement_inside room) (statements_inside room))) ts

-- ---- where so many more may be open

-- a body: a block, or a statement that is no declaration
unfoldable pub body_at : ℕ → Reader (Bool × Statements)
body_at room ts = body_in room (statement_inside room) (statements_inside room) ts

-- { statements }
unfoldable pub block_at : ℕ → Reader Statements
block_at room ts = block_in room (statements_inside room) ts

-- a statement that is no declaration, and whether it ends in an `if` without an `else`
unfoldable pub statement_at : ℕ → Reader (Bool × Statement)
statement_at room ts = statement_by room (body_at room) ts

unfoldable pub item_at : ℕ → Reader Statement
item_at room ts = item_by room (statement_at room) ts

-- statements up to a closing brace
unfoldable pub statements_at : ℕ → Reader Statements
statements_at room ts = items_by room (statement_at room) ts
