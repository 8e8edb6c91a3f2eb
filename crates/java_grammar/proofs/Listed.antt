-- Statements up to a closing brace, listed as the code keeps them.
use Rattle.std.proofs.Common.{◌≡◌, ℕ, List, [], ◌∷◌, map, Ok, refl, ap, ◌∙◌}
use Rattle.readers.specs.declared.fault.ReadError.{ReadError}
use Rattle.readers.specs.declared.fault.ReadError.TheVariants as errors
use Rattle.readers.specs.Reading.{◌>>=◌, Read, Fails}
use Rattle.java_ast.specs.declared.tree.Stmt.{Stmt}
use Rattle.java_ast.specs.Tree.{Statement, Statements, Then}
use Rattle.java_ast.specs.Reading.{statement, statements}
use Rattle.java_grammar.specs.Marks.{Tok}
use Rattle.java_grammar.specs.Reading.{many_at}
use Rattle.java_grammar.specs.ReadingBodies.{is_close, listed, item_at, items_by, statements_at}

all_listed : (xs : List Stmt) → listed (map statement xs) ≡ statements xs
all_listed [] = refl
all_listed (x ∷ xs) = ap (Then (statement x)) (all_listed xs)

abbrev as_list : Read Tok (List Statement) → Read Tok Statements
as_list read = read >>= λ x. Ok (listed x.0, x.1)

items_of : (room : ℕ) (ts : List Tok) → statements_at room ts ≡ as_list (many_at is_close (item_at room) ts)
unfolding statements_at items_by item_at
items_of room ts = refl

pub items_fail : (e : ReadError) (room : ℕ) (ts : List Tok) → Fails e (many_at is_close (item_at room) ts) → Fails e (statements_at room ts)
items_fail errors.Memory room ts h = tt
items_fail (errors.Fault f) room ts h = items_of room ts ∙ ap as_list h

pub items_done : (room : ℕ) (ts : List Tok) (xs : List Stmt) (rest : List Tok) → many_at is_close (item_at room) ts ≡ Ok (map statement xs, rest) → statements_at room ts ≡ Ok (statements xs, rest)
items_done room ts xs rest h = items_of room ts ∙ ap as_list h ∙ ap (λ (ss : Statements). Ok (ss, rest)) (all_listed xs)
