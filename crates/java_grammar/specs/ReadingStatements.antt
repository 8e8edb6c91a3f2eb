-- Reading statements from left to right. `inner` reads statements one level deeper.
use Rattle.std.specs.Prelude.{ℕ, pred, pos, List, ◌∷◌, Bool, not, Option, Some, None, codes, if◌then◌else◌}
use Rattle.std.specs.Str.{bytes_eq}
use Rattle.qbs_base.specs.declared.span.Span.{Span}
use Rattle.qbs_base.specs.declared.scalar.Scalar.TheVariants as scalars
use Rattle.java_lex.specs.declared.token.TokenNode.{TokenNode}
use Rattle.readers.specs.Reading.{made}
use Rattle.java_ast.specs.declared.tree.Op.TheVariants as ops
use Rattle.java_ast.specs.Tree.{Expression, Lit, Var, Binary, Statement, Assign, Add, Sort, Print, Return, Break}
use Rattle.java_grammar.specs.Words.{name_in, is_number_type}
use Rattle.java_grammar.specs.Statements.{keys_in, downs_in}
use Rattle.java_grammar.specs.Reading.{Reader, then_at, seq_at, one_at, placed_at, or_at, is_word, is_sign, word_at, sign_at, opening_at, many_at}
use Rattle.java_grammar.specs.ReadingTypes.{key_at}
use Rattle.java_grammar.specs.ReadingExpressions.{expression_at}

-- ( expr )
unfoldable pub condition_at : ℕ → Reader Expression
condition_at room ts = made (λ x. x.1.0) (seq_at (opening_at room (codes "(")) (seq_at (expression_at (pred room)) (sign_at (codes ")")))) ts

-- expr ;
unfoldable pub value_at : ℕ → Reader Expression
value_at room ts = made (λ x. x.0) (seq_at (expression_at room) (sign_at (codes ";"))) ts

-- ---- behind a name

unfoldable pub assignment_at : ℕ → List ℕ → Reader (Span → Statement)
assignment_at room w ts = made (λ x at. Assign at w x.1) (seq_at (sign_at (codes "=")) (value_at room)) ts

unfoldable pub increase_at : ℕ → List ℕ → Reader (Span → Statement)
increase_at room w ts = made (λ x at. Assign at w (Binary at ops.Add (Var at w) x.1)) (seq_at (sign_at (codes "+=")) (value_at room)) ts

unfoldable pub increment_at : List ℕ → Reader (Span → Statement)
increment_at w ts = made (λ x at. Assign at w (Binary at ops.Add (Var at w) (Lit at (scalars.Long (pos 1))))) (seq_at (sign_at (codes "++")) (sign_at (codes ";"))) ts

unfoldable pub addition_at : ℕ → List ℕ → Reader (Span → Statement)
addition_at room w ts = made (λ x at. Add at w x.1.0) (seq_at (word_at (codes "add")) (seq_at (condition_at room) (sign_at (codes ";")))) ts

unfoldable pub printing_at : ℕ → Reader (Span → Statement)
printing_at room ts = made (λ x at. Print at x.1.1.1.0) (seq_at (word_at (codes "out")) (seq_at (sign_at (codes ".")) (seq_at (word_at (codes "println")) (seq_at (condition_at room) (sign_at (codes ";")))))) ts

-- ( key )
unfoldable pub key_part_at : ℕ → Reader (List ℕ)
key_part_at room ts = made (λ x. x.1.0) (seq_at (opening_at room (codes "(")) (seq_at (key_at (pred room)) (sign_at (codes ")")))) ts

unfoldable pub next_key_at : ℕ → Reader (Option (List ℕ))
next_key_at room ts = made (λ x. Some x.1) (seq_at (word_at (codes "thenComparing")) (key_part_at room)) ts

unfoldable pub reversed_at : ℕ → Reader (Option (List ℕ))
reversed_at room ts = made (λ x. None) (seq_at (word_at (codes "reversed")) (seq_at (opening_at room (codes "(")) (sign_at (codes ")")))) ts

unfoldable pub further_member_at : ℕ → Reader (Option (List ℕ))
further_member_at room ts = or_at (is_word (codes "thenComparing")) (next_key_at room) (reversed_at room) ts

unfoldable pub further_at : ℕ → Reader (Option (List ℕ))
further_at room ts = made (λ x. x.1) (seq_at (sign_at (codes ".")) (further_member_at room)) ts

abbrev pub is_no_dot : TokenNode → Bool
is_no_dot n = not (is_sign (codes ".") n)

unfoldable pub all_further_at : ℕ → Reader (List (Option (List ℕ)))
all_further_at room ts = many_at is_no_dot (further_at room) ts

unfoldable pub keys_at : ℕ → Reader (List (Option (List ℕ)))
keys_at room ts = made (λ x. Some x.1.1.1.0 ∷ x.1.1.1.1) (seq_at (word_at (codes "Comparator")) (seq_at (sign_at (codes ".")) (seq_at (word_at (codes "comparing")) (seq_at (key_part_at room) (all_further_at room))))) ts

unfoldable pub keys_part_at : ℕ → Reader (List (Option (List ℕ)))
keys_part_at room ts = made (λ x. x.1.0) (seq_at (opening_at room (codes "(")) (seq_at (keys_at (pred room)) (sign_at (codes ")")))) ts

unfoldable pub sorting_at : ℕ → List ℕ → Reader (Span → Statement)
sorting_at room w ts = made (λ x at. Sort at w (keys_in x.1.0) (downs_in x.1.0)) (seq_at (word_at (codes "sort")) (seq_at (keys_part_at room) (sign_at (codes ";")))) ts

-- sort, or out where that may stand
unfoldable pub other_member_at : ℕ → List ℕ → Reader (Span → Statement)
other_member_at room w ts = if bytes_eq w (codes "System") then or_at (is_word (codes "sort")) (sorting_at room w) (printing_at room) ts else sorting_at room w ts

unfoldable pub member_call_at : ℕ → List ℕ → Reader (Span → Statement)
member_call_at room w ts = or_at (is_word (codes "add")) (addition_at room w) (other_member_at room w) ts

unfoldable pub member_at : ℕ → List ℕ → Reader (Span → Statement)
member_at room w ts = made (λ x. x.1) (seq_at (sign_at (codes ".")) (member_call_at room w)) ts

unfoldable pub counting_at : ℕ → List ℕ → Reader (Span → Statement)
counting_at room w ts = or_at (is_sign (codes "+=")) (increase_at room w) (increment_at w) ts

unfoldable pub other_rest_at : ℕ → List ℕ → Reader (Span → Statement)
other_rest_at room w ts = if is_number_type w then member_at room w ts else or_at (is_sign (codes ".")) (member_at room w) (counting_at room w) ts

unfoldable pub named_rest_at : ℕ → List ℕ → Reader (Span → Statement)
named_rest_at room w ts = or_at (is_sign (codes "=")) (assignment_at room w) (other_rest_at room w) ts

unfoldable pub named_at : ℕ → Reader Statement
named_at room ts = placed_at (λ at x. x.1 at) (then_at (one_at name_in) (named_rest_at room)) ts

-- ---- other statements without bodies

unfoldable pub returned_at : ℕ → Reader (Option Expression)
returned_at room ts = or_at (is_sign (codes ";")) (made (λ x. None) (sign_at (codes ";"))) (made (λ x. Some x) (value_at room)) ts

unfoldable pub returning_at : ℕ → Reader Statement
returning_at room ts = placed_at (λ at x. Return at x.1) (seq_at (word_at (codes "return")) (returned_at room)) ts

unfoldable pub breaking_at : Reader Statement
breaking_at ts = placed_at (λ at x. Break at) (seq_at (word_at (codes "break")) (sign_at (codes ";"))) ts

unfoldable pub plain_at : ℕ → Reader Statement
plain_at room ts = or_at (is_word (codes "return")) (returning_at room) (or_at (is_word (codes "break")) breaking_at (named_at room)) ts
