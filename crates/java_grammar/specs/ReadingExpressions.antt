-- Reading expressions from left to right. `inner` reads what stands in parentheses, one level deeper, by rank.
use Rattle.std.specs.Prelude.{ℕ, zero, suc, pred, List, [], ◌∷◌, length, Bool, true, false, not, is_some, neg_ℤ, Option, Some, None, Err, codes}
use Rattle.qbs_base.specs.declared.span.Span.{Span}
use Rattle.qbs_base.specs.declared.scalar.Scalar.{Scalar}
use Rattle.qbs_base.specs.declared.scalar.Scalar.TheVariants as scalars
use Rattle.java_lex.specs.declared.token.TokenNode.{TokenNode}
use Rattle.readers.specs.declared.fault.Fault.TheVariants.{TooDeep}
use Rattle.readers.specs.Reading.{made}
use Rattle.java_ast.specs.Tree.{Spelled, Expression, Expressions, Lit, Var, Field, Binary, Not, Equals, Size, Get, Contains, Fetch, Query, QueryLong, QueryBoolean, NoMore, And}
use Rattle.java_grammar.specs.Marks.{nowhere}
use Rattle.java_grammar.specs.Words.{by_word, word_if, name_in, table_in, variable_in, text_in, natural_in, literal_in, is_number_type, element_type}
use Rattle.java_limits.specs.Limits.{longest}
use Rattle.java_grammar.specs.Expressions.{limit, created, created_as, Call, EqualTo, SizeOf, GetFrom, ContainedIn, FetchFrom, QueryOf, QueryOfLong, QueryOfBoolean, query_of, call_of, left_behind, operator_in, ranks, name_or_none}
use Rattle.java_grammar.specs.Reading.{Reader, then_at, seq_at, empty_at, one_at, held_at, placed_at, or_at, is_word, is_sign, word_at, sign_at, opening_at, chained_at, many_at}

-- reads by rank
abbrev pub Ranked : Type 0
Ranked = ℕ → Reader Expression

-- ---- literals

unfoldable pub negative_at : Reader Scalar
negative_at ts = made (λ x. scalars.Long (neg_ℤ x.1)) (seq_at (sign_at (codes "-")) (one_at natural_in)) ts

unfoldable pub limit_at : Reader Scalar
limit_at ts = made (λ x. scalars.Long x.1.1) (then_at (one_at (word_if is_number_type)) (λ type. seq_at (sign_at (codes ".")) (one_at (by_word (limit type))))) ts

abbrev pub is_literal : TokenNode → Bool
is_literal n = is_some (literal_in n)

unfoldable pub scalar_at : Reader Scalar
scalar_at ts = or_at (is_sign (codes "-")) negative_at (or_at is_literal (one_at literal_in) limit_at) ts

unfoldable pub literal_at : Reader Expression
literal_at ts = placed_at Lit scalar_at ts

-- ---- calls

unfoldable pub table_class_at : Reader (List ℕ)
table_class_at ts = made (λ x. x.0) (seq_at (one_at table_in) (seq_at (sign_at (codes ".")) (word_at (codes "class")))) ts

unfoldable pub element_query_at : Reader (Spelled × List ℕ)
element_query_at ts = made (λ x. (x.0, x.1.1.1.1)) (seq_at (one_at (by_word element_type)) (seq_at (sign_at (codes ".")) (seq_at (word_at (codes "class")) (seq_at (sign_at (codes ",")) (one_at text_in))))) ts

abbrev pub is_no_comma : TokenNode → Bool
is_no_comma n = not (is_sign (codes ",") n)

unfoldable pub next_argument_at : Ranked → Reader Expression
next_argument_at inner ts = made (λ x. x.1) (seq_at (sign_at (codes ",")) (inner ranks)) ts

abbrev pub gathered : List Expression → Expressions
gathered [] = NoMore
gathered (x ∷ xs) = And x (gathered xs)

unfoldable pub arguments_at : Ranked → Reader (List Expression)
arguments_at inner ts = many_at is_no_comma (next_argument_at inner) ts

unfoldable pub query_of_element_at : Ranked → Reader (Span → Expression)
query_of_element_at inner ts = made (λ x at. Query at x.0.0 x.0.1 (gathered x.1)) (seq_at element_query_at (arguments_at inner)) ts

unfoldable pub query_of_long_at : Ranked → Reader (Span → Expression)
query_of_long_at inner ts = made (λ x at. QueryLong at x.0 (gathered x.1)) (seq_at (one_at text_in) (arguments_at inner)) ts

unfoldable pub query_of_truth_at : Ranked → Reader (Span → Expression)
query_of_truth_at inner ts = made (λ x at. QueryBoolean at x.0 (gathered x.1)) (seq_at (one_at text_in) (arguments_at inner)) ts

-- what stands in the parentheses of a call on x, which is the name w or no name
unfoldable pub call_at : Ranked → List ℕ → Expression → Call → Reader (Span → Expression)
call_at inner w x EqualTo ts = made (λ y at. Equals at x y) (inner ranks) ts
call_at inner w x SizeOf ts = empty_at (λ at. Size at w) ts
call_at inner w x GetFrom ts = made (λ y at. Get at w y) (inner ranks) ts
call_at inner w x ContainedIn ts = made (λ y at. Contains at w y) (inner ranks) ts
call_at inner w x FetchFrom ts = made (λ table at. Fetch at table) table_class_at ts
call_at inner w x QueryOf ts = query_of_element_at inner ts
call_at inner w x QueryOfLong ts = query_of_long_at inner ts
call_at inner w x QueryOfBoolean ts = query_of_truth_at inner ts

unfoldable pub called_at : ℕ → Ranked → List ℕ → Expression → Call → Reader (Span → Expression)
called_at room inner w x c ts = made (λ y. y.1.0) (seq_at (opening_at room (codes "(")) (seq_at (call_at inner w x c) (sign_at (codes ")")))) ts

-- a call where the member is one that may be called
unfoldable pub suffix_by : ℕ → Ranked → List ℕ → Expression → List ℕ → ℕ → Option Call → Reader ((Span → Expression) × ℕ)
suffix_by room inner w x m left None ts = empty_at ((λ at. Field at x m), pred left) ts
suffix_by room inner w x m left (Some c) ts = made (λ node. (node, left_behind c left)) (called_at room inner w x c) ts

-- what follows a dot and the member m behind x
unfoldable pub suffix_at : ℕ → Ranked → Option (List ℕ) → Expression → List ℕ → ℕ → Reader ((Span → Expression) × ℕ)
suffix_at room inner bare x m left ts = or_at (is_sign (codes "(")) (suffix_by room inner (name_or_none bare) x m left (call_of bare m)) (suffix_by room inner (name_or_none bare) x m left None) ts

-- ---- db . query ( .. ) where nothing else may stand

unfoldable pub query_start_at : ℕ → Reader Call
query_start_at room ts = made (λ x. x.1.1.0) (seq_at (word_at (codes "db")) (seq_at (sign_at (codes ".")) (seq_at (one_at (by_word query_of)) (opening_at room (codes "("))))) ts

unfoldable pub query_in : ℕ → Ranked → Reader Expression
query_in room inner ts = placed_at (λ at x. x.1.0 at) (then_at (query_start_at room) (λ c. seq_at (call_at inner [] (Var nowhere []) c) (sign_at (codes ")")))) ts

-- ---- new

unfoldable pub elements_at : Reader (Unit {0})
elements_at ts = or_at (is_sign (codes ">")) (empty_at tt) (made (λ x. tt) (one_at (by_word element_type))) ts

unfoldable pub creation_at : ℕ → Reader Bool
creation_at room ts = made (λ x. x.1.0) (seq_at (word_at (codes "new")) (seq_at (one_at (by_word created)) (seq_at (sign_at (codes "<")) (seq_at elements_at (seq_at (sign_at (codes ">")) (opening_at room (codes "("))))))) ts

unfoldable pub source_at : Reader Expression → Bool → Reader (Option Expression)
source_at query false ts = empty_at None ts
source_at query true ts = or_at (is_word (codes "db")) (made (λ x. Some x) query) (empty_at None) ts

unfoldable pub source_end_at : Reader Expression → Bool → Reader (Option Expression)
source_end_at query set ts = made (λ x. x.0) (seq_at (source_at query set) (sign_at (codes ")"))) ts

unfoldable pub new_at : ℕ → Reader Expression → Reader Expression
new_at room query ts = placed_at (λ at x. created_as x.0 at x.1) (then_at (creation_at room) (source_end_at query)) ts

-- ---- what stands alone

unfoldable pub grouped_at : ℕ → Ranked → Reader Expression
grouped_at room inner ts = made (λ x. x.1.0) (seq_at (opening_at room (codes "(")) (seq_at (inner ranks) (sign_at (codes ")")))) ts

unfoldable pub atom_at : ℕ → Ranked → Reader Expression → Reader Expression
atom_at room inner query ts = or_at (is_sign (codes "(")) (grouped_at room inner) (or_at (is_word (codes "new")) (new_at room query) literal_at) ts

-- ---- parts behind dots

abbrev pub is_variable_token : TokenNode → Bool
is_variable_token n = is_some (variable_in n)

-- a variable and its expression
unfoldable pub variable_at : Reader (List ℕ × Expression)
variable_at ts = placed_at (λ at w. (w, Var at w)) (one_at variable_in) ts

unfoldable pub dotted_at : ℕ → Ranked → List ℕ × Expression → Reader ((Span → Expression) × Option ℕ)
dotted_at room inner v ts = made (λ y. (y.1.1.0, Some y.1.1.1)) (seq_at (sign_at (codes ".")) (then_at (one_at name_in) (λ m. suffix_at room inner (Some v.0) v.1 m (longest room)))) ts

unfoldable pub behind_variable_at : ℕ → Ranked → List ℕ × Expression → Reader ((Span → Expression) × Option ℕ)
behind_variable_at room inner v ts = or_at (is_sign (codes ".")) (dotted_at room inner v) (empty_at ((λ at. Var at v.0), None)) ts

-- a variable, or what its first part makes of it, and how many parts may follow
unfoldable pub named_at : ℕ → Ranked → Reader (Expression × Option ℕ)
named_at room inner ts = placed_at (λ at x. (x.1.0 at, x.1.1)) (then_at variable_at (behind_variable_at room inner)) ts

unfoldable pub head_at : ℕ → Ranked → Reader Expression → Reader (Expression × Option ℕ)
head_at room inner query ts = or_at is_variable_token (named_at room inner) (made (λ x. (x, Some (longest room))) (atom_at room inner query)) ts

-- one more part
unfoldable pub part_at : ℕ → Ranked → ℕ → Expression → Reader (Span → Expression)
part_at room inner left x ts = made (λ y. y.1.1.0) (seq_at (opening_at left (codes ".")) (then_at (one_at name_in) (λ m. suffix_at room inner None x m left))) ts

unfoldable pub postfix_at : ℕ → Ranked → Reader Expression → Reader Expression
postfix_at room inner query ts = chained_at (is_sign (codes ".")) (part_at room inner) (head_at room inner query) ts

unfoldable pub negation_at : ℕ → Ranked → Reader Expression
negation_at room inner ts = placed_at (λ at x. Not at x.1) (seq_at (opening_at room (codes "!")) (inner 0)) ts

unfoldable pub unary_at : ℕ → Ranked → Reader Expression → Reader Expression
unary_at room inner query ts = or_at (is_sign (codes "!")) (negation_at room inner) (postfix_at room inner query) ts

-- ---- operators

abbrev pub is_operator : ℕ → TokenNode → Bool
is_operator rank n = is_some (operator_in rank n)

-- an operator of this rank and an operand
unfoldable pub operand_at : ℕ → Reader Expression → ℕ → Expression → Reader (Span → Expression)
operand_at rank operand left x ts = made (λ y at. Binary at y.0 x y.1) (seq_at (held_at left (operator_in rank)) operand) ts

unfoldable pub rank_in : ℕ → Ranked → Reader Expression → ℕ → Reader Expression
rank_in room inner query zero ts = unary_at room inner query ts
rank_in room inner query (suc rank) ts = chained_at (is_operator rank) (operand_at rank (rank_in room inner query rank)) (made (λ x. (x, Some (longest room))) (rank_in room inner query rank)) ts

-- Behind something that opens, where as many more may be open as before it. Nothing is read where it may not open.
unfoldable mutual
  pub inside : ℕ → Ranked
  inside zero rank ts = Err (TooDeep (length ts))
  inside (suc room) rank ts = rank_in room (inside room) (query_inside room) rank ts

  pub query_inside : ℕ → Reader Expression
  query_inside zero ts = Err (TooDeep (length ts))
  query_inside (suc room) ts = query_in room (inside room) ts

-- an expression of a rank, where so many more may be open
unfoldable pub rank_at : ℕ → ℕ → Reader Expression
rank_at room rank ts = rank_in room (inside room) (query_inside room) rank ts

unfoldable pub expression_at : ℕ → Reader Expression
expression_at room ts = rank_at room ranks ts
