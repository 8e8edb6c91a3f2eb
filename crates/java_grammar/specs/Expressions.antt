-- Which tokens have an expression. Operators bind by rank, from `*` at 0 to `||` at 5, and chains of one rank are
-- grouped from the left. `room` is how many more things may be open, and `left` how many more operators, or parts
-- behind a dot, a chain may have, both at strict tokens.
use Rattle.std.specs.Prelude.{◌≡◌, ℕ, ℤ, pos, negsuc, zero, suc, pred, ◌-◌, ◌^◌, List, [], ◌∷◌, ◌++◌, Bool, true, false, nat_eq, neg_ℤ, Option, Some, None, codes, if◌then◌else◌}
use Rattle.std.specs.Str.{bytes_eq}
use Rattle.qbs_base.specs.declared.span.Span.{Span}
use Rattle.qbs_base.specs.declared.scalar.Scalar.{Scalar}
use Rattle.qbs_base.specs.declared.scalar.Scalar.TheVariants as scalars
use Rattle.java_lex.specs.declared.token.TokenNode.{TokenNode}
use Rattle.java_lex.specs.declared.token.TokenNode.TheVariants as tokens
use Rattle.java_ast.specs.declared.tree.Op.{Op}
use Rattle.java_ast.specs.Tree.{Spelled, Expression, Expressions, Lit, Var, Field, Binary, Not, Equals, Size, Get, Contains, Fetch, Query, QueryLong, QueryBoolean, NewList, NewSet, NewSetOf, NoMore, And}
use Rattle.java_limits.specs.Limits.{longest}
use Rattle.java_grammar.specs.Marks.{Tok, Allows, nowhere, extent}
use Rattle.java_grammar.specs.Rules.{Rule, Empty, One, Word, Sign, Opening, Seq, Then, Or, Made, Placed}
use Rattle.java_grammar.specs.Words.{by_word, word_if, name_in, table_in, variable_in, text_in, natural_in, literal_in, is_number_type, element_type, operator_of}

-- ---- literals

-- the least and the greatest number of a type
abbrev pub limit : List ℕ → List ℕ → Option ℤ
limit type bound =
    if bytes_eq bound (codes "MIN_VALUE") then (if bytes_eq type (codes "Long") then Some (negsuc (2 ^ 63 - 1)) else Some (negsuc (2 ^ 31 - 1)))
    else (if bytes_eq bound (codes "MAX_VALUE") then (if bytes_eq type (codes "Long") then Some (pos (2 ^ 63 - 1)) else Some (pos (2 ^ 31 - 1)))
    else None)

-- Long . MIN_VALUE
abbrev pub Limit : Rule Scalar
Limit = Made (λ x. scalars.Long x.1.1) (Then (One (word_if is_number_type)) (λ type. Seq (Sign (codes ".")) (One (by_word (limit type)))))

-- a minus stands only directly before an integer
abbrev pub Negative : Rule Scalar
Negative = Made (λ x. scalars.Long (neg_ℤ x.1)) (Seq (Sign (codes "-")) (One natural_in))

abbrev pub Literal : Rule Expression
Literal = Placed Lit (Or Negative (Or (One literal_in) Limit))

abbrev pub Variable : Rule Expression
Variable = Placed Var (One variable_in)

-- ---- new

-- true where the new thing is a set
abbrev pub created : List ℕ → Option Bool
created w = if bytes_eq w (codes "ArrayList") then Some false else (if bytes_eq w (codes "LinkedHashSet") then Some true else None)

-- the type of the elements may be left out, and isn't kept
abbrev pub Elements : Rule (Unit {0})
Elements = Or (Empty tt) (Made (λ x. tt) (One (by_word element_type)))

-- new LinkedHashSet < > (
abbrev pub Creation : ℕ → Rule Bool
Creation room = Made (λ x. x.1.0) (Seq (Word (codes "new")) (Seq (One (by_word created)) (Seq (Sign (codes "<")) (Seq Elements (Seq (Sign (codes ">")) (Opening room (codes "(")))))))

abbrev pub created_as : Bool → Span → Option Expression → Expression
created_as false at query = NewList at
created_as true at None = NewSet at
created_as true at (Some query) = NewSetOf at query

-- ---- calls

-- what is called behind a dot
pub data Call : Type 0 where
  EqualTo : Call
  SizeOf : Call
  GetFrom : Call
  ContainedIn : Call
  FetchFrom : Call
  QueryOf : Call
  QueryOfLong : Call
  QueryOfBoolean : Call

abbrev pub query_of : List ℕ → Option Call
query_of m =
    if bytes_eq m (codes "query") then Some QueryOf
    else (if bytes_eq m (codes "queryLong") then Some QueryOfLong
    else (if bytes_eq m (codes "queryBoolean") then Some QueryOfBoolean
    else None))

abbrev pub call_of_database : List ℕ → Option Call
call_of_database m = if bytes_eq m (codes "fetch") then Some FetchFrom else query_of m

-- the calls of a name that stands alone
abbrev pub call_of_name : List ℕ → List ℕ → Option Call
call_of_name w m =
    if bytes_eq m (codes "size") then Some SizeOf
    else (if bytes_eq m (codes "get") then Some GetFrom
    else (if bytes_eq m (codes "contains") then Some ContainedIn
    else (if bytes_eq w (codes "db") then call_of_database m
    else None)))

abbrev pub call_on : Option (List ℕ) → List ℕ → Option Call
call_on None m = None
call_on (Some w) m = call_of_name w m

-- the call of this member, behind a name alone or behind anything else
abbrev pub call_of : Option (List ℕ) → List ℕ → Option Call
call_of bare m = if bytes_eq m (codes "equals") then Some EqualTo else call_on bare m

-- how many more parts a chain may have behind the call; a query is no part of a chain
abbrev pub left_behind : Call → ℕ → ℕ
left_behind FetchFrom left = left
left_behind QueryOf left = left
left_behind QueryOfLong left = left
left_behind QueryOfBoolean left = left
left_behind c left = pred left

-- T . class
abbrev pub TableClass : Rule (List ℕ)
TableClass = Made (λ x. x.0) (Seq (One table_in) (Seq (Sign (codes ".")) (Word (codes "class"))))

-- elem . class , text
abbrev pub ElementQuery : Rule (Spelled × List ℕ)
ElementQuery = Made (λ x. (x.0, x.1.1.1.1)) (Seq (One (by_word element_type)) (Seq (Sign (codes ".")) (Seq (Word (codes "class")) (Seq (Sign (codes ",")) (One text_in)))))

-- db . query (
abbrev pub QueryStart : ℕ → Rule Call
QueryStart room = Made (λ x. x.1.1.0) (Seq (Word (codes "db")) (Seq (Sign (codes ".")) (Seq (One (by_word query_of)) (Opening room (codes "(")))))

-- ---- operators

abbrev pub of_rank : ℕ → Option (Op × ℕ) → Option Op
of_rank rank None = None
of_rank rank (Some o) = if nat_eq o.1 rank then Some o.0 else None

abbrev pub operator_in : ℕ → TokenNode → Option Op
operator_in rank (tokens.Sign s) = of_rank rank (operator_of s)
operator_in rank _ = None

-- one token, where a chain may go on with so many more
abbrev pub Operator : ℕ → ℕ → Rule Op
Operator left rank ts o = (t : Tok) × (ts ≡ t ∷ []) × (operator_in rank t.token.node ≡ Some o) × Allows left t

-- the operators of all ranks are below this one
abbrev pub ranks : ℕ
ranks = 6

abbrev pub name_or_none : Option (List ℕ) → List ℕ
name_or_none None = []
name_or_none (Some w) = w

-- ---- expressions

mutual
  -- what stands alone
  pub data HasAtom : ℕ → List Tok → Expression → Type 0 where
    literal : {room : ℕ} {us : List Tok} {x : Expression} → Literal us x → HasAtom room us x
    -- ( expr )
    grouped : {room : ℕ} {us vs ws : List Tok} {x : Expression} → Opening room (codes "(") us tt → HasRank (pred room) ranks vs x → Sign (codes ")") ws tt → HasAtom room (us ++ (vs ++ ws)) x
    -- new ArrayList < > ( ), new LinkedHashSet < > ( query )
    creation : {room : ℕ} {set : Bool} {us vs ws : List Tok} {query : Option Expression} → Creation room us set → HasSource (pred room) set vs query → Sign (codes ")") ws tt
        → HasAtom room (us ++ (vs ++ ws)) (created_as set (extent (us ++ (vs ++ ws))) query)

  -- what a new set is made of: nothing, or db . query ( .. )
  pub data HasSource : ℕ → Bool → List Tok → Option Expression → Type 0 where
    no_source : {room : ℕ} {set : Bool} → HasSource room set [] None
    source : {room : ℕ} {us vs ws : List Tok} {c : Call} {node : Span → Expression} → QueryStart room us c → HasCall (pred room) [] (Var nowhere []) c vs node → Sign (codes ")") ws tt
        → HasSource room true (us ++ (vs ++ ws)) (Some (node (extent (us ++ (vs ++ ws)))))

  -- what stands in the parentheses of a call on the expression x; w is the name where x is a name alone
  pub data HasCall : ℕ → List ℕ → Expression → Call → List Tok → (Span → Expression) → Type 0 where
    equal_to : {room : ℕ} {w : List ℕ} {x y : Expression} {us : List Tok} → HasRank room ranks us y → HasCall room w x EqualTo us (λ at. Equals at x y)
    size_of : {room : ℕ} {w : List ℕ} {x : Expression} → HasCall room w x SizeOf [] (λ at. Size at w)
    get_from : {room : ℕ} {w : List ℕ} {x y : Expression} {us : List Tok} → HasRank room ranks us y → HasCall room w x GetFrom us (λ at. Get at w y)
    contained_in : {room : ℕ} {w : List ℕ} {x y : Expression} {us : List Tok} → HasRank room ranks us y → HasCall room w x ContainedIn us (λ at. Contains at w y)
    fetch_from : {room : ℕ} {w table : List ℕ} {x : Expression} {us : List Tok} → TableClass us table → HasCall room w x FetchFrom us (λ at. Fetch at table)
    query_of_element : {room : ℕ} {w : List ℕ} {x : Expression} {q : Spelled × List ℕ} {us vs : List Tok} {es : Expressions} → ElementQuery us q → HasArguments room vs es
        → HasCall room w x QueryOf (us ++ vs) (λ at. Query at q.0 q.1 es)
    query_of_long : {room : ℕ} {w text : List ℕ} {x : Expression} {us vs : List Tok} {es : Expressions} → One text_in us text → HasArguments room vs es → HasCall room w x QueryOfLong (us ++ vs) (λ at. QueryLong at text es)
    query_of_truth : {room : ℕ} {w text : List ℕ} {x : Expression} {us vs : List Tok} {es : Expressions} → One text_in us text → HasArguments room vs es → HasCall room w x QueryOfBoolean (us ++ vs) (λ at. QueryBoolean at text es)

  -- each with a comma before it
  pub data HasArguments : ℕ → List Tok → Expressions → Type 0 where
    no_more : {room : ℕ} → HasArguments room [] NoMore
    one_more : {room : ℕ} {us vs ws : List Tok} {x : Expression} {xs : Expressions} → Sign (codes ",") us tt → HasRank room ranks vs x → HasArguments room ws xs → HasArguments room (us ++ (vs ++ ws)) (And x xs)

  -- What follows a dot and the member m behind x, where a chain may have `left` parts more, this one among them: nothing,
  -- or the parentheses of a call. The last index is how many may follow.
  pub data HasSuffix : ℕ → Option (List ℕ) → Expression → List ℕ → ℕ → List Tok → (Span → Expression) → ℕ → Type 0 where
    field : {room left : ℕ} {bare : Option (List ℕ)} {x : Expression} {m : List ℕ} → HasSuffix room bare x m left [] (λ at. Field at x m) (pred left)
    called : {room left : ℕ} {bare : Option (List ℕ)} {x : Expression} {m : List ℕ} {c : Call} {us vs ws : List Tok} {node : Span → Expression}
        → call_of bare m ≡ Some c → Opening room (codes "(") us tt → HasCall (pred room) (name_or_none bare) x c vs node → Sign (codes ")") ws tt
        → HasSuffix room bare x m left (us ++ (vs ++ ws)) node (left_behind c left)

  -- anything but a name alone, with its parts behind dots, where so many more may follow
  pub data HasParts : ℕ → ℕ → List Tok → Expression → Type 0 where
    atom : {room : ℕ} {us : List Tok} {x : Expression} → HasAtom room us x → HasParts room (longest room) us x
    dotted : {room left : ℕ} {w m : List ℕ} {us vs ws zs : List Tok} {node : Span → Expression}
        → One variable_in us w → Sign (codes ".") vs tt → One name_in ws m → HasSuffix room (Some w) (Var (extent us) w) m (longest room) zs node left
        → HasParts room left (us ++ (vs ++ (ws ++ zs))) (node (extent (us ++ (vs ++ (ws ++ zs)))))
    further : {room left after : ℕ} {m : List ℕ} {us vs ws zs : List Tok} {x : Expression} {node : Span → Expression}
        → HasParts room left us x → Opening left (codes ".") vs tt → One name_in ws m → HasSuffix room None x m left zs node after
        → HasParts room after (us ++ (vs ++ (ws ++ zs))) (node (extent (us ++ (vs ++ (ws ++ zs)))))

  pub data HasUnary : ℕ → List Tok → Expression → Type 0 where
    variable : {room : ℕ} {us : List Tok} {x : Expression} → Variable us x → HasUnary room us x
    parts : {room left : ℕ} {us : List Tok} {x : Expression} → HasParts room left us x → HasUnary room us x
    -- ! x
    negation : {room : ℕ} {us vs : List Tok} {x : Expression} → Opening room (codes "!") us tt → HasUnary (pred room) vs x → HasUnary room (us ++ vs) (Not (extent (us ++ vs)) x)

  -- operands of ranks below this one, joined by operators of this rank, where so many more may follow
  pub data HasChain : ℕ → ℕ → ℕ → List Tok → Expression → Type 0 where
    operand : {room rank : ℕ} {us : List Tok} {x : Expression} → HasRank room rank us x → HasChain room rank (longest room) us x
    joined : {room rank left : ℕ} {us vs ws : List Tok} {x y : Expression} {o : Op} → HasChain room rank left us x → Operator left rank vs o → HasRank room rank ws y
        → HasChain room rank (pred left) (us ++ (vs ++ ws)) (Binary (extent (us ++ (vs ++ ws))) o x y)

  -- an expression with no operators of this rank or a looser one outside of parentheses
  pub data HasRank : ℕ → ℕ → List Tok → Expression → Type 0 where
    unary : {room : ℕ} {us : List Tok} {x : Expression} → HasUnary room us x → HasRank room zero us x
    chain : {room rank left : ℕ} {us : List Tok} {x : Expression} → HasChain room rank left us x → HasRank room (suc rank) us x

abbrev pub HasExpression : ℕ → Rule Expression
HasExpression room = HasRank room ranks
