-- Which tokens have a statement. `room` is how many more things may be open at strict tokens.
use Rattle.std.specs.Prelude.{◌≡◌, ℕ, pos, pred, List, [], ◌∷◌, ◌++◌, Bool, true, false, not, Option, Some, None, codes}
use Rattle.std.specs.Str.{bytes_eq}
use Rattle.qbs_base.specs.declared.span.Span.{Span}
use Rattle.qbs_base.specs.declared.scalar.Scalar.TheVariants as scalars
use Rattle.java_ast.specs.declared.tree.Op.TheVariants as ops
use Rattle.java_ast.specs.Tree.{Spelled, Expression, Lit, Var, Binary, Statement, Statements, Declare, Assign, Add, Sort, If, IfElse, ForEach, While, Print, Return, Break, Nothing, Then as Followed}
use Rattle.java_grammar.specs.Marks.{Tok, Allows, extent}
use Rattle.java_grammar.specs.Rules.{Rule, One, Word, Sign, Opening, Seq, Then, Or, Made, Placed, Many}
use Rattle.java_grammar.specs.Words.{name_in, is_number_type}
use Rattle.java_grammar.specs.Types.{Spelling, Key}
use Rattle.java_grammar.specs.Expressions.{HasExpression}

-- ( .. )
abbrev pub Parenthesised : {A : Type 0} → ℕ → Rule A → Rule A
Parenthesised room P = Made (λ x. x.1.0) (Seq (Opening room (codes "(")) (Seq P (Sign (codes ")"))))

-- ( expr )
abbrev pub Condition : ℕ → Rule Expression
Condition room = Parenthesised room (HasExpression (pred room))

-- expr ;
abbrev pub Value : ℕ → Rule Expression
Value room = Made (λ x. x.0) (Seq (HasExpression room) (Sign (codes ";")))

-- one of those that only some have
abbrev pub Where : {A : Type 0} → Bool → Rule A → Rule A
Where b P ts x = (b ≡ true) × P ts x

-- ---- statements that begin with a name, by what stands behind it

-- = expr ;
abbrev pub Assignment : ℕ → List ℕ → Rule (Span → Statement)
Assignment room w = Made (λ x at. Assign at w x.1) (Seq (Sign (codes "=")) (Value room))

-- += expr ;   is read as w = w + expr
abbrev pub Increase : ℕ → List ℕ → Rule (Span → Statement)
Increase room w = Made (λ x at. Assign at w (Binary at ops.Add (Var at w) x.1)) (Seq (Sign (codes "+=")) (Value room))

-- ++ ;   is read as w = w + 1
abbrev pub Increment : List ℕ → Rule (Span → Statement)
Increment w = Made (λ x at. Assign at w (Binary at ops.Add (Var at w) (Lit at (scalars.Long (pos 1))))) (Seq (Sign (codes "++")) (Sign (codes ";")))

-- add ( expr ) ;
abbrev pub Addition : ℕ → List ℕ → Rule (Span → Statement)
Addition room w = Made (λ x at. Add at w x.1.0) (Seq (Word (codes "add")) (Seq (Condition room) (Sign (codes ";"))))

-- out . println ( expr ) ;
abbrev pub Printing : ℕ → Rule (Span → Statement)
Printing room = Made (λ x at. Print at x.1.1.1.0) (Seq (Word (codes "out")) (Seq (Sign (codes ".")) (Seq (Word (codes "println")) (Seq (Condition room) (Sign (codes ";"))))))

-- . thenComparing ( key ), which is that key, or . reversed ( ), which is none
abbrev pub Further : ℕ → Rule (Option (List ℕ))
Further room =
    Made (λ x. x.1) (Seq (Sign (codes "."))
    (Or (Made (λ x. Some x.1) (Seq (Word (codes "thenComparing")) (Parenthesised room (Key (pred room)))))
    (Made (λ x. None) (Seq (Word (codes "reversed")) (Seq (Opening room (codes "(")) (Sign (codes ")")))))))

-- whether the key before these is down: each `.reversed()` turns round all keys before it
abbrev pub is_turned : List (Option (List ℕ)) → Bool
is_turned [] = false
is_turned (None ∷ fs) = not (is_turned fs)
is_turned (Some key ∷ fs) = is_turned fs

abbrev pub keys_in : List (Option (List ℕ)) → List (List ℕ)
keys_in [] = []
keys_in (None ∷ fs) = keys_in fs
keys_in (Some key ∷ fs) = key ∷ keys_in fs

abbrev pub downs_in : List (Option (List ℕ)) → List Bool
downs_in [] = []
downs_in (None ∷ fs) = downs_in fs
downs_in (Some key ∷ fs) = is_turned fs ∷ downs_in fs

-- Comparator . comparing ( key ) ..
abbrev pub Keys : ℕ → Rule (List (Option (List ℕ)))
Keys room = Made (λ x. Some x.1.1.1.0 ∷ x.1.1.1.1) (Seq (Word (codes "Comparator")) (Seq (Sign (codes ".")) (Seq (Word (codes "comparing")) (Seq (Parenthesised room (Key (pred room))) (Many (Further room))))))

-- sort ( Comparator .. ) ;
abbrev pub Sorting : ℕ → List ℕ → Rule (Span → Statement)
Sorting room w = Made (λ x at. Sort at w (keys_in x.1.0) (downs_in x.1.0)) (Seq (Word (codes "sort")) (Seq (Parenthesised room (Keys (pred room))) (Sign (codes ";"))))

-- behind the name and a dot
abbrev pub MemberCall : ℕ → List ℕ → Rule (Span → Statement)
MemberCall room w = Or (Addition room w) (Or (Sorting room w) (Where (bytes_eq w (codes "System")) (Printing room)))

-- Behind the name. The names of numbers are no variables that could be added to.
abbrev pub NamedRest : ℕ → List ℕ → Rule (Span → Statement)
NamedRest room w = Or (Assignment room w) (Or (Made (λ x. x.1) (Seq (Sign (codes ".")) (MemberCall room w))) (Where (not (is_number_type w)) (Or (Increase room w) (Increment w))))

abbrev pub Named : ℕ → Rule Statement
Named room = Placed (λ at x. x.1 at) (Then (One name_in) (NamedRest room))

-- ---- other statements without bodies

-- return expr ;
abbrev pub Returning : ℕ → Rule Statement
Returning room = Placed (λ at x. Return at x.1) (Seq (Word (codes "return")) (Or (Made (λ x. None) (Sign (codes ";"))) (Made (λ x. Some x) (Value room))))

abbrev pub Breaking : Rule Statement
Breaking = Placed (λ at x. Break at) (Seq (Word (codes "break")) (Sign (codes ";")))

abbrev pub Plain : ℕ → Rule Statement
Plain room = Or (Returning room) (Or Breaking (Named room))

-- type name = expr ;
abbrev pub Declaration : ℕ → Rule Statement
Declaration room = Placed (λ at x. Declare at x.0 x.1.0 x.1.1.1) (Seq Spelling (Seq (One name_in) (Seq (Sign (codes "=")) (Value room))))

-- ---- statements with bodies

abbrev pub IfHead : ℕ → Rule Expression
IfHead room = Made (λ x. x.1) (Seq (Word (codes "if")) (Condition room))

abbrev pub WhileHead : ℕ → Rule Expression
WhileHead room = Made (λ x. x.1) (Seq (Word (codes "while")) (Condition room))

-- type name : expr
abbrev pub Walk : ℕ → Rule (Spelled × (List ℕ × Expression))
Walk room = Made (λ x. (x.0, (x.1.0, x.1.1.1))) (Seq Spelling (Seq (One name_in) (Seq (Sign (codes ":")) (HasExpression room))))

abbrev pub ForHead : ℕ → Rule (Spelled × (List ℕ × Expression))
ForHead room = Made (λ x. x.1) (Seq (Word (codes "for")) (Parenthesised room (Walk (pred room))))

-- a single statement as a body opens at its first token
abbrev pub Opens : ℕ → List Tok → Type 0
Opens room us = (t : Tok) × (ts : List Tok) × (us ≡ t ∷ ts) × Allows room t

-- The truth value says whether the tokens end in an `if` without an `else`, so that an `else` behind them would be its own.
mutual
  pub data HasStatement : ℕ → Bool → List Tok → Statement → Type 0 where
    plain : {room : ℕ} {us : List Tok} {x : Statement} → Plain room us x → HasStatement room false us x
    if_alone : {room : ℕ} {open_if : Bool} {us vs : List Tok} {cond : Expression} {yes : Statements} → IfHead room us cond → HasBody room open_if vs yes
        → HasStatement room true (us ++ vs) (If (extent (us ++ vs)) cond yes)
    if_else : {room : ℕ} {open_if : Bool} {us vs ws zs : List Tok} {cond : Expression} {yes other : Statements} → IfHead room us cond → HasBody room false vs yes → Word (codes "else") ws tt → HasBody room open_if zs other
        → HasStatement room open_if (us ++ (vs ++ (ws ++ zs))) (IfElse (extent (us ++ (vs ++ (ws ++ zs)))) cond yes other)
    for_each : {room : ℕ} {open_if : Bool} {us vs : List Tok} {walk : Spelled × (List ℕ × Expression)} {body : Statements} → ForHead room us walk → HasBody room open_if vs body
        → HasStatement room open_if (us ++ vs) (ForEach (extent (us ++ vs)) walk.0 walk.1.0 walk.1.1 body)
    while : {room : ℕ} {open_if : Bool} {us vs : List Tok} {cond : Expression} {body : Statements} → WhileHead room us cond → HasBody room open_if vs body
        → HasStatement room open_if (us ++ vs) (While (extent (us ++ vs)) cond body)

  -- a block, or a statement that is no declaration
  pub data HasBody : ℕ → Bool → List Tok → Statements → Type 0 where
    block : {room : ℕ} {us : List Tok} {xs : Statements} → HasBlock room us xs → HasBody room false us xs
    single : {room : ℕ} {open_if : Bool} {us : List Tok} {x : Statement} → Opens room us → HasStatement (pred room) open_if us x → HasBody room open_if us (Followed x Nothing)

  -- { statements }
  pub data HasBlock : ℕ → List Tok → Statements → Type 0 where
    braces : {room : ℕ} {us vs ws : List Tok} {xs : Statements} → Opening room (codes "{") us tt → HasStatements (pred room) vs xs → Sign (codes "}") ws tt → HasBlock room (us ++ (vs ++ ws)) xs

  pub data HasStatements : ℕ → List Tok → Statements → Type 0 where
    none : {room : ℕ} → HasStatements room [] Nothing
    declared : {room : ℕ} {us vs : List Tok} {x : Statement} {xs : Statements} → Declaration room us x → HasStatements room vs xs → HasStatements room (us ++ vs) (Followed x xs)
    stated : {room : ℕ} {open_if : Bool} {us vs : List Tok} {x : Statement} {xs : Statements} → HasStatement room open_if us x → HasStatements room vs xs → HasStatements room (us ++ vs) (Followed x xs)
