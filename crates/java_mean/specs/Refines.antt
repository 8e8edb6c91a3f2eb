-- What it is for one run to do at least what another does, as far as the visible variables go.
use Rattle.std.specs.Prelude.{◌≡◌, ℕ, zero, suc, ◌≤◌, List, [], ◌∷◌, ◌++◌, Result, Ok, Err}
use Rattle.std.specs.declared.option.Option.{Option}
use Rattle.std.specs.declared.option.Option.TheVariants.{Some, None}
use Rattle.qbs_base.specs.declared.span.Span.{Span}
use Rattle.qbs_base.specs.declared.scalar.Value.{Value}
use Rattle.qbs_base.specs.Named.{at_name}
use Rattle.qbs_base.specs.Values.{Schema}
use Rattle.java_ast.specs.Tree.{Spelled, Expression, Statement, If, IfElse, ForEach, While, Statements, Nothing, Then, PlainMethod, PlainProgram}
use Rattle.java_ast.specs.Path.{with_body, with_methods}
use Rattle.java_mean.specs.declared.ending.Ending.{Ending}
use Rattle.java_mean.specs.declared.ending.Ending.TheVariants as endings
use Rattle.java_mean.specs.Mentions.{EachMentioned}
use Rattle.java_mean.specs.Statement.{State, Passed, GoesOn, Leaves, Returns, Does, meanings}
use Rattle.java_mean.specs.Store.{Variable}
use Rattle.java_mean.specs.Types.{Single, Of, JavaType, Types, with_type, type_spelled, types_after, types_past, IsOf, IsVariableOf, IsTyped, types_of_params}
use Rattle.java_mean.specs.Typing.{Frame, IsWorld, HasType, Has, IsNew, Extends, bool, TypedStatement, TypedStatements}
use Rattle.java_mean.specs.World.{World}

abbrev pub Related : Type 1
Related = State → State → Type 0

-- what is owed where the first run leaves its loop, returns a value, and is stuck
pub record Exits : Type 1 where
  pub leaves : Related
  pub returns : Option Value → Type 0
  pub stuck : Type 0

-- the second run passes as the first does, to a related state
pub record Passes (r : Related) (way : State → Passed) (s : State) (q : Result Passed Ending) : Type 0 where
  pub state : State
  pub is : q ≡ Ok (way state)
  pub holds : r s state

pub record PassesBack (s : State) (v : Option Value) (q : Result Passed Ending) : Type 0 where
  pub state : State
  pub is : q ≡ Ok (Returns state v)
  pub lines : s.lines ≡ state.lines

-- where the first run passes, the second passes in the same way; nothing is owed where the first
-- faults or has too few turns
abbrev pub Follows : Related → Exits → Result Passed Ending → Result Passed Ending → Type 0
Follows r k (Ok (GoesOn s)) q = Passes r GoesOn s q
Follows r k (Ok (Leaves s)) q = Passes k.leaves Leaves s q
Follows r k (Ok (Returns s v)) q = PassesBack s v q × k.returns v
Follows r k (Err (endings.Faulted fault at)) q = Unit {0}
Follows r k (Err endings.OutOfTurns) q = Unit {0}
Follows r k (Err endings.Stuck) q = k.stuck

-- from related states, where the first passes the second passes too, to related states
pub record Simulates (r r' : Related) (k : Exits) (f g : Does) : Type 0 where
  pub by : (s t : State) → r s t → Follows r' k (f s) (g t)

-- ---- States that agree

-- both are one variable of the type
pub record Common (schema : Schema) (k : JavaType) (o p : Option Variable) : Type 0 where
  pub held : Variable
  pub typed : IsVariableOf schema k held
  pub left : o ≡ Some held
  pub right : p ≡ Some held

-- the second state has each of these variables with the first's value, the same lines, and no fewer turns
pub record Alike (schema : Schema) (g : Types) (s t : State) : Type 0 where
  pub store : (x : List ℕ) (k : JavaType) → g x ≡ Some k → Common schema k (at_name s.store x) (at_name t.store x)
  pub lines : s.lines ≡ t.lines
  pub turns : s.turns ≤ t.turns

-- in no loop nothing leaves
abbrev pub leaving : Schema → Option Types → Related
leaving schema None = λ s t. ⊥
leaving schema (Some b) = Alike schema b

abbrev pub IsResult : Schema → Option JavaType → Option Value → Type 0
IsResult schema None None = Unit {0}
IsResult schema (Some k) (Some v) = IsOf schema k v
IsResult schema _ _ = ⊥

abbrev pub exits : Frame → Option Types → Type 0 → Exits
exits c l stuck = record { leaves = leaving c.schema l; returns = IsResult c.schema c.result; stuck = stuck }

-- ---- Statements that stand for others

-- the second state has the same at each of these variables, the same lines, and no fewer turns
pub record Agree (g : Types) (s t : State) : Type 0 where
  pub store : (x : List ℕ) (k : JavaType) → g x ≡ Some k → at_name s.store x ≡ at_name t.store x
  pub lines : s.lines ≡ t.lines
  pub turns : s.turns ≤ t.turns

abbrev pub agreeing : Option Types → Related
agreeing None = λ s t. Unit {0}
agreeing (Some b) = Agree b

abbrev pub same_exits : Option Types → Exits
same_exits l = record { leaves = agreeing l; returns = λ v. Unit {0}; stuck = Unit {0} }

-- Wherever p passes from a state that is typed, on a database of the schema, q passes from that state
-- in the same way, with the same lines, the same of the variables m, or where it leaves the loop of
-- the variables there, the same returned value, and no fewer turns left.
pub record Replaces (c : Frame) (l : Option Types) (k m : Types) (p q : Statements) : Type 0 where
  pub by : (w : World) → IsWorld c w → (s : State) → IsTyped c.schema k s.store → Follows (Agree m) (same_exits l) (meanings p w s) (meanings q w s)

-- ---- A place in a method

-- a list of statements with a place in it, at which the rest of the block is given
pub data Hole : Type 0 where
  Here : Statements → Hole
  Past : Statement → Hole → Hole
  InIf : Span → Expression → Hole → Statements → Hole
  InThen : Span → Expression → Hole → Statements → Statements → Hole
  InElse : Span → Expression → Statements → Hole → Statements → Hole
  InEach : Span → Spelled → List ℕ → Expression → Hole → Statements → Hole
  InWhile : Span → Expression → Hole → Statements → Hole

-- the first statements, and then the second
abbrev pub followed_by : Statements → Statements → Statements
followed_by Nothing q = q
followed_by (Then a p) q = Then a (followed_by p q)

-- the statements with these at the place
abbrev pub fill : Hole → Statements → Statements
fill (Here q) p = followed_by p q
fill (Past a h) p = Then a (fill h p)
fill (InIf at e h q) p = Then (If at e (fill h p)) q
fill (InThen at e h b q) p = Then (IfElse at e (fill h p) b) q
fill (InElse at e a h q) p = Then (IfElse at e a (fill h p)) q
fill (InEach at ty x e h q) p = Then (ForEach at ty x e (fill h p)) q
fill (InWhile at e h q) p = Then (While at e (fill h p)) q

-- Where a place is: the number of the statement that it stands before or in, and from there on down, 0 for a
-- body or first branch and 1 for the other branch, each with the number of a statement in it.
abbrev pub first_of : Hole → ℕ
first_of (Here q) = zero
first_of (Past a h) = suc (first_of h)
first_of (InIf at e h q) = zero
first_of (InThen at e h b q) = zero
first_of (InElse at e a h q) = zero
first_of (InEach at ty x e h q) = zero
first_of (InWhile at e h q) = zero

abbrev pub path_of : Hole → List ℕ
path_of (Here q) = []
path_of (Past a h) = path_of h
path_of (InIf at e h q) = zero ∷ first_of h ∷ path_of h
path_of (InThen at e h b q) = zero ∷ first_of h ∷ path_of h
path_of (InElse at e a h q) = suc zero ∷ first_of h ∷ path_of h
path_of (InEach at ty x e h q) = zero ∷ first_of h ∷ path_of h
path_of (InWhile at e h q) = zero ∷ first_of h ∷ path_of h

-- the types of the variables that are visible at a place, where those of the first are before all
abbrev pub types_at : Schema → Types → Hole → Types
types_at schema g (Here q) = g
types_at schema g (Past a h) = types_at schema (types_after schema g a) h
types_at schema g (InIf at e h q) = types_at schema g h
types_at schema g (InThen at e h b q) = types_at schema g h
types_at schema g (InElse at e a h q) = types_at schema g h
types_at schema g (InEach at ty x e h q) = types_at schema (with_type x (type_spelled schema ty) g) h
types_at schema g (InWhile at e h q) = types_at schema g h

-- and those that are at the start of the innermost loop's body round the place
abbrev pub loop_at : Schema → Option Types → Types → Hole → Option Types
loop_at schema l g (Here q) = l
loop_at schema l g (Past a h) = loop_at schema l (types_after schema g a) h
loop_at schema l g (InIf at e h q) = loop_at schema l g h
loop_at schema l g (InThen at e h b q) = loop_at schema l g h
loop_at schema l g (InElse at e a h q) = loop_at schema l g h
loop_at schema l g (InEach at ty x e h q) = loop_at schema (Some (with_type x (type_spelled schema ty) g)) (with_type x (type_spelled schema ty) g) h
loop_at schema l g (InWhile at e h q) = loop_at schema (Some g) g h

-- What stands round a place is well typed: in a loop or none with the first types visible, and at
-- the place in a loop or none with the types k visible before it, m after it, and z at the end.
pub data Around (c : Frame) : Option Types → Types → Hole → Option Types → Types → Types → Types → Type 0 where
  at_here : (l : Option Types) (k m z : Types) (q : Statements) → Extends m k → TypedStatements c l m q z → Around c l k (Here q) l k m z
  at_past : (l i : Option Types) (g h k m z : Types) (a : Statement) (p : Hole) → TypedStatement c l g a h → Around c l h p i k m z → Around c l g (Past a p) i k m z
  at_if : (l i : Option Types) (g k m y z : Types) (at : Span) (e : Expression) (p : Hole) (q : Statements) → HasType c g e bool → Around c l g p i k m y → TypedStatements c l g q z → Around c l g (InIf at e p q) i k m z
  at_then : (l i : Option Types) (g k m y y' z : Types) (at : Span) (e : Expression) (p : Hole) (b q : Statements) → HasType c g e bool → Around c l g p i k m y → TypedStatements c l g b y' → TypedStatements c l g q z → Around c l g (InThen at e p b q) i k m z
  at_else : (l i : Option Types) (g k m y y' z : Types) (at : Span) (e : Expression) (a : Statements) (p : Hole) (q : Statements) → HasType c g e bool → TypedStatements c l g a y' → Around c l g p i k m y → TypedStatements c l g q z → Around c l g (InElse at e a p q) i k m z
  at_each : (l i : Option Types) (g k m y z : Types) (at : Span) (ty : Spelled) (x : List ℕ) (e : Expression) (p : Hole) (q : Statements) (t : JavaType) (a : Single) → g x ≡ None → HasType c g e t → Has t a → Around c (Some (with_type x (Some (Of a)) g)) (with_type x (Some (Of a)) g) p i k m y → TypedStatements c l g q z → Around c l g (InEach at ty x e p q) i k m z
  at_each_new : (l i : Option Types) (g k m y z : Types) (at : Span) (ty : Spelled) (x : List ℕ) (e : Expression) (p : Hole) (q : Statements) (t : JavaType) → g x ≡ None → type_spelled c.schema ty ≡ Some t → IsNew e → Around c (Some (with_type x (Some t) g)) (with_type x (Some t) g) p i k m y → TypedStatements c l g q z → Around c l g (InEach at ty x e p q) i k m z
  at_while : (l i : Option Types) (g k m y z : Types) (at : Span) (e : Expression) (p : Hole) (q : Statements) → HasType c g e bool → Around c (Some g) g p i k m y → TypedStatements c l g q z → Around c l g (InWhile at e p q) i k m z

-- A place in statements is well typed, with these statements there: these and what stands round them are
-- typed under the declared types of the variables that are visible there.
pub record IsTypedPlace (c : Frame) (l : Option Types) (g : Types) (hole : Hole) (part : Statements) : Type 0 where
  pub end : Types
  pub around : Around c l g hole (loop_at c.schema l g hole) (types_at c.schema g hole) (types_past c.schema (types_at c.schema g hole) part) end
  pub typed : TypedStatements c (loop_at c.schema l g hole) (types_at c.schema g hole) part (types_past c.schema (types_at c.schema g hole) part)

-- In this method, well typed round the place, well-typed statements stand for well-typed ones: what is
-- visible after the place is what both leave.
pub record MayReplace (c : Frame) (m : PlainMethod) (hole : Hole) (old new : Statements) : Type 0 where
  pub loop : Option Types
  pub before : Types
  pub after_old : Types
  pub after_new : Types
  pub after : Types
  pub end : Types
  pub around : Around c None (types_of_params c.schema m.params) hole loop before after end
  pub old_typed : TypedStatements c loop before old after_old
  pub new_typed : TypedStatements c loop before new after_new
  pub old_leaves : Extends after_old after
  pub new_leaves : Extends after_new after
  pub replaces : Replaces c loop before after old new

-- the statements behind a place in its own block: outside of that, what the place declares isn't visible
abbrev pub behind : Hole → Statements
behind (Here q) = q
behind (Past a h) = behind h
behind (InIf at e h q) = behind h
behind (InThen at e h b q) = behind h
behind (InElse at e a h q) = behind h
behind (InEach at ty x e h q) = behind h
behind (InWhile at e h q) = behind h

-- the program with these statements at a place of one of its methods
abbrev pub with_part : PlainProgram → List PlainMethod → List PlainMethod → PlainMethod → Hole → Statements → PlainProgram
with_part p before after m hole part = with_methods p (before ++ with_body m (fill hole part) ∷ after)

-- Statements give way to others that leave some variables alike, and others not: those that are alike are
-- among what both leave, and are all that is visible before the place or mentioned behind it.
pub record GivesWay (c : Frame) (l : Option Types) (g : Types) (hole : Hole) (old new : Statements) (alike : Types) : Type 0 where
  pub old_leaves : Extends (types_past c.schema (types_at c.schema g hole) old) alike
  pub new_leaves : Extends (types_past c.schema (types_at c.schema g hole) new) alike
  pub seen_before : Extends alike (types_at c.schema g hole)
  pub mentioned_behind : EachMentioned (λ x. alike x ≡ types_past c.schema (types_at c.schema g hole) new x) (behind hole)
  pub replaces : Replaces c (loop_at c.schema l g hole) (types_at c.schema g hole) alike old new
