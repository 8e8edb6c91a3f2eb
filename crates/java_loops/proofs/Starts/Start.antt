-- What accumulators and flags start with: exactly one statement of the run mentions an accumulator and gives it a
-- constant, which it has at the loop; and a flag is declared by the opposite of what its update sets.
use Rattle.std.proofs.Common.{◌≡◌, ℕ, ℤ, pos, Bool, true, false, not, ◌&&◌, ◌||◌, List, [], ◌∷◌, Option, Some, None, Ok, refl, sym, ap, ◌∙◌, subst, cond}
use Rattle.std.specs.Prelude.{bytes_eq, slice_get}
use Rattle.std.specs.List.{list_any, filter}
use Rattle.std.proofs.lemmas.Bool.{and_parts, or_parts}
use Rattle.std.proofs.lemmas.Map.Views.{any-filter_same}
use Rattle.qbs_base.specs.declared.scalar.Scalar.{Scalar}
use Rattle.qbs_base.specs.declared.scalar.Scalar.TheVariants as scalars
use Rattle.qbs_base.specs.declared.scalar.Value.{Value}
use Rattle.qbs_base.specs.declared.scalar.Value.TheVariants.{One, Many}
use Rattle.qbs_base.specs.declared.span.Span.{Span}
use Rattle.qbs_base.specs.Named.{at_name}
use Rattle.qbs_base.specs.Scalar.{scalar_same}
use Rattle.qbs_base.specs.Values.{Schema}
use Rattle.tor_terms.proofs.Scalars.{scalar_same-true}
use Rattle.java_ast.specs.Tree as tree
use Rattle.java_ast.specs.Tree.{Spelled, Expression, Statement, Statements, Nothing, Then}
use Rattle.java_mean.specs.declared.types.JavaType.{JavaType}
use Rattle.java_mean.specs.Refines.{followed_by}
use Rattle.java_mean.specs.Statement.{State, GoesOn, meanings}
use Rattle.java_mean.specs.Store.{Variable}
use Rattle.java_mean.specs.Types.{Types, is_distinct, IsVariableOf, IsTyped}
use Rattle.java_mean.specs.World.{World}
use Rattle.java_mean.proofs.Puts.{names_equal}
use Rattle.java_loops.specs.Walks.Runs as runs
use Rattle.java_loops.specs.Walks.Runs.{Gives, declares, assigns, constant}
use Rattle.java_loops.proofs.Walks.Given.{declared_constant, assigned_constant}
use Rattle.loop_text.specs.Statements.Fragment.{are_simple, accumulators}
use Rattle.loop_text.specs.Kernel.KernelForms.{Form, adds, counts, sums, takes, marks, other}
use Rattle.loop_text.specs.Kernel.KernelStarts.{update_of, update_of_flag, form_found, is_empty_collection, is_long, is_integer, is_truth_of, may_start, may_start_so, starts, broken_starts_of, starts_flag, broken_flag_start}
use Rattle.java_loops.specs.Kernel.KernelStarts.{broken_starts}
use Rattle.loop_text.specs.Kernel.KernelStatements.{is_none}
use Rattle.java_loops.specs.Lowering.Lowered.{literal_given, literal_by}
use Rattle.java_ast.specs.Names.{Names, is_among}
use Rattle.java_loops.specs.Kernel.Setting.{Setting}
use Rattle.loop_text.specs.Statements.Setting.{touches, first_touching, is_found, given_by, is_number, is_literal_number}
use Rattle.loop_text.specs.Sites.Sites.{Site, place_of, place_where, first_broken}
use Rattle.java_loops.proofs.Nested.NestRules.{true_from_not}
use Rattle.java_loops.proofs.Placing.PlaceRuns.{untouched_unset, gives}
use Rattle.java_loops.proofs.Standing.StandingRules.{first_none, none_where, unbroken_at}

-- ---- The statement that starts an accumulator

-- One statement of a run gives the variable a value with which its update may start, and no other mentions it.
pub record IsStarted (sites : List Site) (x : List ℕ) (run : Statements) : Type 0 where
  pub before : Statements
  pub statement : Statement
  pub after : Statements
  pub is : run ≡ followed_by before (Then statement after)
  pub value : Expression
  pub given : given_by x statement ≡ Some value
  pub may : may_start (form_found sites (update_of sites x)) value ≡ true
  pub none_before : first_touching x before ≡ None
  pub none_after : first_touching x after ≡ None
  pub first : first_touching x run ≡ Some statement

not_found : {A : Type 0} (o : Option A) → not (is_found o) ≡ true → o ≡ None
not_found None e = refl
not_found (Some x) e = absurd cc

none_is_among : (xs : Names) (x : List ℕ) → not (is_none xs) ≡ false → is_among xs x ≡ true → ⊥
none_is_among [] x e h = absurd cc
none_is_among (y ∷ ys) x e h = absurd cc

fails_here : (q : List ℕ → Bool) (x y : List ℕ) (ys : Names) (b : Bool) → bytes_eq x y ≡ b → q y ≡ false → (b || is_among ys x) ≡ true → (is_among ys x ≡ true → q x ≡ false) → q x ≡ false
fails_here q x y ys true e n h ih = ap q (names_equal x y e) ∙ n
fails_here q x y ys false e n h ih = ih h

-- what no member passes a member doesn't pass
pub fails_among : (q : List ℕ → Bool) (xs : Names) (x : List ℕ) → list_any q xs ≡ false → is_among xs x ≡ true → q x ≡ false
fails_among q [] x n h = absurd cc
fails_among q (y ∷ ys) x n h =
    let two = or_parts (q y) (list_any q ys) n in
    fails_here q x y ys (bytes_eq x y) refl two.0 h (fails_among q ys x two.1)

kept_among : (s : Statement) (xs : Names) (x : List ℕ) → touches x s ≡ false → is_among xs x ≡ true → is_among (filter (λ y. not (touches y s)) xs) x ≡ true
kept_among s xs x n h = any-filter_same (bytes_eq x) (λ y. not (touches y s)) true (λ y e. ap (λ z. not (touches z s)) (sym (names_equal x y e)) ∙ ap not n) xs ∙ h

started_with : (sites : List Site) (x : List ℕ) (s : Statement) (ss : Statements) (o : Option Expression) → touches x s ≡ true → given_by x s ≡ o → may_start_so (form_found sites (update_of sites x)) o ≡ true → first_touching x ss ≡ None → IsStarted sites x (Then s ss)
started_with sites x s ss None t g m n = absurd cc
started_with sites x s ss (Some e) t g m n = record { before = Nothing; statement = s; after = ss; is = refl; value = e; given = g; may = m; none_before = refl; none_after = n; first = ap (λ b. cond b (Some s) (first_touching x ss)) t }

started_later : (sites : List Site) (x : List ℕ) (s : Statement) (ss : Statements) → touches x s ≡ false → IsStarted sites x ss → IsStarted sites x (Then s ss)
started_later sites x s ss t k =
    record {
      before = Then s k.before;
      statement = k.statement;
      after = k.after;
      is = ap (Then s) k.is;
      value = k.value;
      given = k.given;
      may = k.may;
      none_before = ap (λ b. cond b (Some s) (first_touching x k.before)) t ∙ k.none_before;
      none_after = k.none_after;
      first = ap (λ b. cond b (Some s) (first_touching x ss)) t ∙ k.first;
    }

started_step : (sites : List Site) (x : List ℕ) (s : Statement) (ss : Statements) (t : Bool) → touches x s ≡ t → (touches x s && not (starts sites s ss x)) ≡ false → (touches x s ≡ false → IsStarted sites x ss) → IsStarted sites x (Then s ss)
started_step sites x s ss true e n ih =
    let st : starts sites s ss x ≡ true = true_from_not (starts sites s ss x) (sym (ap (λ b. b && not (starts sites s ss x)) e) ∙ n) in
    let two = and_parts (may_start_so (form_found sites (update_of sites x)) (given_by x s)) (not (is_found (first_touching x ss))) st in
    started_with sites x s ss (given_by x s) e refl two.0 (not_found (first_touching x ss) two.1)
started_step sites x s ss false e n ih = started_later sites x s ss e (ih e)

pub started_from : (sites : List Site) (at : Span) (run : Statements) (xs : Names) (x : List ℕ) → broken_starts_of sites at xs run ≡ None → is_among xs x ≡ true → IsStarted sites x run
started_from sites at Nothing xs x h a = elim (none_is_among xs x (none_where (not (is_none xs)) at h) a) [ ]
started_from sites at (Then s ss) xs x h a =
    let q : List ℕ → Bool = λ y. touches y s && not (starts sites s ss y) in
    let two = first_none (place_where (list_any q xs) (place_of s)) (broken_starts_of sites at (filter (λ y. not (touches y s)) xs) ss) h in
    started_step sites x s ss (touches x s) refl (fails_among q xs x (none_where (list_any q xs) (place_of s) two.0) a) (λ n. started_from sites at ss (filter (λ y. not (touches y s)) xs) x two.1 (kept_among s xs x n a))

-- Each accumulator of a fragment that doesn't break the rule of starts is started.
pub accumulator_started : (w : Setting) → broken_starts w ≡ None → (x : List ℕ) → is_among (accumulators w.fragment) x ≡ true → IsStarted w.sites x w.fragment.run
accumulator_started w h x a =
    started_from w.sites (place_of w.fragment.loop) w.fragment.run (accumulators w.fragment) x (first_none (broken_starts_of w.sites (place_of w.fragment.loop) (accumulators w.fragment) w.fragment.run) (first_broken (broken_flag_start w.sites) 0 w.sites) h).0 a

-- ---- Constants

-- the value with which an update of this form starts
abbrev pub StartsAs : Form → Value → Type 0
StartsAs (adds t) v = v ≡ Many []
StartsAs counts v = v ≡ One (scalars.Long (pos 0))
StartsAs (sums c) v = v ≡ One (scalars.Long (pos 0))
StartsAs (takes c) v = (n : ℤ) × (v ≡ One (scalars.Long n))
StartsAs (marks b) v = v ≡ One (scalars.Bool (not b))
StartsAs other v = ⊥

-- An expression is a constant with which such an update may start, and what is written there is its scalar.
pub record IsStart (form : Form) (e : Expression) : Type 0 where
  pub value : Value
  pub constant : constant e ≡ Some value
  pub starts : StartsAs form value
  pub literal : (y : Scalar) → value ≡ One y → literal_given (Some e) ≡ Some y

one_same : (x y : Scalar) → One x ≡ One y → x ≡ y
one_same x y e = cc

literal_is : (at : Span) (x : Scalar) (form : Form) → StartsAs form (One x) → IsStart form (tree.Lit at x)
literal_is at x form s = record { value = One x; constant = refl; starts = s; literal = λ y e. ap Some (one_same x y e) }

no_scalar : (y : Scalar) (o : Option Scalar) → Many [] ≡ One y → o ≡ Some y
no_scalar y o e = absurd cc

empty_start : (t : Form) (e : Expression) → is_empty_collection e ≡ true → StartsAs t (Many []) → IsStart t e
empty_start t (tree.NewList at) h s = record { value = Many []; constant = refl; starts = s; literal = λ y e. no_scalar y None e }
empty_start t (tree.NewSet at) h s = record { value = Many []; constant = refl; starts = s; literal = λ y e. no_scalar y None e }
empty_start t (tree.Lit at x) h s = absurd cc
empty_start t (tree.Var at x) h s = absurd cc
empty_start t (tree.Field at e n) h s = absurd cc
empty_start t (tree.Binary at op a b) h s = absurd cc
empty_start t (tree.Not at e) h s = absurd cc
empty_start t (tree.Equals at a b) h s = absurd cc
empty_start t (tree.Size at x) h s = absurd cc
empty_start t (tree.Get at x e) h s = absurd cc
empty_start t (tree.Contains at x e) h s = absurd cc
empty_start t (tree.Fetch at n) h s = absurd cc
empty_start t (tree.Query at ty text es) h s = absurd cc
empty_start t (tree.QueryLong at text es) h s = absurd cc
empty_start t (tree.QueryBoolean at text es) h s = absurd cc
empty_start t (tree.NewSetOf at e) h s = absurd cc

-- a literal with this scalar
pub record IsLiteral (test : Scalar → Bool) (e : Expression) : Type 0 where
  pub at : Span
  pub value : Scalar
  pub is : e ≡ tree.Lit at value
  pub passes : test value ≡ true

abbrev passes_literal : (Scalar → Bool) → Expression → Bool
passes_literal test (tree.Lit at value) = test value
passes_literal test _ = false

is_a_literal : (test : Scalar → Bool) (e : Expression) → passes_literal test e ≡ true → IsLiteral test e
is_a_literal test (tree.Lit at x) h = record { at = at; value = x; is = refl; passes = h }
is_a_literal test (tree.Var at x) h = absurd cc
is_a_literal test (tree.Field at e n) h = absurd cc
is_a_literal test (tree.Binary at op a b) h = absurd cc
is_a_literal test (tree.Not at e) h = absurd cc
is_a_literal test (tree.Equals at a b) h = absurd cc
is_a_literal test (tree.Size at x) h = absurd cc
is_a_literal test (tree.Get at x e) h = absurd cc
is_a_literal test (tree.Contains at x e) h = absurd cc
is_a_literal test (tree.Fetch at n) h = absurd cc
is_a_literal test (tree.Query at ty text es) h = absurd cc
is_a_literal test (tree.QueryLong at text es) h = absurd cc
is_a_literal test (tree.QueryBoolean at text es) h = absurd cc
is_a_literal test (tree.NewList at) h = absurd cc
is_a_literal test (tree.NewSet at) h = absurd cc
is_a_literal test (tree.NewSetOf at e) h = absurd cc

-- the tests of literals, each by the test of a scalar
record ByScalar (e : Expression) : Type 0 where
  number : (n : ℕ) → is_literal_number n e ≡ passes_literal (is_number n) e
  integer : is_integer e ≡ passes_literal is_long e
  truth : (b : Bool) → is_truth_of b e ≡ passes_literal (λ v. scalar_same v (scalars.Bool b)) e

by_scalar : (e : Expression) → ByScalar e
by_scalar (tree.Lit at x) = record { number = λ n. refl; integer = refl; truth = λ b. refl }
by_scalar (tree.Var at x) = record { number = λ n. refl; integer = refl; truth = λ b. refl }
by_scalar (tree.Field at e n) = record { number = λ n. refl; integer = refl; truth = λ b. refl }
by_scalar (tree.Binary at op a b) = record { number = λ n. refl; integer = refl; truth = λ b. refl }
by_scalar (tree.Not at e) = record { number = λ n. refl; integer = refl; truth = λ b. refl }
by_scalar (tree.Equals at a b) = record { number = λ n. refl; integer = refl; truth = λ b. refl }
by_scalar (tree.Size at x) = record { number = λ n. refl; integer = refl; truth = λ b. refl }
by_scalar (tree.Get at x e) = record { number = λ n. refl; integer = refl; truth = λ b. refl }
by_scalar (tree.Contains at x e) = record { number = λ n. refl; integer = refl; truth = λ b. refl }
by_scalar (tree.Fetch at n) = record { number = λ n. refl; integer = refl; truth = λ b. refl }
by_scalar (tree.Query at ty text es) = record { number = λ n. refl; integer = refl; truth = λ b. refl }
by_scalar (tree.QueryLong at text es) = record { number = λ n. refl; integer = refl; truth = λ b. refl }
by_scalar (tree.QueryBoolean at text es) = record { number = λ n. refl; integer = refl; truth = λ b. refl }
by_scalar (tree.NewList at) = record { number = λ n. refl; integer = refl; truth = λ b. refl }
by_scalar (tree.NewSet at) = record { number = λ n. refl; integer = refl; truth = λ b. refl }
by_scalar (tree.NewSetOf at e) = record { number = λ n. refl; integer = refl; truth = λ b. refl }

-- an expression that is the number is its literal
pub number_literal : (n : ℕ) (e : Expression) → is_literal_number n e ≡ true → IsLiteral (is_number n) e
number_literal n e h = is_a_literal (is_number n) e (sym ((by_scalar e).number n) ∙ h)

pub number_is : (n : ℕ) (x : Scalar) → is_number n x ≡ true → x ≡ scalars.Long (pos n)
number_is n x h = scalar_same-true x (scalars.Long (pos n)) h

-- an expression that is a truth value is its literal
pub truth_literal : (b : Bool) (e : Expression) → is_truth_of b e ≡ true → IsLiteral (λ v. scalar_same v (scalars.Bool b)) e
truth_literal b e h = is_a_literal (λ v. scalar_same v (scalars.Bool b)) e (sym ((by_scalar e).truth b) ∙ h)

start_of_literal : (test : Scalar → Bool) (form : Form) (e : Expression) (k : IsLiteral test e) → StartsAs form (One k.value) → IsStart form e
start_of_literal test form e k s = subst (IsStart form) (sym k.is) (literal_is k.at k.value form s)

long_is : (x : Scalar) → is_long x ≡ true → (n : ℤ) × (One x ≡ One (scalars.Long n))
long_is (scalars.Long n) h = (n, refl)
long_is (scalars.Bool b) h = absurd cc
long_is (scalars.Text t) h = absurd cc

-- what an update may start with is a constant
pub start_of : (form : Form) (e : Expression) → may_start form e ≡ true → IsStart form e
start_of (adds t) e h = empty_start (adds t) e h refl
start_of counts e h = let k = number_literal 0 e h in start_of_literal (is_number 0) counts e k (ap One (number_is 0 k.value k.passes))
start_of (sums c) e h = let k = number_literal 0 e h in start_of_literal (is_number 0) (sums c) e k (ap One (number_is 0 k.value k.passes))
start_of (takes c) e h = let k = is_a_literal is_long e (sym (by_scalar e).integer ∙ h) in start_of_literal is_long (takes c) e k (long_is k.value k.passes)
start_of (marks b) e h = let k = truth_literal (not b) e h in start_of_literal (λ v. scalar_same v (scalars.Bool (not b))) (marks b) e k (ap One (scalar_same-true k.value (scalars.Bool (not b)) k.passes))
start_of other e h = absurd cc

-- ---- At the loop

-- In this state the variable has the value, and is a set as its type says.
pub record HoldsStart (schema : Schema) (g : Types) (x : List ℕ) (v : Value) (t : State) : Type 0 where
  pub held : Variable
  pub left : at_name t.store x ≡ Some held
  pub value : held.value ≡ v
  pub set : (k : JavaType) → g x ≡ Some k → held.is_set ≡ is_distinct k

some_same : {A : Type 0} (o : Option A) (a b : A) → o ≡ Some a → o ≡ Some b → a ≡ b
some_same o a b e h = cc

-- a variable that is held in a typed store is a set as its type says
pub set_as_typed : (schema : Schema) (g : Types) (t : State) (x : List ℕ) (held : Variable) → IsTyped schema g t.store → at_name t.store x ≡ Some held → (k : JavaType) → g x ≡ Some k → held.is_set ≡ is_distinct k
set_as_typed schema g t x held typed e k q =
    let v : (v : Variable) × (at_name t.store x ≡ Some v) × IsVariableOf schema k v = typed.held x k q in
    let same : held ≡ v.0 = some_same (at_name t.store x) held v.0 e v.1 in
    ap (λ (u : Variable). u.is_set) same ∙ v.2.set

-- the value that one statement gives and no later one sets
value_left : (w : World) (before : Statements) (a : Statement) (x : List ℕ) (e : Expression) (v : Value) (after : Statements) (s t : State) → Gives a x e → constant e ≡ Some v → are_simple (followed_by before (Then a after)) ≡ true → runs.is_set_in after x ≡ false → meanings (followed_by before (Then a after)) w s ≡ Ok (GoesOn t) → (held : Variable) × (at_name t.store x ≡ Some held) × (held.value ≡ v)
value_left w before _ _ _ v after s t (declares at ty x e) c h n m = (_, declared_constant w before at ty x e v after s t c h n m, refl)
value_left w before _ _ _ v after s t (assigns at x e) c h n m = (_, (assigned_constant w before at x e v after s t c h n m).2, refl)

-- a variable to which a statement of the run gives a constant, and which no later one sets, has it at the loop
pub value_held : (w : World) (schema : Schema) (g : Types) (x : List ℕ) (before : Statements) (a : Statement) (after run : Statements) (e : Expression) (v : Value) (s t : State) → run ≡ followed_by before (Then a after) → given_by x a ≡ Some e → constant e ≡ Some v → runs.is_set_in after x ≡ false → are_simple run ≡ true → IsTyped schema g t.store → meanings run w s ≡ Ok (GoesOn t) → HoldsStart schema g x v t
value_held w schema g x before a after run e v s t is q c n h typed m =
    let simple : are_simple (followed_by before (Then a after)) ≡ true = ap are_simple (sym is) ∙ h in
    let l = value_left w before a x e v after s t (gives x a e q) c simple n (ap (λ p. meanings p w s) (sym is) ∙ m) in
    record { held = l.0; left = l.1; value = l.2; set = set_as_typed schema g t x l.0 typed l.1 }

-- a variable that is started has its start at the loop
pub start_left : (w : World) (schema : Schema) (g : Types) (sites : List Site) (x : List ℕ) (run : Statements) (s t : State) (k : IsStarted sites x run) (v : Value) → constant k.value ≡ Some v → are_simple run ≡ true → IsTyped schema g t.store → meanings run w s ≡ Ok (GoesOn t) → HoldsStart schema g x v t
start_left w schema g sites x run s t k v c h typed m = value_held w schema g x k.before k.statement k.after run k.value v s t k.is k.given c (untouched_unset x k.after k.none_after) h typed m

-- What an accumulator starts with: a constant that fits its update, which it has at the loop, and of which the fragment
-- keeps the scalar.
pub record StartsRightly (w : Setting) (schema : Schema) (g : Types) (x : List ℕ) (t : State) : Type 0 where
  pub started : IsStarted w.sites x w.fragment.run
  pub start : IsStart (form_found w.sites (update_of w.sites x)) started.value
  pub holds : HoldsStart schema g x start.value t
  pub literal : (y : Scalar) → start.value ≡ One y → literal_by x (first_touching x w.fragment.run) ≡ Some y

-- Where no start is broken and the run passes, each accumulator has its start at the loop.
pub accumulator_starts : (w : Setting) (world : World) (schema : Schema) (g : Types) (s t : State) → are_simple w.fragment.run ≡ true → IsTyped schema g t.store → meanings w.fragment.run world s ≡ Ok (GoesOn t) → broken_starts w ≡ None → (x : List ℕ) → is_among (accumulators w.fragment) x ≡ true → StartsRightly w schema g x t
accumulator_starts w world schema g s t h typed m b x a =
    let k : IsStarted w.sites x w.fragment.run = accumulator_started w b x a in
    let c : IsStart (form_found w.sites (update_of w.sites x)) k.value = start_of (form_found w.sites (update_of w.sites x)) k.value k.may in
    record {
      started = k;
      start = c;
      holds = start_left world schema g w.sites x w.fragment.run s t k c.value c.constant h typed m;
      literal = λ y e. ap (literal_by x) k.first ∙ ap literal_given k.given ∙ c.literal y e;
    }

-- ---- Flags

-- A flag that is declared at this number is declared by a value with which its update may start.
pub flag_starts : (w : Setting) → broken_starts w ≡ None → (d : ℕ) (s : Site) → slice_get w.sites d ≡ Some s → (at : Span) (ty : Spelled) (x : List ℕ) (e : Expression) → s.statement ≡ tree.Declare at ty x e → may_start (form_found w.sites (update_of_flag w.sites d)) e ≡ true
flag_starts w h d s q at ty x e is =
    let two = first_none (broken_starts_of w.sites (place_of w.fragment.loop) (accumulators w.fragment) w.fragment.run) (first_broken (broken_flag_start w.sites) 0 w.sites) h in
    let n = unbroken_at (broken_flag_start w.sites) w.sites two.1 d s q in
    ap (starts_flag w.sites d) (sym is) ∙ true_from_not (starts_flag w.sites d s.statement) (none_where (not (starts_flag w.sites d s.statement)) (place_of s.statement) n)

-- a flag that its update sets to a truth value is declared by the opposite literal
pub flag_literal : (b : Bool) (e : Expression) → may_start (marks b) e ≡ true → (at : Span) × (e ≡ tree.Lit at (scalars.Bool (not b)))
flag_literal b e h =
    let k = truth_literal (not b) e h in
    (k.at, k.is ∙ ap (tree.Lit k.at) (scalar_same-true k.value (scalars.Bool (not b)) k.passes))
