-- The values of expressions by the scalars of their parts.
use Rattle.std.proofs.Common.{◌≡◌, ℕ, List, Result, Ok, Err, refl, sym, ap, ap₂, ◌∙◌, subst}
use Rattle.std.specs.Prelude.{pos, not, length, Box}
use Rattle.std.specs.declared.alloc.Global.{Global}
use Rattle.qbs_base.specs.declared.scalar.Row.{Row}
use Rattle.qbs_base.specs.declared.scalar.Scalar.{Scalar}
use Rattle.qbs_base.specs.declared.scalar.Value.{Value}
use Rattle.qbs_base.specs.declared.scalar.Value.TheVariants.{One, Whole, Many}
use Rattle.qbs_base.specs.declared.span.Span.{Span}
use Rattle.qbs_base.specs.Named.{at_name}
use Rattle.java_ast.specs.declared.tree.Expr.{Expr, out-Expr}
use Rattle.java_ast.specs.declared.tree.ExprNode as nodes
use Rattle.java_ast.specs.declared.tree.Op.{Op}
use Rattle.java_ast.specs.Reading.{expression, node_expression}
use Rattle.java_ast.specs.Tree.{Expression, Field, Binary, Not, Equals, Size, Contains}
use Rattle.java_mean.specs.declared.ending.Ending.{Ending}
use Rattle.java_mean.specs.Endings.{◌>>=◌, found}
use Rattle.java_mean.specs.Expression.{value_of, as_scalar, as_row, as_rows, as_bool, alone, applied, is_among, number, or_else, same_text, settled, truth}
use Rattle.java_mean.specs.Store.{Store, Variable}
use Rattle.java_mean.specs.World.{World}
use Rattle.java_steps.specs.declared.held.Held.{Held}
use Rattle.java_steps.specs.declared.stop.Stop.{Stop}
use Rattle.java_steps.specs.declared.stop.Stop.TheVariants.{Memory, Ends}
use Rattle.java_steps.specs.Gives.{Gives, GivesBy}
use Rattle.java_steps.specs.Held.{one_held, value_in}
use Rattle.java_steps.specs.Words.{size_at, cell_in, scalar_in, field_in, operated_in, opposite_in, same_text_in, contained_in}

-- ---- The meaning, by scalars

then_then : {A B C : Type 0} (r : Result A Ending) (f : A → Result B Ending) (g : B → Result C Ending) → (r >>= λ x. f x >>= g) ≡ ((r >>= f) >>= g)
then_then (Ok x) f g = refl
then_then (Err e) f g = refl

field_by : (r : Result Value Ending) (w : World) (name : List ℕ) → (r >>= λ v. as_row v >>= λ row. cell_in w row name >>= λ x. Ok (One x)) ≡ ((r >>= λ v. as_row v >>= λ row. cell_in w row name) >>= λ x. Ok (One x))
field_by (Ok v) w name = then_then (as_row v) (λ row. cell_in w row name) (λ x. Ok (One x))
field_by (Err e) w name = refl

binary_by : (r u : Result Value Ending) (op : Op) (at : Span) → (r >>= λ v. as_scalar v >>= λ x. or_else (settled op x) (u >>= λ q. as_scalar q >>= λ y. applied op at x y)) ≡ ((r >>= λ v. as_scalar v) >>= λ x. or_else (settled op x) ((u >>= λ q. as_scalar q) >>= λ y. applied op at x y))
binary_by (Ok (One x)) u op at = ap (or_else (settled op x)) (then_then u (λ q. as_scalar q) (λ y. applied op at x y))
binary_by (Ok (Whole row)) u op at = refl
binary_by (Ok (Many rows)) u op at = refl
binary_by (Err e) u op at = refl

binary_is : (at : Span) (op : Op) (a b : Expression) (w : World) (s : Store) → value_of (Binary at op a b) w s ≡ (scalar_in a w s >>= λ x. operated_in op at x b w s)
binary_is at op a b w s = binary_by (value_of a w s) (value_of b w s) op at

equals_by : (r u : Result Value Ending) → (r >>= λ v. as_scalar v >>= λ x. u >>= λ q. as_scalar q >>= λ y. same_text x y >>= λ b. Ok (truth b)) ≡ ((r >>= λ v. as_scalar v) >>= λ x. (u >>= λ q. as_scalar q) >>= λ y. same_text x y >>= λ b. Ok (truth b))
equals_by (Ok (One x)) u = then_then u (λ q. as_scalar q) (λ y. same_text x y >>= λ b. Ok (truth b))
equals_by (Ok (Whole row)) u = refl
equals_by (Ok (Many rows)) u = refl
equals_by (Err e) u = refl

equals_is : (at : Span) (a b : Expression) (w : World) (s : Store) → value_of (Equals at a b) w s ≡ (scalar_in a w s >>= λ x. same_text_in x b w s)
equals_is at a b w s = equals_by (value_of a w s) (value_of b w s)

contains_rows : (q : Result (List Row) Ending) (u : Result Value Ending) → (q >>= λ rows. u >>= λ v. as_scalar v >>= λ y. Ok (truth (is_among rows (alone y)))) ≡ (q >>= λ rows. (u >>= λ v. as_scalar v) >>= λ y. Ok (truth (is_among rows (alone y))))
contains_rows (Ok rows) u = then_then u (λ v. as_scalar v) (λ y. Ok (truth (is_among rows (alone y))))
contains_rows (Err e) u = refl

contains_by : (r : Result Variable Ending) (u : Result Value Ending) → (r >>= λ held. as_rows held.value >>= λ rows. u >>= λ v. as_scalar v >>= λ y. Ok (truth (is_among rows (alone y)))) ≡ ((r >>= λ held. as_rows held.value) >>= λ rows. (u >>= λ v. as_scalar v) >>= λ y. Ok (truth (is_among rows (alone y))))
contains_by (Ok held) u = contains_rows (as_rows held.value) u
contains_by (Err e) u = refl

contains_is : (at : Span) (x : List ℕ) (e : Expression) (w : World) (s : Store) → value_of (Contains at x e) w s ≡ contained_in x e w s
contains_is at x e w s = contains_by (found (at_name s x)) (value_of e w s)

-- ---- What is given, by the node

-- a value that is a scalar, as the scalar, and the other way round
pub scalar_gives : (r : Result Scalar Stop) (run : Result Value Ending) → GivesBy One r run → Gives r (run >>= λ v. as_scalar v)
scalar_gives (Ok x) run g = ap (λ (q : Result Value Ending). q >>= λ v. as_scalar v) g
scalar_gives (Err Memory) run g = tt
scalar_gives (Err (Ends e)) run g = ap (λ (q : Result Value Ending). q >>= λ v. as_scalar v) g

value_gives : (r : Result Scalar Stop) (run : Result Scalar Ending) → Gives r run → GivesBy One r (run >>= λ x. Ok (One x))
value_gives (Ok x) run g = ap (λ (q : Result Scalar Ending). q >>= λ y. Ok (One y)) g
value_gives (Err Memory) run g = tt
value_gives (Err (Ends e)) run g = ap (λ (q : Result Scalar Ending). q >>= λ y. Ok (One y)) g

held_by : (r : Result Scalar Stop) (run : Result Value Ending) → GivesBy One r run → GivesBy value_in (one_held r) run
held_by (Ok x) run g = g
held_by (Err stop) run g = g

pub held_gives : (r : Result Scalar Stop) (h : Result Held Stop) (run : Result Value Ending) → h ≡ one_held r → GivesBy One r run → GivesBy value_in h run
held_gives r h run e g = subst (λ q. GivesBy value_in q run) (sym e) (held_by r run g)

carried : (e : Expr) (p : Expression) (w : World) (s : Store) (r : Result Scalar Stop) (run : Result Value Ending) → expression e ≡ p → value_of p w s ≡ run → GivesBy One r run → GivesBy One r (value_of (expression e) w s)
carried e p w s r run is v g = subst (GivesBy One r) (sym (ap (λ (q : Expression). value_of q w s) is ∙ v)) g

pub literal_given : (e : Expr) (x : Scalar) (w : World) (s : Store) (r : Result Scalar Stop) → (out-Expr e).node ≡ nodes.Lit x → Gives r (Ok x) → GivesBy One r (value_of (expression e) w s)
literal_given e x w s r is g = subst (λ n. GivesBy One r (value_of (node_expression n (out-Expr e).span) w s)) (sym is) (value_gives r (Ok x) g)

pub field_given : (e : Expr) (a : Box Expr Global) (b : Expr) (name : List ℕ) (w : World) (s : Store) (r : Result Scalar Stop) → (out-Expr e).node ≡ nodes.Field a name → b ≡ a.value → Gives r (field_in (expression b) w s name) → GivesBy One r (value_of (expression e) w s)
field_given e a b name w s r is lent g =
    carried e (Field (out-Expr e).span (expression b) name) w s r (field_in (expression b) w s name >>= λ x. Ok (One x))
    (ap (λ n. node_expression n (out-Expr e).span) is ∙ ap (λ (p : Expr). Field (out-Expr e).span (expression p) name) (sym lent))
    (field_by (value_of (expression b) w s) w name)
    (value_gives r (field_in (expression b) w s name) g)

pub binary_given : (e : Expr) (op : Op) (a b : Box Expr Global) (first second : Expr) (x : Scalar) (w : World) (s : Store) (r : Result Scalar Stop) → (out-Expr e).node ≡ nodes.Binary op a b → first ≡ a.value → second ≡ b.value → scalar_in (expression first) w s ≡ Ok x → GivesBy One r (operated_in op (out-Expr e).span x (expression second) w s) → GivesBy One r (value_of (expression e) w s)
binary_given e op a b first second x w s r is lent lent_too h g =
    carried e (Binary (out-Expr e).span op (expression first) (expression second)) w s r (operated_in op (out-Expr e).span x (expression second) w s)
    (ap (λ n. node_expression n (out-Expr e).span) is ∙ ap₂ (λ (p q : Expr). Binary (out-Expr e).span op (expression p) (expression q)) (sym lent) (sym lent_too))
    (binary_is (out-Expr e).span op (expression first) (expression second) w s ∙ ap (λ (q : Result Scalar Ending). q >>= λ y. operated_in op (out-Expr e).span y (expression second) w s) h)
    g

pub not_given : (e : Expr) (a : Box Expr Global) (b : Expr) (w : World) (s : Store) (r : Result Scalar Stop) → (out-Expr e).node ≡ nodes.Not a → b ≡ a.value → GivesBy One r (opposite_in (expression b) w s) → GivesBy One r (value_of (expression e) w s)
not_given e a b w s r is lent g =
    carried e (Not (out-Expr e).span (expression b)) w s r (opposite_in (expression b) w s)
    (ap (λ n. node_expression n (out-Expr e).span) is ∙ ap (λ (p : Expr). Not (out-Expr e).span (expression p)) (sym lent))
    (then_then (value_of (expression b) w s) (λ v. as_scalar v) (λ x. as_bool x >>= λ t. Ok (truth (not t))))
    g

pub equals_given : (e : Expr) (a b : Box Expr Global) (first second : Expr) (x : Scalar) (w : World) (s : Store) (r : Result Scalar Stop) → (out-Expr e).node ≡ nodes.Equals a b → first ≡ a.value → second ≡ b.value → scalar_in (expression first) w s ≡ Ok x → GivesBy One r (same_text_in x (expression second) w s) → GivesBy One r (value_of (expression e) w s)
equals_given e a b first second x w s r is lent lent_too h g =
    carried e (Equals (out-Expr e).span (expression first) (expression second)) w s r (same_text_in x (expression second) w s)
    (ap (λ n. node_expression n (out-Expr e).span) is ∙ ap₂ (λ (p q : Expr). Equals (out-Expr e).span (expression p) (expression q)) (sym lent) (sym lent_too))
    (equals_is (out-Expr e).span (expression first) (expression second) w s ∙ ap (λ (q : Result Scalar Ending). q >>= λ y. same_text_in y (expression second) w s) h)
    g

pub size_given : (e : Expr) (x : List ℕ) (w : World) (s : Store) (r : Result Scalar Stop) → (out-Expr e).node ≡ nodes.Size x → GivesBy One r (size_at (out-Expr e).span s x) → GivesBy One r (value_of (expression e) w s)
size_given e x w s r is g =
    carried e (Size (out-Expr e).span x) w s r (size_at (out-Expr e).span s x) (ap (λ n. node_expression n (out-Expr e).span) is)
    (then_then (found (at_name s x)) (λ held. as_rows held.value) (λ rows. number (out-Expr e).span (pos (length rows))))
    g

pub contains_given : (e : Expr) (x : List ℕ) (a : Box Expr Global) (b : Expr) (w : World) (s : Store) (r : Result Scalar Stop) → (out-Expr e).node ≡ nodes.Contains x a → b ≡ a.value → GivesBy One r (contained_in x (expression b) w s) → GivesBy One r (value_of (expression e) w s)
contains_given e x a b w s r is lent g =
    carried e (Contains (out-Expr e).span x (expression b)) w s r (contained_in x (expression b) w s)
    (ap (λ n. node_expression n (out-Expr e).span) is ∙ ap (λ (p : Expr). Contains (out-Expr e).span x (expression p)) (sym lent))
    (contains_is (out-Expr e).span x (expression b) w s)
    g
