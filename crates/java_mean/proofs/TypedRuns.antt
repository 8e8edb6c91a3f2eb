-- A well-typed statement keeps types, is never stuck, and does the same in states that agree.
use Rattle.std.proofs.Common.{◌≡◌, ℕ, zero, suc, ◌≤◌, Bool, true, false, List, [], ◌∷◌, Option, Some, None, Result, Ok, Err, refl, sym, ap, subst, arith}
use Rattle.std.specs.List.{AllByRecursion}
use Rattle.qbs_base.specs.declared.span.Span.{Span}
use Rattle.qbs_base.specs.declared.scalar.Ty.TheVariants as tys
use Rattle.qbs_base.specs.declared.scalar.Row.{Row}
use Rattle.qbs_base.specs.declared.scalar.Value.{Value}
use Rattle.qbs_base.specs.declared.scalar.Value.TheVariants.{One, Whole, Many}
use Rattle.qbs_base.specs.Named.{at_name}
use Rattle.qbs_base.specs.Sort.{stable_sort}
use Rattle.qbs_base.specs.Values.{Schema, HasTy}
use Rattle.java_ast.specs.Tree as tree
use Rattle.java_ast.specs.Tree.{Spelled, ListOf, SetOf, Expression, Statement, Statements}
use Rattle.java_mean.specs.declared.ending.Ending.{Ending}
use Rattle.java_mean.specs.declared.ending.Ending.TheVariants as endings
use Rattle.java_mean.specs.Endings.{◌>>=◌, found}
use Rattle.java_mean.specs.Expression.{value_of, as_scalar, as_rows, as_bool, as_member, element}
use Rattle.java_mean.specs.Refines.{Related, Exits, Follows, Simulates, Alike, IsResult, exits}
use Rattle.java_mean.specs.Statement.{State, Passed, Returns, Does, Test, done, then_turn, branch, turn, with_variable, with_value, with_line, printed, is_set_type, added, in_order, each, repeat, test_of, meaning, meanings}
use Rattle.java_mean.specs.Store.{Variable, plainly}
use Rattle.java_mean.specs.Types.{Single, JavaType, Of, ScalarOf, Listed, Distinct, Types, with_type, type_spelled, IsMember, IsOf, IsVariableOf, AreDistinct, is_distinct, made_of, single_spelled}
use Rattle.java_mean.specs.Typing.{Frame, IsWorld, Has, listed, distinct, HasType, IsNew, is_new_list, is_new_set, Extends, bool, TypedStatement, declare, assign, add, sort, when, choose, for_each, for_each_new, while_true, print, return_none, return_value, leave, TypedStatements, done as nothing, next}
use Rattle.java_mean.specs.World.{World}
use Rattle.java_mean.proofs.Alike.{alike_fewer, alike_put, alike_set, alike_line, extends_new, typed_store, turn_follows, held_same, typed_same, test_same}
use Rattle.java_mean.proofs.Members.{all_sorted, all_once, distinct_once}
use Rattle.java_mean.proofs.Simulates.{Holds, Loops, follows_value, follows_turn, follows_branch, simulates_done, simulates_then, simulates_wider}
use Rattle.java_mean.proofs.TypedValues.{holds_bind, scalar_in, rows_in, bool_in, held_in, element_of, member_in, typed_value}

-- ---- Loops

pub element_put : (schema : Schema) (g : Types) (x : List ℕ) (a : Single) (row : Row) (s t : State) → IsMember schema a row → Alike schema g s t → Alike schema (with_type x (Some (Of a)) g) (with_variable s x (plainly (element row))) (with_variable t x (plainly (element row)))
element_put schema g x a row s t h i = alike_put schema g s t x (Of a) (plainly (element row)) (record { value = element_of schema a row h; set = refl }) i

pub simulates_each : (schema : Schema) (g h : Types) (x : List ℕ) (a : Single) (inner outer : Exits) (f f' : Does) → Extends h g → Loops (Alike schema g) inner outer → Simulates (Alike schema (with_type x (Some (Of a)) g)) (Alike schema h) inner f f' → (rows : List Row) → AllByRecursion (IsMember schema a) rows → Simulates (Alike schema g) (Alike schema g) outer (each rows x f) (each rows x f')
simulates_each schema g h x a inner outer f f' e l sim [] all = simulates_done (Alike schema g) (Alike schema g) outer (λ s t i. i)
simulates_each schema g h x a inner outer f f' e l sim (row ∷ rows) all =
    record { by = λ s t i. turn_follows schema g (Alike schema g) outer s t (λ u. then_turn (f (with_variable u x (plainly (element row)))) (each rows x f)) (λ u. then_turn (f' (with_variable u x (plainly (element row)))) (each rows x f')) i (λ u v j. follows_turn (Alike schema h) (Alike schema g) inner outer (f (with_variable u x (plainly (element row)))) (f' (with_variable v x (plainly (element row)))) (each rows x f) (each rows x f') l (sim.by (with_variable u x (plainly (element row))) (with_variable v x (plainly (element row))) (element_put schema g x a row u v all.0 j)) (λ y z k. (simulates_each schema g h x a inner outer f f' e l sim rows all.1).by y z (alike_fewer schema h g e y z k))) }

-- a test that is the same in states that agree
pub record Tests (schema : Schema) (g : Types) (k : Exits) (test : Test) : Type 0 where
  pub same : (s t : State) → Alike schema g s t → test s.store ≡ test t.store
  pub holds : (s t : State) → Alike schema g s t → Holds k.stuck (λ (b : Bool). Unit {0}) (test s.store)

pub simulates_repeat : (schema : Schema) (g h : Types) (inner outer : Exits) (test : Test) (f f' : Does) → Extends h g → Loops (Alike schema g) inner outer → Tests schema g outer test → Simulates (Alike schema g) (Alike schema h) inner f f' → (n m : ℕ) → n ≤ m → Simulates (Alike schema g) (Alike schema g) outer (repeat n test f) (repeat m test f')
simulates_repeat schema g h inner outer test f f' e l q sim zero zero le =
    record { by = λ s t i. follows_value (λ b. Unit {0}) (Alike schema g) outer (test s.store) (test t.store) (λ b. branch b (λ u. Err endings.OutOfTurns) done s) (λ b. branch b (λ u. Err endings.OutOfTurns) done t) (q.same s t i) (q.holds s t i) (λ b k. follows_branch (Alike schema g) outer b (λ u. Err endings.OutOfTurns) done (λ u. Err endings.OutOfTurns) done s t tt (record { state = t; is = refl; holds = i })) }
simulates_repeat schema g h inner outer test f f' e l q sim zero (suc m) le =
    record { by = λ s t i. follows_value (λ b. Unit {0}) (Alike schema g) outer (test s.store) (test t.store) (λ b. branch b (λ u. Err endings.OutOfTurns) done s) (λ b. branch b (λ v. turn v >>= λ u. then_turn (f' u) (repeat m test f')) done t) (q.same s t i) (q.holds s t i) (λ b k. follows_branch (Alike schema g) outer b (λ u. Err endings.OutOfTurns) done (λ v. turn v >>= λ u. then_turn (f' u) (repeat m test f')) done s t tt (record { state = t; is = refl; holds = i })) }
simulates_repeat schema g h inner outer test f f' e l q sim (suc n) zero le = absurd (omega arith)
simulates_repeat schema g h inner outer test f f' e l q sim (suc n) (suc m) le =
    let rest : Simulates (Alike schema g) (Alike schema g) outer (repeat n test f) (repeat m test f') = simulates_repeat schema g h inner outer test f f' e l q sim n m (omega arith) in
    record { by = λ s t i. follows_value (λ b. Unit {0}) (Alike schema g) outer (test s.store) (test t.store) (λ b. branch b (λ v. turn v >>= λ u. then_turn (f u) (repeat n test f)) done s) (λ b. branch b (λ v. turn v >>= λ u. then_turn (f' u) (repeat m test f')) done t) (q.same s t i) (q.holds s t i) (λ b k. follows_branch (Alike schema g) outer b (λ v. turn v >>= λ u. then_turn (f u) (repeat n test f)) done (λ v. turn v >>= λ u. then_turn (f' u) (repeat m test f')) done s t (turn_follows schema g (Alike schema g) outer s t (λ u. then_turn (f u) (repeat n test f)) (λ u. then_turn (f' u) (repeat m test f')) i (λ u v j. follows_turn (Alike schema h) (Alike schema g) inner outer (f u) (f' v) (repeat n test f) (repeat m test f') l (sim.by u v j) (λ y z w. rest.by y z (alike_fewer schema h g e y z w)))) (record { state = t; is = refl; holds = i })) }

-- ---- What is visible stays visible

pub extends_statement : (c : Frame) (l : Option Types) (g h : Types) (a : Statement) → TypedStatement c l g a h → Extends h g
extends_statement c _ _ _ _ (declare l g at ty x e k n s t) y z i = extends_new g x k n y z i
extends_statement c _ _ _ _ (assign l g at x e k n t) y z i = i
extends_statement c _ _ _ _ (add l g at x e k a n has t) y z i = i
extends_statement c _ _ _ _ (sort l g at x keys down a n) y z i = i
extends_statement c _ _ _ _ (when l g h at e p t q) y z i = i
extends_statement c _ _ _ _ (choose l g h h' at e p q t r s) y z i = i
extends_statement c _ _ _ _ (for_each l g h at ty x e p k a n t has q) y z i = i
extends_statement c _ _ _ _ (for_each_new l g h at ty x e p k n s new q) y z i = i
extends_statement c _ _ _ _ (while_true l g h at e p t q) y z i = i
extends_statement c _ _ _ _ (print l g at e ty t) y z i = i
extends_statement c _ _ _ _ (return_none l g at n) y z i = i
extends_statement c _ _ _ _ (return_value l g at e k n t) y z i = i
extends_statement c _ _ _ _ (leave b g at n) y z i = i

pub extends_statements : (c : Frame) (l : Option Types) (g h : Types) (p : Statements) → TypedStatements c l g p h → Extends h g
extends_statements c _ _ _ _ (nothing l g) y z i = i
extends_statements c _ _ _ _ (next l g h m a p t q) y z i = extends_statements c l h m p q y z (extends_statement c l g h a t y z i)

-- ---- Loops' exits

-- a loop's body leaves to what follows the loop
pub loops_on : (c : Frame) (l : Option Types) (b g : Types) (stuck : Type 0) → Extends b g → Loops (Alike c.schema g) (exits c (Some b) stuck) (exits c l stuck)
loops_on c l b g stuck e = record { leaves = λ s t i. alike_fewer c.schema b g e s t i; returns = λ v h. h; stuck = λ h. h }

-- ---- Statements

made_one : (o : Option Single) (k : JavaType) → made_of Of o ≡ Some k → false ≡ is_distinct k
made_one (Some a) k e = let same : Of a ≡ k = cc in ap is_distinct same
made_one None k e = absurd cc

made_listed : (o : Option Single) (k : JavaType) → made_of Listed o ≡ Some k → false ≡ is_distinct k
made_listed (Some a) k e = let same : Listed a ≡ k = cc in ap is_distinct same
made_listed None k e = absurd cc

made_distinct : (o : Option Single) (k : JavaType) → made_of Distinct o ≡ Some k → true ≡ is_distinct k
made_distinct (Some a) k e = let same : Distinct a ≡ k = cc in ap is_distinct same
made_distinct None k e = absurd cc

pub spelled_set : (schema : Schema) (ty : Spelled) (k : JavaType) → type_spelled schema ty ≡ Some k → is_set_type ty ≡ is_distinct k
spelled_set schema tree.Int k e = made_one (single_spelled schema tree.Int) k e
spelled_set schema tree.Long k e = made_one (single_spelled schema tree.Long) k e
spelled_set schema tree.Boolean k e = made_one (single_spelled schema tree.Boolean) k e
spelled_set schema tree.String k e = made_one (single_spelled schema tree.String) k e
spelled_set schema tree.BoxedInteger k e = made_one (single_spelled schema tree.BoxedInteger) k e
spelled_set schema tree.BoxedLong k e = made_one (single_spelled schema tree.BoxedLong) k e
spelled_set schema tree.BoxedBoolean k e = made_one (single_spelled schema tree.BoxedBoolean) k e
spelled_set schema (tree.Table name) k e = made_one (single_spelled schema (tree.Table name)) k e
spelled_set schema (tree.ListOf ty) k e = made_listed (single_spelled schema ty) k e
spelled_set schema (tree.SetOf ty) k e = made_distinct (single_spelled schema ty) k e

-- a state that goes on
on_to : (r : Related) (k : Exits) (s t : State) → r s t → Follows r k (done s) (done t)
on_to r k s t h = record { state = t; is = refl; holds = h }

-- the value of an expression, the same in both states
value_then : (c : Frame) (g : Types) (e : Expression) (k : JavaType) → HasType c g e k → (w : World) → IsWorld c w → (l : Option Types) (r : Related) (s t : State) → Alike c.schema g s t → (f f' : Value → Result Passed Ending) → ((v : Value) → IsOf c.schema k v → Follows r (exits c l ⊥) (f v) (f' v)) → Follows r (exits c l ⊥) (value_of e w s.store >>= f) (value_of e w t.store >>= f')
value_then c g e k h w i l r s t a f f' go = follows_value (IsOf c.schema k) r (exits c l ⊥) (value_of e w s.store) (value_of e w t.store) f f' (typed_same c g e k h w s t a) (typed_value c g e k h w s.store i (typed_store c.schema g s t a)) go

-- a variable, the same in both states
held_then : (c : Frame) (g : Types) (x : List ℕ) (k : JavaType) → g x ≡ Some k → (l : Option Types) (r : Related) (s t : State) → Alike c.schema g s t → (f f' : Variable → Result Passed Ending) → ((v : Variable) → IsVariableOf c.schema k v → Follows r (exits c l ⊥) (f v) (f' v)) → Follows r (exits c l ⊥) (found (at_name s.store x) >>= f) (found (at_name t.store x) >>= f')
held_then c g x k e l r s t a f f' go = follows_value (IsVariableOf c.schema k) r (exits c l ⊥) (found (at_name s.store x)) (found (at_name t.store x)) f f' (ap found (held_same c.schema g x k s t e a)) (held_in c.schema g s.store x k (typed_store c.schema g s t a) e) go

-- a part that is the same in both, whatever the states are
part_then : {A : Type 0} (c : Frame) (l : Option Types) (r : Related) (p : A → Type 0) (o : Result A Ending) (f f' : A → Result Passed Ending) → Holds ⊥ p o → ((x : A) → p x → Follows r (exits c l ⊥) (f x) (f' x)) → Follows r (exits c l ⊥) (o >>= f) (o >>= f')
part_then c l r p o f f' h go = follows_value p r (exits c l ⊥) o o f f' refl h go

-- the rows of a list or set, with all that its type says of them
rows_typed : (schema : Schema) (k : JavaType) (a : Single) (v : Value) → Has k a → IsOf schema k v → Holds ⊥ (λ rows. IsOf schema k (Many rows)) (as_rows v)
rows_typed schema _ a (One x) (listed _) h = absurd h
rows_typed schema _ a (Whole row) (listed _) h = absurd h
rows_typed schema _ a (Many rows) (listed _) h = h
rows_typed schema _ a (One x) (distinct _) h = absurd h
rows_typed schema _ a (Whole row) (distinct _) h = absurd h
rows_typed schema _ a (Many rows) (distinct _) h = h

-- a list or a set with one member more
added_typed : (schema : Schema) (k : JavaType) (a : Single) (held : Variable) (rows : List Row) (row : Row) → Has k a → held.is_set ≡ is_distinct k → IsOf schema k (Many rows) → IsMember schema a row → IsOf schema k (Many (added held.is_set rows row))
added_typed schema _ a held rows row (listed _) e h k = all_once (IsMember schema a) held.is_set rows row h k
added_typed schema _ a held rows row (distinct _) e h k = (all_once (IsMember schema a) held.is_set rows row h.0 k, subst (λ b. AreDistinct (added b rows row)) (sym e) (distinct_once rows row h.1))

-- after a statement that goes on
pub narrowed : (c : Frame) (l : Option Types) (k h h' : Types) (f f' : Does) → Extends h h' → Simulates (Alike c.schema k) (Alike c.schema h) (exits c l ⊥) f f' → Simulates (Alike c.schema k) (Alike c.schema h') (exits c l ⊥) f f'
narrowed c l k h h' f f' e r = simulates_wider (Alike c.schema k) (Alike c.schema h) (Alike c.schema k) (Alike c.schema h') (exits c l ⊥) (exits c l ⊥) f f' (λ s t a. a) (alike_fewer c.schema h h' e) (record { leaves = λ s t a. a; returns = λ v a. a; stuck = λ a. a }) r

test_holds : (c : Frame) (g : Types) (e : Expression) → HasType c g e bool → (w : World) → IsWorld c w → (s t : State) → Alike c.schema g s t → Holds ⊥ (λ b. Unit {0}) (test_of e w s.store)
test_holds c g e h w i s t a =
    holds_bind (HasTy tys.Bool) (λ b. Unit {0}) (value_of e w s.store >>= as_scalar) as_bool (holds_bind (IsOf c.schema bool) (HasTy tys.Bool) (value_of e w s.store) as_scalar (typed_value c g e bool h w s.store i (typed_store c.schema g s t a)) (λ v hv. scalar_in c.schema tys.Bool v hv)) (λ x hx. bool_in x hx)

test_then : (c : Frame) (g : Types) (e : Expression) → HasType c g e bool → (w : World) → IsWorld c w → (l : Option Types) (r : Related) (s t : State) → Alike c.schema g s t → (f f' g' g'' : Does) → Follows r (exits c l ⊥) (f s) (f' t) → Follows r (exits c l ⊥) (g' s) (g'' t) → Follows r (exits c l ⊥) (test_of e w s.store >>= λ b. branch b f g' s) (test_of e w t.store >>= λ b. branch b f' g'' t)
test_then c g e h w i l r s t a f f' g' g'' x y =
    follows_value (λ b. Unit {0}) r (exits c l ⊥) (test_of e w s.store) (test_of e w t.store) (λ b. branch b f g' s) (λ b. branch b f' g'' t) (test_same c g e bool h w s t a) (test_holds c g e h w i s t a) (λ b k. follows_branch r (exits c l ⊥) b f g' f' g'' s t x y)

pub each_typed : (c : Frame) (l : Option Types) (g h : Types) (at : Span) (ty : Spelled) (x : List ℕ) (e : Expression) (p q : Statements) (k : JavaType) (a : Single) → g x ≡ None → HasType c g e k → Has k a → Extends h (with_type x (Some (Of a)) g) → (w : World) → IsWorld c w → Simulates (Alike c.schema (with_type x (Some (Of a)) g)) (Alike c.schema h) (exits c (Some (with_type x (Some (Of a)) g)) ⊥) (meanings p w) (meanings q w) → Simulates (Alike c.schema g) (Alike c.schema g) (exits c l ⊥) (meaning (tree.ForEach at ty x e p) w) (meaning (tree.ForEach at ty x e q) w)
each_typed c l g h at ty x e p q k a n t has ex w i sim =
    let new : Extends (with_type x (Some (Of a)) g) g = extends_new g x (Of a) n in
    record { by = λ u v y. value_then c g e k t w i l (Alike c.schema g) u v y (λ z. as_rows z >>= λ rows. each rows x (meanings p w) u) (λ z. as_rows z >>= λ rows. each rows x (meanings q w) v) (λ z hz. part_then c l (Alike c.schema g) (AllByRecursion (IsMember c.schema a)) (as_rows z) (λ rows. each rows x (meanings p w) u) (λ rows. each rows x (meanings q w) v) (rows_in c.schema k a z has hz) (λ rows hr. (simulates_each c.schema g h x a (exits c (Some (with_type x (Some (Of a)) g)) ⊥) (exits c l ⊥) (meanings p w) (meanings q w) (λ z' k' e'. ex z' k' (new z' k' e')) (loops_on c l (with_type x (Some (Of a)) g) g ⊥ new) sim rows hr).by u v y)) }

-- what walks a new list or set does nothing
pub each_new_typed : (c : Frame) (l : Option Types) (g : Types) (at : Span) (ty : Spelled) (x : List ℕ) (e : Expression) (p q : Statements) → IsNew e → (w : World) → Simulates (Alike c.schema g) (Alike c.schema g) (exits c l ⊥) (meaning (tree.ForEach at ty x e p) w) (meaning (tree.ForEach at ty x e q) w)
each_new_typed c l g at ty x _ p q (is_new_list new) w = record { by = λ u v a. on_to (Alike c.schema g) (exits c l ⊥) u v a }
each_new_typed c l g at ty x _ p q (is_new_set new) w = record { by = λ u v a. on_to (Alike c.schema g) (exits c l ⊥) u v a }

pub while_typed : (c : Frame) (l : Option Types) (g h : Types) (at : Span) (e : Expression) (p q : Statements) → HasType c g e bool → Extends h g → (w : World) → IsWorld c w → Simulates (Alike c.schema g) (Alike c.schema h) (exits c (Some g) ⊥) (meanings p w) (meanings q w) → Simulates (Alike c.schema g) (Alike c.schema g) (exits c l ⊥) (meaning (tree.While at e p) w) (meaning (tree.While at e q) w)
while_typed c l g h at e p q t ex w i sim =
    record { by = λ u v y. (simulates_repeat c.schema g h (exits c (Some g) ⊥) (exits c l ⊥) (test_of e w) (meanings p w) (meanings q w) ex (loops_on c l g g ⊥ (λ z k' e'. e')) (record { same = λ s s' a. test_same c g e bool t w s s' a; holds = λ s s' a. test_holds c g e t w i s s' a }) sim u.turns v.turns y.turns).by u v y }

pub if_typed : (c : Frame) (l : Option Types) (g h : Types) (at : Span) (e : Expression) (p q : Statements) → HasType c g e bool → Extends h g → (w : World) → IsWorld c w → Simulates (Alike c.schema g) (Alike c.schema h) (exits c l ⊥) (meanings p w) (meanings q w) → Simulates (Alike c.schema g) (Alike c.schema g) (exits c l ⊥) (meaning (tree.If at e p) w) (meaning (tree.If at e q) w)
if_typed c l g h at e p q t ex w i sim =
    record { by = λ u v y. test_then c g e t w i l (Alike c.schema g) u v y (meanings p w) (meanings q w) done done ((narrowed c l g h g (meanings p w) (meanings q w) ex sim).by u v y) (on_to (Alike c.schema g) (exits c l ⊥) u v y) }

pub choose_typed : (c : Frame) (l : Option Types) (g h h' : Types) (at : Span) (e : Expression) (p p' q q' : Statements) → HasType c g e bool → Extends h g → Extends h' g → (w : World) → IsWorld c w → Simulates (Alike c.schema g) (Alike c.schema h) (exits c l ⊥) (meanings p w) (meanings p' w) → Simulates (Alike c.schema g) (Alike c.schema h') (exits c l ⊥) (meanings q w) (meanings q' w) → Simulates (Alike c.schema g) (Alike c.schema g) (exits c l ⊥) (meaning (tree.IfElse at e p q) w) (meaning (tree.IfElse at e p' q') w)
choose_typed c l g h h' at e p p' q q' t ex ex' w i sim sim' =
    record { by = λ u v y. test_then c g e t w i l (Alike c.schema g) u v y (meanings p w) (meanings p' w) (meanings q w) (meanings q' w) ((narrowed c l g h g (meanings p w) (meanings p' w) ex sim).by u v y) ((narrowed c l g h' g (meanings q w) (meanings q' w) ex' sim').by u v y) }

mutual
  pub typed_statement : (c : Frame) (l : Option Types) (g : Types) (a : Statement) (h : Types) → TypedStatement c l g a h → (w : World) → IsWorld c w → Simulates (Alike c.schema g) (Alike c.schema h) (exits c l ⊥) (meaning a w) (meaning a w)
  typed_statement c _ _ _ _ (declare l g at ty x e k n s t) w i =
      record { by = λ u v a. value_then c g e k t w i l (Alike c.schema (with_type x (Some k) g)) u v a _ _ (λ z hz. on_to (Alike c.schema (with_type x (Some k) g)) (exits c l ⊥) _ _ (alike_put c.schema g u v x k (record { value = z; is_set = is_set_type ty }) (record { value = hz; set = spelled_set c.schema ty k s }) a)) }
  typed_statement c _ _ _ _ (assign l g at x e k n t) w i =
      record { by = λ u v a. value_then c g e k t w i l (Alike c.schema g) u v a (λ z. found (at_name u.store x) >>= λ held. done (with_value u x held z)) (λ z. found (at_name v.store x) >>= λ held. done (with_value v x held z)) (λ z hz. held_then c g x k n l (Alike c.schema g) u v a (λ held. done (with_value u x held z)) (λ held. done (with_value v x held z)) (λ held hh. on_to (Alike c.schema g) (exits c l ⊥) (with_value u x held z) (with_value v x held z) (alike_set c.schema g u v x k (record { value = z; is_set = held.is_set }) n (record { value = hz; set = hh.set }) a))) }
  typed_statement c _ _ _ _ (add l g at x e k b n has t) w i =
      record { by = λ u v a. value_then c g e (Of b) t w i l (Alike c.schema g) u v a (λ z. as_member z >>= λ row. found (at_name u.store x) >>= λ held. as_rows held.value >>= λ rows. done (with_value u x held (Many (added held.is_set rows row)))) (λ z. as_member z >>= λ row. found (at_name v.store x) >>= λ held. as_rows held.value >>= λ rows. done (with_value v x held (Many (added held.is_set rows row)))) (λ z hz. part_then c l (Alike c.schema g) (IsMember c.schema b) (as_member z) (λ row. found (at_name u.store x) >>= λ held. as_rows held.value >>= λ rows. done (with_value u x held (Many (added held.is_set rows row)))) (λ row. found (at_name v.store x) >>= λ held. as_rows held.value >>= λ rows. done (with_value v x held (Many (added held.is_set rows row)))) (member_in c.schema b z hz) (λ row hr. held_then c g x k n l (Alike c.schema g) u v a (λ held. as_rows held.value >>= λ rows. done (with_value u x held (Many (added held.is_set rows row)))) (λ held. as_rows held.value >>= λ rows. done (with_value v x held (Many (added held.is_set rows row)))) (λ held hh. part_then c l (Alike c.schema g) (λ rows. IsOf c.schema k (Many rows)) (as_rows held.value) (λ rows. done (with_value u x held (Many (added held.is_set rows row)))) (λ rows. done (with_value v x held (Many (added held.is_set rows row)))) (rows_typed c.schema k b held.value has hh.value) (λ rows hs. on_to (Alike c.schema g) (exits c l ⊥) (with_value u x held (Many (added held.is_set rows row))) (with_value v x held (Many (added held.is_set rows row))) (alike_set c.schema g u v x k (record { value = Many (added held.is_set rows row); is_set = held.is_set }) n (record { value = added_typed c.schema k b held rows row has hh.set hs hr; set = hh.set }) a))))) }
  typed_statement c _ _ _ _ (sort l g at x keys down b n) w i =
      record { by = λ u v a. held_then c g x (Listed b) n l (Alike c.schema g) u v a (λ held. as_rows held.value >>= λ rows. done (with_value u x held (Many (stable_sort (in_order w.schema keys down) rows)))) (λ held. as_rows held.value >>= λ rows. done (with_value v x held (Many (stable_sort (in_order w.schema keys down) rows)))) (λ held hh. part_then c l (Alike c.schema g) (AllByRecursion (IsMember c.schema b)) (as_rows held.value) (λ rows. done (with_value u x held (Many (stable_sort (in_order w.schema keys down) rows)))) (λ rows. done (with_value v x held (Many (stable_sort (in_order w.schema keys down) rows)))) (rows_in c.schema (Listed b) b held.value (listed b) hh.value) (λ rows hr. on_to (Alike c.schema g) (exits c l ⊥) (with_value u x held (Many (stable_sort (in_order w.schema keys down) rows))) (with_value v x held (Many (stable_sort (in_order w.schema keys down) rows))) (alike_set c.schema g u v x (Listed b) (record { value = Many (stable_sort (in_order w.schema keys down) rows); is_set = held.is_set }) n (record { value = all_sorted (IsMember c.schema b) (in_order w.schema keys down) rows hr; set = hh.set }) a))) }
  typed_statement c _ _ _ _ (when l g h at e p t q) w i = if_typed c l g h at e p p t (extends_statements c l g h p q) w i (typed_statements c l g p h q w i)
  typed_statement c _ _ _ _ (choose l g h h' at e p q t r s) w i = choose_typed c l g h h' at e p p q q t (extends_statements c l g h p r) (extends_statements c l g h' q s) w i (typed_statements c l g p h r w i) (typed_statements c l g q h' s w i)
  typed_statement c _ _ _ _ (for_each l g h at ty x e p k b n t has q) w i = each_typed c l g h at ty x e p p k b n t has (extends_statements c (Some (with_type x (Some (Of b)) g)) (with_type x (Some (Of b)) g) h p q) w i (typed_statements c (Some (with_type x (Some (Of b)) g)) (with_type x (Some (Of b)) g) p h q w i)
  typed_statement c _ _ _ _ (for_each_new l g h at ty x e p k n s new q) w i = each_new_typed c l g at ty x e p p new w
  typed_statement c _ _ _ _ (while_true l g h at e p t q) w i = while_typed c l g h at e p p t (extends_statements c (Some g) g h p q) w i (typed_statements c (Some g) g p h q w i)
  typed_statement c _ _ _ _ (print l g at e ty t) w i =
      record { by = λ u v a. value_then c g e (Of (ScalarOf ty)) t w i l (Alike c.schema g) u v a (λ z. as_scalar z >>= λ x. done (with_line u (printed x))) (λ z. as_scalar z >>= λ x. done (with_line v (printed x))) (λ z hz. part_then c l (Alike c.schema g) (HasTy ty) (as_scalar z) (λ x. done (with_line u (printed x))) (λ x. done (with_line v (printed x))) (scalar_in c.schema ty z hz) (λ x hx. on_to (Alike c.schema g) (exits c l ⊥) (with_line u (printed x)) (with_line v (printed x)) (alike_line c.schema g u v (printed x) a))) }
  typed_statement c _ _ _ _ (return_none l g at n) w i = record { by = λ u v a. (record { state = v; is = refl; lines = a.lines }, subst (λ o. IsResult c.schema o None) (sym n) tt) }
  typed_statement c _ _ _ _ (return_value l g at e k n t) w i =
      record { by = λ u v a. value_then c g e k t w i l (Alike c.schema g) u v a (λ z. Ok (Returns u (Some z))) (λ z. Ok (Returns v (Some z))) (λ z hz. (record { state = v; is = refl; lines = a.lines }, subst (λ o. IsResult c.schema o (Some z)) (sym n) hz)) }
  typed_statement c _ _ _ _ (leave b g at ex) w i = record { by = λ u v a. record { state = v; is = refl; holds = alike_fewer c.schema g b ex u v a } }

  pub typed_statements : (c : Frame) (l : Option Types) (g : Types) (p : Statements) (h : Types) → TypedStatements c l g p h → (w : World) → IsWorld c w → Simulates (Alike c.schema g) (Alike c.schema h) (exits c l ⊥) (meanings p w) (meanings p w)
  typed_statements c _ _ _ _ (nothing l g) w i = simulates_done (Alike c.schema g) (Alike c.schema g) (exits c l ⊥) (λ s t a. a)
  typed_statements c _ _ _ _ (next l g h m a p t q) w i = simulates_then (Alike c.schema g) (Alike c.schema h) (Alike c.schema m) (exits c l ⊥) (meaning a w) (meaning a w) (meanings p w) (meanings p w) (typed_statement c l g a h t w i) (typed_statements c l h p m q w i)
