-- The parts of typed statements, and names that are visible and new.
use Rattle.std.proofs.Common.{◌≡◌, Bool, true, false, List, ℕ, Option, Some, None, refl, ap, cond, bytes_eq, sym, subst}
use Rattle.std.proofs.lemmas.Bool.{false_from_ne_true}
use Rattle.qbs_base.specs.declared.span.Span.{Span}
use Rattle.java_ast.specs.Tree as tree
use Rattle.java_ast.specs.Tree.{Spelled, Expression, Statement, Statements, Nothing, Then}
use Rattle.java_mean.specs.declared.types.JavaType.{JavaType}
use Rattle.java_mean.specs.declared.types.JavaType.TheVariants.{Of}
use Rattle.java_mean.specs.declared.types.Single.{Single}
use Rattle.java_mean.specs.Types.{Types, with_type, type_spelled}
use Rattle.java_mean.specs.Typing.{Frame, Has, HasType, IsNew, bool, TypedStatement, declare, assign, add, sort, when, choose, for_each, for_each_new, while_true, print, return_none, return_value, leave, TypedStatements, done, next}
use Rattle.java_mean.proofs.Puts.{names_equal}
use Rattle.java_loops.proofs.Walks.Asking.{other_way}
use Rattle.loop_text.specs.Statements.Fragment.{is_name}
use Rattle.loop_text.specs.Sites.Sites.{counted_row}

-- ---- Parts

pub record TypedNext (c : Frame) (l : Option Types) (g : Types) (s : Statement) (p : Statements) : Type 0 where
  pub middle : Types
  pub last : Types
  pub first : TypedStatement c l g s middle
  pub rest : TypedStatements c l middle p last

pub typed_next : (c : Frame) (l : Option Types) (g z : Types) (s : Statement) (p : Statements) → TypedStatements c l g (Then s p) z → TypedNext c l g s p
typed_next c _ _ _ _ _ (next l g h m s p t u) = record { middle = h; last = m; first = t; rest = u }

pub record TypedBranch (c : Frame) (l : Option Types) (g : Types) (p : Statements) : Type 0 where
  pub last : Types
  pub body : TypedStatements c l g p last

pub record TypedIf (c : Frame) (l : Option Types) (g : Types) (e : Expression) (p : Statements) : Type 0 where
  pub test : HasType c g e bool
  pub branch : TypedBranch c l g p

pub typed_if : (c : Frame) (l : Option Types) (g z : Types) (at : Span) (e : Expression) (p : Statements) → TypedStatement c l g (tree.If at e p) z → TypedIf c l g e p
typed_if c _ _ _ _ _ _ (when l g h at e p t u) = record { test = t; branch = record { last = h; body = u } }

pub record TypedChoice (c : Frame) (l : Option Types) (g : Types) (e : Expression) (p q : Statements) : Type 0 where
  pub test : HasType c g e bool
  pub branch : TypedBranch c l g p
  pub other : TypedBranch c l g q

pub typed_choice : (c : Frame) (l : Option Types) (g z : Types) (at : Span) (e : Expression) (p q : Statements) → TypedStatement c l g (tree.IfElse at e p q) z → TypedChoice c l g e p q
typed_choice c _ _ _ _ _ _ _ (choose l g h h' at e p q t u v) = record { test = t; branch = record { last = h; body = u }; other = record { last = h'; body = v } }

-- a for-each over a typed list, or over a new list or set
pub data TypedEach (c : Frame) (g : Types) (x : List ℕ) (e : Expression) (p : Statements) : Type 0 where
  over : (h : Types) (k : JavaType) (a : Single) → g x ≡ None → HasType c g e k → Has k a → TypedStatements c (Some (with_type x (Some (Of a)) g)) (with_type x (Some (Of a)) g) p h → TypedEach c g x e p
  over_new : (h : Types) (k : JavaType) → g x ≡ None → IsNew e → TypedStatements c (Some (with_type x (Some k) g)) (with_type x (Some k) g) p h → TypedEach c g x e p

pub typed_each : (c : Frame) (l : Option Types) (g z : Types) (at : Span) (ty : Spelled) (x : List ℕ) (e : Expression) (p : Statements) → TypedStatement c l g (tree.ForEach at ty x e p) z → TypedEach c g x e p
typed_each c _ _ _ _ _ _ _ _ (for_each l g h at ty x e p k a n t has u) = over h k a n t has u
typed_each c _ _ _ _ _ _ _ _ (for_each_new l g h at ty x e p k n s new u) = over_new h k n new u

pub record TypedWhile (c : Frame) (g : Types) (e : Expression) (p : Statements) : Type 0 where
  pub test : HasType c g e bool
  pub branch : TypedBranch c (Some g) g p

pub typed_while : (c : Frame) (l : Option Types) (g z : Types) (at : Span) (e : Expression) (p : Statements) → TypedStatement c l g (tree.While at e p) z → TypedWhile c g e p
typed_while c _ _ _ _ _ _ (while_true l g h at e p t u) = record { test = t; branch = record { last = h; body = u } }

pub record TypedDeclare (c : Frame) (g z : Types) (ty : Spelled) (x : List ℕ) (e : Expression) : Type 0 where
  pub type : JavaType
  pub new : g x ≡ None
  pub spelled : type_spelled c.schema ty ≡ Some type
  pub value : HasType c g e type
  pub after : z ≡ with_type x (Some type) g

pub typed_declare : (c : Frame) (l : Option Types) (g : Types) (at : Span) (ty : Spelled) (x : List ℕ) (e : Expression) (z : Types) → TypedStatement c l g (tree.Declare at ty x e) z → TypedDeclare c g z ty x e
typed_declare c _ _ _ _ _ _ _ (declare l g at ty x e k n q t) = record { type = k; new = n; spelled = q; value = t; after = refl }

pub record TypedAssign (c : Frame) (g z : Types) (x : List ℕ) (e : Expression) : Type 0 where
  pub type : JavaType
  pub seen : g x ≡ Some type
  pub value : HasType c g e type
  pub after : z ≡ g

pub typed_assign : (c : Frame) (l : Option Types) (g z : Types) (at : Span) (x : List ℕ) (e : Expression) → TypedStatement c l g (tree.Assign at x e) z → TypedAssign c g z x e
typed_assign c _ _ _ _ _ _ (assign l g at x e k n t) = record { type = k; seen = n; value = t; after = refl }

pub record TypedAdd (c : Frame) (g z : Types) (x : List ℕ) (e : Expression) : Type 0 where
  pub type : JavaType
  pub member : Single
  pub seen : g x ≡ Some type
  pub has : Has type member
  pub value : HasType c g e (Of member)
  pub after : z ≡ g

pub typed_add : (c : Frame) (l : Option Types) (g z : Types) (at : Span) (x : List ℕ) (e : Expression) → TypedStatement c l g (tree.Add at x e) z → TypedAdd c g z x e
typed_add c _ _ _ _ _ _ (add l g at x e k a n has t) = record { type = k; member = a; seen = n; has = has; value = t; after = refl }

-- ---- New names

-- a name that is visible is none that isn't
pub new_other : (g : Types) (x y : List ℕ) (k : JavaType) → g y ≡ None → g x ≡ Some k → bytes_eq y x ≡ false
new_other g x y k n s = false_from_ne_true (bytes_eq y x) (λ e. let q : g y ≡ g x = ap g (names_equal y x e) in absurd cc)

seen_step : (g : Types) (x y : List ℕ) (o : Option JavaType) (k : JavaType) (b : Bool) → bytes_eq y x ≡ b → b ≡ false → g x ≡ Some k → cond b o (g x) ≡ Some k
seen_step g x y o k true e f s = absurd cc
seen_step g x y o k false e f s = s

-- what is visible stays so where a new name is declared
pub seen_with : (g : Types) (x y : List ℕ) (o : Option JavaType) (k : JavaType) → g y ≡ None → g x ≡ Some k → with_type y o g x ≡ Some k
seen_with g x y o k n s = seen_step g x y o k (bytes_eq y x) refl (new_other g x y k n s) s

-- the row that a loop that counts takes is new
pub row_new : (c : Frame) (l : Option Types) (g z : Types) (p : Statements) → TypedStatements c l g p z → (x : List ℕ) (k : JavaType) → g x ≡ Some k → is_name (counted_row p) x ≡ false
row_new c _ _ _ _ (done l g) x k s = refl
row_new c _ _ _ _ (next l g h m _ p (declare _ _ at ty y e j n q t) u) x k s = other_way y x (new_other g x y k n s)
row_new c _ _ _ _ (next l g h m _ p (assign _ _ at y e j n t) u) x k s = refl
row_new c _ _ _ _ (next l g h m _ p (add _ _ at y e j a n has t) u) x k s = refl
row_new c _ _ _ _ (next l g h m _ p (sort _ _ at y keys down a n) u) x k s = refl
row_new c _ _ _ _ (next l g h m _ p (when _ _ i at e q t v) u) x k s = refl
row_new c _ _ _ _ (next l g h m _ p (choose _ _ i j at e q r t v w) u) x k s = refl
row_new c _ _ _ _ (next l g h m _ p (for_each _ _ i at ty y e q j a n t has v) u) x k s = refl
row_new c _ _ _ _ (next l g h m _ p (for_each_new _ _ i at ty y e q j n sp new v) u) x k s = refl
row_new c _ _ _ _ (next l g h m _ p (while_true _ _ i at e q t v) u) x k s = refl
row_new c _ _ _ _ (next l g h m _ p (print _ _ at e ty t) u) x k s = refl
row_new c _ _ _ _ (next l g h m _ p (return_none _ _ at n) u) x k s = refl
row_new c _ _ _ _ (next l g h m _ p (return_value _ _ at e j n t) u) x k s = refl
row_new c _ _ _ _ (next l g h m _ p (leave _ _ at ex) u) x k s = refl

-- names are compared either way
pub swapped : (x y : List ℕ) (b : Bool) → bytes_eq x y ≡ b → bytes_eq y x ≡ b
swapped x y true e = subst (λ z. bytes_eq z x ≡ true) (names_equal x y e) (subst (λ z. bytes_eq x z ≡ true) (sym (names_equal x y e)) e)
swapped x y false e = other_way x y e
