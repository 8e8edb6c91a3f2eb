-- What a typing says of each form, and of the value of a typed query.
use Rattle.std.proofs.Common.{◌≡◌, ℕ, List, Option, Some, None, refl}
use Rattle.java_ast.specs.Tree as tree
use Rattle.java_ast.specs.Tree.{Spelled, Expression, Statement, Statements, Nothing, Then}
use Rattle.java_mean.specs.declared.types.JavaType.{JavaType}
use Rattle.java_mean.specs.declared.types.JavaType.TheVariants.{Of}
use Rattle.java_mean.specs.declared.types.Single.{Single}
use Rattle.java_mean.specs.Types.{Types, with_type, type_spelled}
use Rattle.java_mean.specs.Typing.{QueryType, Frame, Has, HasType, lit, var, field, binary, negated, equals, size, get, contains, fetch, query, query_long, query_boolean, new_list, new_set, new_set_of, HaveTypes, IsNew, bool, TypedStatement, declare, assign, add, sort, when, choose, for_each, for_each_new, while_true, print, return_none, return_value, leave, TypedStatements, done as nothing, next}

-- a declaration
pub record DeclareTyped (c : Frame) (g : Types) (ty : Spelled) (x : List ℕ) (e : Expression) (h : Types) : Type 0 where
  pub type : JavaType
  pub new : g x ≡ None
  pub spelled : type_spelled c.schema ty ≡ Some type
  pub typed : HasType c g e type
  pub end : h ≡ with_type x (Some type) g

pub record IfTyped (c : Frame) (l : Option Types) (g : Types) (e : Expression) (p : Statements) (h : Types) : Type 0 where
  pub inner : Types
  pub test : HasType c g e bool
  pub typed : TypedStatements c l g p inner
  pub end : h ≡ g

pub record ChooseTyped (c : Frame) (l : Option Types) (g : Types) (e : Expression) (p q : Statements) (h : Types) : Type 0 where
  pub inner : Types
  pub other : Types
  pub test : HasType c g e bool
  pub typed : TypedStatements c l g p inner
  pub otherwise : TypedStatements c l g q other
  pub end : h ≡ g

pub data EachTyped (c : Frame) (g : Types) (x : List ℕ) (e : Expression) (p : Statements) : Types → Type 0 where
  over : (k : JavaType) (a : Single) (h : Types) → g x ≡ None → HasType c g e k → Has k a → TypedStatements c (Some (with_type x (Some (Of a)) g)) (with_type x (Some (Of a)) g) p h → EachTyped c g x e p g
  fresh : (k : JavaType) (h : Types) → g x ≡ None → IsNew e → TypedStatements c (Some (with_type x (Some k) g)) (with_type x (Some k) g) p h → EachTyped c g x e p g

pub record WhileTyped (c : Frame) (g : Types) (e : Expression) (p : Statements) (h : Types) : Type 0 where
  pub inner : Types
  pub test : HasType c g e bool
  pub typed : TypedStatements c (Some g) g p inner
  pub end : h ≡ g

abbrev pub Typing : Frame → Option Types → Types → Statement → Types → Type 0
Typing c l g (tree.Declare at ty x e) h = DeclareTyped c g ty x e h
Typing c l g (tree.If at e p) h = IfTyped c l g e p h
Typing c l g (tree.IfElse at e p q) h = ChooseTyped c l g e p q h
Typing c l g (tree.ForEach at ty x e p) h = EachTyped c g x e p h
Typing c l g (tree.While at e p) h = WhileTyped c g e p h
Typing c l g a h = Unit {0}

pub typing : (c : Frame) (l : Option Types) (g : Types) (a : Statement) (h : Types) → TypedStatement c l g a h → Typing c l g a h
typing c _ _ _ _ (declare l g at ty x e k n s t) = record { type = k; new = n; spelled = s; typed = t; end = refl }
typing c _ _ _ _ (assign l g at x e k n t) = tt
typing c _ _ _ _ (add l g at x e k a n has t) = tt
typing c _ _ _ _ (sort l g at x keys down a n) = tt
typing c _ _ _ _ (when l g h at e p t q) = record { inner = h; test = t; typed = q; end = refl }
typing c _ _ _ _ (choose l g h h' at e p q t r s) = record { inner = h; other = h'; test = t; typed = r; otherwise = s; end = refl }
typing c _ _ _ _ (for_each l g h at ty x e p k a n t has q) = over k a h n t has q
typing c _ _ _ _ (for_each_new l g h at ty x e p k n s new q) = fresh k h n new q
typing c _ _ _ _ (while_true l g h at e p t q) = record { inner = h; test = t; typed = q; end = refl }
typing c _ _ _ _ (print l g at e ty t) = tt
typing c _ _ _ _ (return_none l g at n) = tt
typing c _ _ _ _ (return_value l g at e k n t) = tt
typing c _ _ _ _ (leave b g at n) = tt

pub record ThenTyped (c : Frame) (l : Option Types) (g : Types) (a : Statement) (p : Statements) (m : Types) : Type 0 where
  pub between : Types
  pub one : TypedStatement c l g a between
  pub rest : TypedStatements c l between p m

abbrev pub Typings : Frame → Option Types → Types → Statements → Types → Type 0
Typings c l g Nothing m = Unit {0}
Typings c l g (Then a p) m = ThenTyped c l g a p m

pub typings : (c : Frame) (l : Option Types) (g : Types) (p : Statements) (m : Types) → TypedStatements c l g p m → Typings c l g p m
typings c _ _ _ _ (nothing l g) = tt
typings c _ _ _ _ (next l g h m a p t q) = record { between = h; one = t; rest = q }

-- ---- Queries and variables

pub record QueryTyped (c : Frame) (g : Types) (text : List ℕ) (es : tree.Expressions) (k : JavaType) : Type 0 where
  pub type : QueryType
  pub asks : c.asks text ≡ Some type
  pub typed : HaveTypes c g es type.params
  pub answer : k ≡ type.answer

abbrev pub ValueTyping : Frame → Types → Expression → JavaType → Type 0
ValueTyping c g (tree.Query at ty text es) k = QueryTyped c g text es k
ValueTyping c g (tree.Var at x) k = g x ≡ Some k
ValueTyping c g e k = Unit {0}

pub value_typing : (c : Frame) (g : Types) (e : Expression) (k : JavaType) → HasType c g e k → ValueTyping c g e k
value_typing c g _ _ (lit at x ty h) = tt
value_typing c g _ _ (var at x k e) = e
value_typing c g _ _ (field at e f n i column h q r) = tt
value_typing c g _ _ (binary at op a b from to o h k) = tt
value_typing c g _ _ (negated at e h) = tt
value_typing c g _ _ (equals at a b h k) = tt
value_typing c g _ _ (size at x k a e has) = tt
value_typing c g _ _ (get at x e a q h) = tt
value_typing c g _ _ (contains at x e k ty q has h) = tt
value_typing c g _ _ (fetch at t n e) = tt
value_typing c g _ _ (query at ty text es q e h) = record { type = q; asks = e; typed = h; answer = refl }
value_typing c g _ _ (query_long at text es q e h) = tt
value_typing c g _ _ (query_boolean at text es q e h) = tt
value_typing c g _ _ (new_list at a) = tt
value_typing c g _ _ (new_set at a) = tt
value_typing c g _ _ (new_set_of at e a h) = tt
