-- States that agree on typed variables.
use Rattle.std.proofs.Common.{◌≡◌, ℕ, zero, suc, ◌≤◌, Bool, true, false, List, [], ◌∷◌, ◌++◌, Option, Some, None, Ok, refl, sym, ap, ◌∙◌, subst, cond, arith}
use Rattle.std.specs.Prelude.{bytes_eq}
use Rattle.qbs_base.specs.declared.scalar.Ty.{Ty}
use Rattle.qbs_base.specs.Named.{at_name}
use Rattle.qbs_base.specs.Values.{Schema}
use Rattle.java_ast.specs.Tree.{Expression, Expressions}
use Rattle.java_mean.specs.Endings.{◌>>=◌, found}
use Rattle.java_mean.specs.Expression.{value_of, scalars_of, as_scalar, as_bool}
use Rattle.java_mean.specs.Refines.{Related, Exits, Follows, Common, Alike}
use Rattle.java_mean.specs.Statement.{State, Does, fewer, turn, with_variable, with_line, test_of}
use Rattle.java_mean.specs.Store.{Store, Variable, put}
use Rattle.java_mean.specs.Types.{JavaType, Types, with_type, IsVariableOf, IsTyped}
use Rattle.java_mean.specs.Typing.{Frame, HasType, lit, var, field, binary, negated, equals, size, get, contains, fetch, query, query_long, query_boolean, new_list, new_set, new_set_of, HaveTypes, no_more, and, Extends}
use Rattle.java_mean.specs.World.{World}
use Rattle.java_mean.proofs.Puts.{names_equal, put_same, put_other}

-- ---- After a write

some_same : {A : Type 0} (o : Option A) (a b : A) → o ≡ Some a → o ≡ Some b → a ≡ b
some_same o a b e h = cc

pub put_at : (s : Store) (x y : List ℕ) (v : Variable) → bytes_eq x y ≡ true → at_name (put s x v) y ≡ Some v
put_at s x y v e = ap (at_name (put s x v)) (sym (names_equal x y e)) ∙ put_same s x v

pub alike_fewer : (schema : Schema) (h g : Types) → Extends h g → (s t : State) → Alike schema h s t → Alike schema g s t
alike_fewer schema h g k s t a = record { store = λ x y e. a.store x y (k x y e); lines = a.lines; turns = a.turns }

pub common_put : (schema : Schema) (g : Types) (s t : Store) (x y : List ℕ) (k k' : JavaType) (v : Variable) (p : Bool) → bytes_eq x y ≡ p → IsVariableOf schema k v → (g y ≡ Some k' → Common schema k' (at_name s y) (at_name t y)) → cond p (Some k) (g y) ≡ Some k' → Common schema k' (at_name (put s x v) y) (at_name (put t x v) y)
common_put schema g s t x y k k' v true q i h e = record { held = v; typed = subst (λ z. IsVariableOf schema z v) (some_same (Some k) k k' refl e) i; left = put_at s x y v q; right = put_at t x y v q }
common_put schema g s t x y k k' v false q i h e =
    let u : Common schema k' (at_name s y) (at_name t y) = h e in
    record { held = u.held; typed = u.typed; left = put_other s x y v q ∙ u.left; right = put_other t x y v q ∙ u.right }

pub alike_put : (schema : Schema) (g : Types) (s t : State) (x : List ℕ) (k : JavaType) (v : Variable) → IsVariableOf schema k v → Alike schema g s t → Alike schema (with_type x (Some k) g) (with_variable s x v) (with_variable t x v)
alike_put schema g s t x k v i a = record { store = λ y k' e. common_put schema g s.store t.store x y k k' v (bytes_eq x y) refl i (a.store y k') e; lines = a.lines; turns = a.turns }

new_step : (g : Types) (x y : List ℕ) (k k' : JavaType) (p : Bool) → bytes_eq x y ≡ p → g x ≡ None → g y ≡ Some k' → cond p (Some k) (g y) ≡ Some k'
new_step g x y k k' true q e h = let n : g x ≡ g y = ap g (names_equal x y q) in absurd cc
new_step g x y k k' false q e h = h

same_step : (g : Types) (x y : List ℕ) (k k' : JavaType) (p : Bool) → bytes_eq x y ≡ p → g x ≡ Some k → g y ≡ Some k' → cond p (Some k) (g y) ≡ Some k'
same_step g x y k k' true q e h = sym e ∙ ap g (names_equal x y q) ∙ h
same_step g x y k k' false q e h = h

pub extends_new : (g : Types) (x : List ℕ) (k : JavaType) → g x ≡ None → Extends (with_type x (Some k) g) g
extends_new g x k e y k' h = new_step g x y k k' (bytes_eq x y) refl e h

extends_same : (g : Types) (x : List ℕ) (k : JavaType) → g x ≡ Some k → Extends (with_type x (Some k) g) g
extends_same g x k e y k' h = same_step g x y k k' (bytes_eq x y) refl e h

pub alike_set : (schema : Schema) (g : Types) (s t : State) (x : List ℕ) (k : JavaType) (v : Variable) → g x ≡ Some k → IsVariableOf schema k v → Alike schema g s t → Alike schema g (with_variable s x v) (with_variable t x v)
alike_set schema g s t x k v e i a = alike_fewer schema (with_type x (Some k) g) g (extends_same g x k e) (with_variable s x v) (with_variable t x v) (alike_put schema g s t x k v i a)

pub alike_line : (schema : Schema) (g : Types) (s t : State) (line : List ℕ) → Alike schema g s t → Alike schema g (with_line s line) (with_line t line)
alike_line schema g s t line a = record { store = a.store; lines = ap (λ (l : List (List ℕ)). l ++ line ∷ []) a.lines; turns = a.turns }

pub typed_store : (schema : Schema) (g : Types) (s t : State) → Alike schema g s t → IsTyped schema g s.store
typed_store schema g s t a = record { held = λ x k e. (let v : Common schema k (at_name s.store x) (at_name t.store x) = a.store x k e in (v.held, v.left, v.typed)) }

-- ---- After a turn

fewer_follows : (schema : Schema) (g : Types) (r : Related) (k : Exits) (n m : ℕ) (s t : Store) (l l' : List (List ℕ)) (f f' : Does) → ((x : List ℕ) (y : JavaType) → g x ≡ Some y → Common schema y (at_name s x) (at_name t x)) → l ≡ l' → n ≤ m → ((u w : State) → Alike schema g u w → Follows r k (f u) (f' w)) → Follows r k (fewer n s l >>= f) (fewer m t l' >>= f')
fewer_follows schema g r k zero m s t l l' f f' a e le h = tt
fewer_follows schema g r k (suc n) zero s t l l' f f' a e le h = absurd (omega arith)
fewer_follows schema g r k (suc n) (suc m) s t l l' f f' a e le h = h (record { store = s; lines = l; turns = n }) (record { store = t; lines = l'; turns = m }) (record { store = a; lines = e; turns = omega arith })

pub turn_follows : (schema : Schema) (g : Types) (r : Related) (k : Exits) (s t : State) (f f' : Does) → Alike schema g s t → ((u w : State) → Alike schema g u w → Follows r k (f u) (f' w)) → Follows r k (turn s >>= f) (turn t >>= f')
turn_follows schema g r k s t f f' a h = fewer_follows schema g r k s.turns t.turns s.store t.store s.lines t.lines f f' a.store a.lines a.turns h

-- ---- Expressions

pub held_same : (schema : Schema) (g : Types) (x : List ℕ) (k : JavaType) (s t : State) → g x ≡ Some k → Alike schema g s t → at_name s.store x ≡ at_name t.store x
held_same schema g x k s t e a = let v : Common schema k (at_name s.store x) (at_name t.store x) = a.store x k e in v.left ∙ sym v.right

mutual
  pub typed_same : (c : Frame) (g : Types) (e : Expression) (k : JavaType) → HasType c g e k → (w : World) (s t : State) → Alike c.schema g s t → value_of e w s.store ≡ value_of e w t.store
  typed_same c g _ _ (lit at x ty h) w s t a = refl
  typed_same c g _ _ (var at x k e) w s t a = ap (λ o. found o >>= λ held. Ok held.value) (held_same c.schema g x k s t e a)
  typed_same c g _ _ (field at e f n i column h q r) w s t a = simp (typed_same c g e _ h w s t a)
  typed_same c g _ _ (binary at op a b from to o h k) w s t x = simp (typed_same c g a _ h w s t x, typed_same c g b _ k w s t x)
  typed_same c g _ _ (negated at e h) w s t a = simp (typed_same c g e _ h w s t a)
  typed_same c g _ _ (equals at a b h k) w s t x = simp (typed_same c g a _ h w s t x, typed_same c g b _ k w s t x)
  typed_same c g _ _ (size at x k a e has) w s t i = simp (held_same c.schema g x k s t e i)
  typed_same c g _ _ (get at x e a q h) w s t i = simp (held_same c.schema g x _ s t q i, typed_same c g e _ h w s t i)
  typed_same c g _ _ (contains at x e k ty q has h) w s t i = simp (held_same c.schema g x k s t q i, typed_same c g e _ h w s t i)
  typed_same c g _ _ (fetch at n j e) w s t a = refl
  typed_same c g _ _ (query at ty text es q e h) w s t a = simp (all_same c g es q.params h w s t a)
  typed_same c g _ _ (query_long at text es q e h) w s t a = simp (all_same c g es q.params h w s t a)
  typed_same c g _ _ (query_boolean at text es q e h) w s t a = simp (all_same c g es q.params h w s t a)
  typed_same c g _ _ (new_list at a) w s t i = refl
  typed_same c g _ _ (new_set at a) w s t i = refl
  typed_same c g _ _ (new_set_of at e a h) w s t i = simp (typed_same c g e _ h w s t i)

  all_same : (c : Frame) (g : Types) (es : Expressions) (types : List Ty) → HaveTypes c g es types → (w : World) (s t : State) → Alike c.schema g s t → scalars_of es w s.store ≡ scalars_of es w t.store
  all_same c g _ _ no_more w s t a = refl
  all_same c g _ _ (and e es ty types h k) w s t a = simp (typed_same c g e _ h w s t a, all_same c g es types k w s t a)

pub test_same : (c : Frame) (g : Types) (e : Expression) (k : JavaType) → HasType c g e k → (w : World) (s t : State) → Alike c.schema g s t → test_of e w s.store ≡ test_of e w t.store
test_same c g e k h w s t a = ap (λ o. o >>= as_scalar >>= as_bool) (typed_same c g e k h w s t a)
