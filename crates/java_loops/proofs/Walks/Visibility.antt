-- What is visible after the kept statements and those that ask, and the program in which they stand.
use Rattle.std.proofs.Common.{◌≡◌, ℕ, Bool, true, false, ◌||◌, List, [], ◌∷◌, ◌++◌, length, Option, Some, None, refl, sym, ap, ◌∙◌, subst, cond}
use Rattle.std.specs.Prelude.{bytes_eq, slice_get}
use Rattle.qbs_base.specs.declared.span.Span.{Span}
use Rattle.qbs_base.specs.Values.{Schema}
use Rattle.java_ast.specs.Tree as tree
use Rattle.java_ast.specs.Tree.{Spelled, Expression, Statement, Statements, Nothing, Then, PlainMethod, PlainProgram}
use Rattle.java_ast.specs.Path.{with_body, with_methods}
use Rattle.java_mean.specs.declared.types.JavaType.{JavaType}
use Rattle.java_mean.specs.Asks.{frame_of}
use Rattle.java_mean.specs.Keeps.{Keeps}
use Rattle.java_mean.specs.Numbers.{NumbersFit}
use Rattle.java_mean.specs.Queries.{Reader}
use Rattle.java_mean.specs.Refines.{Hole, fill, followed_by, loop_at, IsTypedPlace}
use Rattle.java_mean.specs.Types.{Types, with_type, type_spelled, types_after, types_past, types_of_params}
use Rattle.java_mean.specs.Typing.{Frame, Extends, TypedStatement, declare, assign, add, sort, when, choose, for_each, for_each_new, while_true, print, return_none, return_value, leave, TypedStatements, done as nothing, next}
use Rattle.java_mean.specs.WellTyped.{IsWellTyped}
use Rattle.java_mean.proofs.Puts.{names_equal, name_same}
use Rattle.java_mean.proofs.Replacing.{new_left}
use Rattle.java_mean.proofs.TypedPlaces.{places_typed}
use Rattle.java_mean.proofs.TypedRuns.{extends_statement, extends_statements}
use Rattle.java_loops.specs.Walks.Reads.{Set}
use Rattle.loop_text.specs.Statements.Fragment.{set_by}
use Rattle.java_loops.specs.Walks.Runs.{kept}
use Rattle.java_loops.specs.Walks.Replacing.{Ask, asking, asked, is_asked, replacement, run_and_loop, MayGiveWay, seen_at, HasSameType, HaveSameTypes}
use Rattle.java_loops.proofs.Walks.Asking.{gives_way}
use Rattle.java_loops.proofs.Walks.Truth.{or_left, or_right}

-- ---- Types after statements

pub past_followed : (schema : Schema) (g : Types) (p q : Statements) → types_past schema g (followed_by p q) ≡ types_past schema (types_past schema g p) q
past_followed schema g Nothing q = refl
past_followed schema g (Then a p) q = past_followed schema (types_after schema g a) p q

extends_through : (g h k : Types) → Extends g h → Extends h k → Extends g k
extends_through g h k e f x y i = e x y (f x y i)

both_step : (g h : Types) (x y : List ℕ) (o p : Option JavaType) (k : JavaType) (b : Bool) → bytes_eq x y ≡ b → p ≡ o → (h y ≡ Some k → g y ≡ Some k) → cond b p (h y) ≡ Some k → cond b o (g y) ≡ Some k
both_step g h x y o p k true e q i f = sym q ∙ f
both_step g h x y o p k false e q i f = i f

both_declared : (g h : Types) (x : List ℕ) (o p : Option JavaType) → p ≡ o → Extends g h → Extends (with_type x o g) (with_type x p h)
both_declared g h x o p q e y k i = both_step g h x y o p k (bytes_eq x y) refl q (e y k) i

-- where more is visible before a typed statement, more is visible after it
extends_after : (c : Frame) (l : Option Types) (g h : Types) (a : Statement) → TypedStatement c l g a h → (s : Types) → Extends g s → Extends h (types_after c.schema s a)
extends_after c _ _ _ _ (declare l g at ty x e k n q t) s i = both_declared g s x (Some k) (type_spelled c.schema ty) q i
extends_after c _ _ _ _ (assign l g at x e k n t) s i = i
extends_after c _ _ _ _ (add l g at x e k b n has t) s i = i
extends_after c _ _ _ _ (sort l g at x keys down b n) s i = i
extends_after c _ _ _ _ (when l g h at e p t q) s i = i
extends_after c _ _ _ _ (choose l g h h' at e p q t u v) s i = i
extends_after c _ _ _ _ (for_each l g h at ty x e p k b n t has q) s i = i
extends_after c _ _ _ _ (for_each_new l g h at ty x e p k n q new t) s i = i
extends_after c _ _ _ _ (while_true l g h at e p t q) s i = i
extends_after c _ _ _ _ (print l g at e ty t) s i = i
extends_after c _ _ _ _ (return_none l g at n) s i = i
extends_after c _ _ _ _ (return_value l g at e k n t) s i = i
extends_after c _ _ _ _ (leave b g at ex) s i = i

-- what a typed statement leaves visible
typed_after : (c : Frame) (l : Option Types) (g h : Types) (a : Statement) → TypedStatement c l g a h → h ≡ types_after c.schema g a
typed_after c _ _ _ _ (declare l g at ty x e k n q t) = ap (λ o. with_type x o g) (sym q)
typed_after c _ _ _ _ (assign l g at x e k n t) = refl
typed_after c _ _ _ _ (add l g at x e k b n has t) = refl
typed_after c _ _ _ _ (sort l g at x keys down b n) = refl
typed_after c _ _ _ _ (when l g h at e p t q) = refl
typed_after c _ _ _ _ (choose l g h h' at e p q t u v) = refl
typed_after c _ _ _ _ (for_each l g h at ty x e p k b n t has q) = refl
typed_after c _ _ _ _ (for_each_new l g h at ty x e p k n q new t) = refl
typed_after c _ _ _ _ (while_true l g h at e p t q) = refl
typed_after c _ _ _ _ (print l g at e ty t) = refl
typed_after c _ _ _ _ (return_none l g at n) = refl
typed_after c _ _ _ _ (return_value l g at e k n t) = refl
typed_after c _ _ _ _ (leave b g at ex) = refl

pub typed_past : (c : Frame) (l : Option Types) (g z : Types) (p : Statements) → TypedStatements c l g p z → z ≡ types_past c.schema g p
typed_past c _ _ _ _ (nothing l g) = refl
typed_past c _ _ _ _ (next l g h m a p t u) = typed_past c l h m p u ∙ ap (λ k. types_past c.schema k p) (typed_after c l g h a t)

-- typed statements in two parts
pub record TypedNext (c : Frame) (l : Option Types) (g : Types) (a : Statement) (p : Statements) (z : Types) : Type 0 where
  pub middle : Types
  pub first : TypedStatement c l g a middle
  pub rest : TypedStatements c l middle p z

pub next_of : (c : Frame) (l : Option Types) (g : Types) (a : Statement) (p : Statements) (z : Types) → TypedStatements c l g (Then a p) z → TypedNext c l g a p z
next_of c _ _ _ _ _ (next l g h m a p t u) = record { middle = h; first = t; rest = u }

pub record TypedParts (c : Frame) (l : Option Types) (g : Types) (p q : Statements) (z : Types) : Type 0 where
  pub middle : Types
  pub first : TypedStatements c l g p middle
  pub second : TypedStatements c l middle q z

pub typed_parts : (c : Frame) (l : Option Types) (g : Types) (p q : Statements) (z : Types) → TypedStatements c l g (followed_by p q) z → TypedParts c l g p q z
typed_parts c l g Nothing q z t = record { middle = g; first = nothing l g; second = t }
typed_parts c l g (Then a p) q z t =
    let n : TypedNext c l g a (followed_by p q) z = next_of c l g a (followed_by p q) z t in
    let r : TypedParts c l n.middle p q z = typed_parts c l n.middle p q z n.rest in
    record { middle = r.middle; first = next l g n.middle r.middle a p n.first r.first; second = r.second }

-- ---- After the kept statements

kept_visible : (schema : Schema) (z s : Types) (a : Statement) (p : Statements) (b : Bool) → Extends z (types_past schema (types_after schema s a) p) → Extends z (types_past schema s p) → Extends z (types_past schema s (cond b (Then a p) p))
kept_visible schema z s a p true e f = e
kept_visible schema z s a p false e f = f

pub kept_extends : (c : Frame) (l : Option Types) (g z s : Types) (r : Set) (p : Statements) → TypedStatements c l g p z → Extends g s → Extends z (types_past c.schema s (kept r p))
kept_extends c _ _ _ s r _ (nothing l g) e = e
kept_extends c _ _ _ s r _ (next l g h m a p t u) e =
    kept_visible c.schema m s a (kept r p) (r (set_by a)) (kept_extends c l h m (types_after c.schema s a) r p u (extends_after c l g h a t s e)) (kept_extends c l h m s r p u (extends_through h g s (extends_statement c l g h a t) e))

-- ---- After the asks

declared_step : (z s : Types) (x y : List ℕ) (o : Option JavaType) (k : JavaType) (b : Bool) → bytes_eq x y ≡ b → z x ≡ o → (s y ≡ Some k → z y ≡ Some k) → cond b o (s y) ≡ Some k → z y ≡ Some k
declared_step z s x y o k true e q i f = ap z (sym (names_equal x y e)) ∙ q ∙ f
declared_step z s x y o k false e q i f = i f

ask_extends : (schema : Schema) (z s : Types) (ty : Option Spelled) (at : Span) (x : List ℕ) (e : Expression) → HasSameType schema z ty x → Extends z s → Extends z (types_after schema s (asking ty at x e))
ask_extends schema z s (Some ty) at x e h i = λ y k f. declared_step z s x y (type_spelled schema ty) k (bytes_eq x y) refl h (i y k) f
ask_extends schema z s None at x e h i = i

pub asked_extends : (schema : Schema) (z s : Types) (ks : List Ask) → HaveSameTypes schema z ks → Extends z s → Extends z (types_past schema s (asked ks))
asked_extends schema z s [] h i = i
asked_extends schema z s (k ∷ ks) h i = asked_extends schema z (types_after schema s (asking k.ty k.at k.name k.value)) ks h.1 (ask_extends schema z s k.ty k.at k.name k.value h.0 i)

-- the old statements leave what the new ones do
old_extends : (c : Frame) (l : Option Types) (g : Types) (run : Statements) (loop : Statement) (r : Set) (ks : List Ask) → HaveSameTypes c.schema (types_past c.schema g run) ks → TypedStatements c l g (run_and_loop run loop) (types_past c.schema g (run_and_loop run loop)) → Extends (types_past c.schema g (run_and_loop run loop)) (types_past c.schema g (replacement r run ks))
old_extends c l g run loop r ks h t =
    let z : Types = types_past c.schema g (run_and_loop run loop) in
    let k : TypedParts c l g run (Then loop Nothing) z = typed_parts c l g run (Then loop Nothing) z t in
    let same : HaveSameTypes c.schema k.middle ks = subst (λ y. HaveSameTypes c.schema y ks) (sym (typed_past c l g k.middle run k.first)) h in
    subst (λ y. Extends z y) (sym (past_followed c.schema g (kept r run) (asked ks))) (extends_through z k.middle (types_past c.schema (types_past c.schema g (kept r run)) (asked ks)) (extends_statements c l k.middle z (Then loop Nothing) k.second) (asked_extends c.schema k.middle (types_past c.schema g (kept r run)) ks same (kept_extends c l g k.middle g r run k.first (λ x y e. e))))

-- ---- What is visible after is kept or asked for

abbrev Known : Set → Types → Type 0
Known f g = (x : List ℕ) (k : JavaType) → g x ≡ Some k → f x ≡ true

known_step : (f : Set) (g : Types) (x y : List ℕ) (o : Option JavaType) (k : JavaType) (b : Bool) → bytes_eq x y ≡ b → f x ≡ true → (g y ≡ Some k → f y ≡ true) → cond b o (g y) ≡ Some k → f y ≡ true
known_step f g x y o k true e h i q = ap f (sym (names_equal x y e)) ∙ h
known_step f g x y o k false e h i q = i q

known_after : (schema : Schema) (f : Set) (g : Types) (a : Statement) → f (set_by a) ≡ true → Known f g → Known f (types_after schema g a)
known_after schema f g (tree.Declare at ty x e) h i = λ y k q. known_step f g x y (type_spelled schema ty) k (bytes_eq x y) refl h (i y k) q
known_after schema f g (tree.Assign at x e) h i = i
known_after schema f g (tree.Add at x e) h i = i
known_after schema f g (tree.Sort at x keys down) h i = i
known_after schema f g (tree.If at c p) h i = i
known_after schema f g (tree.IfElse at c p q) h i = i
known_after schema f g (tree.ForEach at ty x e b) h i = i
known_after schema f g (tree.While at c b) h i = i
known_after schema f g (tree.Print at e) h i = i
known_after schema f g (tree.Return at e) h i = i
known_after schema f g (tree.Break at) h i = i

known_kept_step : (schema : Schema) (f r : Set) (g : Types) (a : Statement) (p : Statements) (b : Bool) → r (set_by a) ≡ b → (r (set_by a) ≡ true → Known f (types_past schema (types_after schema g a) p)) → Known f (types_past schema g p) → Known f (types_past schema g (cond b (Then a p) p))
known_kept_step schema f r g a p true e h i = h e
known_kept_step schema f r g a p false e h i = i

known_kept : (schema : Schema) (f r : Set) (g : Types) (p : Statements) → ((x : List ℕ) → r x ≡ true → f x ≡ true) → Known f g → Known f (types_past schema g (kept r p))
known_kept schema f r g Nothing h i = i
known_kept schema f r g (Then a p) h i = known_kept_step schema f r g a (kept r p) (r (set_by a)) refl (λ e. known_kept schema f r (types_after schema g a) p h (known_after schema f g a (h (set_by a) e) i)) (known_kept schema f r g p h i)

known_ask : (schema : Schema) (f : Set) (g : Types) (ty : Option Spelled) (at : Span) (x : List ℕ) (e : Expression) → f x ≡ true → Known f g → Known f (types_after schema g (asking ty at x e))
known_ask schema f g (Some ty) at x e h i = known_after schema f g (tree.Declare at ty x e) h i
known_ask schema f g None at x e h i = i

known_asked : (schema : Schema) (f : Set) (g : Types) (ks : List Ask) → ((x : List ℕ) → is_asked ks x ≡ true → f x ≡ true) → Known f g → Known f (types_past schema g (asked ks))
known_asked schema f g [] h i = i
known_asked schema f g (k ∷ ks) h i =
    known_asked schema f (types_after schema g (asking k.ty k.at k.name k.value)) ks (λ x e. h x (or_right (bytes_eq k.name x) (is_asked ks x) e)) (known_ask schema f g k.ty k.at k.name k.value (h k.name (or_left (bytes_eq k.name k.name) (is_asked ks k.name) (name_same k.name))) i)

-- where what is visible before is kept or asked for, all that is visible after is
pub all_known : (schema : Schema) (g : Types) (run : Statements) (r : Set) (ks : List Ask) → ((x : List ℕ) (k : JavaType) → g x ≡ Some k → (r x || is_asked ks x) ≡ true) → (x : List ℕ) (k : JavaType) → types_past schema g (replacement r run ks) x ≡ Some k → (r x || is_asked ks x) ≡ true
all_known schema g run r ks h =
    let f : Set = λ x. r x || is_asked ks x in
    subst (λ y. Known f y) (sym (past_followed schema g (kept r run) (asked ks))) (known_asked schema f (types_past schema g (kept r run)) ks (λ x e. or_right (r x) (is_asked ks x) e) (known_kept schema f r g run (λ x e. or_left (r x) (is_asked ks x) e) h))

-- ---- In a program

nth_here : (before after : List PlainMethod) (m : PlainMethod) → slice_get (before ++ m ∷ after) (length before) ≡ Some m
nth_here [] after m = refl
nth_here (n ∷ before) after m = nth_here before after m

pub programs_give_way : (schema : Schema) (reader : Reader schema) (p : PlainProgram) (before after : List PlainMethod) (m : PlainMethod) (hole : Hole) (run : Statements) (loop : Statement) (r : Set) (ks : List Ask) → IsWellTyped schema reader.read (with_methods p (before ++ with_body m (fill hole (run_and_loop run loop)) ∷ after)) → NumbersFit (with_methods p (before ++ with_body m (fill hole (run_and_loop run loop)) ∷ after)) → IsWellTyped schema reader.read (with_methods p (before ++ with_body m (fill hole (replacement r run ks)) ∷ after)) → NumbersFit (with_methods p (before ++ with_body m (fill hole (replacement r run ks)) ∷ after)) → HaveSameTypes schema (types_past schema (seen_at schema m hole) run) ks → MayGiveWay (frame_of schema reader.read m) (seen_at schema m hole) (types_past schema (seen_at schema m hole) (replacement r run ks)) run loop r ks → Keeps (with_methods p (before ++ with_body m (fill hole (run_and_loop run loop)) ∷ after)) (with_methods p (before ++ with_body m (fill hole (replacement r run ks)) ∷ after)) schema
programs_give_way schema reader p before after m hole run loop r ks t n t' n' same may =
    let old : Statements = run_and_loop run loop in
    let new : Statements = replacement r run ks in
    let l : Option Types = loop_at schema None (types_of_params schema m.params) hole in
    let place : IsTypedPlace (frame_of schema reader.read m) None (types_of_params schema m.params) hole old = places_typed schema reader.read (with_methods p (before ++ with_body m (fill hole old) ∷ after)) (length before) (with_body m (fill hole old)) hole old t n (nth_here before after (with_body m (fill hole old))) refl in
    new_left schema reader p before after m hole old new t n t' n' (old_extends (frame_of schema reader.read m) l (seen_at schema m hole) run loop r ks same place.typed) (gives_way (frame_of schema reader.read m) l (seen_at schema m hole) (types_past schema (seen_at schema m hole) new) run loop r ks may)
