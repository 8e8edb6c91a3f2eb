-- A run of a well-typed method comes to a place in states that are typed there.
use Rattle.std.proofs.Common.{◌≡◌, ℕ, zero, suc, List, [], Option, Some, None, Result, Ok, refl, ap, ◌∙◌, subst, arith}
use Rattle.std.specs.Prelude.{slice_get}
use Rattle.std.specs.List.{AllByRecursion}
use Rattle.qbs_base.specs.declared.scalar.Row.{Row}
use Rattle.qbs_base.specs.declared.scalar.Scalar.{Scalar}
use Rattle.qbs_base.specs.declared.scalar.Value.{Value}
use Rattle.qbs_base.specs.declared.scalar.Value.TheVariants.{Many}
use Rattle.qbs_base.specs.Named.{at_name}
use Rattle.qbs_base.specs.Values.{Schema, Database, IsDatabaseOf}
use Rattle.sql_ast.specs.Tree.{PlainQuery}
use Rattle.java_ast.specs.Tree as tree
use Rattle.java_ast.specs.Tree.{Expression, Statement, Statements, PlainMethod, PlainProgram}
use Rattle.java_mean.specs.declared.ending.Ending.{Ending}
use Rattle.java_mean.specs.Asks.{frame_of}
use Rattle.java_mean.specs.Expression.{value_of, as_rows, element}
use Rattle.java_mean.specs.Numbers.{NumbersFit}
use Rattle.java_mean.specs.Outcome.{start, world_with}
use Rattle.java_mean.specs.Reaches.{Reaches, here, past, in_if, in_then, in_else, in_each, in_while, ReachesEach, in_this, in_later, ReachesTurn, in_next, in_further}
use Rattle.java_mean.specs.Refines.{Hole, Here, Past, InIf, InThen, InElse, InEach, InWhile, first_of, path_of, followed_by, fill, Around, at_here, at_past, at_if, at_then, at_else, at_each, at_each_new, at_while, types_at, loop_at, IsTypedPlace, MayReplace, Passes, Follows, Simulates, Alike, exits}
use Rattle.java_mean.specs.Statement.{State, GoesOn, Does, fewer, turn, with_variable, meaning, meanings}
use Rattle.java_mean.specs.Store.{Store, Variable, plainly}
use Rattle.java_mean.specs.Types.{Single, JavaType, Of, Types, with_type, type_spelled, types_after, visible_at, visible_in, types_of_params, types_past, IsMember, IsOf, IsVariableOf, IsTyped, IsTypedAt, AreArguments}
use Rattle.java_mean.specs.Typing.{Frame, IsWorld, Has, IsNew, is_new_list, is_new_set, HasType, Extends, TypedStatements}
use Rattle.java_mean.specs.WellTyped.{IsWellTyped}
use Rattle.java_mean.specs.World.{World}
use Rattle.java_mean.proofs.Alike.{extends_new, typed_store}
use Rattle.java_mean.proofs.Answered.{worlds_are_typed}
use Rattle.java_mean.proofs.Replaced.{extends_around, replaced_at, start_alike}
use Rattle.java_mean.proofs.Simulates.{Holds}
use Rattle.java_mean.proofs.TypedPlaces.{places_typed}
use Rattle.java_mean.proofs.TypedRuns.{element_put, narrowed, typed_statement, typed_statements}
use Rattle.java_mean.proofs.TypedValues.{rows_in, typed_value}

-- ---- A state and itself

alike_self : (schema : Schema) (g : Types) (s : State) → IsTyped schema g s.store → Alike schema g s s
alike_self schema g s t = record { store = λ x k e. (let v : (v : Variable) × (at_name s.store x ≡ Some v) × IsVariableOf schema k v = t.held x k e in record { held = v.0; typed = v.2; left = v.1; right = v.1 }); lines = refl; turns = omega arith }

fewer_typed : (schema : Schema) (h g : Types) (s : Store) → Extends h g → IsTyped schema h s → IsTyped schema g s
fewer_typed schema h g s e t = record { held = λ x k i. t.held x k (e x k i) }

-- what a typed run leaves
left_typed : (schema : Schema) (c : Frame) (l : Option Types) (g h : Types) (f : Does) (s u : State) → Simulates (Alike c.schema g) (Alike c.schema h) (exits c l ⊥) f f → IsTyped c.schema g s.store → f s ≡ Ok (GoesOn u) → IsTyped c.schema h u.store
left_typed schema c l g h f s u sim t e =
    let k : Passes (Alike c.schema h) GoesOn u (f s) = subst (λ o. Follows (Alike c.schema h) (exits c l ⊥) o (f s)) e (sim.by s s (alike_self c.schema g s t)) in
    typed_store c.schema h u k.state k.holds

-- ---- Turns

same_state : (s u : State) (o : Result State Ending) → o ≡ Ok s → o ≡ Ok u → s ≡ u
same_state s u o d e = cc

fewer_store : (n : ℕ) (store : Store) (lines : List (List ℕ)) (u : State) → fewer n store lines ≡ Ok u → store ≡ u.store
fewer_store zero store lines u e = absurd cc
fewer_store (suc n) store lines u e = ap (λ (s : State). s.store) (same_state (record { store = store; lines = lines; turns = n }) u (fewer (suc n) store lines) refl e)

turn_store : (s u : State) → turn s ≡ Ok u → s.store ≡ u.store
turn_store s u e = fewer_store s.turns s.store s.lines u e

turn_typed : (schema : Schema) (g : Types) (s u : State) → turn s ≡ Ok u → IsTyped schema g s.store → IsTyped schema g u.store
turn_typed schema g s u e t = subst (IsTyped schema g) (turn_store s u e) t

-- ---- Loops

-- in states that are typed at the start of a loop's body the place is reached in states that are typed at it
abbrev Comes : World → Statements → Hole → Schema → Types → Types → Type 0
Comes w p h schema g k = (s t : State) → Reaches w p h s t → IsTyped schema g s.store → IsTyped schema k t.store

element_typed : (schema : Schema) (g : Types) (x : List ℕ) (a : Single) (row : Row) (s : State) → IsMember schema a row → IsTyped schema g s.store → IsTyped schema (with_type x (Some (Of a)) g) (with_variable s x (plainly (element row))).store
element_typed schema g x a row s h t =
    typed_store schema (with_type x (Some (Of a)) g) (with_variable s x (plainly (element row))) (with_variable s x (plainly (element row))) (element_put schema g x a row s s h (alike_self schema g s t))

each_reached : (c : Frame) (l : Option Types) (g k y : Types) (a : Single) (w : World) (p : Statements) (h : Hole) (x : List ℕ) (rows : List Row) (s t : State) → ReachesEach w p h x rows s t → Extends y g → Simulates (Alike c.schema (with_type x (Some (Of a)) g)) (Alike c.schema y) (exits c l ⊥) (meanings (fill h p) w) (meanings (fill h p) w) → Comes w p h c.schema (with_type x (Some (Of a)) g) k → AllByRecursion (IsMember c.schema a) rows → IsTyped c.schema g s.store → IsTyped c.schema k t.store
each_reached c l g k y a w p _ _ _ _ _ (in_this h x row rows s u t e r) n sim comes all typed =
    comes (with_variable u x (plainly (element row))) t r (element_typed c.schema g x a row u all.0 (turn_typed c.schema g s u e typed))
each_reached c l g k y a w p _ _ _ _ _ (in_later h x row rows s u v t e i r) n sim comes all typed =
    let inner = with_variable u x (plainly (element row)) in
    let after : IsTyped c.schema y v.store = left_typed c.schema c l (with_type x (Some (Of a)) g) y (meanings (fill h p) w) inner v sim (element_typed c.schema g x a row u all.0 (turn_typed c.schema g s u e typed)) i in
    each_reached c l g k y a w p h x rows v t r n sim comes all.1 (fewer_typed c.schema y g v.store n after)

while_reached : (c : Frame) (l : Option Types) (g k y : Types) (w : World) (p : Statements) (h : Hole) (e : Expression) (s t : State) → ReachesTurn w p h e s t → Extends y g → Simulates (Alike c.schema g) (Alike c.schema y) (exits c l ⊥) (meanings (fill h p) w) (meanings (fill h p) w) → Comes w p h c.schema g k → IsTyped c.schema g s.store → IsTyped c.schema k t.store
while_reached c l g k y w p _ _ _ _ (in_next h e s u t b d r) n sim comes typed = comes u t r (turn_typed c.schema g s u d typed)
while_reached c l g k y w p _ _ _ _ (in_further h e s u v t b d i r) n sim comes typed =
    let after : IsTyped c.schema y v.store = left_typed c.schema c l g y (meanings (fill h p) w) u v sim (turn_typed c.schema g s u d typed) i in
    while_reached c l g k y w p h e v t r n sim comes (fewer_typed c.schema y g v.store n after)

-- the members of what is walked
walked_rows : (c : Frame) (g : Types) (e : Expression) (f : JavaType) (a : Single) (w : World) (s : Store) (v : Value) (rows : List Row) → HasType c g e f → Has f a → IsWorld c w → IsTyped c.schema g s → value_of e w s ≡ Ok v → as_rows v ≡ Ok rows → AllByRecursion (IsMember c.schema a) rows
walked_rows c g e f a w s v rows h has i t q r =
    let value : IsOf c.schema f v = subst (Holds ⊥ (IsOf c.schema f)) q (typed_value c g e f h w s i t) in
    subst (Holds ⊥ (AllByRecursion (IsMember c.schema a))) r (rows_in c.schema f a v has value)

no_rows : (e : Expression) (w : World) (s : Store) (v : Value) (rows : List Row) → IsNew e → value_of e w s ≡ Ok v → as_rows v ≡ Ok rows → rows ≡ []
no_rows _ w s v rows (is_new_list at) q r = let same : Many [] ≡ v = cc in let all : as_rows (Many []) ≡ Ok rows = ap as_rows same ∙ r in cc
no_rows _ w s v rows (is_new_set at) q r = let same : Many [] ≡ v = cc in let all : as_rows (Many []) ≡ Ok rows = ap as_rows same ∙ r in cc

none_walked : {A : Type 0} (w : World) (p : Statements) (h : Hole) (x : List ℕ) (rows : List Row) (s t : State) → ReachesEach w p h x rows s t → rows ≡ [] → A
none_walked w p _ _ _ _ _ (in_this h x row rows s u t e r) q = absurd cc
none_walked w p _ _ _ _ _ (in_later h x row rows s u v t e i r) q = absurd cc

-- ---- Places

-- what stands at the place, as far as it is visible behind it
abbrev Part : Frame → Option Types → Types → Types → Statements → World → Type 0
Part c i k m p w = Simulates (Alike c.schema k) (Alike c.schema m) (exits c i ⊥) (meanings p w) (meanings p w)

pub reached : (c : Frame) (l : Option Types) (g : Types) (hole : Hole) (i : Option Types) (k m z : Types) → Around c l g hole i k m z → (p : Statements) (w : World) → IsWorld c w → Part c i k m p w → Comes w p hole c.schema g k
reached c _ _ _ _ _ _ _ (at_here l k m z q e b) p w world sim _ _ (here _ s) t = t
reached c _ _ _ _ _ _ _ (at_past l i g f k m z a h d n) p w world sim _ _ (past _ _ s u v q r) t =
    reached c l f h i k m z n p w world sim u v r (left_typed c.schema c l g f (meaning a w) s u (typed_statement c l g a f d w world) t q)
reached c _ _ _ _ _ _ _ (at_if l i g k m y z at e h q d n b) p w world sim _ _ (in_if _ _ _ _ s v o r) t = reached c l g h i k m y n p w world sim s v r t
reached c _ _ _ _ _ _ _ (at_then l i g k m y y' z at e h f q d n a b) p w world sim _ _ (in_then _ _ _ _ _ s v o r) t = reached c l g h i k m y n p w world sim s v r t
reached c _ _ _ _ _ _ _ (at_else l i g k m y y' z at e f h q d a n b) p w world sim _ _ (in_else _ _ _ _ _ s v o r) t = reached c l g h i k m y n p w world sim s v r t
reached c _ _ _ _ _ _ _ (at_each l i g k m y z at ty x e h q f a n d has b j) p w world sim _ _ (in_each _ _ _ _ _ _ v rows s u o r turns) t =
    let inner : Types = with_type x (Some (Of a)) g in
    each_reached c (Some inner) g k y a w p h x rows s u turns (λ z' k' e'. extends_around c (Some inner) inner h i k m y b z' k' (extends_new g x (Of a) n z' k' e')) (replaced_at c (Some inner) inner h i k m y b p p w world sim) (λ s' t' r' q'. reached c (Some inner) inner h i k m y b p w world sim s' t' r' q') (walked_rows c g e f a w s.store v rows d has world t o r) t
reached c _ _ _ _ _ _ _ (at_each_new l i g k m y z at ty x e h q f n d new b j) p w world sim _ _ (in_each _ _ _ _ _ _ v rows s u o r turns) t =
    none_walked w p h x rows s u turns (no_rows e w s.store v rows new o r)
reached c _ _ _ _ _ _ _ (at_while l i g k m y z at e h q d n b) p w world sim _ _ (in_while _ _ _ _ s u turns) t =
    while_reached c (Some g) g k y w p h e s u turns (extends_around c (Some g) g h i k m y n) (replaced_at c (Some g) g h i k m y n p p w world sim) (λ s' t' r' q'. reached c (Some g) g h i k m y n p w world sim s' t' r' q') t

part_of : (c : Frame) (i : Option Types) (k h m : Types) (p : Statements) → TypedStatements c i k p h → Extends h m → (w : World) → IsWorld c w → Part c i k m p w
part_of c i k h m p t e w world = narrowed c i k h m (meanings p w) (meanings p w) e (typed_statements c i k p h t w world)

start_typed : (schema : Schema) (m : PlainMethod) (args : List Scalar) (n : ℕ) → AreArguments schema m.params args → IsTyped schema (types_of_params schema m.params) (start m args n).store
start_typed schema m args n h = typed_store schema (types_of_params schema m.params) (start m args n) (start m args n) (start_alike schema m args n h)

-- where statements may be replaced the old ones are run from states that are typed there
pub replaced_reached : (c : Frame) (m : PlainMethod) (hole : Hole) (old new : Statements) (r : MayReplace c m hole old new) (w : World) → IsWorld c w → (args : List Scalar) → AreArguments c.schema m.params args → (turns : ℕ) (t : State) → Reaches w old hole (start m args turns) t → IsTyped c.schema r.before t.store
replaced_reached c m hole old new r w world args typed turns t h =
    reached c None (types_of_params c.schema m.params) hole r.loop r.before r.after r.end r.around old w world (part_of c r.loop r.before r.after_old r.after old r.old_typed r.old_leaves w world) (start m args turns) t h (start_typed c.schema m args turns typed)

place_reached : (c : Frame) (g : Types) (hole : Hole) (part : Statements) → IsTypedPlace c None g hole part → (w : World) → IsWorld c w → Comes w part hole c.schema g (types_at c.schema g hole)
place_reached c g hole part r w world s t h typed =
    let after : Types = types_past c.schema (types_at c.schema g hole) part in
    reached c None g hole (loop_at c.schema None g hole) (types_at c.schema g hole) after r.end r.around part w world (typed_statements c (loop_at c.schema None g hole) (types_at c.schema g hole) part after r.typed w world) s t h typed

pub stores_typed : (schema : Schema) (read : List ℕ → Option PlainQuery) (p : PlainProgram) (n : ℕ) (m : PlainMethod) (hole : Hole) (part : Statements) → IsWellTyped schema read p → NumbersFit p → slice_get p.methods n ≡ Some m → m.body ≡ fill hole part → (db : Database) (args : List Scalar) → IsDatabaseOf schema db → AreArguments schema m.params args → (turns : ℕ) (s : State) → Reaches (world_with schema read db) part hole (start m args turns) s → IsTyped schema (types_at schema (types_of_params schema m.params) hole) s.store
stores_typed schema read p n m hole part t f e is db args d typed turns s h =
    place_reached (frame_of schema read m) (types_of_params schema m.params) hole part (places_typed schema read p n m hole part t f e is) (world_with schema read db) (worlds_are_typed schema read db m d) (start m args turns) s h (start_typed schema m args turns typed)

-- ---- Places by their numbers

start_in : (schema : Schema) (g : Types) (a : Statement) → visible_in schema g a [] ≡ Some g
start_in schema g (tree.Declare at ty x e) = refl
start_in schema g (tree.Assign at x e) = refl
start_in schema g (tree.Add at x e) = refl
start_in schema g (tree.Sort at x keys down) = refl
start_in schema g (tree.If at e p) = refl
start_in schema g (tree.IfElse at e p q) = refl
start_in schema g (tree.ForEach at ty x e p) = refl
start_in schema g (tree.While at e p) = refl
start_in schema g (tree.Print at e) = refl
start_in schema g (tree.Return at e) = refl
start_in schema g (tree.Break at) = refl

start_at : (schema : Schema) (g : Types) (p : Statements) → visible_at schema g p zero [] ≡ Some g
start_at schema g tree.Nothing = refl
start_at schema g (tree.Then a p) = start_in schema g a

visible_there : (schema : Schema) (g : Types) (hole : Hole) (p : Statements) → visible_at schema g (fill hole p) (first_of hole) (path_of hole) ≡ Some (types_at schema g hole)
visible_there schema g (Here q) p = start_at schema g (followed_by p q)
visible_there schema g (Past a h) p = visible_there schema (types_after schema g a) h p
visible_there schema g (InIf at e h q) p = visible_there schema g h p
visible_there schema g (InThen at e h b q) p = visible_there schema g h p
visible_there schema g (InElse at e a h q) p = visible_there schema g h p
visible_there schema g (InEach at ty x e h q) p = visible_there schema (with_type x (type_spelled schema ty) g) h p
visible_there schema g (InWhile at e h q) p = visible_there schema g h p

pub typed_at : (schema : Schema) (read : List ℕ → Option PlainQuery) (p : PlainProgram) (n : ℕ) (m : PlainMethod) (hole : Hole) (part : Statements) → IsWellTyped schema read p → NumbersFit p → slice_get p.methods n ≡ Some m → m.body ≡ fill hole part → (db : Database) (args : List Scalar) → IsDatabaseOf schema db → AreArguments schema m.params args → (turns : ℕ) (s : State) → Reaches (world_with schema read db) part hole (start m args turns) s → IsTypedAt schema m (first_of hole) (path_of hole) s.store
typed_at schema read p n m hole part t f e is db args d typed turns s h =
    record {
      types = types_at schema (types_of_params schema m.params) hole;
      visible = ap (λ (b : Statements). visible_at schema (types_of_params schema m.params) b (first_of hole) (path_of hole)) is ∙ visible_there schema (types_of_params schema m.params) hole part;
      typed = stores_typed schema read p n m hole part t f e is db args d typed turns s h;
    }
