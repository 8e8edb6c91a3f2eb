-- Statements of a well-typed method give way to others.
use Rattle.std.proofs.Common.{◌≡◌, ℕ, ◌≢◌, Bool, true, false, List, [], ◌∷◌, ◌++◌, Option, Some, None, Result, Ok, Err, refl, sym, ap, ◌∙◌, subst, cond, arith}
use Rattle.std.specs.Prelude.{bytes_eq}
use Rattle.qbs_base.specs.declared.scalar.Scalar.{Scalar}
use Rattle.qbs_base.specs.declared.scalar.Value.{Value}
use Rattle.qbs_base.specs.declared.scalar.Value.TheVariants.{One}
use Rattle.qbs_base.specs.Named.{at_name}
use Rattle.qbs_base.specs.Values.{Schema}
use Rattle.java_ast.specs.Tree as tree
use Rattle.java_ast.specs.Tree.{Spelled, ListOf, SetOf, Statement, Statements, PlainParam, PlainMethod, PlainProgram}
use Rattle.java_ast.specs.Path.{with_body, with_methods}
use Rattle.java_mean.specs.declared.ending.Ending.{Ending}
use Rattle.java_mean.specs.declared.ending.Ending.TheVariants as endings
use Rattle.java_mean.specs.Keeps.{Keeps}
use Rattle.java_mean.specs.Outcome.{Done, Stuck, finished, start, store_of, outcome, world}
use Rattle.java_mean.specs.Queries.{Reader}
use Rattle.java_mean.specs.Asks.{frame_of}
use Rattle.java_mean.specs.Refines.{Related, Exits, Passes, PassesBack, Follows, Simulates, Common, Alike, leaving, IsResult, exits, Agree, agreeing, same_exits, Replaces, MayReplace, Hole, followed_by, fill, Around, at_here, at_past, at_if, at_then, at_else, at_each, at_each_new, at_while}
use Rattle.java_mean.specs.Statement.{State, Passed, GoesOn, Leaves, Returns, Does, then_do, meaning, meanings}
use Rattle.java_mean.specs.Store.{Store, Variable, put, plainly}
use Rattle.java_mean.specs.Types.{Single, JavaType, Of, ScalarOf, RowOf, Types, with_type, made_of, type_spelled, single_spelled, types_of_params, IsVariableOf, IsArgument, AreArguments}
use Rattle.java_mean.specs.Typing.{Frame, IsWorld, Extends, TypedStatements}
use Rattle.java_mean.specs.World.{World}
use Rattle.java_mean.proofs.Alike.{put_at, typed_store}
use Rattle.java_mean.proofs.Puts.{put_other}
use Rattle.java_mean.proofs.Answered.{worlds_are_typed}
use Rattle.java_mean.proofs.Kept.{keeps_replaced}
use Rattle.java_mean.proofs.Simulates.{simulates_then}
use Rattle.java_mean.proofs.TypedRuns.{extends_statement, extends_statements, each_typed, each_new_typed, while_typed, if_typed, choose_typed, typed_statement, typed_statements}

-- ---- The statements at the place

alike_left : (schema : Schema) (g : Types) (s t : State) → Alike schema g s t → Alike schema g s s
alike_left schema g s t a = record { store = λ x k e. (let v : Common schema k (at_name s.store x) (at_name t.store x) = a.store x k e in record { held = v.held; typed = v.typed; left = v.left; right = v.left }); lines = refl; turns = omega arith }

some_held : (o : Option Variable) (a b : Variable) → o ≡ Some a → o ≡ Some b → a ≡ b
some_held o a b e h = cc

-- the first state is typed, the second has the same of m, and the third agrees with the second
through : (schema : Schema) (g h m : Types) (s s' u v : State) → Extends g m → Extends h m → Alike schema g s s' → Agree m s u → Alike schema h u v → Alike schema m s v
through schema g h m s s' u v e f a b d =
    record {
      store = λ x k i.
          (let p : Common schema k (at_name s.store x) (at_name s'.store x) = a.store x k (e x k i) in
          let q : Common schema k (at_name u.store x) (at_name v.store x) = d.store x k (f x k i) in
          let same : q.held ≡ p.held = some_held (at_name u.store x) q.held p.held q.left (sym (b.store x k i) ∙ p.left) in
          record { held = p.held; typed = p.typed; left = p.left; right = q.right ∙ ap Some same });
      lines = b.lines ∙ d.lines;
      turns = omega (arith, b.turns, d.turns);
    }

left_through : (schema : Schema) (l : Option Types) (s s' u v : State) → leaving schema l s s' → agreeing l s u → leaving schema l u v → leaving schema l s v
left_through schema None s s' u v a b d = a
left_through schema (Some g) s s' u v a b d = through schema g g g s s' u v (λ x k e. e) (λ x k e. e) a b d

goes_through : (c : Frame) (l : Option Types) (g h m : Types) (s : State) (o q q' : Result Passed Ending) → Extends g m → Extends h m → Passes (Alike c.schema g) GoesOn s o → Passes (Agree m) GoesOn s q → Follows (Alike c.schema h) (exits c l ⊥) q q' → Passes (Alike c.schema m) GoesOn s q'
goes_through c l g h m s o q q' e f a b d =
    let k : Passes (Alike c.schema h) GoesOn b.state q' = subst (λ z. Follows (Alike c.schema h) (exits c l ⊥) z q') b.is d in
    record { state = k.state; is = k.is; holds = through c.schema g h m s a.state b.state k.state e f a.holds b.holds k.holds }

leaves_through : (c : Frame) (l : Option Types) (h : Types) (s : State) (o q q' : Result Passed Ending) → Passes (leaving c.schema l) Leaves s o → Passes (agreeing l) Leaves s q → Follows (Alike c.schema h) (exits c l ⊥) q q' → Passes (leaving c.schema l) Leaves s q'
leaves_through c l h s o q q' a b d =
    let k : Passes (leaving c.schema l) Leaves b.state q' = subst (λ z. Follows (Alike c.schema h) (exits c l ⊥) z q') b.is d in
    record { state = k.state; is = k.is; holds = left_through c.schema l s a.state b.state k.state a.holds b.holds k.holds }

back_through : (c : Frame) (l : Option Types) (h : Types) (s : State) (v : Option Value) (q q' : Result Passed Ending) → PassesBack s v q → Follows (Alike c.schema h) (exits c l ⊥) q q' → PassesBack s v q'
back_through c l h s v q q' b d =
    let k : PassesBack b.state v q' × IsResult c.schema c.result v = subst (λ z. Follows (Alike c.schema h) (exits c l ⊥) z q') b.is d in
    record { state = k.0.state; is = k.0.is; lines = b.lines ∙ k.0.lines }

follows_through : (c : Frame) (l : Option Types) (g h m : Types) (o q q' : Result Passed Ending) → Extends g m → Extends h m → Follows (Alike c.schema g) (exits c l ⊥) o o → Follows (Agree m) (same_exits l) o q → Follows (Alike c.schema h) (exits c l ⊥) q q' → Follows (Alike c.schema m) (exits c l ⊥) o q'
follows_through c l g h m (Ok (GoesOn s)) q q' e f a b d = goes_through c l g h m s (Ok (GoesOn s)) q q' e f a b d
follows_through c l g h m (Ok (Leaves s)) q q' e f a b d = leaves_through c l h s (Ok (Leaves s)) q q' a b d
follows_through c l g h m (Ok (Returns s v)) q q' e f a b d = (back_through c l h s v q q' b.0 d, a.1)
follows_through c l g h m (Err (endings.Faulted fault at)) q q' e f a b d = tt
follows_through c l g h m (Err endings.OutOfTurns) q q' e f a b d = tt
follows_through c l g h m (Err endings.Stuck) q q' e f a b d = a

replaced_here : (c : Frame) (l : Option Types) (k g h m : Types) (p q : Statements) → TypedStatements c l k p g → TypedStatements c l k q h → Extends g m → Extends h m → Replaces c l k m p q → (w : World) → IsWorld c w → Simulates (Alike c.schema k) (Alike c.schema m) (exits c l ⊥) (meanings p w) (meanings q w)
replaced_here c l k g h m p q t u e f r w i =
    record { by = λ s v a. follows_through c l g h m (meanings p w s) (meanings q w s) (meanings q w v) e f ((typed_statements c l k p g t w i).by s s (alike_left c.schema k s v a)) (r.by w i s (typed_store c.schema k s v a)) ((typed_statements c l k q h u w i).by s v a) }

-- ---- The statements round it

followed_step : (o : Result Passed Ending) (f g q : Does) → ((s : State) → f s ≡ then_do (g s) q) → then_do o f ≡ then_do (then_do o g) q
followed_step (Ok (GoesOn s)) f g q h = h s
followed_step (Ok (Leaves s)) f g q h = refl
followed_step (Ok (Returns s v)) f g q h = refl
followed_step (Err e) f g q h = refl

pub meanings_followed : (p q : Statements) (w : World) (s : State) → meanings (followed_by p q) w s ≡ then_do (meanings p w s) (meanings q w)
meanings_followed tree.Nothing q w s = refl
meanings_followed (tree.Then a p) q w s = followed_step (meaning a w s) (meanings (followed_by p q) w) (meanings p w) (meanings q w) (meanings_followed p q w)

simulates_equal : (r r' : Related) (k : Exits) (f f' e e' : Does) → ((s : State) → e s ≡ f s) → ((s : State) → e' s ≡ f' s) → Simulates r r' k f f' → Simulates r r' k e e'
simulates_equal r r' k f f' e e' h i sim = record { by = λ s t a. subst (λ o. Follows r' k o (e' t)) (sym (h s)) (subst (λ o. Follows r' k (f s) o) (sym (i t)) (sim.by s t a)) }

before_rest : (c : Frame) (l : Option Types) (g m z : Types) (p p' q : Statements) (w : World) → Simulates (Alike c.schema g) (Alike c.schema m) (exits c l ⊥) (meanings p w) (meanings p' w) → Simulates (Alike c.schema m) (Alike c.schema z) (exits c l ⊥) (meanings q w) (meanings q w) → Simulates (Alike c.schema g) (Alike c.schema z) (exits c l ⊥) (meanings (followed_by p q) w) (meanings (followed_by p' q) w)
before_rest c l g m z p p' q w r e =
    simulates_equal (Alike c.schema g) (Alike c.schema z) (exits c l ⊥) (λ s. then_do (meanings p w s) (meanings q w)) (λ s. then_do (meanings p' w s) (meanings q w)) (meanings (followed_by p q) w) (meanings (followed_by p' q) w) (meanings_followed p q w) (meanings_followed p' q w) (simulates_then (Alike c.schema g) (Alike c.schema m) (Alike c.schema z) (exits c l ⊥) (meanings p w) (meanings p' w) (meanings q w) (meanings q w) r e)

pub extends_around : (c : Frame) (l : Option Types) (g : Types) (p : Hole) (i : Option Types) (k m z : Types) → Around c l g p i k m z → Extends z g
extends_around c _ _ _ _ _ _ _ (at_here l k m z q e t) x y h = extends_statements c l m z q t x y (e x y h)
extends_around c _ _ _ _ _ _ _ (at_past l i g h k m z a p t r) x y e = extends_around c l h p i k m z r x y (extends_statement c l g h a t x y e)
extends_around c _ _ _ _ _ _ _ (at_if l i g k m y z at e p q t r u) x y' h = extends_statements c l g z q u x y' h
extends_around c _ _ _ _ _ _ _ (at_then l i g k m y y' z at e p b q t r s u) x v h = extends_statements c l g z q u x v h
extends_around c _ _ _ _ _ _ _ (at_else l i g k m y y' z at e a p q t s r u) x v h = extends_statements c l g z q u x v h
extends_around c _ _ _ _ _ _ _ (at_each l i g k m y z at ty n e p q t a f s has r u) x v h = extends_statements c l g z q u x v h
extends_around c _ _ _ _ _ _ _ (at_each_new l i g k m y z at ty n e p q t f s new r u) x v h = extends_statements c l g z q u x v h
extends_around c _ _ _ _ _ _ _ (at_while l i g k m y z at e p q t r u) x v h = extends_statements c l g z q u x v h

then_rest : (c : Frame) (l : Option Types) (g h z : Types) (a b : Statement) (p q : Statements) (w : World) → Simulates (Alike c.schema g) (Alike c.schema h) (exits c l ⊥) (meaning a w) (meaning b w) → Simulates (Alike c.schema h) (Alike c.schema z) (exits c l ⊥) (meanings p w) (meanings q w) → Simulates (Alike c.schema g) (Alike c.schema z) (exits c l ⊥) (meanings (tree.Then a p) w) (meanings (tree.Then b q) w)
then_rest c l g h z a b p q w r e = simulates_then (Alike c.schema g) (Alike c.schema h) (Alike c.schema z) (exits c l ⊥) (meaning a w) (meaning b w) (meanings p w) (meanings q w) r e

-- the same statements but for those at a place
pub replaced_at : (c : Frame) (l : Option Types) (g : Types) (hole : Hole) (i : Option Types) (k m z : Types) → Around c l g hole i k m z → (a b : Statements) (w : World) → IsWorld c w → Simulates (Alike c.schema k) (Alike c.schema m) (exits c i ⊥) (meanings a w) (meanings b w) → Simulates (Alike c.schema g) (Alike c.schema z) (exits c l ⊥) (meanings (fill hole a) w) (meanings (fill hole b) w)
replaced_at c _ _ _ _ _ _ _ (at_here l k m z q e t) a b w world r = before_rest c l k m z a b q w r (typed_statements c l m q z t w world)
replaced_at c _ _ _ _ _ _ _ (at_past l i g h k m z s p t n) a b w world r =
    then_rest c l g h z s s (fill p a) (fill p b) w (typed_statement c l g s h t w world) (replaced_at c l h p i k m z n a b w world r)
replaced_at c _ _ _ _ _ _ _ (at_if l i g k m y z at e p q t n u) a b w world r =
    then_rest c l g g z (tree.If at e (fill p a)) (tree.If at e (fill p b)) q q w (if_typed c l g y at e (fill p a) (fill p b) t (extends_around c l g p i k m y n) w world (replaced_at c l g p i k m y n a b w world r)) (typed_statements c l g q z u w world)
replaced_at c _ _ _ _ _ _ _ (at_then l i g k m y y' z at e p o q t n s u) a b w world r =
    then_rest c l g g z (tree.IfElse at e (fill p a) o) (tree.IfElse at e (fill p b) o) q q w (choose_typed c l g y y' at e (fill p a) (fill p b) o o t (extends_around c l g p i k m y n) (extends_statements c l g y' o s) w world (replaced_at c l g p i k m y n a b w world r) (typed_statements c l g o y' s w world)) (typed_statements c l g q z u w world)
replaced_at c _ _ _ _ _ _ _ (at_else l i g k m y y' z at e o p q t s n u) a b w world r =
    then_rest c l g g z (tree.IfElse at e o (fill p a)) (tree.IfElse at e o (fill p b)) q q w (choose_typed c l g y' y at e o o (fill p a) (fill p b) t (extends_statements c l g y' o s) (extends_around c l g p i k m y n) w world (typed_statements c l g o y' s w world) (replaced_at c l g p i k m y n a b w world r)) (typed_statements c l g q z u w world)
replaced_at c _ _ _ _ _ _ _ (at_each l i g k m y z at ty x e p q t d f s has n u) a b w world r =
    let v : Types = with_type x (Some (Of d)) g in
    then_rest c l g g z (tree.ForEach at ty x e (fill p a)) (tree.ForEach at ty x e (fill p b)) q q w (each_typed c l g y at ty x e (fill p a) (fill p b) t d f s has (extends_around c (Some v) v p i k m y n) w world (replaced_at c (Some v) v p i k m y n a b w world r)) (typed_statements c l g q z u w world)
replaced_at c _ _ _ _ _ _ _ (at_each_new l i g k m y z at ty x e p q t f s new n u) a b w world r =
    then_rest c l g g z (tree.ForEach at ty x e (fill p a)) (tree.ForEach at ty x e (fill p b)) q q w (each_new_typed c l g at ty x e (fill p a) (fill p b) new w) (typed_statements c l g q z u w world)
replaced_at c _ _ _ _ _ _ _ (at_while l i g k m y z at e p q t n u) a b w world r =
    then_rest c l g g z (tree.While at e (fill p a)) (tree.While at e (fill p b)) q q w (while_typed c l g y at e (fill p a) (fill p b) t (extends_around c (Some g) g p i k m y n) w world (replaced_at c (Some g) g p i k m y n a b w world r)) (typed_statements c l g q z u w world)

-- ---- A method

argument_made : (schema : Schema) (o : Option Single) (x : Scalar) (k : JavaType) → IsArgument o x → made_of Of o ≡ Some k → IsVariableOf schema k (plainly (One x))
argument_made schema (Some (ScalarOf ty)) x k h e =
    let same : Of (ScalarOf ty) ≡ k = cc in
    subst (λ z. IsVariableOf schema z (plainly (One x))) same (record { value = h; set = refl })
argument_made schema (Some (RowOf n)) x k h e = absurd h
argument_made schema None x k h e = absurd h

argument_typed : (schema : Schema) (ty : Spelled) (x : Scalar) (k : JavaType) → IsArgument (single_spelled schema ty) x → type_spelled schema ty ≡ Some k → IsVariableOf schema k (plainly (One x))
argument_typed schema tree.Int x k h e = argument_made schema (single_spelled schema tree.Int) x k h e
argument_typed schema tree.Long x k h e = argument_made schema (single_spelled schema tree.Long) x k h e
argument_typed schema tree.Boolean x k h e = argument_made schema (single_spelled schema tree.Boolean) x k h e
argument_typed schema tree.String x k h e = argument_made schema (single_spelled schema tree.String) x k h e
argument_typed schema tree.BoxedInteger x k h e = argument_made schema (single_spelled schema tree.BoxedInteger) x k h e
argument_typed schema tree.BoxedLong x k h e = argument_made schema (single_spelled schema tree.BoxedLong) x k h e
argument_typed schema tree.BoxedBoolean x k h e = argument_made schema (single_spelled schema tree.BoxedBoolean) x k h e
argument_typed schema (tree.Table name) x k h e = argument_made schema (single_spelled schema (tree.Table name)) x k h e
argument_typed schema (tree.ListOf ty) x k h e = absurd h
argument_typed schema (tree.SetOf ty) x k h e = absurd h

parameter_put : (schema : Schema) (s : Store) (g : Types) (x y : List ℕ) (t : Option JavaType) (k : JavaType) (v : Variable) (p : Bool) → bytes_eq x y ≡ p → (t ≡ Some k → IsVariableOf schema k v) → (g y ≡ Some k → Common schema k (at_name s y) (at_name s y)) → cond p t (g y) ≡ Some k → Common schema k (at_name (put s x v) y) (at_name (put s x v) y)
parameter_put schema s g x y t k v true q h i e = record { held = v; typed = h e; left = put_at s x y v q; right = put_at s x y v q }
parameter_put schema s g x y t k v false q h i e =
    let u : Common schema k (at_name s y) (at_name s y) = i e in
    record { held = u.held; typed = u.typed; left = put_other s x y v q ∙ u.left; right = put_other s x y v q ∙ u.left }

parameters_alike : (schema : Schema) (ps : List PlainParam) (args : List Scalar) → AreArguments schema ps args → (y : List ℕ) (k : JavaType) → types_of_params schema ps y ≡ Some k → Common schema k (at_name (store_of ps args) y) (at_name (store_of ps args) y)
parameters_alike schema [] [] h y k e = absurd cc
parameters_alike schema [] (x ∷ xs) h y k e = absurd h
parameters_alike schema (p ∷ ps) [] h y k e = absurd h
parameters_alike schema (p ∷ ps) (x ∷ xs) h y k e =
    parameter_put schema (store_of ps xs) (types_of_params schema ps) p.name y (type_spelled schema p.ty) k (plainly (One x)) (bytes_eq p.name y) refl (λ q. argument_typed schema p.ty x k h.0 q) (λ q. parameters_alike schema ps xs h.1 y k q) e

pub start_alike : (schema : Schema) (m : PlainMethod) (args : List Scalar) (n : ℕ) → AreArguments schema m.params args → Alike schema (types_of_params schema m.params) (start m args n) (start m args n)
start_alike schema m args n h = record { store = λ y k e. parameters_alike schema m.params args h y k e; lines = refl; turns = omega arith }

finished_held : (c : Frame) (z : Types) (o q : Result Passed Ending) (lines : List (List ℕ)) (v : Option Value) → Follows (Alike c.schema z) (exits c None ⊥) o q → finished o ≡ Done lines v → finished q ≡ Done lines v
finished_held c z (Ok (GoesOn s)) q lines v h e = ap finished h.is ∙ ap (λ l. Done l None) (sym h.holds.lines) ∙ e
finished_held c z (Ok (Leaves s)) q lines v h e = absurd h.holds
finished_held c z (Ok (Returns s u)) q lines v h e = ap finished h.0.is ∙ ap (λ l. Done l u) (sym h.0.lines) ∙ e
finished_held c z (Err (endings.Faulted fault at)) q lines v h e = absurd cc
finished_held c z (Err endings.OutOfTurns) q lines v h e = absurd cc
finished_held c z (Err endings.Stuck) q lines v h e = absurd cc

pub replaced_kept : (c : Frame) (m : PlainMethod) (hole : Hole) (old new : Statements) → MayReplace c m hole old new → (w : World) → IsWorld c w → (args : List Scalar) → AreArguments c.schema m.params args → (turns : ℕ) (lines : List (List ℕ)) (v : Option Value) → outcome w (with_body m (fill hole old)) args turns ≡ Done lines v → outcome w (with_body m (fill hole new)) args turns ≡ Done lines v
replaced_kept c m hole old new r w i args typed turns lines v d =
    let s : State = start m args turns in
    finished_held c r.end (meanings (fill hole old) w s) (meanings (fill hole new) w s) lines v ((replaced_at c None (types_of_params c.schema m.params) hole r.loop r.before r.after r.end r.around old new w i (replaced_here c r.loop r.before r.after_old r.after_new r.after old new r.old_typed r.new_typed r.old_leaves r.new_leaves r.replaces w i)).by s s (start_alike c.schema m args turns typed)) d

pub program_kept : (schema : Schema) (p : PlainProgram) (before after : List PlainMethod) (m : PlainMethod) (hole : Hole) (old new : Statements) → ((reader : Reader schema) → MayReplace (frame_of schema reader.read m) m hole old new) → Keeps (with_methods p (before ++ with_body m (fill hole old) ∷ after)) (with_methods p (before ++ with_body m (fill hole new) ∷ after)) schema
program_kept schema p before after m hole old new r =
    keeps_replaced schema p before after (with_body m (fill hole old)) (fill hole new) (λ reader db is args typed n lines v e. replaced_kept (frame_of schema reader.read m) m hole old new (r reader) (world schema reader db) (worlds_are_typed schema reader.read db m is) args typed n lines v e)

stuck_never : (c : Frame) (z : Types) (o : Result Passed Ending) → Follows (Alike c.schema z) (exits c None ⊥) o o → finished o ≡ Stuck → ⊥
stuck_never c z (Ok (GoesOn s)) h e = absurd cc
stuck_never c z (Ok (Leaves s)) h e = h.holds
stuck_never c z (Ok (Returns s u)) h e = absurd cc
stuck_never c z (Err (endings.Faulted fault at)) h e = absurd cc
stuck_never c z (Err endings.OutOfTurns) h e = absurd cc
stuck_never c z (Err endings.Stuck) h e = h

pub typed_never_stuck : (c : Frame) (m : PlainMethod) (z : Types) → TypedStatements c None (types_of_params c.schema m.params) m.body z → (w : World) → IsWorld c w → (args : List Scalar) → AreArguments c.schema m.params args → (turns : ℕ) → outcome w m args turns ≢ Stuck
typed_never_stuck c m z t w i args typed turns e =
    stuck_never c z (meanings m.body w (start m args turns)) ((typed_statements c None (types_of_params c.schema m.params) m.body z t w i).by (start m args turns) (start m args turns) (start_alike c.schema m args turns typed)) e

returned_typed : (c : Frame) (z : Types) (o : Result Passed Ending) (lines : List (List ℕ)) (v : Value) → Follows (Alike c.schema z) (exits c None ⊥) o o → finished o ≡ Done lines (Some v) → IsResult c.schema c.result (Some v)
returned_typed c z (Ok (GoesOn s)) lines v h e = absurd cc
returned_typed c z (Ok (Leaves s)) lines v h e = absurd h.holds
returned_typed c z (Ok (Returns s u)) lines v h e = let same : u ≡ Some v = cc in subst (IsResult c.schema c.result) same h.1
returned_typed c z (Err (endings.Faulted fault at)) lines v h e = absurd cc
returned_typed c z (Err endings.OutOfTurns) lines v h e = absurd cc
returned_typed c z (Err endings.Stuck) lines v h e = absurd cc

pub typed_result : (c : Frame) (m : PlainMethod) (z : Types) → TypedStatements c None (types_of_params c.schema m.params) m.body z → (w : World) → IsWorld c w → (args : List Scalar) → AreArguments c.schema m.params args → (turns : ℕ) (lines : List (List ℕ)) (v : Value) → outcome w m args turns ≡ Done lines (Some v) → IsResult c.schema c.result (Some v)
typed_result c m z t w i args typed turns lines v e =
    returned_typed c z (meanings m.body w (start m args turns)) lines v ((typed_statements c None (types_of_params c.schema m.params) m.body z t w i).by (start m args turns) (start m args turns) (start_alike c.schema m args turns typed)) e
