-- Where typed statements pass from a typed state, the last state is typed.
use Rattle.std.proofs.Common.{◌≡◌, Option, Some, Ok, refl, sym, subst, arith}
use Rattle.qbs_base.specs.Named.{at_name}
use Rattle.qbs_base.specs.Values.{Schema}
use Rattle.java_ast.specs.Tree.{Statement, Statements, Nothing, Then}
use Rattle.java_mean.specs.Refines.{Passes, Follows, Simulates, Alike, exits}
use Rattle.java_mean.specs.Statement.{State, GoesOn, Does, meaning, meanings}
use Rattle.java_mean.specs.Store.{Variable}
use Rattle.java_mean.specs.Types.{Types, types_past, IsVariableOf, IsTyped}
use Rattle.java_mean.specs.Typing.{Frame, IsWorld, TypedStatements}
use Rattle.java_mean.specs.World.{World}
use Rattle.java_mean.proofs.Alike.{typed_store}
use Rattle.java_mean.proofs.TypedRuns.{typed_statement, typed_statements}
use Rattle.java_loops.specs.Walks.Replacing.{run_and_loop}
use Rattle.java_loops.proofs.Walks.Visibility.{TypedNext, next_of, TypedParts, typed_parts, typed_past}

alike_itself : (schema : Schema) (g : Types) (s : State) → IsTyped schema g s.store → Alike schema g s s
alike_itself schema g s t = record { store = λ x k e. (let v : (v : Variable) × (at_name s.store x ≡ Some v) × IsVariableOf schema k v = t.held x k e in record { held = v.0; typed = v.2; left = v.1; right = v.1 }); lines = refl; turns = omega arith }

left_typed : (c : Frame) (l : Option Types) (g h : Types) (f : Does) (s u : State) → Simulates (Alike c.schema g) (Alike c.schema h) (exits c l ⊥) f f → IsTyped c.schema g s.store → f s ≡ Ok (GoesOn u) → IsTyped c.schema h u.store
left_typed c l g h f s u sim t e =
    let k : Passes (Alike c.schema h) GoesOn u (f s) = subst (λ o. Follows (Alike c.schema h) (exits c l ⊥) o (f s)) e (sim.by s s (alike_itself c.schema g s t)) in
    typed_store c.schema h u k.state k.holds

pub run_leaves_typed : (c : Frame) (l : Option Types) (g z : Types) (run : Statements) (loop : Statement) → TypedStatements c l g (run_and_loop run loop) z → (w : World) → IsWorld c w → (s t : State) → IsTyped c.schema g s.store → meanings run w s ≡ Ok (GoesOn t) → IsTyped c.schema (types_past c.schema g run) t.store
run_leaves_typed c l g z run loop typed w i s t h e =
    let k : TypedParts c l g run (Then loop Nothing) z = typed_parts c l g run (Then loop Nothing) z typed in
    subst (λ y. IsTyped c.schema y t.store) (typed_past c l g k.middle run k.first) (left_typed c l g k.middle (meanings run w) s t (typed_statements c l g run k.middle k.first w i) h e)

pub loop_leaves_typed : (c : Frame) (l : Option Types) (g z : Types) (run : Statements) (loop : Statement) → TypedStatements c l g (run_and_loop run loop) z → (w : World) → IsWorld c w → (t u : State) → IsTyped c.schema (types_past c.schema g run) t.store → meaning loop w t ≡ Ok (GoesOn u) → IsTyped c.schema z u.store
loop_leaves_typed c l g z run loop typed w i t u h e =
    let k : TypedParts c l g run (Then loop Nothing) z = typed_parts c l g run (Then loop Nothing) z typed in
    let n : TypedNext c l k.middle loop Nothing z = next_of c l k.middle loop Nothing z k.second in
    let start : IsTyped c.schema k.middle t.store = subst (λ y. IsTyped c.schema y t.store) (sym (typed_past c l g k.middle run k.first)) h in
    subst (λ y. IsTyped c.schema y u.store) (sym (typed_past c l n.middle z Nothing n.rest)) (left_typed c l k.middle n.middle (meaning loop w) t u (typed_statement c l k.middle loop n.middle n.first w i) start e)
