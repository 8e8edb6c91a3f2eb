-- A program in which a run and its loop give way, where a path leads to the loop.
use Rattle.std.proofs.Common.{◌≡◌, ℕ, zero, suc, ◌≤◌, List, [], ◌∷◌, ◌++◌, Some, sym, ap, ◌∙◌, subst}
use Rattle.std.specs.Prelude.{slice_get}
use Rattle.qbs_base.specs.Values.{Schema}
use Rattle.java_ast.specs.Path.{statement_in, replaced_in, with_method, replaced_at, last_of, with_body, with_methods}
use Rattle.java_ast.specs.Tree.{Statement, Statements, PlainMethod, PlainProgram}
use Rattle.java_mean.specs.Asks.{frame_of}
use Rattle.java_mean.specs.Keeps.{Keeps}
use Rattle.java_mean.specs.Numbers.{NumbersFit}
use Rattle.java_mean.specs.Queries.{Reader}
use Rattle.java_mean.specs.Refines.{Hole, fill}
use Rattle.java_mean.specs.Types.{types_past}
use Rattle.java_mean.specs.WellTyped.{IsWellTyped}
use Rattle.java_loops.specs.Walks.Places.{place_in, run_in}
use Rattle.java_loops.specs.Walks.Reads.{Set}
use Rattle.java_loops.specs.Walks.Replacing.{Ask, replacement, run_and_loop, MayGiveWay, seen_at, HaveSameTypes}
use Rattle.java_loops.proofs.Walks.Placed.{replaced_fills, whole_fills}
use Rattle.java_loops.proofs.Walks.Visibility.{programs_give_way}

-- the methods before and after one
pub record MethodAt (i : ℕ) (ms : List PlainMethod) (m : PlainMethod) : Type 0 where
  pub before : List PlainMethod
  pub after : List PlainMethod
  pub is : ms ≡ before ++ m ∷ after
  pub changed : (change : PlainMethod → PlainMethod) → with_method i change ms ≡ before ++ change m ∷ after

pub method_at : (i : ℕ) (ms : List PlainMethod) (m : PlainMethod) → slice_get ms i ≡ Some m → MethodAt i ms m
method_at zero [] m e = absurd cc
method_at (suc i) [] m e = absurd cc
method_at zero (n ∷ ms) m e = let q : n ≡ m = cc in record { before = []; after = ms; is = ap (λ z. z ∷ ms) q; changed = λ change. ap (λ z. change z ∷ ms) q }
method_at (suc i) (n ∷ ms) m e =
    let k : MethodAt i ms m = method_at i ms m e in
    record { before = n ∷ k.before; after = k.after; is = ap (λ l. n ∷ l) k.is; changed = λ change. ap (λ l. n ∷ l) (k.changed change) }

pub replaced_keeps : (schema : Schema) (reader : Reader schema) (p : PlainProgram) (i n first : ℕ) (path : List ℕ) (m : PlainMethod) (loop : Statement) (r : Set) (ks : List Ask) → slice_get p.methods i ≡ Some m → statement_in path n m.body ≡ Some loop → first ≤ last_of (n ∷ path) → IsWellTyped schema reader.read p → NumbersFit p → IsWellTyped schema reader.read (replaced_at (i ∷ n ∷ path) first (replacement r (run_in path n first m.body) ks) p) → NumbersFit (replaced_at (i ∷ n ∷ path) first (replacement r (run_in path n first m.body) ks) p) → HaveSameTypes schema (types_past schema (seen_at schema m (place_in path n first m.body)) (run_in path n first m.body)) ks → MayGiveWay (frame_of schema reader.read m) (seen_at schema m (place_in path n first m.body)) (types_past schema (seen_at schema m (place_in path n first m.body)) (replacement r (run_in path n first m.body) ks)) (run_in path n first m.body) loop r ks → Keeps p (replaced_at (i ∷ n ∷ path) first (replacement r (run_in path n first m.body) ks) p) schema
replaced_keeps schema reader p i n first path m loop r ks found leads below t f t' f' same may =
    let hole : Hole = place_in path n first m.body in
    let run : Statements = run_in path n first m.body in
    let new : Statements = replacement r run ks in
    let k : MethodAt i p.methods m = method_at i p.methods m found in
    let at : Statements → PlainProgram = λ body. with_methods p (k.before ++ with_body m body ∷ k.after) in
    let old_is : p ≡ at (fill hole (run_and_loop run loop)) = ap (with_methods p) k.is ∙ ap at (whole_fills path n first m.body loop below leads) in
    let new_is : replaced_at (i ∷ n ∷ path) first new p ≡ at (fill hole new) = ap (with_methods p) (k.changed (λ z. with_body z (replaced_in path n first new z.body))) ∙ ap at (replaced_fills path n first new m.body loop leads) in
    let kept : Keeps (at (fill hole (run_and_loop run loop))) (at (fill hole new)) schema = programs_give_way schema reader p k.before k.after m hole run loop r ks (subst (IsWellTyped schema reader.read) old_is t) (subst NumbersFit old_is f) (subst (IsWellTyped schema reader.read) new_is t') (subst NumbersFit new_is f') same may in
    subst (λ z. Keeps z (replaced_at (i ∷ n ∷ path) first new p) schema) (sym old_is) (subst (λ z. Keeps (at (fill hole (run_and_loop run loop))) z schema) (sym new_is) kept)
