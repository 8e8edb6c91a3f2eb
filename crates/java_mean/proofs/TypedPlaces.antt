-- A place in a method in which no rule is broken is well typed.
use Rattle.std.proofs.Common.{◌≡◌, ℕ, true, List, [], ◌++◌, Option, Some, None, sym, ap, ◌∙◌, subst}
use Rattle.std.specs.Prelude.{◌&&◌, slice_get}
use Rattle.qbs_base.specs.declared.span.Span.{Span}
use Rattle.qbs_base.specs.Values.{Schema}
use Rattle.sql_ast.specs.Tree.{PlainQuery}
use Rattle.java_ast.specs.Tree as tree
use Rattle.java_ast.specs.Tree.{Spelled, Expression, Statement, Statements, PlainMethod, PlainProgram}
use Rattle.java_mean.specs.Asks.{frame_of}
use Rattle.java_mean.specs.Numbers.{expression_fits, statement_fits, statements_fit, NumbersFit}
use Rattle.java_mean.specs.Places as places
use Rattle.java_mean.specs.Places.{step, in_expression, in_statement, in_statements, in_branch, in_while, in_for_each, in_body, is_nothing}
use Rattle.java_mean.specs.Refines.{Hole, Here, Past, InIf, InThen, InElse, InEach, InWhile, fill, followed_by, Around, at_here, at_past, at_if, at_then, at_else, at_each, at_each_new, at_while, types_at, loop_at, IsTypedPlace}
use Rattle.java_mean.specs.Rules.{type_of, at_of, unless_passes, is_many_kindred, walked_element, unless_element, set_of_rows, taken}
use Rattle.java_mean.specs.Types.{JavaType, Types, with_type, type_spelled, types_of_params, types_after, types_past}
use Rattle.java_mean.specs.Typing.{Frame, TypedStatements, done, next}
use Rattle.java_mean.specs.Visible.{Visible, is_visible, declared_in, after, with_params}
use Rattle.java_mean.specs.WellTyped.{faults_in, IsWellTyped}
use Rattle.java_mean.proofs.Bridge.{Rounds, KnownResult, further_in, body_in, no_loop, condition, statement_typed, statements_typed, Walks, walks_new, walks_many, walks, IsSeen, nth_seen, nth_fits}
use Rattle.java_mean.proofs.Faultless.{Both, none_both, none_in, none_at, only_none, both_true, neither, got_some, Sees, unseen, sees_declared}
use Rattle.java_mean.proofs.TypedExpressions.{frame, expression_typed}
use Rattle.java_mean.proofs.TypedRuns.{extends_statement, extends_statements}

-- what stands round a place in a for-each
each_around : (c : Frame) (l i : Option Types) (g k m y z : Types) (at : Span) (ty : Spelled) (x : List ℕ) (e : Expression) (h : Hole) (q : Statements) (j : JavaType) → Walks c g e j → g x ≡ None → type_spelled c.schema ty ≡ Some j → Around c (Some (with_type x (type_spelled c.schema ty) g)) (with_type x (type_spelled c.schema ty) g) h i k m y → TypedStatements c l g q z → Around c l g (InEach at ty x e h q) i k m z
each_around c l i g k m y z at ty x e h q _ (walks_new j new) n s a b = at_each_new l i g k m y z at ty x e h q j n s new (subst (λ o. Around c (Some (with_type x o g)) (with_type x o g) h i k m y) s a) b
each_around c l i g k m y z at ty x e h q _ (walks_many j t a d f has) n s r b = at_each l i g k m y z at ty x e h q t a n f has (subst (λ o. Around c (Some (with_type x o g)) (with_type x o g) h i k m y) (s ∙ d) r) b

module _ (schema : Schema) (read : List ℕ → Option PlainQuery) (r : Option Spelled) (result : KnownResult schema r) where
  -- the first of joined statements, and the rest
  parts_typed : (p q : Statements) (vs : Visible) (g : Types) (l : Option Types) (w : places.Around) → Sees vs g → Rounds w l g → statements_fit (followed_by p q) ≡ true → faults_in schema read r (in_statements schema vs w (followed_by p q)) ≡ [] → Both (TypedStatements (frame schema read r) l g p (types_past schema g p)) (TypedStatements (frame schema read r) l (types_past schema g p) q (types_past schema (types_past schema g p) q))
  parts_typed tree.Nothing q vs g l w s d f h = record { left = done l g; right = statements_typed schema read r result q vs g l w s d f h }
  parts_typed (tree.Then a p) q vs g l w s d f h =
      let two = none_in schema read r (in_statement schema vs w (is_nothing (followed_by p q)) a) (in_statements schema (after schema vs a) w (followed_by p q)) h in
      let fit = both_true (statement_fits a) (statements_fit (followed_by p q)) f in
      let t = statement_typed schema read r result a vs g l w (is_nothing (followed_by p q)) s d fit.left two.left in
      let more = types_after schema g a in
      let u = parts_typed p q (after schema vs a) more l w t.sees (further_in w l g more (extends_statement (frame schema read r) l g more a t.typed) d) fit.right two.right in
      record { left = next l g more (types_past schema more p) a p t.typed u.left; right = u.right }

  pub place_typed : (hole : Hole) (p : Statements) (vs : Visible) (g : Types) (l : Option Types) (w : places.Around) → Sees vs g → Rounds w l g → statements_fit (fill hole p) ≡ true → faults_in schema read r (in_statements schema vs w (fill hole p)) ≡ [] → IsTypedPlace (frame schema read r) l g hole p
  place_typed (Here q) p vs g l w s d f h =
      let two = parts_typed p q vs g l w s d f h in
      record {
        end = types_past schema (types_past schema g p) q;
        around = at_here l g (types_past schema g p) (types_past schema (types_past schema g p) q) q (extends_statements (frame schema read r) l g (types_past schema g p) p two.left) two.right;
        typed = two.left;
      }
  place_typed (Past a k) p vs g l w s d f h =
      let two = none_in schema read r (in_statement schema vs w (is_nothing (fill k p)) a) (in_statements schema (after schema vs a) w (fill k p)) h in
      let fit = both_true (statement_fits a) (statements_fit (fill k p)) f in
      let t = statement_typed schema read r result a vs g l w (is_nothing (fill k p)) s d fit.left two.left in
      let more = types_after schema g a in
      let u = place_typed k p (after schema vs a) more l w t.sees (further_in w l g more (extends_statement (frame schema read r) l g more a t.typed) d) fit.right two.right in
      record { end = u.end; around = at_past l (loop_at schema l more k) g more (types_at schema more k) (types_past schema (types_at schema more k) p) u.end a k t.typed u.around; typed = u.typed }
  place_typed (InIf at e k q) p vs g l w s d f h =
      let a = none_in schema read r (in_statement schema vs w (is_nothing q) (tree.If at e (fill k p))) (in_statements schema vs w q) h in
      let n = none_at schema read r (step vs w (is_nothing q) (tree.If at e (fill k p))) (in_expression vs e ++ in_statements schema vs (in_branch w) (fill k p)) a.left in
      let two = none_in schema read r (in_expression vs e) (in_statements schema vs (in_branch w) (fill k p)) n.right in
      let fits = both_true (statement_fits (tree.If at e (fill k p))) (statements_fit q) f in
      let fit = both_true (expression_fits e) (statements_fit (fill k p)) fits.left in
      let u = place_typed k p vs g l (in_branch w) s d fit.right two.right in
      record {
        end = types_past schema g q;
        around = at_if l (loop_at schema l g k) g (types_at schema g k) (types_past schema (types_at schema g k) p) u.end (types_past schema g q) at e k q (condition schema read r result vs g e s fit.left two.left n.left.matched) u.around (statements_typed schema read r result q vs g l w s d fits.right a.right);
        typed = u.typed;
      }
  place_typed (InThen at e k b q) p vs g l w s d f h =
      let a = none_in schema read r (in_statement schema vs w (is_nothing q) (tree.IfElse at e (fill k p) b)) (in_statements schema vs w q) h in
      let n = none_at schema read r (step vs w (is_nothing q) (tree.IfElse at e (fill k p) b)) (in_expression vs e ++ (in_statements schema vs (in_branch w) (fill k p) ++ in_statements schema vs (in_branch w) b)) a.left in
      let two = none_in schema read r (in_expression vs e) (in_statements schema vs (in_branch w) (fill k p) ++ in_statements schema vs (in_branch w) b) n.right in
      let three = none_in schema read r (in_statements schema vs (in_branch w) (fill k p)) (in_statements schema vs (in_branch w) b) two.right in
      let fits = both_true (statement_fits (tree.IfElse at e (fill k p) b)) (statements_fit q) f in
      let fit = both_true (expression_fits e) (statements_fit (fill k p) && statements_fit b) fits.left in
      let more = both_true (statements_fit (fill k p)) (statements_fit b) fit.right in
      let u = place_typed k p vs g l (in_branch w) s d more.left three.left in
      record {
        end = types_past schema g q;
        around = at_then l (loop_at schema l g k) g (types_at schema g k) (types_past schema (types_at schema g k) p) u.end (types_past schema g b) (types_past schema g q) at e k b q (condition schema read r result vs g e s fit.left two.left n.left.matched) u.around (statements_typed schema read r result b vs g l (in_branch w) s d more.right three.right) (statements_typed schema read r result q vs g l w s d fits.right a.right);
        typed = u.typed;
      }
  place_typed (InElse at e b k q) p vs g l w s d f h =
      let a = none_in schema read r (in_statement schema vs w (is_nothing q) (tree.IfElse at e b (fill k p))) (in_statements schema vs w q) h in
      let n = none_at schema read r (step vs w (is_nothing q) (tree.IfElse at e b (fill k p))) (in_expression vs e ++ (in_statements schema vs (in_branch w) b ++ in_statements schema vs (in_branch w) (fill k p))) a.left in
      let two = none_in schema read r (in_expression vs e) (in_statements schema vs (in_branch w) b ++ in_statements schema vs (in_branch w) (fill k p)) n.right in
      let three = none_in schema read r (in_statements schema vs (in_branch w) b) (in_statements schema vs (in_branch w) (fill k p)) two.right in
      let fits = both_true (statement_fits (tree.IfElse at e b (fill k p))) (statements_fit q) f in
      let fit = both_true (expression_fits e) (statements_fit b && statements_fit (fill k p)) fits.left in
      let more = both_true (statements_fit b) (statements_fit (fill k p)) fit.right in
      let u = place_typed k p vs g l (in_branch w) s d more.right three.right in
      record {
        end = types_past schema g q;
        around = at_else l (loop_at schema l g k) g (types_at schema g k) (types_past schema (types_at schema g k) p) u.end (types_past schema g b) (types_past schema g q) at e b k q (condition schema read r result vs g e s fit.left two.left n.left.matched) (statements_typed schema read r result b vs g l (in_branch w) s d more.left three.left) u.around (statements_typed schema read r result q vs g l w s d fits.right a.right);
        typed = u.typed;
      }
  place_typed (InEach at ty x e k q) p vs g l w s d f h =
      let a = none_in schema read r (in_statement schema vs w (is_nothing q) (tree.ForEach at ty x e (fill k p))) (in_statements schema vs w q) h in
      let n = none_at schema read r (step vs w (is_nothing q) (tree.ForEach at ty x e (fill k p))) (in_expression vs e ++ in_statements schema (declared_in vs x (type_spelled schema ty)) (in_for_each e w) (fill k p)) a.left in
      let two = none_in schema read r (in_expression vs e) (in_statements schema (declared_in vs x (type_spelled schema ty)) (in_for_each e w) (fill k p)) n.right in
      let fits = both_true (statement_fits (tree.ForEach at ty x e (fill k p))) (statements_fit q) f in
      let fit = both_true (expression_fits e) (statements_fit (fill k p)) fits.left in
      let j = got_some (type_spelled schema ty) at n.left.known in
      let new = neither (is_visible vs x) _ (only_none (taken vs x) at n.left.single) in
      let m = none_both (set_of_rows ty at) (unless_passes is_many_kindred (type_of schema vs e) (at_of e) ++ unless_element (walked_element (type_of schema vs e)) (type_spelled schema ty) (at_of e)) n.left.matched in
      let more = none_both (unless_passes is_many_kindred (type_of schema vs e) (at_of e)) (unless_element (walked_element (type_of schema vs e)) (type_spelled schema ty) (at_of e)) m.right in
      let inner = with_type x (type_spelled schema ty) g in
      let u = place_typed k p (declared_in vs x (type_spelled schema ty)) inner (Some inner) (in_for_each e w) (sees_declared vs g x (type_spelled schema ty) j.value s new.left j.is) (λ z. body_in inner) fit.right two.right in
      let t = walks (frame schema read r) g e (type_of schema vs e) j.value (at_of e) (expression_typed schema read r vs g e s fit.left two.left) more.left (ap (λ (o : Option JavaType). unless_element (walked_element (type_of schema vs e)) o (at_of e)) (sym j.is) ∙ more.right) in
      record {
        end = types_past schema g q;
        around = each_around (frame schema read r) l (loop_at schema (Some inner) inner k) g (types_at schema inner k) (types_past schema (types_at schema inner k) p) u.end (types_past schema g q) at ty x e k q j.value t (unseen vs g x s new.left) j.is u.around (statements_typed schema read r result q vs g l w s d fits.right a.right);
        typed = u.typed;
      }
  place_typed (InWhile at e k q) p vs g l w s d f h =
      let a = none_in schema read r (in_statement schema vs w (is_nothing q) (tree.While at e (fill k p))) (in_statements schema vs w q) h in
      let n = none_at schema read r (step vs w (is_nothing q) (tree.While at e (fill k p))) (in_expression vs e ++ in_statements schema vs (in_while w) (fill k p)) a.left in
      let two = none_in schema read r (in_expression vs e) (in_statements schema vs (in_while w) (fill k p)) n.right in
      let fits = both_true (statement_fits (tree.While at e (fill k p))) (statements_fit q) f in
      let fit = both_true (expression_fits e) (statements_fit (fill k p)) fits.left in
      let u = place_typed k p vs g (Some g) (in_while w) s (λ z. body_in g) fit.right two.right in
      record {
        end = types_past schema g q;
        around = at_while l (loop_at schema (Some g) g k) g (types_at schema g k) (types_past schema (types_at schema g k) p) u.end (types_past schema g q) at e k q (condition schema read r result vs g e s fit.left two.left n.left.matched) u.around (statements_typed schema read r result q vs g l w s d fits.right a.right);
        typed = u.typed;
      }

seen_place : (schema : Schema) (read : List ℕ → Option PlainQuery) (m : PlainMethod) (hole : Hole) (p : Statements) → IsSeen schema read m → statements_fit m.body ≡ true → m.body ≡ fill hole p → IsTypedPlace (frame_of schema read m) None (types_of_params schema m.params) hole p
seen_place schema read m hole p k f e =
    place_typed schema read m.result k.result hole p (with_params schema [] m.params) (types_of_params schema m.params) None in_body k.params (no_loop (types_of_params schema m.params)) (subst (λ (b : Statements). statements_fit b ≡ true) e f) (subst (λ (b : Statements). faults_in schema read m.result (in_statements schema (with_params schema [] m.params) in_body b) ≡ []) e k.body)

pub places_typed : (schema : Schema) (read : List ℕ → Option PlainQuery) (p : PlainProgram) (n : ℕ) (m : PlainMethod) (hole : Hole) (part : Statements) → IsWellTyped schema read p → NumbersFit p → slice_get p.methods n ≡ Some m → m.body ≡ fill hole part → IsTypedPlace (frame_of schema read m) None (types_of_params schema m.params) hole part
places_typed schema read p n m hole part t f e is = seen_place schema read m hole part (nth_seen schema read p.methods [] n m t e) (nth_fits p.methods n m f e) is
