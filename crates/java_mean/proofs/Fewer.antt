-- A typing stands where variables that nothing mentions are no longer visible.
use Rattle.std.proofs.Common.{◌≡◌, ℕ, Bool, true, false, List, Option, Some, None, refl, sym, ap, ◌∙◌, subst, cond}
use Rattle.std.specs.Prelude.{bytes_eq}
use Rattle.qbs_base.specs.declared.scalar.Ty.{Ty}
use Rattle.qbs_base.specs.declared.span.Span.{Span}
use Rattle.java_ast.specs.Tree as tree
use Rattle.java_ast.specs.Tree.{Expression, Expressions, Statement, Statements}
use Rattle.java_mean.specs.Mentions.{EachIn, EachAmong, EachMentionedIn, EachMentioned}
use Rattle.java_mean.specs.Refines.{Hole, Around, at_here, at_past, at_if, at_then, at_else, at_each, at_each_new, at_while, behind}
use Rattle.java_mean.specs.Types.{JavaType, Of, Types, with_type}
use Rattle.java_mean.specs.Typing.{Frame, HasType, lit, var, field, binary, negated, equals, size, get, contains, fetch, query, query_long, query_boolean, new_list, new_set, new_set_of, HaveTypes, no_more, and, Extends, TypedStatement, declare, assign, add, sort, when, choose, for_each, for_each_new, while_true, print, return_none, return_value, leave, TypedStatements, done as nothing, next}
use Rattle.java_mean.proofs.Bridge.{InLoop, body_in}
use Rattle.java_mean.proofs.TypedRuns.{extends_statement}

-- ---- Types that say the same of some names

-- both say the same of each of these names
abbrev pub Same : (List ℕ → Type 0) → Types → Types → Type 0
Same P h g = (x : List ℕ) → P x → h x ≡ g x

same_with : (P : List ℕ → Type 0) (h g : Types) (x : List ℕ) (k : Option JavaType) → Same P h g → Same P (with_type x k h) (with_type x k g)
same_with P h g x k s y m = ap (cond (bytes_eq x y) k) (s y m)

fewer_step : (b : Bool) (k o u : Option JavaType) (j : JavaType) → (o ≡ Some j → u ≡ Some j) → cond b k o ≡ Some j → cond b k u ≡ Some j
fewer_step true k o u j f e = e
fewer_step false k o u j f e = f e

pub fewer_with : (g h : Types) (x : List ℕ) (k : Option JavaType) → Extends g h → Extends (with_type x k g) (with_type x k h)
fewer_with g h x k f y j e = fewer_step (bytes_eq x y) k (h y) (g y) j (f y j) e

absent : (o u : Option JavaType) → u ≡ None → ((k : JavaType) → o ≡ Some k → u ≡ Some k) → o ≡ None
absent None u e f = refl
absent (Some k) u e f = let there : u ≡ Some k = f k refl in absurd cc

still_new : (g h : Types) (x : List ℕ) → Extends g h → g x ≡ None → h x ≡ None
still_new g h x f e = absent (h x) (g x) e (f x)

-- ---- Loops

-- where the first is a loop the second is one, at whose body's start no more is visible than here
abbrev InLoops : Option Types → Option Types → Types → Type 0
InLoops l l' h = (b : Types) → l ≡ Some b → InLoop l' h

leaves_later : (l l' : Option Types) (h h' : Types) → Extends h' h → InLoops l l' h → InLoops l l' h'
leaves_later l l' h h' e f b q = let i = f b q in record { start = i.start; is = i.is; seen = λ x k r. e x k (i.seen x k r) }

left_here : (c : Frame) (l : Option Types) (h : Types) (at : Span) → InLoop l h → TypedStatement c l h (tree.Break at) h
left_here c l h at i = subst (λ m. TypedStatement c m h (tree.Break at) h) (sym i.is) (leave i.start h at i.seen)

-- ---- Typings

-- a statement is typed with fewer variables visible, and leaves fewer
record Stands (c : Frame) (P : List ℕ → Type 0) (l : Option Types) (h : Types) (a : Statement) (z : Types) : Type 0 where
  pub end : Types
  pub typed : TypedStatement c l h a end
  pub fewer : Extends z end
  pub same : Same P end z

-- statements are typed with fewer variables visible
pub record Stand (c : Frame) (l : Option Types) (h : Types) (p : Statements) : Type 0 where
  pub end : Types
  pub typed : TypedStatements c l h p end

-- what stands round a place is typed with these variables visible behind it
pub record Narrower (c : Frame) (l : Option Types) (g : Types) (hole : Hole) (i : Option Types) (k m : Types) : Type 0 where
  pub end : Types
  pub around : Around c l g hole i k m end

module _ (c : Frame) (P : List ℕ → Type 0) where
  mutual
    pub expression_stands : (g h : Types) (e : Expression) (k : JavaType) → HasType c g e k → Same P h g → EachIn P e → HasType c h e k
    expression_stands g h _ _ (lit at x ty t) s m = lit at x ty t
    expression_stands g h _ _ (var at x k e) s m = var at x k (s x m ∙ e)
    expression_stands g h _ _ (field at e f n i column t q r) s m = field at e f n i column (expression_stands g h e _ t s m) q r
    expression_stands g h _ _ (binary at op a b from to o t u) s m = binary at op a b from to o (expression_stands g h a _ t s m.0) (expression_stands g h b _ u s m.1)
    expression_stands g h _ _ (negated at e t) s m = negated at e (expression_stands g h e _ t s m)
    expression_stands g h _ _ (equals at a b t u) s m = equals at a b (expression_stands g h a _ t s m.0) (expression_stands g h b _ u s m.1)
    expression_stands g h _ _ (size at x k a e has) s m = size at x k a (s x m ∙ e) has
    expression_stands g h _ _ (get at x e a q t) s m = get at x e a (s x m.0 ∙ q) (expression_stands g h e _ t s m.1)
    expression_stands g h _ _ (contains at x e k ty q has t) s m = contains at x e k ty (s x m.0 ∙ q) has (expression_stands g h e _ t s m.1)
    expression_stands g h _ _ (fetch at t n e) s m = fetch at t n e
    expression_stands g h _ _ (query at ty text es q e t) s m = query at ty text es q e (expressions_stand g h es q.params t s m)
    expression_stands g h _ _ (query_long at text es q e t) s m = query_long at text es q e (expressions_stand g h es q.params t s m)
    expression_stands g h _ _ (query_boolean at text es q e t) s m = query_boolean at text es q e (expressions_stand g h es q.params t s m)
    expression_stands g h _ _ (new_list at a) s m = new_list at a
    expression_stands g h _ _ (new_set at a) s m = new_set at a
    expression_stands g h _ _ (new_set_of at e a t) s m = new_set_of at e a (expression_stands g h e _ t s m)

    expressions_stand : (g h : Types) (es : Expressions) (types : List Ty) → HaveTypes c g es types → Same P h g → EachAmong P es → HaveTypes c h es types
    expressions_stand g h _ _ no_more s m = no_more
    expressions_stand g h _ _ (and e es ty types t u) s m = and e es ty types (expression_stands g h e _ t s m.0) (expressions_stand g h es types u s m.1)

  -- a statement that leaves what it finds
  leaves_same : (l : Option Types) (g h : Types) (a : Statement) → Extends g h → Same P h g → TypedStatement c l h a h → Stands c P l h a g
  leaves_same l g h a f s t = record { end = h; typed = t; fewer = f; same = s }

  mutual
    statement_stands : (l l' : Option Types) (g h : Types) (a : Statement) (z : Types) → TypedStatement c l g a z → Extends g h → Same P h g → InLoops l l' h → EachMentionedIn P a → Stands c P l' h a z
    statement_stands _ l' _ h _ _ (declare l g at ty x e k n q t) f s d m =
        record { end = with_type x (Some k) h; typed = declare l' h at ty x e k (still_new g h x f n) q (expression_stands g h e k t s m); fewer = fewer_with g h x (Some k) f; same = same_with P h g x (Some k) s }
    statement_stands _ l' _ h _ _ (assign l g at x e k n t) f s d m = leaves_same l' g h (tree.Assign at x e) f s (assign l' h at x e k (s x m.0 ∙ n) (expression_stands g h e k t s m.1))
    statement_stands _ l' _ h _ _ (add l g at x e k a n has t) f s d m = leaves_same l' g h (tree.Add at x e) f s (add l' h at x e k a (s x m.0 ∙ n) has (expression_stands g h e _ t s m.1))
    statement_stands _ l' _ h _ _ (sort l g at x keys down a n) f s d m = leaves_same l' g h (tree.Sort at x keys down) f s (sort l' h at x keys down a (s x m ∙ n))
    statement_stands _ l' _ h _ _ (when l g z at e p t u) f s d m =
        let p' = statements_stand l l' g h p z u f s d m.1 in
        leaves_same l' g h (tree.If at e p) f s (when l' h p'.end at e p (expression_stands g h e _ t s m.0) p'.typed)
    statement_stands _ l' _ h _ _ (choose l g z z' at e p q t u v) f s d m =
        let p' = statements_stand l l' g h p z u f s d m.1.0 in
        let q' = statements_stand l l' g h q z' v f s d m.1.1 in
        leaves_same l' g h (tree.IfElse at e p q) f s (choose l' h p'.end q'.end at e p q (expression_stands g h e _ t s m.0) p'.typed q'.typed)
    statement_stands _ l' _ h _ _ (for_each l g z at ty x e p k a n t has u) f s d m =
        let g' : Types = with_type x (Some (Of a)) g in
        let h' : Types = with_type x (Some (Of a)) h in
        let p' = statements_stand (Some g') (Some h') g' h' p z u (fewer_with g h x (Some (Of a)) f) (same_with P h g x (Some (Of a)) s) (λ b q. body_in h') m.1 in
        leaves_same l' g h (tree.ForEach at ty x e p) f s (for_each l' h p'.end at ty x e p k a (still_new g h x f n) (expression_stands g h e k t s m.0) has p'.typed)
    statement_stands _ l' _ h _ _ (for_each_new l g z at ty x e p k n q new u) f s d m =
        let g' : Types = with_type x (Some k) g in
        let h' : Types = with_type x (Some k) h in
        let p' = statements_stand (Some g') (Some h') g' h' p z u (fewer_with g h x (Some k) f) (same_with P h g x (Some k) s) (λ b r. body_in h') m.1 in
        leaves_same l' g h (tree.ForEach at ty x e p) f s (for_each_new l' h p'.end at ty x e p k (still_new g h x f n) q new p'.typed)
    statement_stands _ l' _ h _ _ (while_true l g z at e p t u) f s d m =
        let p' = statements_stand (Some g) (Some h) g h p z u f s (λ b q. body_in h) m.1 in
        leaves_same l' g h (tree.While at e p) f s (while_true l' h p'.end at e p (expression_stands g h e _ t s m.0) p'.typed)
    statement_stands _ l' _ h _ _ (print l g at e ty t) f s d m = leaves_same l' g h (tree.Print at e) f s (print l' h at e ty (expression_stands g h e _ t s m))
    statement_stands _ l' _ h _ _ (return_none l g at n) f s d m = leaves_same l' g h (tree.Return at None) f s (return_none l' h at n)
    statement_stands _ l' _ h _ _ (return_value l g at e k n t) f s d m = leaves_same l' g h (tree.Return at (Some e)) f s (return_value l' h at e k n (expression_stands g h e k t s m))
    statement_stands _ l' _ h _ _ (leave b g at e) f s d m = leaves_same l' g h (tree.Break at) f s (left_here c l' h at (d b refl))

    pub statements_stand : (l l' : Option Types) (g h : Types) (p : Statements) (z : Types) → TypedStatements c l g p z → Extends g h → Same P h g → InLoops l l' h → EachMentioned P p → Stand c l' h p
    statements_stand _ l' _ h _ _ (nothing l g) f s d m = record { end = h; typed = nothing l' h }
    statements_stand _ l' _ h _ _ (next l g y z a p t u) f s d m =
        let one = statement_stands l l' g h a y t f s d m.0 in
        let rest = statements_stand l l' y one.end p z u one.fewer one.same (leaves_later l l' h one.end (extends_statement c l' h one.end a one.typed) d) m.1 in
        record { end = rest.end; typed = next l' h one.end rest.end a p one.typed rest.typed }

  -- ---- What stands round a place

  pub narrower : (l : Option Types) (g : Types) (hole : Hole) (i : Option Types) (k m h z : Types) → Around c l g hole i k m z → Extends m h → Same P h m → Extends h k → InLoops l l g → EachMentioned P (behind hole) → Narrower c l g hole i k h
  narrower _ _ _ _ _ _ h _ (at_here l k m z q x t) f s e d mentioned =
      let rest = statements_stand l l m h q z t f s (leaves_later l l k h e d) mentioned in
      record { end = rest.end; around = at_here l k h rest.end q e rest.typed }
  narrower _ _ _ _ _ _ h _ (at_past l i g y k m z a p t r) f s e d mentioned =
      let n = narrower l y p i k m h z r f s e (leaves_later l l g y (extends_statement c l g y a t) d) mentioned in
      record { end = n.end; around = at_past l i g y k h n.end a p t n.around }
  narrower _ _ _ _ _ _ h _ (at_if l i g k m y z at test p q t r u) f s e d mentioned =
      let n = narrower l g p i k m h y r f s e d mentioned in
      record { end = z; around = at_if l i g k h n.end z at test p q t n.around u }
  narrower _ _ _ _ _ _ h _ (at_then l i g k m y y' z at test p b q t r v u) f s e d mentioned =
      let n = narrower l g p i k m h y r f s e d mentioned in
      record { end = z; around = at_then l i g k h n.end y' z at test p b q t n.around v u }
  narrower _ _ _ _ _ _ h _ (at_else l i g k m y y' z at test a p q t v r u) f s e d mentioned =
      let n = narrower l g p i k m h y r f s e d mentioned in
      record { end = z; around = at_else l i g k h n.end y' z at test a p q t v n.around u }
  narrower _ _ _ _ _ _ h _ (at_each l i g k m y z at ty x w p q t a new v has r u) f s e d mentioned =
      let g' : Types = with_type x (Some (Of a)) g in
      let n = narrower (Some g') g' p i k m h y r f s e (λ b o. body_in g') mentioned in
      record { end = z; around = at_each l i g k h n.end z at ty x w p q t a new v has n.around u }
  narrower _ _ _ _ _ _ h _ (at_each_new l i g k m y z at ty x w p q t new v fresh r u) f s e d mentioned =
      let g' : Types = with_type x (Some t) g in
      let n = narrower (Some g') g' p i k m h y r f s e (λ b o. body_in g') mentioned in
      record { end = z; around = at_each_new l i g k h n.end z at ty x w p q t new v fresh n.around u }
  narrower _ _ _ _ _ _ h _ (at_while l i g k m y z at test p q t r u) f s e d mentioned =
      let n = narrower (Some g) g p i k m h y r f s e (λ b o. body_in g) mentioned in
      record { end = z; around = at_while l i g k h n.end z at test p q t n.around u }
