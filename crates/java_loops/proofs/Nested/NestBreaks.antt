-- In a well-typed program each `break` is the last statement of its block.
use Rattle.std.proofs.Common.{◌≡◌, ℕ, Bool, true, false, ◌&&◌, List, [], ◌∷◌, ◌++◌, Option, Some, refl, sym, ap, ◌∙◌, slice_get}
use Rattle.std.proofs.lemmas.Bool.{and_parts, and_from}
use Rattle.qbs_base.specs.Values.{Schema}
use Rattle.sql_ast.specs.Tree.{PlainQuery}
use Rattle.java_ast.specs.Tree as tree
use Rattle.java_ast.specs.Tree.{Spelled, Statement, Statements, Nothing, Then, PlainMethod, PlainProgram}
use Rattle.java_mean.specs.Places as places
use Rattle.java_mean.specs.Places.{step, in_expression, in_parts, in_statements, in_branch, in_while, in_for_each, in_body, is_nothing}
use Rattle.java_mean.specs.Refines.{Hole, Here, Past, InIf, InThen, InElse, InEach, InWhile, fill, followed_by}
use Rattle.java_mean.specs.Rules.{break_place}
use Rattle.java_mean.specs.Types.{type_spelled}
use Rattle.java_mean.specs.Visible.{Visible, declared_in, after, with_params}
use Rattle.java_mean.specs.WellTyped.{faults_in, IsWellTyped}
use Rattle.java_mean.proofs.Bridge.{IsSeen, nth_seen}
use Rattle.java_mean.proofs.Faultless.{none_in, none_at, not_none}
use Rattle.loop_text.specs.Kernel.KernelStatements.{is_break}
use Rattle.loop_text.specs.Sites.Sites.{without_first, before_last, without_last, kernel_body}
use Rattle.java_loops.proofs.Nested.NestBlocks.{ends_there, breaks_last, all_breaks_last}

-- ---- In a method

ends_of : (s : Statement) (p : Statements) (vs : Visible) (w : places.Around) → break_place (step vs w (is_nothing p) s) ≡ [] → ends_there (is_break s) p ≡ true
ends_of (tree.Declare at ty x e) p vs w h = refl
ends_of (tree.Assign at x e) p vs w h = refl
ends_of (tree.Add at x e) p vs w h = refl
ends_of (tree.Sort at x keys downs) p vs w h = refl
ends_of (tree.If at c a) p vs w h = refl
ends_of (tree.IfElse at c a b) p vs w h = refl
ends_of (tree.ForEach at ty x e b) p vs w h = refl
ends_of (tree.While at c b) p vs w h = refl
ends_of (tree.Print at e) p vs w h = refl
ends_of (tree.Return at e) p vs w h = refl
ends_of (tree.Break at) p vs w h = (and_parts w.in_loop (is_nothing p) (not_none (w.in_loop && is_nothing p) at h)).1

module _ (schema : Schema) (read : List ℕ → Option PlainQuery) (r : Option Spelled) where
  mutual
    statement_breaks : (s : Statement) (vs : Visible) (w : places.Around) → faults_in schema read r (in_parts schema vs w s) ≡ [] → breaks_last s ≡ true
    statement_breaks (tree.Declare at ty x e) vs w h = refl
    statement_breaks (tree.Assign at x e) vs w h = refl
    statement_breaks (tree.Add at x e) vs w h = refl
    statement_breaks (tree.Sort at x keys downs) vs w h = refl
    statement_breaks (tree.If at c a) vs w h = statements_break a vs (in_branch w) (none_in schema read r (in_expression vs c) (in_statements schema vs (in_branch w) a) h).right
    statement_breaks (tree.IfElse at c a b) vs w h =
        let two = (none_in schema read r (in_expression vs c) (in_statements schema vs (in_branch w) a ++ in_statements schema vs (in_branch w) b) h).right in
        let parts = none_in schema read r (in_statements schema vs (in_branch w) a) (in_statements schema vs (in_branch w) b) two in
        and_from (all_breaks_last a) (all_breaks_last b) (statements_break a vs (in_branch w) parts.left) (statements_break b vs (in_branch w) parts.right)
    statement_breaks (tree.ForEach at ty x e b) vs w h =
        statements_break b (declared_in vs x (type_spelled schema ty)) (in_for_each e w) (none_in schema read r (in_expression vs e) (in_statements schema (declared_in vs x (type_spelled schema ty)) (in_for_each e w) b) h).right
    statement_breaks (tree.While at c b) vs w h = statements_break b vs (in_while w) (none_in schema read r (in_expression vs c) (in_statements schema vs (in_while w) b) h).right
    statement_breaks (tree.Print at e) vs w h = refl
    statement_breaks (tree.Return at e) vs w h = refl
    statement_breaks (tree.Break at) vs w h = refl

    statements_break : (p : Statements) (vs : Visible) (w : places.Around) → faults_in schema read r (in_statements schema vs w p) ≡ [] → all_breaks_last p ≡ true
    statements_break Nothing vs w h = refl
    statements_break (Then s p) vs w h =
        let two = none_in schema read r (step vs w (is_nothing p) s ∷ in_parts schema vs w s) (in_statements schema (after schema vs s) w p) h in
        let one = none_at schema read r (step vs w (is_nothing p) s) (in_parts schema vs w s) two.left in
        and_from (breaks_last s) (ends_there (is_break s) p && all_breaks_last p) (statement_breaks s vs w one.right) (and_from (ends_there (is_break s) p) (all_breaks_last p) (ends_of s p vs w one.left.in_loop) (statements_break p (after schema vs s) w two.right))

method_breaks : (schema : Schema) (read : List ℕ → Option PlainQuery) (m : PlainMethod) → IsSeen schema read m → all_breaks_last m.body ≡ true
method_breaks schema read m k = statements_break schema read m.result m.body (with_params schema [] m.params) in_body k.body

-- ---- At a place

first_part : (s : Statement) (p : Statements) → all_breaks_last (Then s p) ≡ true → breaks_last s ≡ true
first_part s p h = (and_parts (breaks_last s) (ends_there (is_break s) p && all_breaks_last p) h).0

rest_part : (s : Statement) (p : Statements) → all_breaks_last (Then s p) ≡ true → all_breaks_last p ≡ true
rest_part s p h = (and_parts (ends_there (is_break s) p) (all_breaks_last p) (and_parts (breaks_last s) (ends_there (is_break s) p && all_breaks_last p) h).1).1

record Filled (p : Statements) : Type 0 where
  behind : Statements
  last : all_breaks_last (followed_by p behind) ≡ true

filled : (h : Hole) (p : Statements) → all_breaks_last (fill h p) ≡ true → Filled p
filled (Here q) p e = record { behind = q; last = e }
filled (Past s h) p e = filled h p (rest_part s (fill h p) e)
filled (InIf at c h q) p e = filled h p (first_part (tree.If at c (fill h p)) q e)
filled (InThen at c h b q) p e = filled h p (and_parts (all_breaks_last (fill h p)) (all_breaks_last b) (first_part (tree.IfElse at c (fill h p) b) q e)).0
filled (InElse at c a h q) p e = filled h p (and_parts (all_breaks_last a) (all_breaks_last (fill h p)) (first_part (tree.IfElse at c a (fill h p)) q e)).1
filled (InEach at ty x c h q) p e = filled h p (first_part (tree.ForEach at ty x c (fill h p)) q e)
filled (InWhile at c h q) p e = filled h p (first_part (tree.While at c (fill h p)) q e)

behind_run : (run : Statements) (s : Statement) (p q : Statements) → all_breaks_last (followed_by (followed_by run (Then s p)) q) ≡ true → breaks_last s ≡ true
behind_run Nothing s p q h = first_part s (followed_by p q) h
behind_run (Then a run) s p q h = behind_run run s p q (rest_part a (followed_by (followed_by run (Then s p)) q) h)

-- each `break` in a statement of a well-typed program ends its block
pub places_break : (schema : Schema) (read : List ℕ → Option PlainQuery) (p : PlainProgram) (n : ℕ) (m : PlainMethod) (hole : Hole) (run : Statements) (loop : Statement) (behind : Statements) → IsWellTyped schema read p → slice_get p.methods n ≡ Some m → m.body ≡ fill hole (followed_by run (Then loop behind)) → breaks_last loop ≡ true
places_break schema read p n m hole run loop behind t e is =
    let k : Filled (followed_by run (Then loop behind)) = filled hole (followed_by run (Then loop behind)) (ap all_breaks_last (sym is) ∙ method_breaks schema read m (nth_seen schema read p.methods [] n m t e)) in
    behind_run run loop behind k.behind k.last

-- ---- In a loop

before_step : (s t : Statement) (p q : Statements) (b : Bool) → ends_there b (Then t p) ≡ true → ends_there b q ≡ true
before_step s t p q true h = absurd cc
before_step s t p q false h = refl

before_breaks : (s : Statement) (p : Statements) → all_breaks_last (Then s p) ≡ true → all_breaks_last (before_last s p) ≡ true
before_breaks s Nothing h = refl
before_breaks s (Then t p) h =
    let two = and_parts (breaks_last s) (ends_there (is_break s) (Then t p) && all_breaks_last (Then t p)) h in
    let more = and_parts (ends_there (is_break s) (Then t p)) (all_breaks_last (Then t p)) two.1 in
    and_from (breaks_last s) (ends_there (is_break s) (before_last t p) && all_breaks_last (before_last t p)) two.0 (and_from (ends_there (is_break s) (before_last t p)) (all_breaks_last (before_last t p)) (before_step s t p (before_last t p) (is_break s) more.0) (before_breaks t p more.1))

last_breaks : (p : Statements) → all_breaks_last p ≡ true → all_breaks_last (without_last p) ≡ true
last_breaks Nothing h = refl
last_breaks (Then s p) h = before_breaks s p h

counted_breaks : (p : Statements) → all_breaks_last p ≡ true → all_breaks_last (without_last (without_first p)) ≡ true
counted_breaks Nothing h = refl
counted_breaks (Then s p) h = last_breaks p (rest_part s p h)

-- so does each `break` in the body of a loop
pub body_breaks : (loop : Statement) → breaks_last loop ≡ true → all_breaks_last (kernel_body loop) ≡ true
body_breaks (tree.Declare at ty x e) h = refl
body_breaks (tree.Assign at x e) h = refl
body_breaks (tree.Add at x e) h = refl
body_breaks (tree.Sort at x keys downs) h = refl
body_breaks (tree.If at c p) h = refl
body_breaks (tree.IfElse at c p q) h = refl
body_breaks (tree.ForEach at ty x e b) h = h
body_breaks (tree.While at c b) h = counted_breaks b h
body_breaks (tree.Print at e) h = refl
body_breaks (tree.Return at e) h = refl
body_breaks (tree.Break at) h = refl
