-- A method of a program in which no rule is broken has a typing.
use Rattle.std.proofs.Common.{◌≡◌, ℕ, zero, suc, ◌≢◌, Bool, true, not, List, [], ◌∷◌, ◌++◌, Option, Some, None, refl, sym, ap, ◌∙◌, subst}
use Rattle.std.specs.Prelude.{◌&&◌, slice_get}
use Rattle.qbs_base.specs.declared.span.Span.{Span}
use Rattle.qbs_base.specs.declared.scalar.Scalar.{Scalar}
use Rattle.qbs_base.specs.declared.scalar.Value.{Value}
use Rattle.qbs_base.specs.Values.{Schema, Database, IsDatabaseOf}
use Rattle.sql_ast.specs.Tree.{PlainQuery}
use Rattle.java_ast.specs.Tree as tree
use Rattle.java_ast.specs.Tree.{Spelled, Expression, Statement, Statements, PlainMethod, PlainProgram}
use Rattle.java_mean.specs.Asks.{frame_of, result_type}
use Rattle.java_mean.specs.Numbers.{expression_fits, statement_fits, statements_fit, methods_fit, NumbersFit}
use Rattle.java_mean.specs.Outcome.{Done, Stuck, outcome, world_with}
use Rattle.java_mean.specs.Places.{Around, step, whole, in_expression, in_statement, in_statements, in_params, in_method, in_branch, in_while, in_for_each, in_body, is_nothing}
use Rattle.java_mean.specs.Refines.{IsResult}
use Rattle.java_mean.specs.Rules.{of_bool, type_of, at_of, only_if, same_type, unless, unless_both, unless_single, unless_passes, is_many, is_many_kindred, is_listed, element_of, given, copied_row, walked_element, unless_element, returned, set_of_rows, taken, unknown_result}
use Rattle.java_mean.specs.Types.{Single, JavaType, Of, Listed, Distinct, Types, with_type, type_spelled, types_of_params, types_after, types_past, AreArguments}
use Rattle.java_mean.specs.Typing.{Frame, Has, listed, distinct, IsNew, HasType, Extends, TypedStatement, declare, assign, add, sort, when, choose, for_each, for_each_new, while_true, print, return_none, return_value, leave, TypedStatements, done, next}
use Rattle.java_mean.specs.Visible.{Visible, is_visible, type_at, declared_in, after, with_params}
use Rattle.java_mean.specs.WellTyped.{faults_in, faults_in_methods, IsWellTyped}
use Rattle.java_mean.specs.declared.types.Kindred.{Kindred}
use Rattle.java_mean.specs.declared.types.Kindred.TheVariants.{Only, AnyList, AnySet}
use Rattle.java_mean.proofs.Answered.{worlds_are_typed}
use Rattle.java_mean.proofs.Faultless.{none_both, none_in, none_at, only_none, not_none, both_true, neither, Got, got_some, same_type_is, Sees, unseen, sees_declared, sees_params}
use Rattle.java_mean.proofs.Replaced.{typed_never_stuck, typed_result}
use Rattle.java_mean.proofs.TypedExpressions.{frame, HasKindred, operand, operand_both, scalar_operand, known, passes, expression_typed}
use Rattle.java_mean.proofs.TypedRuns.{extends_statement}

-- ---- What stands round a statement

-- a place in a loop has the types at the start of the loop's body
pub record InLoop (l : Option Types) (g : Types) : Type 0 where
  pub start : Types
  pub is : l ≡ Some start
  pub seen : Extends g start

abbrev pub Rounds : Around → Option Types → Types → Type 0
Rounds w l g = w.in_loop ≡ true → InLoop l g

pub further_in : (w : Around) (l : Option Types) (g h : Types) → Extends h g → Rounds w l g → Rounds w l h
further_in w l g h e d p = let i = d p in record { start = i.start; is = i.is; seen = λ x k q. e x k (i.seen x k q) }

pub body_in : (g : Types) → InLoop (Some g) g
body_in g = record { start = g; is = refl; seen = λ x k q. q }

-- the type of the result is known, where there is one
abbrev pub KnownResult : Schema → Option Spelled → Type 0
KnownResult schema None = Unit {0}
KnownResult schema (Some ty) = Got (type_spelled schema ty)

-- ---- Statements one by one

added_typed : (c : Frame) (l : Option Types) (g : Types) (at : Span) (x : List ℕ) (e : Expression) (k : JavaType) (j : Option Kindred) (at' : Span) → g x ≡ Some k → is_many k ≡ true → HasKindred c g e j → unless_single j (element_of (Some k)) at' ≡ [] → TypedStatement c l g (tree.Add at x e) g
added_typed c l g at x e (Of a) j at' p q h r = absurd cc
added_typed c l g at x e (Listed a) j at' p q h r = add l g at x e (Listed a) a p (listed a) (operand c g e j (Of a) at' h r)
added_typed c l g at x e (Distinct a) j at' p q h r = add l g at x e (Distinct a) a p (distinct a) (operand c g e j (Of a) at' h r)

sorted_typed : (c : Frame) (l : Option Types) (g : Types) (at : Span) (x : List ℕ) (keys : List (List ℕ)) (down : List Bool) (k : JavaType) → g x ≡ Some k → is_listed k ≡ true → TypedStatement c l g (tree.Sort at x keys down) g
sorted_typed c l g at x keys down (Of a) p q = absurd cc
sorted_typed c l g at x keys down (Listed a) p q = sort l g at x keys down a p
sorted_typed c l g at x keys down (Distinct a) p q = absurd cc

-- the body of a for-each whose variable has this type
abbrev Body : Frame → Types → List ℕ → Statements → Types → Option JavaType → Type 0
Body c g x body z o = TypedStatements c (Some (with_type x o g)) (with_type x o g) body z

pub same_element : (a : Single) (j : JavaType) (at : Span) → only_if (not (same_type (Of a) j)) at ≡ [] → Some j ≡ Some (Of a)
same_element a j at p = ap Some (sym (same_type_is (Of a) j (not_none (same_type (Of a) j) at p)))

-- What a for-each walks: a new list or set, which may be one of any type, or members of the type of its variable.
pub data Walks (c : Frame) (g : Types) (e : Expression) : JavaType → Type 0 where
  walks_new : (j : JavaType) → IsNew e → Walks c g e j
  walks_many : (j k : JavaType) (a : Single) → Some j ≡ Some (Of a) → HasType c g e k → Has k a → Walks c g e j

pub walks : (c : Frame) (g : Types) (e : Expression) (k : Option Kindred) (j : JavaType) (at : Span) → HasKindred c g e k → unless_passes is_many_kindred k at ≡ [] → unless_element (walked_element k) (Some j) at ≡ [] → Walks c g e j
walks c g e None j at h p q = absurd h
walks c g e (Some (Only (Of a))) j at h p q = absurd cc
walks c g e (Some (Only (Listed a))) j at h p q = walks_many j (Listed a) a (same_element a j at q) h (listed a)
walks c g e (Some (Only (Distinct a))) j at h p q = walks_many j (Distinct a) a (same_element a j at q) h (distinct a)
walks c g e (Some AnyList) j at h p q = walks_new j h.0
walks c g e (Some AnySet) j at h p q = walks_new j h.0

walked_typed : (c : Frame) (l : Option Types) (g z : Types) (at : Span) (ty : Spelled) (x : List ℕ) (e : Expression) (body : Statements) (j : JavaType) → Walks c g e j → g x ≡ None → type_spelled c.schema ty ≡ Some j → Body c g x body z (type_spelled c.schema ty) → TypedStatement c l g (tree.ForEach at ty x e body) g
walked_typed c l g z at ty x e body _ (walks_new j new) n s b = for_each_new l g z at ty x e body j n s new (subst (Body c g x body z) s b)
walked_typed c l g z at ty x e body _ (walks_many j k a i t has) n s b = for_each l g z at ty x e body k a n t has (subst (Body c g x body z) (s ∙ i) b)

left_typed : (c : Frame) (l : Option Types) (g : Types) (at : Span) → InLoop l g → TypedStatement c l g (tree.Break at) g
left_typed c l g at i = subst (λ m. TypedStatement c m g (tree.Break at) g) (sym i.is) (leave i.start g at i.seen)

nothing_returned : (schema : Schema) (read : List ℕ → Option PlainQuery) (r : Option Spelled) (vs : Visible) (l : Option Types) (g : Types) (at : Span) → returned schema vs r at None ≡ [] → TypedStatement (frame schema read r) l g (tree.Return at None) g
nothing_returned schema read None vs l g at p = return_none l g at refl
nothing_returned schema read (Some ty) vs l g at p = absurd cc

value_returned : (schema : Schema) (read : List ℕ → Option PlainQuery) (r : Option Spelled) (vs : Visible) (l : Option Types) (g : Types) (at : Span) (e : Expression) → KnownResult schema r → HasKindred (frame schema read r) g e (type_of schema vs e) → returned schema vs r at (Some e) ≡ [] → TypedStatement (frame schema read r) l g (tree.Return at (Some e)) g
value_returned schema read None vs l g at e k h p = absurd cc
value_returned schema read (Some ty) vs l g at e k h p = return_value l g at e k.value k.is (operand_both (frame schema read (Some ty)) g e (type_of schema vs e) (type_spelled schema ty) k.value (at_of e) h k.is p)

-- ---- Statements

-- a statement is well typed, and what is visible after it has types
pub record IsStep (c : Frame) (l : Option Types) (g : Types) (vs : Visible) (a : Statement) : Type 0 where
  pub typed : TypedStatement c l g a (types_after c.schema g a)
  pub sees : Sees vs (types_after c.schema g a)

declared_typed : (c : Frame) (l : Option Types) (g : Types) (at : Span) (ty : Spelled) (x : List ℕ) (e : Expression) (k : JavaType) → g x ≡ None → type_spelled c.schema ty ≡ Some k → HasType c g e k → TypedStatement c l g (tree.Declare at ty x e) (with_type x (type_spelled c.schema ty) g)
declared_typed c l g at ty x e k n s t = subst (λ (o : Option JavaType). TypedStatement c l g (tree.Declare at ty x e) (with_type x o g)) (sym s) (declare l g at ty x e k n s t)

-- a value for a variable of this type
given_typed : (schema : Schema) (read : List ℕ → Option PlainQuery) (r : Option Spelled) (vs : Visible) (g : Types) (e : Expression) (o : Option JavaType) (j : JavaType) → HasKindred (frame schema read r) g e (type_of schema vs e) → o ≡ Some j → given schema vs o e ≡ [] → HasType (frame schema read r) g e j
given_typed schema read r vs g e o j h q p =
    let two = none_both (unless_both (type_of schema vs e) o (at_of e)) (copied_row vs e) p in
    operand_both (frame schema read r) g e (type_of schema vs e) o j (at_of e) h q two.left

module _ (schema : Schema) (read : List ℕ → Option PlainQuery) (r : Option Spelled) (result : KnownResult schema r) where
  -- a condition
  pub condition : (vs : Visible) (g : Types) (e : Expression) → Sees vs g → expression_fits e ≡ true → faults_in schema read r (in_expression vs e) ≡ [] → unless (type_of schema vs e) of_bool (at_of e) ≡ [] → HasType (frame schema read r) g e of_bool
  condition vs g e s f h p = operand (frame schema read r) g e (type_of schema vs e) of_bool (at_of e) (expression_typed schema read r vs g e s f h) p

  mutual
    pub statement_typed : (a : Statement) (vs : Visible) (g : Types) (l : Option Types) (w : Around) (last : Bool) → Sees vs g → Rounds w l g → statement_fits a ≡ true → faults_in schema read r (in_statement schema vs w last a) ≡ [] → IsStep (frame schema read r) l g (after schema vs a) a
    statement_typed (tree.Declare at ty x e) vs g l w last s d f h =
        let n = none_at schema read r (step vs w last (tree.Declare at ty x e)) (in_expression vs e) h in
        let k = got_some (type_spelled schema ty) at n.left.known in
        let two = none_both (set_of_rows ty at) (given schema vs (type_spelled schema ty) e) n.left.matched in
        let new = neither (is_visible vs x) _ (only_none (taken vs x) at n.left.single) in
        let t = given_typed schema read r vs g e (type_spelled schema ty) k.value (expression_typed schema read r vs g e s f n.right) k.is two.right in
        record { typed = declared_typed (frame schema read r) l g at ty x e k.value (unseen vs g x s new.left) k.is t; sees = sees_declared vs g x (type_spelled schema ty) k.value s new.left k.is }
    statement_typed (tree.Assign at x e) vs g l w last s d f h =
        let n = none_at schema read r (step vs w last (tree.Assign at x e)) (in_expression vs e) h in
        let k = known vs g x at s n.left.known in
        record { typed = assign l g at x e k.type k.also (given_typed schema read r vs g e (type_at vs x) k.type (expression_typed schema read r vs g e s f n.right) k.is n.left.matched); sees = s }
    statement_typed (tree.Add at x e) vs g l w last s d f h =
        let n = none_at schema read r (step vs w last (tree.Add at x e)) (in_expression vs e) h in
        let k = known vs g x at s n.left.known in
        let two = none_both (unless_passes is_many (type_at vs x) at) (unless_single (type_of schema vs e) (element_of (type_at vs x)) (at_of e)) n.left.matched in
        record { typed = added_typed (frame schema read r) l g at x e k.type (type_of schema vs e) (at_of e) k.also (passes is_many (type_at vs x) k.type at k.is two.left) (expression_typed schema read r vs g e s f n.right) (ap (λ (o : Option JavaType). unless_single (type_of schema vs e) (element_of o) (at_of e)) (sym k.is) ∙ two.right); sees = s }
    statement_typed (tree.Sort at x keys down) vs g l w last s d f h =
        let n = none_at schema read r (step vs w last (tree.Sort at x keys down)) [] h in
        let two = none_both (only_if (not (is_visible vs x)) at) _ n.left.known in
        let k = known vs g x at s two.left in
        record { typed = sorted_typed (frame schema read r) l g at x keys down k.type k.also (passes is_listed (type_at vs x) k.type at k.is n.left.matched); sees = s }
    statement_typed (tree.If at e p) vs g l w last s d f h =
        let n = none_at schema read r (step vs w last (tree.If at e p)) (in_expression vs e ++ in_statements schema vs (in_branch w) p) h in
        let two = none_in schema read r (in_expression vs e) (in_statements schema vs (in_branch w) p) n.right in
        let fit = both_true (expression_fits e) (statements_fit p) f in
        let t = statements_typed p vs g l (in_branch w) s d fit.right two.right in
        record { typed = when l g (types_past schema g p) at e p (condition vs g e s fit.left two.left n.left.matched) t; sees = s }
    statement_typed (tree.IfElse at e p q) vs g l w last s d f h =
        let n = none_at schema read r (step vs w last (tree.IfElse at e p q)) (in_expression vs e ++ (in_statements schema vs (in_branch w) p ++ in_statements schema vs (in_branch w) q)) h in
        let two = none_in schema read r (in_expression vs e) (in_statements schema vs (in_branch w) p ++ in_statements schema vs (in_branch w) q) n.right in
        let more = none_in schema read r (in_statements schema vs (in_branch w) p) (in_statements schema vs (in_branch w) q) two.right in
        let fit = both_true (expression_fits e) (statements_fit p && statements_fit q) f in
        let fits = both_true (statements_fit p) (statements_fit q) fit.right in
        let t = statements_typed p vs g l (in_branch w) s d fits.left more.left in
        let u = statements_typed q vs g l (in_branch w) s d fits.right more.right in
        record { typed = choose l g (types_past schema g p) (types_past schema g q) at e p q (condition vs g e s fit.left two.left n.left.matched) t u; sees = s }
    statement_typed (tree.ForEach at ty x e p) vs g l w last s d f h =
        let n = none_at schema read r (step vs w last (tree.ForEach at ty x e p)) (in_expression vs e ++ in_statements schema (declared_in vs x (type_spelled schema ty)) (in_for_each e w) p) h in
        let two = none_in schema read r (in_expression vs e) (in_statements schema (declared_in vs x (type_spelled schema ty)) (in_for_each e w) p) n.right in
        let fit = both_true (expression_fits e) (statements_fit p) f in
        let k = got_some (type_spelled schema ty) at n.left.known in
        let new = neither (is_visible vs x) _ (only_none (taken vs x) at n.left.single) in
        let m = none_both (set_of_rows ty at) (unless_passes is_many_kindred (type_of schema vs e) (at_of e) ++ unless_element (walked_element (type_of schema vs e)) (type_spelled schema ty) (at_of e)) n.left.matched in
        let more = none_both (unless_passes is_many_kindred (type_of schema vs e) (at_of e)) (unless_element (walked_element (type_of schema vs e)) (type_spelled schema ty) (at_of e)) m.right in
        let inner = with_type x (type_spelled schema ty) g in
        let t = statements_typed p (declared_in vs x (type_spelled schema ty)) inner (Some inner) (in_for_each e w) (sees_declared vs g x (type_spelled schema ty) k.value s new.left k.is) (λ z. body_in inner) fit.right two.right in
        let u = walks (frame schema read r) g e (type_of schema vs e) k.value (at_of e) (expression_typed schema read r vs g e s fit.left two.left) more.left (ap (λ (o : Option JavaType). unless_element (walked_element (type_of schema vs e)) o (at_of e)) (sym k.is) ∙ more.right) in
        record { typed = walked_typed (frame schema read r) l g (types_past schema inner p) at ty x e p k.value u (unseen vs g x s new.left) k.is t; sees = s }
    statement_typed (tree.While at e p) vs g l w last s d f h =
        let n = none_at schema read r (step vs w last (tree.While at e p)) (in_expression vs e ++ in_statements schema vs (in_while w) p) h in
        let two = none_in schema read r (in_expression vs e) (in_statements schema vs (in_while w) p) n.right in
        let fit = both_true (expression_fits e) (statements_fit p) f in
        let t = statements_typed p vs g (Some g) (in_while w) s (λ z. body_in g) fit.right two.right in
        record { typed = while_true l g (types_past schema g p) at e p (condition vs g e s fit.left two.left n.left.matched) t; sees = s }
    statement_typed (tree.Print at e) vs g l w last s d f h =
        let n = none_at schema read r (step vs w last (tree.Print at e)) (in_expression vs e) h in
        let t = scalar_operand (frame schema read r) g e (type_of schema vs e) (at_of e) (expression_typed schema read r vs g e s f n.right) n.left.matched in
        record { typed = print l g at e t.ty t.typed; sees = s }
    statement_typed (tree.Return at None) vs g l w last s d f h =
        let n = none_at schema read r (step vs w last (tree.Return at None)) [] h in
        record { typed = nothing_returned schema read r vs l g at n.left.matched; sees = s }
    statement_typed (tree.Return at (Some e)) vs g l w last s d f h =
        let n = none_at schema read r (step vs w last (tree.Return at (Some e))) (in_expression vs e) h in
        record { typed = value_returned schema read r vs l g at e result (expression_typed schema read r vs g e s f n.right) n.left.matched; sees = s }
    statement_typed (tree.Break at) vs g l w last s d f h =
        let n = none_at schema read r (step vs w last (tree.Break at)) [] h in
        let two = both_true w.in_loop last (not_none (w.in_loop && last) at n.left.in_loop) in
        record { typed = left_typed (frame schema read r) l g at (d two.left); sees = s }

    pub statements_typed : (p : Statements) (vs : Visible) (g : Types) (l : Option Types) (w : Around) → Sees vs g → Rounds w l g → statements_fit p ≡ true → faults_in schema read r (in_statements schema vs w p) ≡ [] → TypedStatements (frame schema read r) l g p (types_past schema g p)
    statements_typed tree.Nothing vs g l w s d f h = done l g
    statements_typed (tree.Then a p) vs g l w s d f h =
        let two = none_in schema read r (in_statement schema vs w (is_nothing p) a) (in_statements schema (after schema vs a) w p) h in
        let fit = both_true (statement_fits a) (statements_fit p) f in
        let t = statement_typed a vs g l w (is_nothing p) s d fit.left two.left in
        let more = types_after schema g a in
        next l g more (types_past schema more p) a p t.typed (statements_typed p (after schema vs a) more l w t.sees (further_in w l g more (extends_statement (frame schema read r) l g more a t.typed) d) fit.right two.right)

-- ---- Methods

result_known : (schema : Schema) (read : List ℕ → Option PlainQuery) (r : Option Spelled) (at : Span) → unknown_result schema r at ≡ [] → KnownResult schema r
result_known schema read None at p = tt
result_known schema read (Some ty) at p = got_some (type_spelled schema ty) at p

sees_none : Sees [] (λ x. None)
sees_none = record { same = λ x. refl; known = λ x p. absurd cc }

-- what is known where a method has no fault
pub record IsSeen (schema : Schema) (read : List ℕ → Option PlainQuery) (m : PlainMethod) : Type 0 where
  pub result : KnownResult schema m.result
  pub params : Sees (with_params schema [] m.params) (types_of_params schema m.params)
  pub body : faults_in schema read m.result (in_statements schema (with_params schema [] m.params) in_body m.body) ≡ []

pub method_seen : (schema : Schema) (read : List ℕ → Option PlainQuery) (double : Bool) (m : PlainMethod) → faults_in schema read m.result (whole double m ∷ in_method schema m) ≡ [] → IsSeen schema read m
method_seen schema read double m h =
    let n = none_at schema read m.result (whole double m) (in_method schema m) h in
    let two = none_in schema read m.result (in_params schema [] m.span m.params) (in_statements schema (with_params schema [] m.params) in_body m.body) n.right in
    record {
      result = result_known schema read m.result m.span n.left.known;
      params = sees_params schema read m.result [] (λ x. None) m.span m.params sees_none two.left;
      body = two.right;
    }

pub no_loop : (g : Types) → Rounds in_body None g
no_loop g p = absurd cc

seen_typed : (schema : Schema) (read : List ℕ → Option PlainQuery) (m : PlainMethod) → IsSeen schema read m → statements_fit m.body ≡ true → TypedStatements (frame_of schema read m) None (types_of_params schema m.params) m.body (types_past schema (types_of_params schema m.params) m.body)
seen_typed schema read m k f = statements_typed schema read m.result k.result m.body (with_params schema [] m.params) (types_of_params schema m.params) None in_body k.params (no_loop (types_of_params schema m.params)) f k.body

some_method : (a b : PlainMethod) → Some a ≡ Some b → a ≡ b
some_method a b e = cc

-- the method with this number
pub nth_seen : (schema : Schema) (read : List ℕ → Option PlainQuery) (ms : List PlainMethod) (names : Visible) (n : ℕ) (m : PlainMethod) → faults_in_methods schema read names ms ≡ [] → slice_get ms n ≡ Some m → IsSeen schema read m
nth_seen schema read [] names n m h e = absurd cc
nth_seen schema read (k ∷ ms) names zero m h e =
    let two = none_both (faults_in schema read k.result (whole (is_visible names k.name) k ∷ in_method schema k)) (faults_in_methods schema read (declared_in names k.name None) ms) h in
    subst (IsSeen schema read) (some_method k m e) (method_seen schema read (is_visible names k.name) k two.left)
nth_seen schema read (k ∷ ms) names (suc n) m h e =
    let two = none_both (faults_in schema read k.result (whole (is_visible names k.name) k ∷ in_method schema k)) (faults_in_methods schema read (declared_in names k.name None) ms) h in
    nth_seen schema read ms (declared_in names k.name None) n m two.right e

pub nth_fits : (ms : List PlainMethod) (n : ℕ) (m : PlainMethod) → methods_fit ms ≡ true → slice_get ms n ≡ Some m → statements_fit m.body ≡ true
nth_fits [] n m f e = absurd cc
nth_fits (k ∷ ms) zero m f e = subst (λ (z : PlainMethod). statements_fit z.body ≡ true) (some_method k m e) (both_true (statements_fit k.body) (methods_fit ms) f).left
nth_fits (k ∷ ms) (suc n) m f e = nth_fits ms n m (both_true (statements_fit k.body) (methods_fit ms) f).right e

pub methods_typed : (schema : Schema) (read : List ℕ → Option PlainQuery) (p : PlainProgram) (n : ℕ) (m : PlainMethod) → IsWellTyped schema read p → NumbersFit p → slice_get p.methods n ≡ Some m → TypedStatements (frame_of schema read m) None (types_of_params schema m.params) m.body (types_past schema (types_of_params schema m.params) m.body)
methods_typed schema read p n m t f e = seen_typed schema read m (nth_seen schema read p.methods [] n m t e) (nth_fits p.methods n m f e)

pub never_stuck : (schema : Schema) (read : List ℕ → Option PlainQuery) (p : PlainProgram) (n : ℕ) (m : PlainMethod) (db : Database) (args : List Scalar) (turns : ℕ) → IsWellTyped schema read p → NumbersFit p → slice_get p.methods n ≡ Some m → IsDatabaseOf schema db → AreArguments schema m.params args → outcome (world_with schema read db) m args turns ≢ Stuck
never_stuck schema read p n m db args turns t f e is typed =
    typed_never_stuck (frame_of schema read m) m (types_past schema (types_of_params schema m.params) m.body) (methods_typed schema read p n m t f e) (world_with schema read db) (worlds_are_typed schema read db m is) args typed turns

pub result_is : (schema : Schema) (read : List ℕ → Option PlainQuery) (p : PlainProgram) (n : ℕ) (m : PlainMethod) (db : Database) (args : List Scalar) (turns : ℕ) → IsWellTyped schema read p → NumbersFit p → slice_get p.methods n ≡ Some m → IsDatabaseOf schema db → AreArguments schema m.params args → (lines : List (List ℕ)) (v : Value) → outcome (world_with schema read db) m args turns ≡ Done lines (Some v) → IsResult schema (result_type schema m.result) (Some v)
result_is schema read p n m db args turns t f e is typed lines v d =
    typed_result (frame_of schema read m) m (types_past schema (types_of_params schema m.params) m.body) (methods_typed schema read p n m t f e) (world_with schema read db) (worlds_are_typed schema read db m is) args typed turns lines v d
