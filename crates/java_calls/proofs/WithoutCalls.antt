-- Where no call stands, statements do what they do in java_mean.
use Rattle.std.proofs.Common.{◌≡◌, ℕ, Bool, List, [], ◌∷◌, ◌++◌, Option, Some, None, Result, Ok, Err, refl, sym, ap, ap₂, ◌∙◌}
use Rattle.qbs_base.specs.declared.scalar.Scalar.{Scalar}
use Rattle.qbs_base.specs.declared.scalar.Row.{Row}
use Rattle.qbs_base.specs.declared.scalar.Value.{Value}
use Rattle.qbs_base.specs.declared.span.Span.{Span}
use Rattle.qbs_base.specs.Named.{at_name}
use Rattle.java_ast.specs.Tree.{Spelled, Expression, QueryLong, Expressions, Statement, Declare, Assign, Add, Sort, If, IfElse, ForEach, While, Print, Return, Break, Statements, Nothing, Then, PlainMethod}
use Rattle.java_mean.specs.declared.ending.Ending.{Ending}
use Rattle.java_mean.specs.Endings.{◌>>=◌, found}
use Rattle.java_mean.specs.Expression.{value_of, as_rows}
use Rattle.java_mean.specs.Outcome.{finished, start, outcome}
use Rattle.java_mean.specs.Statement.{State, Passed, GoesOn, Does, done, then_do, branch, with_variable, with_value, is_set_type, each, repeat, test_of, meaning, meanings}
use Rattle.java_mean.specs.World.{World}
use Rattle.java_calls.specs.Called.{Call, call_of}
use Rattle.java_calls.specs.Calling.{Callee, Given, given_by_call, meaning_with, meanings_with, callee_of, outcome_with}
use Rattle.java_calls.specs.Rules.{Site, site_of, sites_in, sites_among, sites_at, sites_of}

extensional : {A B : Type 0} (f g : A → B) → ((x : A) → f x ≡ g x) → f ≡ g
extensional f g h = λ i. λ x. h x i

no_first : {A : Type 0} (xs ys : List A) → xs ++ ys ≡ [] → xs ≡ []
no_first [] ys h = refl
no_first (x ∷ xs) ys h = absurd cc

no_second : {A : Type 0} (xs ys : List A) → xs ++ ys ≡ [] → ys ≡ []
no_second [] ys h = h
no_second (x ∷ xs) ys h = absurd cc

no_site : (whole : Option Statement) (at : Span) (o : Option Call) (more : List Site) → site_of whole at o ++ more ≡ [] → o ≡ None
no_site whole at None more h = refl
no_site whole at (Some call) more h = absurd cc

-- a value in which no call stands is none
no_call : (whole : Option Statement) (e : Expression) → sites_in whole e ≡ [] → call_of e ≡ None
no_call whole (QueryLong at text es) h = no_site whole at (call_of (QueryLong at text es)) (sites_among es) h
no_call whole e h = refl

straight : {A B : Type 0} (o : Result Value Ending) (g : Value → A) (f : A → Result B Ending) → ((o >>= λ v. Ok (g v)) >>= f) ≡ (o >>= λ v. f (g v))
straight (Ok v) g f = refl
straight (Err e) g f = refl

module _ (callee : Callee) (w : World) where
  declared : (at : Span) (ty : Spelled) (x : List ℕ) (e : Expression) (s : State) → call_of e ≡ None → meaning_with callee (Declare at ty x e) w s ≡ meaning (Declare at ty x e) w s
  declared at ty x e s h =
      ap (λ o. given_by_call callee w s o e >>= λ (g : Given). done (with_variable g.state x (record { value = g.value; is_set = is_set_type ty }))) h
      ∙ straight (value_of e w s.store) (λ v. record { value = v; state = s }) (λ (g : Given). done (with_variable g.state x (record { value = g.value; is_set = is_set_type ty })))

  assigned : (at : Span) (x : List ℕ) (e : Expression) (s : State) → call_of e ≡ None → meaning_with callee (Assign at x e) w s ≡ meaning (Assign at x e) w s
  assigned at x e s h =
      ap (λ o. given_by_call callee w s o e >>= λ (g : Given). found (at_name g.state.store x) >>= λ held. done (with_value g.state x held g.value)) h
      ∙ straight (value_of e w s.store) (λ v. record { value = v; state = s }) (λ (g : Given). found (at_name g.state.store x) >>= λ held. done (with_value g.state x held g.value))

  mutual
    statement_same : (a : Statement) → sites_at a ≡ [] → meaning_with callee a w ≡ meaning a w
    statement_same (Declare at ty x e) h = extensional (meaning_with callee (Declare at ty x e) w) (meaning (Declare at ty x e) w) (λ s. declared at ty x e s (no_call (Some (Declare at ty x e)) e h))
    statement_same (Assign at x e) h = extensional (meaning_with callee (Assign at x e) w) (meaning (Assign at x e) w) (λ s. assigned at x e s (no_call (Some (Assign at x e)) e h))
    statement_same (Add at x e) h = refl
    statement_same (Sort at x keys downs) h = refl
    statement_same (If at c a) h = ap (λ (f : Does). λ (s : State). test_of c w s.store >>= λ b. branch b f done s) (block_same a (no_second (sites_in None c) (sites_of a) h))
    statement_same (IfElse at c a o) h =
        let i = no_second (sites_in None c) (sites_of a ++ sites_of o) h in
        ap₂ (λ (f g : Does). λ (s : State). test_of c w s.store >>= λ b. branch b f g s) (block_same a (no_first (sites_of a) (sites_of o) i)) (block_same o (no_second (sites_of a) (sites_of o) i))
    statement_same (ForEach at ty x e body) h =
        ap (λ (f : Does). λ (s : State). value_of e w s.store >>= λ v. as_rows v >>= λ (rows : List Row). each rows x f s) (block_same body (no_second (sites_in None e) (sites_of body) h))
    statement_same (While at c body) h = ap (λ (f : Does). λ (s : State). repeat s.turns (test_of c w) f s) (block_same body (no_second (sites_in None c) (sites_of body) h))
    statement_same (Print at e) h = refl
    statement_same (Return at e) h = refl
    statement_same (Break at) h = refl

    block_same : (p : Statements) → sites_of p ≡ [] → meanings_with callee p w ≡ meanings p w
    block_same Nothing h = refl
    block_same (Then a p) h =
        ap₂ (λ (f g : Does). λ (s : State). then_do (f s) g) (statement_same a (no_first (sites_at a) (sites_of p) h)) (block_same p (no_second (sites_at a) (sites_of p) h))

  -- whatever calls come to
  pub same_meaning : (p : Statements) (s : State) → sites_of p ≡ [] → meanings_with callee p w s ≡ meanings p w s
  same_meaning p s h = ap (λ (f : Does). f s) (block_same p h)

pub same_outcome : (depth : ℕ) (w : World) (ms : List PlainMethod) (m : PlainMethod) (args : List Scalar) (n : ℕ) → sites_of m.body ≡ [] → outcome_with depth w ms m args n ≡ outcome w m args n
same_outcome depth w ms m args n h = ap finished (same_meaning (callee_of depth w ms) w m.body (start m args n) h)
