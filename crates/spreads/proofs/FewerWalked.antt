-- Statements have no fault where fewer variables are walked round them.
use Rattle.std.proofs.Common.{◌≡◌, ℕ, Bool, true, false, ◌||◌, List, [], ◌∷◌, ◌++◌, Option, Some, None, refl, sym, ap, ◌∙◌}
use Rattle.std.specs.Prelude.{bytes_eq}
use Rattle.std.specs.List.{list_any}
use Rattle.qbs_base.specs.declared.span.Span.{Span}
use Rattle.qbs_base.specs.Values.{Schema}
use Rattle.sql_ast.specs.Tree.{PlainQuery}
use Rattle.java_ast.specs.Tree as tree
use Rattle.java_ast.specs.Tree.{Spelled, Expression, Statement, Statements, Nothing, Then}
use Rattle.java_mean.specs.declared.rule.TypeRule.{TypeRule}
use Rattle.java_mean.specs.declared.rule.TypeRule.TheVariants as rules
use Rattle.java_mean.specs.Places.{Place, around, step, walking, in_expression, in_parts, in_statement, in_statements, is_nothing}
use Rattle.java_mean.specs.Rules.{only_if, unknown_variable, unknown_keys, given, aliased, unless_passes, unless_single, is_many, is_listed, listed_in, element_of, type_of, at_of}
use Rattle.java_mean.specs.Types.{type_spelled}
use Rattle.java_mean.specs.Visible.{Visible, type_at, declared_in, after}
use Rattle.java_mean.specs.WellTyped.{marked, faults_at, faults_in}
use Rattle.java_mean.proofs.Faultless.{none_both, none_in, faults_in-append}

pub both_none : {A : Type 0} (xs ys : List A) → xs ≡ [] → ys ≡ [] → xs ++ ys ≡ []
both_none [] ys h k = k
both_none (x ∷ xs) ys h k = absurd cc

none_if : (rule : TypeRule) (b : Bool) (at : Span) → marked rule (only_if b at) ≡ [] → b ≡ false
none_if rule true at p = absurd cc
none_if rule false at p = refl

-- what isn't among the first names isn't among the second
abbrev Fewer : List (List ℕ) → List (List ℕ) → Type 0
Fewer xs ys = (x : List ℕ) → list_any (bytes_eq x) xs ≡ false → list_any (bytes_eq x) ys ≡ false

or_end : (a b c : Bool) → (a || (b || c)) ≡ ((a || b) || c)
or_end true b c = refl
or_end false b c = refl

any_end : (p : List ℕ → Bool) (xs : List (List ℕ)) (y : List ℕ) → list_any p (xs ++ y ∷ []) ≡ (list_any p xs || list_any p (y ∷ []))
any_end p [] y = refl
any_end p (x ∷ xs) y = ap (λ b. p x || b) (any_end p xs y) ∙ or_end (p x) (list_any p xs) (list_any p (y ∷ []))

first_false : (a b : Bool) → (a || b) ≡ false → a ≡ false
first_false true b e = absurd cc
first_false false b e = refl

same_end : (a b c : Bool) → (a ≡ false → b ≡ false) → (a || c) ≡ false → (b || c) ≡ false
same_end true b c f e = absurd cc
same_end false true c f e = f refl
same_end false false c f e = e

before_end : (xs : List (List ℕ)) (y : List ℕ) → Fewer (xs ++ y ∷ []) xs
before_end xs y x h = first_false (list_any (bytes_eq x) xs) (list_any (bytes_eq x) (y ∷ [])) (sym (any_end (bytes_eq x) xs y) ∙ h)

-- those round a walk
pub outer_fewer : (e : Expression) (xs : List (List ℕ)) → Fewer (walking e xs) xs
outer_fewer (tree.Var at y) xs = before_end xs y
outer_fewer e xs = λ x h. h

inner_fewer : (e : Expression) (xs ys : List (List ℕ)) → Fewer xs ys → Fewer (walking e xs) (walking e ys)
inner_fewer (tree.Var at y) xs ys f = λ x h. any_end (bytes_eq x) ys y ∙ same_end (list_any (bytes_eq x) xs) (list_any (bytes_eq x) ys) (list_any (bytes_eq x) (y ∷ [])) (f x) (sym (any_end (bytes_eq x) xs y) ∙ h)
inner_fewer e xs ys f = f

module _ (schema : Schema) (read : List ℕ → Option PlainQuery) (r : Option Spelled) where
  abbrev Fine : List Place → Type 0
  Fine ps = faults_in schema read r ps ≡ []

  pub joined : (ps qs : List Place) → Fine ps → Fine qs → Fine (ps ++ qs)
  joined ps qs h k = faults_in-append schema read r ps qs ∙ both_none (faults_in schema read r ps) (faults_in schema read r qs) h k

  abbrev StepsFewer : Statement → Type 0
  StepsFewer a = (vs : Visible) (xs ys : List (List ℕ)) (l k last : Bool) → Fewer xs ys → faults_at schema read r (step vs (around xs l k) last a) ≡ [] → faults_at schema read r (step vs (around ys l k) last a) ≡ []

  walked_fewer : (x : List ℕ) (xs ys : List (List ℕ)) (at : Span) → Fewer xs ys → marked rules.ModifiedInLoop (only_if (list_any (bytes_eq x) xs) at) ≡ [] → marked rules.ModifiedInLoop (only_if (list_any (bytes_eq x) ys) at) ≡ []
  walked_fewer x xs ys at f h = ap (λ b. marked rules.ModifiedInLoop (only_if b at)) (f x (none_if rules.ModifiedInLoop (list_any (bytes_eq x) xs) at h))

  assign_fewer : (at : Span) (x : List ℕ) (e : Expression) → StepsFewer (tree.Assign at x e)
  assign_fewer at x e vs xs ys l k last f h =
      let a = none_both (marked rules.Unknown (unknown_variable vs x at)) _ h in
      let b = none_both (marked rules.Mismatch (given schema vs (type_at vs x) e)) _ a.right in
      let c = none_both (marked rules.ListAlias (aliased (type_at vs x) x e)) _ b.right in
      let d = none_both (marked rules.ModifiedInLoop (only_if (list_any (bytes_eq x) xs) at)) [] c.right in
      both_none (marked rules.Unknown (unknown_variable vs x at)) _ a.left
      (both_none (marked rules.Mismatch (given schema vs (type_at vs x) e)) _ b.left
      (both_none (marked rules.ListAlias (aliased (type_at vs x) x e)) _ c.left
      (both_none (marked rules.ModifiedInLoop (only_if (list_any (bytes_eq x) ys) at)) [] (walked_fewer x xs ys at f d.left) refl)))

  add_fewer : (at : Span) (x : List ℕ) (e : Expression) → StepsFewer (tree.Add at x e)
  add_fewer at x e vs xs ys l k last f h =
      let matched = unless_passes is_many (type_at vs x) at ++ unless_single (type_of schema vs e) (element_of (type_at vs x)) (at_of e) in
      let a = none_both (marked rules.Unknown (unknown_variable vs x at)) _ h in
      let b = none_both (marked rules.Mismatch matched) _ a.right in
      let c = none_both (marked rules.ModifiedInLoop (only_if (list_any (bytes_eq x) xs) at)) [] b.right in
      both_none (marked rules.Unknown (unknown_variable vs x at)) _ a.left
      (both_none (marked rules.Mismatch matched) _ b.left
      (both_none (marked rules.ModifiedInLoop (only_if (list_any (bytes_eq x) ys) at)) [] (walked_fewer x xs ys at f c.left) refl))

  sort_fewer : (at : Span) (x : List ℕ) (keys : List (List ℕ)) (down : List Bool) → StepsFewer (tree.Sort at x keys down)
  sort_fewer at x keys down vs xs ys l k last f h =
      let known = unknown_variable vs x at ++ unknown_keys schema (listed_in (type_at vs x)) keys at in
      let matched = unless_passes is_listed (type_at vs x) at in
      let a = none_both (marked rules.Unknown known) _ h in
      let b = none_both (marked rules.Mismatch matched) _ a.right in
      let c = none_both (marked rules.ModifiedInLoop (only_if (list_any (bytes_eq x) xs) at)) [] b.right in
      both_none (marked rules.Unknown known) _ a.left
      (both_none (marked rules.Mismatch matched) _ b.left
      (both_none (marked rules.ModifiedInLoop (only_if (list_any (bytes_eq x) ys) at)) [] (walked_fewer x xs ys at f c.left) refl))

  step_fewer : (a : Statement) → StepsFewer a
  step_fewer (tree.Declare at ty x e) vs xs ys l k last f h = h
  step_fewer (tree.Assign at x e) vs xs ys l k last f h = assign_fewer at x e vs xs ys l k last f h
  step_fewer (tree.Add at x e) vs xs ys l k last f h = add_fewer at x e vs xs ys l k last f h
  step_fewer (tree.Sort at x keys down) vs xs ys l k last f h = sort_fewer at x keys down vs xs ys l k last f h
  step_fewer (tree.If at c a) vs xs ys l k last f h = h
  step_fewer (tree.IfElse at c a b) vs xs ys l k last f h = h
  step_fewer (tree.ForEach at ty x e body) vs xs ys l k last f h = h
  step_fewer (tree.While at c body) vs xs ys l k last f h = h
  step_fewer (tree.Print at e) vs xs ys l k last f h = h
  step_fewer (tree.Return at e) vs xs ys l k last f h = h
  step_fewer (tree.Break at) vs xs ys l k last f h = h

  mutual
    parts_fewer : (a : Statement) (vs : Visible) (xs ys : List (List ℕ)) (l k : Bool) → Fewer xs ys → Fine (in_parts schema vs (around xs l k) a) → Fine (in_parts schema vs (around ys l k) a)
    parts_fewer (tree.Declare at ty x e) vs xs ys l k f h = h
    parts_fewer (tree.Assign at x e) vs xs ys l k f h = h
    parts_fewer (tree.Add at x e) vs xs ys l k f h = h
    parts_fewer (tree.Sort at x keys down) vs xs ys l k f h = h
    parts_fewer (tree.If at c a) vs xs ys l k f h =
        let t = none_in schema read r (in_expression vs c) (in_statements schema vs (around xs l false) a) h in
        joined (in_expression vs c) (in_statements schema vs (around ys l false) a) t.left (statements_fewer a vs xs ys l false f t.right)
    parts_fewer (tree.IfElse at c a b) vs xs ys l k f h =
        let t = none_in schema read r (in_expression vs c) (in_statements schema vs (around xs l false) a ++ in_statements schema vs (around xs l false) b) h in
        let u = none_in schema read r (in_statements schema vs (around xs l false) a) (in_statements schema vs (around xs l false) b) t.right in
        joined (in_expression vs c) (in_statements schema vs (around ys l false) a ++ in_statements schema vs (around ys l false) b) t.left
        (joined (in_statements schema vs (around ys l false) a) (in_statements schema vs (around ys l false) b) (statements_fewer a vs xs ys l false f u.left) (statements_fewer b vs xs ys l false f u.right))
    parts_fewer (tree.ForEach at ty x e body) vs xs ys l k f h =
        let us = declared_in vs x (type_spelled schema ty) in
        let t = none_in schema read r (in_expression vs e) (in_statements schema us (around (walking e xs) true false) body) h in
        joined (in_expression vs e) (in_statements schema us (around (walking e ys) true false) body) t.left (statements_fewer body us (walking e xs) (walking e ys) true false (inner_fewer e xs ys f) t.right)
    parts_fewer (tree.While at c body) vs xs ys l k f h =
        let t = none_in schema read r (in_expression vs c) (in_statements schema vs (around xs true false) body) h in
        joined (in_expression vs c) (in_statements schema vs (around ys true false) body) t.left (statements_fewer body vs xs ys true false f t.right)
    parts_fewer (tree.Print at e) vs xs ys l k f h = h
    parts_fewer (tree.Return at None) vs xs ys l k f h = h
    parts_fewer (tree.Return at (Some e)) vs xs ys l k f h = h
    parts_fewer (tree.Break at) vs xs ys l k f h = h

    pub statements_fewer : (p : Statements) (vs : Visible) (xs ys : List (List ℕ)) (l k : Bool) → Fewer xs ys → Fine (in_statements schema vs (around xs l k) p) → Fine (in_statements schema vs (around ys l k) p)
    statements_fewer Nothing vs xs ys l k f h = refl
    statements_fewer (Then a p) vs xs ys l k f h =
        let t = none_in schema read r (in_statement schema vs (around xs l k) (is_nothing p) a) (in_statements schema (after schema vs a) (around xs l k) p) h in
        let u = none_both (faults_at schema read r (step vs (around xs l k) (is_nothing p) a)) (faults_in schema read r (in_parts schema vs (around xs l k) a)) t.left in
        joined (in_statement schema vs (around ys l k) (is_nothing p) a) (in_statements schema (after schema vs a) (around ys l k) p)
        (both_none (faults_at schema read r (step vs (around ys l k) (is_nothing p) a)) (faults_in schema read r (in_parts schema vs (around ys l k) a)) (step_fewer a vs xs ys l k (is_nothing p) f u.left) (parts_fewer a vs xs ys l k f u.right))
        (statements_fewer p (after schema vs a) xs ys l k f t.right)
