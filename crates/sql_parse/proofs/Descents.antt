-- Down a chain of conditions, as the code takes it apart.
use Rattle.std.proofs.Common.{◌≡◌, ℕ, List, [], ◌∷◌, ◌++◌, Option, Some, sym, ap, ap₂, ◌∙◌, subst}
use Rattle.std.specs.Global.{Box}
use Rattle.qbs_base.specs.Values.{Schema}
use Rattle.sql_ast.specs.declared.known.Known.{Known}
use Rattle.sql_ast.specs.declared.tree.Cond.{Cond}
use Rattle.sql_ast.specs.Knowns.{knowns_of}
use Rattle.sql_ast.specs.Names.{named_condition}
use Rattle.sql_ast.specs.Reading.{condition}
use Rattle.sql_ast.specs.Tree.{Condition}
use Rattle.sql_ast.specs.Written.{WrittenCondition}
use Rattle.sql_ast.specs.Written as written
use Rattle.sql_parse.specs.declared.fault.Stop.{Stop}
use Rattle.sql_parse.specs.declared.naming.Step.{Step}
use Rattle.sql_parse.specs.declared.naming.Step.TheVariants as steps
use Rattle.sql_parse.specs.declared.raw.RawCond.{RawCond}
use Rattle.sql_parse.specs.declared.raw.RawCond.TheViews as views
use Rattle.sql_parse.specs.Said.{condition_of}
use Rattle.sql_parse.specs.Scopes.{scope_of}
use Rattle.sql_parse.specs.Seen.{Fails}
use Rattle.sql_parse.proofs.Climbing.{over, both_on, either_on, not_on, both_fails, either_fails}

abbrev pub named : Schema → ℕ → List Known → WrittenCondition → Option Condition
named schema around ks a = named_condition schema (scope_of around (knowns_of ks)) a

both_raw : (rest x y : RawCond) (a b : Box RawCond) → rest ≡ views.Both a b → x ≡ a.value → y ≡ b.value → condition_of rest ≡ written.Both (condition_of x) (condition_of y)
both_raw rest x y a b e g h = ap condition_of e ∙ ap₂ (λ (v w : RawCond). written.Both (condition_of v) (condition_of w)) (sym g) (sym h)

either_raw : (rest x y : RawCond) (a b : Box RawCond) → rest ≡ views.Either a b → x ≡ a.value → y ≡ b.value → condition_of rest ≡ written.Either (condition_of x) (condition_of y)
either_raw rest x y a b e g h = ap condition_of e ∙ ap₂ (λ (v w : RawCond). written.Either (condition_of v) (condition_of w)) (sym g) (sym h)

not_raw : (rest x : RawCond) (a : Box RawCond) → rest ≡ views.Not a → x ≡ a.value → condition_of rest ≡ written.Not (condition_of x)
not_raw rest x a e g = ap condition_of e ∙ ap (λ (v : RawCond). written.Not (condition_of v)) (sym g)

module _ (schema : Schema) (around : ℕ) (ks now : List Known) (rest x y : RawCond) (a b : Box RawCond) (ss : List Step) (whole : Option Condition) (same : now ≡ ks) (left : x ≡ a.value) (right : y ≡ b.value) (so_far : over ss (named schema around ks (condition_of rest)) ≡ whole) where
  pub both_next : rest ≡ views.Both a b → (ts : List Step) (d : Box Cond) → named schema around now (condition_of y) ≡ Some (condition d.value) → ts ≡ ss ++ steps.And d ∷ [] → over ts (named schema around ks (condition_of x)) ≡ whole
  both_next e ts d g f =
      both_on schema (scope_of around (knowns_of ks)) ss ts (condition_of x) (condition_of y) d whole f
      (subst (λ (js : List Known). named schema around js (condition_of y) ≡ Some (condition d.value)) same g)
      (ap (λ (w : WrittenCondition). over ss (named schema around ks w)) (sym (both_raw rest x y a b e left right)) ∙ so_far)

  pub either_next : rest ≡ views.Either a b → (ts : List Step) (d : Box Cond) → named schema around now (condition_of y) ≡ Some (condition d.value) → ts ≡ ss ++ steps.Or d ∷ [] → over ts (named schema around ks (condition_of x)) ≡ whole
  either_next e ts d g f =
      either_on schema (scope_of around (knowns_of ks)) ss ts (condition_of x) (condition_of y) d whole f
      (subst (λ (js : List Known). named schema around js (condition_of y) ≡ Some (condition d.value)) same g)
      (ap (λ (w : WrittenCondition). over ss (named schema around ks w)) (sym (either_raw rest x y a b e left right)) ∙ so_far)

  pub both_stops : rest ≡ views.Both a b → (s : Stop) → Fails s (named schema around now (condition_of y)) → Fails s whole
  both_stops e s g =
      both_fails schema (scope_of around (knowns_of ks)) ss (condition_of x) (condition_of y) s whole
      (subst (λ (js : List Known). Fails s (named schema around js (condition_of y))) same g)
      (ap (λ (w : WrittenCondition). over ss (named schema around ks w)) (sym (both_raw rest x y a b e left right)) ∙ so_far)

  pub either_stops : rest ≡ views.Either a b → (s : Stop) → Fails s (named schema around now (condition_of y)) → Fails s whole
  either_stops e s g =
      either_fails schema (scope_of around (knowns_of ks)) ss (condition_of x) (condition_of y) s whole
      (subst (λ (js : List Known). Fails s (named schema around js (condition_of y))) same g)
      (ap (λ (w : WrittenCondition). over ss (named schema around ks w)) (sym (either_raw rest x y a b e left right)) ∙ so_far)

pub not_next : (schema : Schema) (around : ℕ) (ks : List Known) (rest x : RawCond) (a : Box RawCond) (ss ts : List Step) (whole : Option Condition) → rest ≡ views.Not a → x ≡ a.value → ts ≡ ss ++ steps.Not ∷ [] → over ss (named schema around ks (condition_of rest)) ≡ whole → over ts (named schema around ks (condition_of x)) ≡ whole
not_next schema around ks rest x a ss ts whole e g f so_far =
    not_on schema (scope_of around (knowns_of ks)) ss ts (condition_of x) whole f
    (ap (λ (w : WrittenCondition). over ss (named schema around ks w)) (sym (not_raw rest x a e g)) ∙ so_far)
