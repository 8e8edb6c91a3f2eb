-- A select that a statement declares for the for-each behind it.
use Rattle.std.proofs.Common.{◌≡◌, ℕ, Bool, true, false, ◌&&◌, List, Option, Some, None, refl, sym, ap}
use Rattle.std.specs.Prelude.{nat_eq}
use Rattle.qbs_base.specs.declared.span.Span.{Span}
use Rattle.qbs_base.specs.Values.{Schema}
use Rattle.java_ast.specs.Names.{Names}
use Rattle.java_ast.specs.Tree as tree
use Rattle.java_ast.specs.Tree.{Spelled, Expression, Statements, Then}
use Rattle.java_mean.specs.Queries.{Reader}
use Rattle.java_mean.proofs.Puts.{names_equal}
use Rattle.spreads.specs.Alone.{times_named, is_variable, walks_alone}
use Rattle.spreads.specs.Spread.{Select, select_of, is_there, some_if}
use Rattle.spreads.proofs.Chosen.{both_so}
use Rattle.spreads.proofs.Named.{once}

module _ (schema : Schema) (reader : Reader schema) (assigned : Names) where
  pub record IsPair (x : List ℕ) (e : Expression) (at : Span) (ty : Spelled) (y : List ℕ) (e2 : Expression) (body p : Statements) (v : Expression) : Type 0 where
    pub place : Span
    pub walks : e2 ≡ tree.Var place x
    pub once : times_named x (Then (tree.ForEach at ty y e2 body) p) ≡ 1
    pub select : Select
    pub selects : select_of schema reader.read assigned e ≡ Some select
    pub value : e ≡ v

  var_is : (x : List ℕ) (e : Expression) → is_variable x e ≡ true → (place : Span) × (e ≡ tree.Var place x)
  var_is x (tree.Var at y) h = (at, ap (tree.Var at) (sym (names_equal x y h)))
  var_is x e h = absurd cc

  there_is : (o : Option Select) → is_there o ≡ true → (s : Select) × (o ≡ Some s)
  there_is (Some s) h = (s, refl)
  there_is None h = absurd cc

  pub pair_if : (x : List ℕ) (e : Expression) (at : Span) (ty : Spelled) (y : List ℕ) (e2 : Expression) (body p : Statements) (v : Expression) (b : Bool) → (walks_alone x (Then (tree.ForEach at ty y e2 body) p) && is_there (select_of schema reader.read assigned e)) ≡ b → some_if b e ≡ Some v → IsPair x e at ty y e2 body p v
  pair_if x e at ty y e2 body p v false h i = absurd cc
  pair_if x e at ty y e2 body p v true h i =
      let both = both_so (walks_alone x (Then (tree.ForEach at ty y e2 body) p)) (is_there (select_of schema reader.read assigned e)) h in
      let alone = both_so (is_variable x e2) (nat_eq (times_named x (Then (tree.ForEach at ty y e2 body) p)) 1) both.0 in
      let var = var_is x e2 alone.0 in
      let sel = there_is (select_of schema reader.read assigned e) both.1 in
      record { place = var.0; walks = var.1; once = once (times_named x (Then (tree.ForEach at ty y e2 body) p)) alone.1; select = sel.0; selects = sel.1; value = ap (λ (o : Option Expression). elim o as (λ _. Expression) [ Some z ↦ z | None ↦ e ]) i }
