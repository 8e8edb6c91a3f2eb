-- Whether statements have a select, by their parts.
use Rattle.std.specs.Prelude.{ℕ, zero, suc, ◌+◌, Bool, true, false, not, ◌&&◌, ◌||◌, List, if◌then◌else◌, nat_eq}
use Rattle.std.specs.Option.{is_some}
use Rattle.std.specs.declared.option.Option.{Option}
use Rattle.std.specs.declared.option.Option.TheVariants.{Some, None}
use Rattle.std.proofs.Common.{◌≡◌, refl, sym, ap, ◌∙◌, arith}
use Rattle.std.proofs.lemmas.Bool.Decides.{nat_tests}
use Rattle.qbs_base.specs.declared.span.Span.{Span}
use Rattle.qbs_base.specs.Values.{Schema}
use Rattle.java_ast.specs.Names.{Names}
use Rattle.java_ast.specs.Tree.{Spelled, Expression, Statement, Declare, IfElse, ForEach, Statements, Then}
use Rattle.spreads.specs.Alone.{walks_alone}
use Rattle.spreads.specs.Inner.{has_select, have_select}
use Rattle.spreads.specs.Spread.{Reads, select_of, is_there, some_if, value_declared, selects_in, selects_among}

abbrev some : ℕ → Bool
some n = not (nat_eq n 0)

some_more : (n : ℕ) → some (suc n) ≡ true
some_more n = grind (arith, nat_tests)

some_of_both : (a b : ℕ) → some (a + b) ≡ (some a || some b)
some_of_both zero b = let e : 0 + b ≡ b = omega arith in ap some e
some_of_both (suc a) b =
    let e : suc a + b ≡ suc (a + b) = omega arith in
    ap some e ∙ some_more (a + b) ∙ ap (λ (c : Bool). c || some b) (sym (some_more a))

some_of_test : (b : Bool) (n : ℕ) → some ((if b then 1 else 0) + n) ≡ (b || some n)
some_of_test true n = some_of_both 1 n
some_of_test false n = some_of_both 0 n

both_hold : (a b : Bool) → (a && b) ≡ true → (a ≡ true) × (b ≡ true)
both_hold true true h = (refl, refl)
both_hold true false h = absurd cc
both_hold false b h = absurd cc

module _ (schema : Schema) (read : Reads) (A : Names) where
  pub select_in_either : (at : Span) (c : Expression) (a b : Statements) → has_select schema read A (IfElse at c a b) ≡ (have_select schema read A a || have_select schema read A b)
  select_in_either at c a b = some_of_both (selects_among schema read A None a) (selects_among schema read A None b)

  pub select_in_each : (at : Span) (ty : Spelled) (x : List ℕ) (e : Expression) (body : Statements) → has_select schema read A (ForEach at ty x e body) ≡ (is_there (select_of schema read A e) || have_select schema read A body)
  select_in_each at ty x e body = some_of_test (is_there (select_of schema read A e)) (selects_among schema read A None body)

  -- a select that is declared for the first of these statements
  first_walks : (x : List ℕ) (p : Statements) (e : Expression) → walks_alone x p ≡ true → is_there (select_of schema read A e) ≡ true → some (selects_among schema read A (Some e) p) ≡ true
  first_walks x (Then (ForEach at ty y list body) p) e w h =
      some_of_both ((if is_there (select_of schema read A e) then 1 else 0) + selects_among schema read A None body) (selects_among schema read A None p)
      ∙ ap (λ (b : Bool). b || some (selects_among schema read A None p))
      (some_of_test (is_there (select_of schema read A e)) (selects_among schema read A None body) ∙ ap (λ (b : Bool). b || some (selects_among schema read A None body)) h)
  first_walks x p e w h = absurd cc

  abbrev counted : Option Expression → Statement → Statements → ℕ
  counted o s p = elim o as (λ _. ℕ) [ Some v ↦ selects_among schema read A (Some v) p | None ↦ selects_in schema read A None s + selects_among schema read A None p ]

  abbrev Splits : Option Expression → Statement → Statements → Type 0
  Splits o s p = some (counted o s p) ≡ (is_some o || (has_select schema read A s || have_select schema read A p))

  none_declared : (s : Statement) (p : Statements) → Splits None s p
  none_declared s p = some_of_both (selects_in schema read A None s) (selects_among schema read A None p)

  maybe_declared : (b : Bool) (at : Span) (ty : Spelled) (x : List ℕ) (e : Expression) (p : Statements) → (walks_alone x p && is_there (select_of schema read A e)) ≡ b → Splits (some_if b e) (Declare at ty x e) p
  maybe_declared true at ty x e p h = let both = both_hold (walks_alone x p) (is_there (select_of schema read A e)) h in first_walks x p e both.0 both.1
  maybe_declared false at ty x e p h = none_declared (Declare at ty x e) p

  pub select_in_block : (s : Statement) (p : Statements) → have_select schema read A (Then s p) ≡ (is_some (value_declared schema read A s p) || (has_select schema read A s || have_select schema read A p))
  select_in_block (Declare at ty x e) p = maybe_declared (walks_alone x p && is_there (select_of schema read A e)) at ty x e p refl
  select_in_block s p = none_declared s p
