-- The spread depends on which variables are assigned, and not on how often.
use Rattle.std.specs.Prelude.{ℕ, ◌+◌, Bool, not, ◌&&◌, List, if◌then◌else◌}
use Rattle.std.specs.declared.option.Option.{Option}
use Rattle.std.specs.declared.option.Option.TheVariants.{Some, None}
use Rattle.std.proofs.Common.{◌≡◌, refl, ap, ap₂, ◌∙◌}
use Rattle.qbs_base.specs.Values.{Schema}
use Rattle.java_ast.specs.Names.{Names, is_among}
use Rattle.java_ast.specs.Tree.{Table, Expression, Var, Field, Query, Expressions, NoMore, And, Statement, Declare, If, IfElse, ForEach, While, Statements, Nothing, Then}
use Rattle.select_parts.specs.Selects.{is_select}
use Rattle.spreads.specs.Alone.{walks_alone}
use Rattle.spreads.specs.Spread.{Reads, Select, select_if, select_of_rows, select_of, is_there, some_if, value_declared, value_or, walked_or, spread_in, spread_among, selects_in, selects_among}
use Rattle.spreads.specs.Staying.{stays, all_stay}
use Rattle.sql_ast.specs.Tree.{PlainQuery, Listing}

abbrev pub Same : Names → Names → Type 0
Same A B = (y : List ℕ) → is_among A y ≡ is_among B y

same_stays : (A B : Names) → Same A B → (e : Expression) → stays A e ≡ stays B e
same_stays A B h (Var at x) = ap not (h x)
same_stays A B h (Field at (Var at' x) column) = ap not (h x)
same_stays A B h e = refl

same_all_stay : (A B : Names) → Same A B → (es : Expressions) → all_stay A es ≡ all_stay B es
same_all_stay A B h NoMore = refl
same_all_stay A B h (And e es) = ap₂ (λ (p q : Bool). p && q) (same_stays A B h e) (same_all_stay A B h es)

same_rows : (schema : Schema) (A B : Names) → Same A B → (o : Option PlainQuery) (es : Expressions) → select_of_rows schema A o es ≡ select_of_rows schema B o es
same_rows schema A B h (Some (Listing q)) es = ap (λ (b : Bool). select_if (is_select schema q && b) q es) (same_all_stay A B h es)
same_rows schema A B h o es = refl

same_select : (schema : Schema) (read : Reads) (A B : Names) → Same A B → (e : Expression) → select_of schema read A e ≡ select_of schema read B e
same_select schema read A B h (Query at (Table name) text es) = same_rows schema A B h (read text) es
same_select schema read A B h e = refl

same_value : (schema : Schema) (read : Reads) (A B : Names) → Same A B → (s : Statement) (p : Statements) → value_declared schema read A s p ≡ value_declared schema read B s p
same_value schema read A B h (Declare at ty x e) p = ap (λ (o : Option Select). some_if (walks_alone x p && is_there o) e) (same_select schema read A B h e)
same_value schema read A B h s p = refl

-- ---- What comes of a declared value, or of none

abbrev either : {X : Type 0} → Option Expression → (Expression → X) → X → X
either {X} o f x = elim o as (λ _. X) [ Some v ↦ f v | None ↦ x ]

same_either : {X : Type 0} (o : Option Expression) (f g : Expression → X) (x y : X) → ((v : Expression) → f v ≡ g v) → x ≡ y → either o f x ≡ either o g y
same_either (Some v) f g x y h k = h v
same_either None f g x y h k = k

mutual
  same_in : (schema : Schema) (read : Reads) (A B : Names) → Same A B → (d : Option Expression) (s : Statement) → spread_in schema read A d s ≡ spread_in schema read B d s
  same_in schema read A B h d (If at c a) = ap (If at c) (same_among schema read A B h None a)
  same_in schema read A B h d (IfElse at c a b) = ap₂ (IfElse at c) (same_among schema read A B h None a) (same_among schema read A B h None b)
  same_in schema read A B h d (ForEach at ty x e body) = ap₂ (walked_or schema at ty x e) (same_select schema read A B h (value_or d e)) (same_among schema read A B h None body)
  same_in schema read A B h d (While at c body) = ap (While at c) (same_among schema read A B h None body)
  same_in schema read A B h d s = refl

  pub same_among : (schema : Schema) (read : Reads) (A B : Names) → Same A B → (d : Option Expression) (p : Statements) → spread_among schema read A d p ≡ spread_among schema read B d p
  same_among schema read A B h d Nothing = refl
  same_among schema read A B h d (Then s p) =
      ap (λ (o : Option Expression). either o (λ v. spread_among schema read A (Some v) p) (Then (spread_in schema read A d s) (spread_among schema read A None p))) (same_value schema read A B h s p)
      ∙ same_either (value_declared schema read B s p) (λ v. spread_among schema read A (Some v) p) (λ v. spread_among schema read B (Some v) p)
      (Then (spread_in schema read A d s) (spread_among schema read A None p)) (Then (spread_in schema read B d s) (spread_among schema read B None p))
      (λ v. same_among schema read A B h (Some v) p)
      (ap₂ Then (same_in schema read A B h d s) (same_among schema read A B h None p))

mutual
  same_number_in : (schema : Schema) (read : Reads) (A B : Names) → Same A B → (d : Option Expression) (s : Statement) → selects_in schema read A d s ≡ selects_in schema read B d s
  same_number_in schema read A B h d (If at c a) = same_number schema read A B h None a
  same_number_in schema read A B h d (IfElse at c a b) = ap₂ (λ (m n : ℕ). m + n) (same_number schema read A B h None a) (same_number schema read A B h None b)
  same_number_in schema read A B h d (ForEach at ty x e body) =
      ap₂ (λ (o : Option Select) (n : ℕ). (if is_there o then 1 else 0) + n) (same_select schema read A B h (value_or d e)) (same_number schema read A B h None body)
  same_number_in schema read A B h d (While at c body) = same_number schema read A B h None body
  same_number_in schema read A B h d s = refl

  pub same_number : (schema : Schema) (read : Reads) (A B : Names) → Same A B → (d : Option Expression) (p : Statements) → selects_among schema read A d p ≡ selects_among schema read B d p
  same_number schema read A B h d Nothing = refl
  same_number schema read A B h d (Then s p) =
      ap (λ (o : Option Expression). either o (λ v. selects_among schema read A (Some v) p) (selects_in schema read A d s + selects_among schema read A None p)) (same_value schema read A B h s p)
      ∙ same_either (value_declared schema read B s p) (λ v. selects_among schema read A (Some v) p) (λ v. selects_among schema read B (Some v) p)
      (selects_in schema read A d s + selects_among schema read A None p) (selects_in schema read B d s + selects_among schema read B None p)
      (λ v. same_number schema read A B h (Some v) p)
      (ap₂ (λ (m n : ℕ). m + n) (same_number_in schema read A B h d s) (same_number schema read A B h None p))
