-- The first loop at a line and column, by its path from where it is looked for.
use Rattle.std.specs.Prelude.{ℕ, suc, Bool, List, [], ◌∷◌, ◌&&◌, ◌==◌, Option, Some, None, if◌then◌else◌}
use Rattle.std.specs.Option.{option_map}
use Rattle.qbs_base.specs.declared.span.Span.{Span}
use Rattle.java_ast.specs.Tree.{Declare, Assign, Add, Sort, If, IfElse, ForEach, While, Print, Return, Break, Statement, Statements, Nothing, Then, PlainMethod}

-- the stretch begins at this line and column
abbrev pub begins_at : ℕ → ℕ → Span → Bool
begins_at line column at = (at.line == line) && (at.column == column)

-- a path with a number before it
abbrev pub led_by : ℕ → Option (List ℕ) → Option (List ℕ)
led_by n path = option_map (λ (p : List ℕ). n ∷ p) path

-- the first path, and where there is none the other one
abbrev pub or_other : Option (List ℕ) → Option (List ℕ) → Option (List ℕ)
or_other None other = other
or_other (Some p) other = Some p

-- in a loop: itself, or one in its body
abbrev pub first_in_loop : ℕ → ℕ → Span → Option (List ℕ) → Option (List ℕ)
first_in_loop line column at inside = if begins_at line column at then Some [] else led_by 0 inside

-- in a statement, and in a block whose first statement has the number n
abbrev mutual
  pub first_in : ℕ → ℕ → Statement → Option (List ℕ)
  first_in line column (Declare at ty x e) = None
  first_in line column (Assign at x e) = None
  first_in line column (Add at x e) = None
  first_in line column (Sort at x keys downs) = None
  first_in line column (If at c a) = led_by 0 (first_among line column 0 a)
  first_in line column (IfElse at c a b) = or_other (led_by 0 (first_among line column 0 a)) (led_by 1 (first_among line column 0 b))
  first_in line column (ForEach at ty x e b) = first_in_loop line column at (first_among line column 0 b)
  first_in line column (While at c b) = first_in_loop line column at (first_among line column 0 b)
  first_in line column (Print at e) = None
  first_in line column (Return at e) = None
  first_in line column (Break at) = None

  pub first_among : ℕ → ℕ → ℕ → Statements → Option (List ℕ)
  first_among line column n Nothing = None
  first_among line column n (Then s ss) = or_other (led_by n (first_in line column s)) (first_among line column (suc n) ss)

-- in methods of which the first has the number n
abbrev pub first_of_methods : ℕ → ℕ → ℕ → List PlainMethod → Option (List ℕ)
first_of_methods line column n [] = None
first_of_methods line column n (m ∷ ms) = or_other (led_by n (first_among line column 0 m.body)) (first_of_methods line column (suc n) ms)
