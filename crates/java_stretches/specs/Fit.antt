-- Two programs with the same statements, whose places are told apart only where it doesn't matter where a statement begins: behind one that
-- a run may have.
use Rattle.std.specs.Prelude.{◌≡◌, ℕ, ◌≤◌, ◌<◌, Bool, false, List, [], ◌∷◌}
use Rattle.std.specs.declared.option.Option.TheVariants.{None}
use Rattle.qbs_base.specs.declared.span.Span.{Span}
use Rattle.java_lex.specs.Spans.{SamePlace}
use Rattle.java_ast.specs.Path.{branch_of}
use Rattle.java_ast.specs.Spans.{place_of}
use Rattle.java_ast.specs.Tree.{Spelled, Expression, Statement, If, IfElse, ForEach, While, Statements, Nothing, Then, PlainMethod}
use Rattle.loop_text.specs.Statements.Fragment.{is_simple}

-- two places begin at the same byte, line and column
abbrev pub SameStart : Span → Span → Type 0
SameStart a b = SamePlace a b × (a.start ≡ b.start)

-- A statement and another that stands for it, behind one that a run may have or not: else both begin at the same place. Both end at the same
-- byte where no run may have them. The second stands in a line, counted from 1.
pub record Spot (behind : Bool) (t s : Statement) : Type 0 where
  pub starts : behind ≡ false → SameStart (place_of t) (place_of s)
  pub ends : is_simple s ≡ false → (place_of t).end ≡ (place_of s).end
  pub lined : (place_of s).line ≡ 0 → ⊥

-- The statements of the second one begin one behind the other, from the byte lo on and up to hi, and loops end before hi.
mutual
  pub data FitStatement : ℕ → ℕ → Statement → Statement → Type 0 where
    alone : {lo hi : ℕ} {t s : Statement} → lo ≤ (place_of s).start → (place_of s).start ≤ hi → ((b : ℕ) → branch_of b t ≡ None) → ((b : ℕ) → branch_of b s ≡ None) → is_simple t ≡ is_simple s → FitStatement lo hi t s
    if_alone : {lo hi : ℕ} {to at : Span} {c d : Expression} {x y : Statements} → lo ≤ at.start → FitBlock lo hi false x y → FitStatement lo hi (If to c x) (If at d y)
    if_else : {lo m hi : ℕ} {to at : Span} {c d : Expression} {x y v w : Statements} → lo ≤ at.start → FitBlock lo m false x y → FitBlock m hi false v w → FitStatement lo hi (IfElse to c x v) (IfElse at d y w)
    for_each : {lo hi : ℕ} {to at : Span} {a b : Spelled} {f g : List ℕ} {c d : Expression} {x y : Statements} → lo ≤ at.start → at.start < at.end → at.end ≤ hi → FitBlock at.start at.end false x y → FitStatement lo hi (ForEach to a f c x) (ForEach at b g d y)
    while : {lo hi : ℕ} {to at : Span} {c d : Expression} {x y : Statements} → lo ≤ at.start → at.start < at.end → at.end ≤ hi → FitBlock at.start at.end false x y → FitStatement lo hi (While to c x) (While at d y)

  pub data FitBlock : ℕ → ℕ → Bool → Statements → Statements → Type 0 where
    nothing : {lo hi : ℕ} {behind : Bool} → lo ≤ hi → FitBlock lo hi behind Nothing Nothing
    followed : {lo m hi : ℕ} {behind : Bool} {t s : Statement} {ts ss : Statements} → Spot behind t s → FitStatement lo m t s → FitBlock m hi (is_simple s) ts ss → FitBlock lo hi behind (Then t ts) (Then s ss)

-- so it is in methods, one behind the other
abbrev pub FitMethods : ℕ → List PlainMethod → List PlainMethod → Type 0
FitMethods lo [] [] = Unit {0}
FitMethods lo (k ∷ ks) (m ∷ ms) = (hi : ℕ) × FitBlock lo hi false k.body m.body × FitMethods hi ks ms
FitMethods lo _ _ = ⊥
