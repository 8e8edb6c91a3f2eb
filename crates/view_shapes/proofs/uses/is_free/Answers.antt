use Rattle.std.proofs.Common.{◌≡◌, ℕ, Bool, true, false, ◌||◌, not, refl, sym}
use Rattle.view_shapes.proofs.Numbers.{all_but}
use Rattle.view_shapes.specs.Uses.{is_use, stands_alone}
use Rattle.view_shapes.proofs.uses.is_free.Goals as goal

refused : (a b : Bool) → true ≡ a → false ≡ b → (not a || b) ≡ false
refused a b is_a is_b = rw (sym is_a, sym is_b) refl

pub returns-then-not-is_use : goal.returns-then-not-is_use
returns-then-not-is_use c =
    all_but (λ (k : ℕ). not (stands_alone c.args.items.now c.args.name.now k) || is_use c.args.items.now c.args.closings.now c.args.rounds.now k) _ _ _
    c.loop-number.invariant c.loop-number-test.true (refused _ _ c.if-stands_alone.ensures.value c.if-not-is_use.ensures)
