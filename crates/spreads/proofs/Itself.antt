-- A typed statement covers itself.
use Rattle.std.proofs.Common.{◌≡◌, ℕ, ◌+◌, ◌≤◌, Option, Some, None, Result, Ok, Err, refl, sym, ap, ◌∙◌, subst, arith}
use Rattle.qbs_base.specs.Values.{Schema}
use Rattle.java_ast.specs.Tree.{Statement}
use Rattle.java_mean.specs.declared.ending.Ending.{Ending}
use Rattle.java_mean.specs.Refines.{Alike, Follows, exits}
use Rattle.java_mean.specs.Statement.{State, Passed, GoesOn, Leaves, Returns, meaning}
use Rattle.java_mean.specs.Types.{Types}
use Rattle.java_mean.specs.Typing.{Frame, IsWorld, TypedStatement}
use Rattle.java_mean.specs.World.{World}
use Rattle.java_mean.proofs.TypedRuns.{typed_statement}
use Rattle.spreads.specs.Covers.{with_turns, Covered}
use Rattle.spreads.proofs.Passing.{HasSpent, spent_in}

turned_round : (schema : Schema) (g : Types) (s t : State) → Alike schema g s t → Alike schema g (with_turns s.turns t) s
turned_round schema g s t a = record { store = λ x k e. (let c = a.store x k e in record { held = c.held; typed = c.typed; left = c.right; right = c.left }); lines = sym a.lines; turns = omega arith }

turns_of : Passed → ℕ
turns_of (GoesOn s) = s.turns
turns_of (Leaves s) = s.turns
turns_of (Returns s v) = s.turns

went_on : (s u : State) → (let r : Result Passed Ending = Ok (GoesOn s) in r) ≡ Ok (GoesOn u) → s.turns ≡ u.turns
went_on s u e = ap (λ (r : Result Passed Ending). elim r as (λ _. ℕ) [ Ok (GoesOn x) ↦ x.turns | Ok (Leaves x) ↦ 0 | Ok (Returns x v) ↦ 0 | Err z ↦ 0 ]) e

left_so : (s u : State) → (let r : Result Passed Ending = Ok (Leaves s) in r) ≡ Ok (Leaves u) → s.turns ≡ u.turns
left_so s u e = ap (λ (r : Result Passed Ending). elim r as (λ _. ℕ) [ Ok (GoesOn x) ↦ 0 | Ok (Leaves x) ↦ x.turns | Ok (Returns x v) ↦ 0 | Err z ↦ 0 ]) e

module _ (c : Frame) (a : Statement) (w : World) (h : Types) (s t : State) where
  at_start : (p : Passed) → meaning a w (with_turns s.turns t) ≡ Ok p → meaning a w (with_turns (s.turns + 0) t) ≡ Ok p
  at_start p e = (let same : s.turns + 0 ≡ s.turns = omega arith in ap (λ (n : ℕ). meaning a w (with_turns n t)) same ∙ e)

  by_result : (l : Option Types) (r : Result Passed Ending) → meaning a w s ≡ r → Follows (Alike c.schema h) (exits c l ⊥) r (meaning a w (with_turns s.turns t)) → ((q : Result Passed Ending) → meaning a w (with_turns s.turns t) ≡ q → Follows (Alike c.schema h) (exits c l ⊥) q r) → ((u : State) → (r ≡ Ok (GoesOn u)) → u.turns ≤ s.turns) → ((u : State) → (r ≡ Ok (Leaves u)) → u.turns ≤ s.turns) → Covered c.schema l h s t r (meaning a w)
  by_result l (Ok (GoesOn u)) e to back on off =
      let again = back (Ok (GoesOn to.state)) to.is in
      let same : u.turns ≡ again.state.turns = went_on u again.state again.is in
      record { extra = 0; state = to.state; passes = at_start (GoesOn to.state) to.is; alike = to.holds; left = omega (arith, to.holds.turns, again.holds.turns, same); spent = on u refl }
  by_result (Some b) (Ok (Leaves u)) e to back on off =
      let again = back (Ok (Leaves to.state)) to.is in
      let same : u.turns ≡ again.state.turns = left_so u again.state again.is in
      record { extra = 0; state = to.state; passes = at_start (Leaves to.state) to.is; alike = to.holds; left = omega (arith, to.holds.turns, again.holds.turns, same); spent = off u refl }
  by_result None (Ok (Leaves u)) e to back on off = absurd to.holds
  by_result l (Ok (Returns u v)) e to back on off = record { extra = 0; state = to.0.state; passes = at_start (Returns to.0.state v) to.0.is; lines = to.0.lines }
  by_result l (Err x) e to back on off = tt

pub covers_itself : (c : Frame) (l : Option Types) (g : Types) (a : Statement) (h : Types) → TypedStatement c l g a h → (w : World) → IsWorld c w → (s t : State) → Alike c.schema g s t → Covered c.schema l h s t (meaning a w s) (meaning a w)
covers_itself c l g a h typed w is s t i =
    let sim = typed_statement c l g a h typed w is in
    let there : Alike c.schema g s (with_turns s.turns t) = record { store = i.store; lines = i.lines; turns = omega arith } in
    by_result c a w h s t l (meaning a w s) refl (sim.by s (with_turns s.turns t) there) (λ q e. subst (λ z. Follows (Alike c.schema h) (exits c l ⊥) z (meaning a w s)) e (sim.by (with_turns s.turns t) s (turned_round c.schema g s t i)))
    (λ u e. subst (HasSpent s) e (spent_in a w s)) (λ u e. subst (HasSpent s) e (spent_in a w s))
