use Rattle.std.proofs.Common.{◌≡◌, ◌<◌, Some, slice_get, ℕ, [], ◌∷◌, ◌++◌, ◌∙◌, subst, arith}
use Rattle.templates.specs.Numbered.{candidates}
use Rattle.templates.proofs.Ranks.{IsLeft, left_at_first, left_at_last, number_before, step_with, step_without, candidate_at}
use Rattle.templates.proofs.numbered.nth_of.Goals as goal
use Rattle.templates.proofs.numbered.nth_of.Goals.{then-rank-with_it+in_ok-push, else-rank-with_it}

pub loop-needed-init : goal.loop-needed-init
loop-needed-init c =
    rw c.new-numbers.ensures
    (left_at_first c.args.pool (candidates c.args.pool 8) c.args.k c.place_of-place.result.length c.place_of-place.result.rank c.place_of-place.ensures.rank c.place_of-place.ensures.same, c.place_of-place.ensures.length)

before : (c : goal.In-loop-needed) → c.loop-needed.number < c.args.pool
before c = number_before c.args.pool (candidates c.args.pool 8) c.args.k c.loop-needed.numbers c.loop-needed.number c.loop-needed.needed c.loop-needed.rank c.loop-needed-test.true c.loop-needed.invariant.0

pub overflow_sub-pool-in-loop-needed : goal.overflow_sub-pool-in-loop-needed
overflow_sub-pool-in-loop-needed c = omega (arith, before c)

pub loop-needed-smaller : goal.loop-needed-smaller
loop-needed-smaller c =
    let b : c.loop-needed.number < c.args.pool = number_before c.args.pool (candidates c.args.pool 8) c.args.k c.loop-needed.numbers c.loop-needed.number c.loop-needed.needed c.loop-needed.rank c.loop-needed-test.true c.loop-needed.invariant.0 in
    omega arith

pub loop-needed-preserved : goal.loop-needed-preserved
loop-needed-preserved c =
    elim c.if-rank-with_it.branch [
      | then-rank-with_it+in_ok-push w ↦
          let n : c.if-rank-with_it.numbers ≡ c.loop-needed.numbers ++ c.loop-needed.number ∷ [] = w.numbers-is ∙ w.in_ok-push.ensures.ok in
          rw (n, w.rank-is, w.needed-is)
          (step_with c.args.pool (candidates c.args.pool 8) c.args.k c.loop-needed.numbers c.loop-needed.number c.loop-needed.needed c.loop-needed.rank c.loop-needed-test.true c.loop-needed.invariant.0 (omega arith), omega (arith, c.loop-needed.invariant.1))
      | else-rank-with_it w ↦
          rw (w.numbers-is, w.rank-is, w.needed-is, c.choose-with_it.ensures)
          (step_without c.args.pool (candidates c.args.pool 8) c.args.k c.loop-needed.numbers c.loop-needed.number c.loop-needed.needed c.loop-needed.rank c.loop-needed-test.true c.loop-needed.invariant.0 (omega arith), c.loop-needed.invariant.1)
    ]

found : (c : goal.After-loop-needed) → slice_get (candidates c.args.pool 8) c.args.k ≡ Some c.loop-needed.numbers
found c =
    let z : c.loop-needed.needed ≡ 0 = omega arith in
    left_at_last c.args.pool (candidates c.args.pool 8) c.args.k c.loop-needed.numbers c.loop-needed.number c.loop-needed.rank
    (subst (λ (m : ℕ). IsLeft c.args.pool (candidates c.args.pool 8) c.args.k c.loop-needed.numbers c.loop-needed.number m c.loop-needed.rank) z c.loop-needed.invariant.0)

pub returns-clause-exact : goal.returns-clause-exact
returns-clause-exact c = found c

pub returns-clause-candidate : goal.returns-clause-candidate
returns-clause-candidate c = candidate_at c.args.pool 8 c.args.k c.loop-needed.numbers (found c)
