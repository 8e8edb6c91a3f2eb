-- Outcomes of worked programs that don't compute by themselves.
use Rattle.std.specs.Prelude.{codes}
use Rattle.std.specs.Fmt.{digits}
use Rattle.std.proofs.Common.{◌≡◌, ℕ, zero, suc, true, List, [], ◌∷◌, None, Err, refl, ap}
use Rattle.qbs_base.specs.declared.scalar.Scalar.TheVariants as scalars
use Rattle.java_ast.specs.Tree.{Lit, Nothing}
use Rattle.java_mean.specs.declared.ending.Ending.TheVariants as endings
use Rattle.java_mean.specs.Asked.{asking, count_text, count_query, class_J_asking}
use Rattle.java_mean.specs.Outcome.{Done, OutOfTurns, finished, outcome}
use Rattle.java_mean.specs.Statement.{done, then_do, repeat, test_of, meanings}
use Rattle.java_mean.specs.Store.{Store}
use Rattle.java_mean.specs.Worked.{somewhere, staff, class_J, forever}

pub shown_J : outcome staff class_J [] 20 ≡ Done (codes "2" ∷ codes "1" ∷ codes "2" ∷ codes "0" ∷ codes "1" ∷ []) None
unfolding digits
shown_J = refl

pub shown_J_asking : outcome (asking staff count_text count_query) class_J_asking [] 5 ≡ Done (codes "2" ∷ codes "1" ∷ codes "2" ∷ codes "0" ∷ codes "1" ∷ []) None
unfolding digits
shown_J_asking = refl

-- a loop whose test is true never ends
repeat_on : (n : ℕ) (store : Store) (lines : List (List ℕ)) → repeat n (test_of (Lit somewhere (scalars.Bool true)) staff) (meanings Nothing staff) (record { store = store; lines = lines; turns = n }) ≡ Err endings.OutOfTurns
repeat_on zero store lines = refl
repeat_on (suc n) store lines = repeat_on n store lines

pub shown_forever : (n : ℕ) → outcome staff forever [] n ≡ OutOfTurns
shown_forever n = ap (λ r. finished (then_do r done)) (repeat_on n [] [])
