-- Where the spread of a loop may give way, so may the loop.
use Rattle.std.proofs.Common.{◌≡◌, ℕ, ◌+◌, List, [], ◌∷◌, Option, Some, Result, Ok, Err, refl, sym, ap, ◌∙◌, subst, arith}
use Rattle.std.specs.List.{AllByRecursion}
use Rattle.qbs_base.specs.Named.{at_name}
use Rattle.qbs_base.specs.Values.{Schema}
use Rattle.java_ast.specs.Tree.{Statement, Statements, Nothing, Then}
use Rattle.java_mean.specs.declared.ending.Ending.{Ending}
use Rattle.java_mean.specs.declared.types.JavaType.{JavaType}
use Rattle.java_mean.specs.Expression.{value_of}
use Rattle.java_mean.specs.Refines.{Common, Alike}
use Rattle.java_mean.specs.Statement.{State, Passed, GoesOn, Leaves, Returns, done, then_do, meaning, meanings}
use Rattle.java_mean.specs.Types.{Types, IsTyped}
use Rattle.java_mean.specs.Typing.{Frame, IsWorld, Extends}
use Rattle.java_mean.specs.World.{World}
use Rattle.java_mean.proofs.Further.{more, More, meanings_same}
use Rattle.java_loops.specs.Walks.Reads.{Set}
use Rattle.java_loops.specs.Walks.Replacing.{Ask, AllAnswered, LoopAnswers, MayGiveWay}
use Rattle.spreads.specs.Covers.{with_turns, Covered, Covers}

-- a state agrees with itself on typed variables
itself : (schema : Schema) (g : Types) (s : State) → IsTyped schema g s.store → Alike schema g s s
itself schema g s t = record {
  store = λ x k e. (let v = t.held x k e in record { held = v.0; typed = v.2; left = v.1; right = v.1 });
  lines = refl;
  turns = omega arith;
}

-- what a statement alone passes as
alone_passes : (o : Result Passed Ending) (q : Passed) → o ≡ Ok q → then_do o done ≡ Ok q
alone_passes o (GoesOn s) e = ap (λ z. then_do z done) e
alone_passes o (Leaves s) e = ap (λ z. then_do z done) e
alone_passes o (Returns s v) e = ap (λ z. then_do z done) e

passes_alone : (o : Result Passed Ending) (q : Passed) → then_do o done ≡ Ok q → o ≡ Ok q
passes_alone (Ok (GoesOn s)) q e = e
passes_alone (Ok (Leaves s)) q e = e
passes_alone (Ok (Returns s v)) q e = e
passes_alone (Err e) q h = absurd cc

-- what is answered in one state is answered in another with the same variables
answered_alike : (schema : Schema) (z : Types) (w : World) (g : Types) (t t' u u' : State) → t'.store ≡ t.store → Alike schema z u u' → (ks : List Ask) → AllByRecursion (λ (k : Ask). (ty : JavaType) × (z k.name ≡ Some ty)) ks → AllAnswered w g t' u' ks → AllAnswered w g t u ks
answered_alike schema z w g t t' u u' e a [] seen h = tt
answered_alike schema z w g t t' u u' e a (k ∷ ks) seen h =
    let v : Common schema seen.0.0 (at_name u.store k.name) (at_name u'.store k.name) = a.store k.name seen.0.0 seen.0.1 in
    (record { held = h.0.held; left = v.left ∙ sym v.right ∙ h.0.left; set = h.0.set; value = subst (λ s. value_of k.value w s ≡ Ok h.0.held.value) e h.0.value }, answered_alike schema z w g t t' u u' e a ks seen.1 h.1)

goes_on : (s u : State) → GoesOn s ≡ GoesOn u → s ≡ u
goes_on s u e = cc

never_leaves : (s u : State) → Leaves s ≡ GoesOn u → ⊥
never_leaves s u e = absurd cc

never_returns : (s u : State) (v : _) → Returns s v ≡ GoesOn u → ⊥
never_returns s u v e = absurd cc

module _ (c : Frame) (l : Option Types) (g h z m : Types) (run : Statements) (one spread : Statement) (r : Set) (ks : List Ask) (runs : (w : World) → IsWorld c w → (s t : State) → IsTyped c.schema g s.store → meanings run w s ≡ Ok (GoesOn t) → IsTyped c.schema h t.store) (covers : Covers c l h z (Then one Nothing) (Then spread Nothing)) (wider : Extends z m) (seen : AllByRecursion (λ (k : Ask). (ty : JavaType) × (z k.name ≡ Some ty)) ks) (may : MayGiveWay c g m run spread r ks) (w : World) (is : IsWorld c w) (s : State) (typed : IsTyped c.schema g s.store) (t : State) (ran : meanings run w s ≡ Ok (GoesOn t)) where
  -- the run with more turns
  further : (k : ℕ) → meanings run w (more k s) ≡ Ok (GoesOn (more k t))
  further k = subst (λ o. More k o (meanings run w (more k s))) ran (meanings_same k run w s)

  spread_answers : (extra : ℕ) (p : Passed) → meanings (Then spread Nothing) w (with_turns (t.turns + extra) t) ≡ Ok p → LoopAnswers w g m ks (more extra t) p
  spread_answers extra p passes = may.answers w is (more extra s) typed (more extra t) (further extra) p (passes_alone (meaning spread w (more extra t)) p passes)

  by_way : (q : Passed) → meaning one w t ≡ Ok q → Covered c.schema l z t t (Ok q) (meanings (Then spread Nothing) w) → LoopAnswers w g m ks t q
  by_way (GoesOn u) e to =
      let a : LoopAnswers w g m ks (more to.extra t) (GoesOn to.state) = spread_answers to.extra (GoesOn to.state) to.passes in
      let same : to.state ≡ a.state = goes_on to.state a.state a.is in
      let alike : Alike c.schema z u a.state = subst (Alike c.schema z u) same to.alike in
      record {
        state = u;
        is = refl;
        answered = answered_alike c.schema z w g t (more to.extra t) u a.state refl alike ks seen a.answered;
        same = λ x k e n. (let v : Common c.schema k (at_name u.store x) (at_name a.state.store x) = alike.store x k (wider x k e) in v.left ∙ sym v.right ∙ a.same x k e n);
        lines = alike.lines ∙ a.lines;
        turns = to.spent;
      }
  by_way (Leaves u) e to = let a = spread_answers to.extra (Leaves to.state) to.passes in absurd (never_leaves to.state a.state a.is)
  by_way (Returns u v) e to = let a = spread_answers to.extra (Returns to.state v) to.passes in absurd (never_returns to.state a.state v a.is)

  pub answers : (q : Passed) → meaning one w t ≡ Ok q → LoopAnswers w g m ks t q
  answers q e = by_way q e (subst (λ o. Covered c.schema l z t t o (meanings (Then spread Nothing) w)) (alone_passes (meaning one w t) q e) (covers.by w is t t (itself c.schema h t (runs w is s t typed ran))))

pub transfer : (c : Frame) (l : Option Types) (g h z m : Types) (run : Statements) (one spread : Statement) (r : Set) (ks : List Ask) → ((w : World) → IsWorld c w → (s t : State) → IsTyped c.schema g s.store → meanings run w s ≡ Ok (GoesOn t) → IsTyped c.schema h t.store) → Covers c l h z (Then one Nothing) (Then spread Nothing) → Extends z m → AllByRecursion (λ (k : Ask). (ty : JavaType) × (z k.name ≡ Some ty)) ks → MayGiveWay c g m run spread r ks → MayGiveWay c g m run one r ks
transfer c l g h z m run one spread r ks runs covers wider seen may =
    record {
      simple = may.simple;
      reads = may.reads;
      fits = may.fits;
      known = may.known;
      answers = λ w is s typed t ran q e. answers c l g h z m run one spread r ks runs covers wider seen may w is s typed t ran q e;
    }
