-- A condition is true where all its conjuncts hold.
use Rattle.std.proofs.Common.{◌≡◌, ℕ, Bool, true, false, not, ◌&&◌, ◌||◌, List, [], ◌∷◌, ◌++◌, Ok, refl, ap, ap₂, ◌∙◌}
use Rattle.qbs_base.specs.declared.scalar.Row.{Row}
use Rattle.java_ast.specs.declared.tree.Op.TheVariants as ops
use Rattle.java_ast.specs.Tree.{Expression}
use Rattle.java_mean.specs.Expression.{value_of, truth as truth_value}
use Rattle.java_mean.specs.Store.{Store}
use Rattle.java_mean.specs.World as java
use Rattle.tor_terms.specs.declared.term.Atom.{Atom}
use Rattle.tor_terms.specs.Plain.{Form}
use Rattle.tor_terms.specs.Truth.{World, same_bool, holds, all_hold}
use Rattle.java_loops.specs.Walks.Forms.{AreConjuncts, one, of_negated, of_both, of_neither}
use Rattle.java_loops.specs.Walks.Matched.{Matches}
use Rattle.java_loops.specs.Walks.Numbering.{Numbering, Flags}
use Rattle.java_loops.proofs.Walks.ChainForms.{binary_value, negated_value, and_value, or_value, FormHolds, form_holds}
use Rattle.java_loops.proofs.Walks.ChainTests.{same_not, not_or, and_true, and_first}

pub all_append : (k : World) (known : List Atom) (rows : ℕ → Row) (fs gs : List Form) → all_hold k known rows (fs ++ gs) ≡ (all_hold k known rows fs && all_hold k known rows gs)
all_append k known rows [] gs = refl
all_append k known rows (f ∷ fs) gs = ap (λ b. holds k known rows f && b) (all_append k known rows fs gs) ∙ and_first (holds k known rows f) (all_hold k known rows fs) (all_hold k known rows gs)

-- the condition has a truth value, and all the formulas hold where it is the one that the polarity says
pub record ConjunctsHold (w : java.World) (k : World) (known : List Atom) (env : Store) (rows : ℕ → Row) (polarity : Bool) (e : Expression) (fs : List Form) : Type 0 where
  pub truth : Bool
  pub value : value_of e w env ≡ Ok (truth_value truth)
  pub is : all_hold k known rows fs ≡ same_bool polarity truth

pub conjuncts_hold : (n : Numbering) (flags : Flags) (w : java.World) (k : World) (known : List Atom) (env : Store) (rows : ℕ → Row) (polarity : Bool) (e : Expression) (fs : List Form) → AreConjuncts known n flags polarity e fs → Matches n flags w k env rows → ConjunctsHold w k known env rows polarity e fs
conjuncts_hold n flags w k known env rows _ _ _ (one polarity e f h) m =
    let x : FormHolds w k known env rows polarity e f = form_holds n flags w k known env rows polarity e f h m in
    record { truth = x.truth; value = x.value; is = and_true (holds k known rows f) true refl ∙ x.is }
conjuncts_hold n flags w k known env rows _ _ _ (of_negated polarity at e fs h) m =
    let x : ConjunctsHold w k known env rows (not polarity) e fs = conjuncts_hold n flags w k known env rows (not polarity) e fs h m in
    record { truth = not x.truth; value = ap negated_value x.value; is = x.is ∙ same_not polarity x.truth }
conjuncts_hold n flags w k known env rows _ _ _ (of_both at a b fs gs h i) m =
    let x : ConjunctsHold w k known env rows true a fs = conjuncts_hold n flags w k known env rows true a fs h m in
    let y : ConjunctsHold w k known env rows true b gs = conjuncts_hold n flags w k known env rows true b gs i m in
    record { truth = x.truth && y.truth; value = ap₂ (binary_value at ops.And) x.value y.value ∙ and_value at x.truth y.truth; is = all_append k known rows fs gs ∙ ap₂ (λ u v. u && v) x.is y.is }
conjuncts_hold n flags w k known env rows _ _ _ (of_neither at a b fs gs h i) m =
    let x : ConjunctsHold w k known env rows false a fs = conjuncts_hold n flags w k known env rows false a fs h m in
    let y : ConjunctsHold w k known env rows false b gs = conjuncts_hold n flags w k known env rows false b gs i m in
    record { truth = x.truth || y.truth; value = ap₂ (binary_value at ops.Or) x.value y.value ∙ or_value at x.truth y.truth; is = all_append k known rows fs gs ∙ ap₂ (λ u v. u && v) x.is y.is ∙ not_or x.truth y.truth }
