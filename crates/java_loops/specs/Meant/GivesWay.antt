-- Statements that ask for what a lowered fragment ends with.
use Rattle.std.specs.Prelude.{◌≡◌, ℕ, true, false, ◌||◌, List, [], ◌∷◌, Ok}
use Rattle.std.specs.declared.option.Option.TheVariants.{Some}
use Rattle.qbs_base.specs.declared.scalar.Value.{Value}
use Rattle.qbs_base.specs.Values.{AreOf}
use Rattle.java_mean.specs.declared.types.JavaType.{JavaType}
use Rattle.java_mean.specs.Expression.{value_of}
use Rattle.java_mean.specs.Statement.{State, GoesOn, meanings}
use Rattle.java_mean.specs.Store.{Store}
use Rattle.java_mean.specs.Types.{Types, IsTyped}
use Rattle.java_mean.specs.Typing.{Frame, IsWorld}
use Rattle.java_mean.specs.World.{World}
use Rattle.java_loops.specs.Walks.Reads.{Set}
use Rattle.java_loops.specs.Walks.Replacing.{Ask, is_asked, AllFit, HaveSameTypes}
use Rattle.java_loops.specs.Walks.Runs.{KeptRead}
use Rattle.kernel_lang.specs.declared.parts.Entry.{Entry}
use Rattle.kernel_lang.specs.Fitting.{PartsFit}
use Rattle.kernel_lang.specs.Running.{fragment_end}
use Rattle.loop_text.specs.Statements.Fragment.{accumulators, counter, is_name}
use Rattle.java_loops.specs.Kernel.Kernel.{lowering}
use Rattle.java_loops.specs.Lowering.Lowered.{needed_in_order}
use Rattle.java_loops.specs.Meant.Members.{AreMatched}
use Rattle.java_loops.specs.Meant.Means.{HasScalar, HasScalars, IsAnswered, IsWholeAnswer}
use Rattle.java_ast.specs.Names.{Names, is_among}
use Rattle.java_loops.specs.Lowering.Numbering.{numbers_of}
use Rattle.java_loops.specs.Kernel.Setting.{Setting}

-- each ask is for the name at its place, and its expression has the value at its place
abbrev pub AreAnswers : World → Store → Names → List Ask → List Value → Type 0
AreAnswers w s [] [] [] = Unit {0}
AreAnswers w s (x ∷ xs) (k ∷ ks) (v ∷ vs) = (k.name ≡ x) × (value_of k.value w s ≡ Ok v) × AreAnswers w s xs ks vs
AreAnswers w s _ _ _ = ⊥

-- At a loop where the run has passed, the asks answer what the fragment ends with, if it ends, on the entry values and
-- known lists that are there. The known lists have the members of what their queries answer there, the entry values have
-- their types, and the fragment's parts fit.
abbrev pub AnswersItsFragment : Frame → Types → Setting → List Ask → Type 0
AnswersItsFragment c before w ks =
    (world : World) → IsWorld c world
    → (s t : State) → IsTyped c.schema before s.store
    → meanings w.fragment.run world s ≡ Ok (GoesOn t)
    → (entry : Entry)
    → AreMatched (HasScalar world t.store) (lowering w).entries entry.values
    → AreOf (lowering w).fragment.entries entry.values
    → AreMatched (HasScalars t.store) (numbers_of w).known entry.known
    → AreMatched (IsAnswered world t.store w.fragment.run) (numbers_of w).known entry.known
    → PartsFit (lowering w).fragment world.db entry
    → (values : List Value) → fragment_end (lowering w).fragment world.db entry ≡ Some values
    → AreAnswers world t.store (needed_in_order w) ks values

-- At a loop where the run has passed, the asks answer what the fragment ends with, if it ends, on the entry values that are
-- there and on the whole answers of the known lists' queries there. The entry values have their types, and the fragment's
-- parts fit.
abbrev pub AnswersWithAnswers : Frame → Types → Setting → List Ask → Type 0
AnswersWithAnswers c before w ks =
    (world : World) → IsWorld c world
    → (s t : State) → IsTyped c.schema before s.store
    → meanings w.fragment.run world s ≡ Ok (GoesOn t)
    → (entry : Entry)
    → AreMatched (HasScalar world t.store) (lowering w).entries entry.values
    → AreOf (lowering w).fragment.entries entry.values
    → AreMatched (IsWholeAnswer world t.store w.fragment.run) (numbers_of w).known entry.known
    → PartsFit (lowering w).fragment world.db entry
    → (values : List Value) → fragment_end (lowering w).fragment world.db entry ≡ Some values
    → AreAnswers world t.store (needed_in_order w) ks values

-- The text that may stand in place of a run and its loop: the statements that are kept for the set r read variables of r
-- alone, and set neither accumulators nor a counter; what is visible before is in r or asked for; each ask fits, declares its
-- variable with its type, and answers what the fragment ends with.
pub record MayStandForLoop (c : Frame) (before : Types) (w : Setting) (r : Set) (ks : List Ask) : Type 0 where
  pub reads : KeptRead r w.fragment.run
  pub fits : AllFit r before ks
  pub types : HaveSameTypes c.schema w.types ks
  pub known : (x : List ℕ) (k : JavaType) → before x ≡ Some k → (r x || is_asked ks x) ≡ true
  pub no_accumulator : (x : List ℕ) → r x ≡ true → is_among (accumulators w.fragment) x ≡ false
  pub no_counter : (x : List ℕ) → r x ≡ true → is_name (counter w.fragment.loop) x ≡ false
  pub answers : AnswersItsFragment c before w ks
