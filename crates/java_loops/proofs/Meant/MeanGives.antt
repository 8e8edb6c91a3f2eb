-- A run and a loop that its fragment means give way to the kept statements and to those that ask for what the fragment
-- ends with.
use Rattle.std.proofs.Common.{◌≡◌, ℕ, Bool, true, false, ◌||◌, List, [], ◌∷◌, Option, Some, None, Ok, refl, sym, ap, ◌∙◌, subst}
use Rattle.std.specs.List.{AllByRecursion}
use Rattle.qbs_base.specs.declared.scalar.Value.{Value}
use Rattle.qbs_base.specs.Named.{at_name}
use Rattle.qbs_base.specs.Values.{Schema}
use Rattle.java_ast.specs.Tree.{Spelled, Nothing, Then}
use Rattle.java_mean.specs.declared.types.JavaType.{JavaType}
use Rattle.java_mean.specs.Expression.{value_of}
use Rattle.java_mean.specs.Statement.{State, Passed, GoesOn, meaning, meanings}
use Rattle.java_mean.specs.Store.{Variable}
use Rattle.java_mean.specs.Types.{Types, types_past, is_distinct, IsVariableOf, IsTyped}
use Rattle.java_mean.specs.Typing.{Frame, IsWorld, Extends, TypedStatements}
use Rattle.java_mean.specs.World.{World}
use Rattle.java_mean.proofs.TypedRuns.{spelled_set, extends_statements}
use Rattle.java_loops.specs.Walks.Reads.{Set}
use Rattle.java_loops.specs.Walks.Replacing.{Ask, asked, is_asked, replacement, run_and_loop, set_typed, set_asked, IsThere, AllFit, IsAnswered, AllAnswered, LoopAnswers, MayGiveWay, HasSameType, HaveSameTypes}
use Rattle.java_loops.specs.Walks.Runs.{kept}
use Rattle.java_loops.proofs.Walks.TypedPasses.{run_leaves_typed, loop_leaves_typed}
use Rattle.java_loops.proofs.Walks.Visibility.{past_followed, TypedParts, typed_parts, typed_past, kept_extends, asked_extends, all_known}
use Rattle.loop_text.specs.Statements.Fragment.{are_simple}
use Rattle.java_loops.specs.Meant.GivesWay.{AreAnswers, MayStandForLoop}
use Rattle.java_loops.specs.Lowering.Lowered.{needed_in_order}
use Rattle.java_loops.specs.Meant.Members.{AreMatched}
use Rattle.java_loops.specs.Meant.Means.{HasValue, EndsAsItsFragment, GoesOnAsItsFragment, MeansItsLoop}
use Rattle.java_ast.specs.Names.{Names}
use Rattle.java_loops.specs.Kernel.Setting.{Setting}

-- ---- Types behind the loop

-- a set is one by its type
set_known : (schema : Schema) (before h : Types) (ty : Option Spelled) (x : List ℕ) (k : JavaType) → Extends h before → IsThere before ty x → HasSameType schema h ty x → h x ≡ Some k → is_distinct k ≡ set_asked before ty x
set_known schema before h (Some ty) x k i there same seen = sym (spelled_set schema ty k (sym same ∙ seen))
set_known schema before h None x k i there same seen =
    let type : there.0 ≡ k = (let q : Some there.0 ≡ Some k = sym (i x there.0 there.1) ∙ seen in cc) in
    sym (ap set_typed there.1 ∙ ap is_distinct type)

module _ (c : Frame) (l : Option Types) (before end : Types) (w : Setting) (typed : TypedStatements c l before (run_and_loop w.fragment.run w.fragment.loop) end) (at_loop : w.types ≡ types_past c.schema before w.fragment.run) (simple : are_simple w.fragment.run ≡ true) (r : Set) (ks : List Ask) (stands : MayStandForLoop c before w r ks) (means : MeansItsLoop c before w) where
  parts : TypedParts c l before w.fragment.run (Then w.fragment.loop Nothing) end
  parts = typed_parts c l before w.fragment.run (Then w.fragment.loop Nothing) end typed

  middle : parts.middle ≡ w.types
  middle = typed_past c l before parts.middle w.fragment.run parts.first ∙ sym at_loop

  extends_before : Extends w.types before
  extends_before = subst (λ z. Extends z before) middle (extends_statements c l before parts.middle w.fragment.run parts.first)

  extends_loop : Extends end w.types
  extends_loop = subst (λ z. Extends end z) middle (extends_statements c l parts.middle end (Then w.fragment.loop Nothing) parts.second)

  -- what is visible behind the new statements is visible at the loop
  extends_new : Extends w.types (types_past c.schema before (replacement r w.fragment.run ks))
  extends_new =
      subst (λ z. Extends w.types z) (sym (past_followed c.schema before (kept r w.fragment.run) (asked ks)))
      (asked_extends c.schema w.types (types_past c.schema before (kept r w.fragment.run)) ks stands.types
      (subst (λ z. Extends z (types_past c.schema before (kept r w.fragment.run))) middle (kept_extends c l before parts.middle before r w.fragment.run parts.first (λ x k e. e))))

  -- the types of the needed accumulators at the loop
  abbrev AreSeen : Names → Type 0
  AreSeen xs = AllByRecursion (λ (x : List ℕ). (k : JavaType) × (w.types x ≡ Some k)) xs

  module _ (world : World) (is_world : IsWorld c world) (t u : State) (loop_typed : IsTyped c.schema (types_past c.schema before w.fragment.run) t.store) (goes : meaning w.fragment.loop world t ≡ Ok (GoesOn u)) where
    end_typed : IsTyped c.schema end u.store
    end_typed = loop_leaves_typed c l before end w.fragment.run w.fragment.loop typed world is_world t u loop_typed goes

    same_held : (o : Option Variable) (a b : Variable) → o ≡ Some a → o ≡ Some b → a ≡ b
    same_held o a b e h = cc

    answered : (k : Ask) (x : List ℕ) (v : Value) → k.name ≡ x → value_of k.value world t.store ≡ Ok v → HasValue u.store x v → (j : JavaType) → w.types x ≡ Some j → IsThere before k.ty k.name → HasSameType c.schema w.types k.ty k.name → IsAnswered world before t u k
    answered k x v name value h j visible there same =
        let z : (z : Variable) × (at_name u.store x ≡ Some z) × IsVariableOf c.schema j z = end_typed.held x j (extends_loop x j visible) in
        let held : z.0 ≡ h.held = same_held (at_name u.store x) z.0 h.held z.1 h.there in
        record {
          held = h.held;
          left = ap (at_name u.store) name ∙ h.there;
          set = ap (λ (y : Variable). y.is_set) (sym held) ∙ z.2.set ∙ set_known c.schema before w.types k.ty k.name j extends_before there same (ap w.types name ∙ visible);
          value = value ∙ ap (λ y. Ok y) (sym h.is);
        }

    all_answered : (xs : Names) (ks : List Ask) (vs : List Value) → AreAnswers world t.store xs ks vs → AreMatched (HasValue u.store) xs vs → AllFit r before ks → HaveSameTypes c.schema w.types ks → AreSeen xs → AllAnswered world before t u ks
    all_answered [] [] [] a h fits same visible = tt
    all_answered (x ∷ xs) (k ∷ ks) (v ∷ vs) a h fits same visible =
        (answered k x v a.0 a.1 h.0 visible.0.0 visible.0.1 fits.0.there same.0, all_answered xs ks vs a.2 h.1 fits.1 same.1 visible.1)
    all_answered [] (k ∷ ks) [] a h fits same visible = absurd a
    all_answered [] (k ∷ ks) (v ∷ vs) a h fits same visible = absurd a
    all_answered [] [] (v ∷ vs) a h fits same visible = absurd a
    all_answered (x ∷ xs) [] [] a h fits same visible = absurd a
    all_answered (x ∷ xs) [] (v ∷ vs) a h fits same visible = absurd a
    all_answered (x ∷ xs) (k ∷ ks) [] a h fits same visible = absurd a

  kept_step : (a b : Bool) → (a || b) ≡ true → b ≡ false → a ≡ true
  kept_step true b h e = refl
  kept_step false b h e = absurd cc

  known_behind : (x : List ℕ) (k : JavaType) → types_past c.schema before (replacement r w.fragment.run ks) x ≡ Some k → (r x || is_asked ks x) ≡ true
  known_behind x k e = all_known c.schema before w.fragment.run r ks stands.known x k e

  loop_answers : AreSeen (needed_in_order w) → (world : World) → IsWorld c world → (s : State) → IsTyped c.schema before s.store → (t : State) → meanings w.fragment.run world s ≡ Ok (GoesOn t) → (q : Passed) → meaning w.fragment.loop world t ≡ Ok q → LoopAnswers world before (types_past c.schema before (replacement r w.fragment.run ks)) ks t q
  loop_answers visible world is_world s from t passes q runs =
      let e : GoesOnAsItsFragment w world t q = means world is_world s t from passes q runs in
      let ends : EndsAsItsFragment w world t e.state = e.ends in
      let loop_typed : IsTyped c.schema (types_past c.schema before w.fragment.run) t.store = run_leaves_typed c l before end w.fragment.run w.fragment.loop typed world is_world s t from passes in
      record {
        state = e.state;
        is = e.is;
        answered = all_answered world is_world t e.state loop_typed (runs ∙ ap (λ z. Ok z) e.is) (needed_in_order w) ks ends.values (stands.answers world is_world s t from passes ends.entry ends.entries ends.typed ends.known ends.answered ends.fits ends.values ends.ends) ends.left stands.fits stands.types visible;
        same = λ x k seen none. (let keeps : r x ≡ true = kept_step (r x) (is_asked ks x) (known_behind x k seen) none in ends.others x k (extends_new x k seen) (stands.no_accumulator x keeps) (stands.no_counter x keeps));
        lines = ends.lines;
        turns = ends.turns;
      }

  -- The run and the loop may give way to the kept statements and those that ask for what the fragment ends with.
  pub loop_gives_way : AreSeen (needed_in_order w) → MayGiveWay c before (types_past c.schema before (replacement r w.fragment.run ks)) w.fragment.run w.fragment.loop r ks
  loop_gives_way visible =
      record {
        simple = simple;
        reads = stands.reads;
        fits = stands.fits;
        known = known_behind;
        answers = loop_answers visible;
      }
