-- A lowered fragment means its loop, and the kept statements of its run leave the rest as the run and the loop do.
use Rattle.std.proofs.Common.{◌≡◌, ℕ, ◌≤◌, true, false, List, Option, Some, None, sym, ap, ◌∙◌, subst}
use Rattle.std.proofs.lemmas.Bool.{or_from}
use Rattle.qbs_base.specs.Named.{at_name}
use Rattle.qbs_base.specs.Values.{Schema}
use Rattle.sql_ast.specs.Tree.{PlainQuery}
use Rattle.java_ast.specs.Tree.{PlainProgram}
use Rattle.java_mean.specs.Asks.{frame_of}
use Rattle.java_mean.specs.Numbers.{NumbersFit}
use Rattle.java_mean.specs.Statement.{State, GoesOn}
use Rattle.java_mean.specs.Types.{Types}
use Rattle.java_mean.specs.Typing.{Frame}
use Rattle.java_mean.specs.WellTyped.{IsWellTyped}
use Rattle.java_loops.specs.Walks.Reads.{Set}
use Rattle.java_loops.specs.Walks.Runs as runs
use Rattle.java_loops.specs.Walks.Runs.{KeptPasses}
use Rattle.java_loops.proofs.Walks.KeptRuns.{kept_passes}
use Rattle.java_loops.proofs.Walks.Passing.{same_state}
use Rattle.loop_text.specs.Statements.Fragment.{Fragment, are_simple, accumulators, counter, is_name, is_live}
use Rattle.java_loops.specs.Kernel.Kernel.{broken, lowering, setting_at}
use Rattle.loop_text.specs.Statements.KeptStatements.{AreKept, with_numbers}
use Rattle.java_loops.specs.Lowering.Lowered.{Lowering}
use Rattle.java_ast.specs.Names.{names_read, Names, is_among}
use Rattle.java_loops.specs.Meant.Lowers.{IsLowered, StandForTheRest, IsMeant}
use Rattle.java_loops.specs.Meant.Means.{GoesOnAsItsFragment, MeansItsLoop, MeansItsLoopThere}
use Rattle.java_loops.specs.Kernel.Setting.{Setting, setting_of}
use Rattle.java_loops.proofs.Kept.KeptAlone.{kept_read, live_uncounted}
use Rattle.java_loops.specs.Meant.KeptNumbers.{kept_set}
use Rattle.java_loops.proofs.Kept.Least.{live_wanted}
use Rattle.java_loops.proofs.Kept.KeptRuns.{IsKeptSet, is_kept_set, numbers_keep}
use Rattle.java_loops.proofs.Lowering.LowerChains.{fragment_chains, at_setting}
use Rattle.java_loops.proofs.Meant.MeanWhole.{fragment_means, means_there}
use Rattle.java_loops.proofs.Nested.NestRules.{Unbroken}
use Rattle.java_loops.proofs.Placing.PlaceLoop.{kernel_unbroken}
use Rattle.java_loops.proofs.Placing.PlaceTyped.{types_before, FragmentThere}

-- ---- What kept statements leave

-- a live variable that is no accumulator is kept
live_kept : (w : Setting) → Unbroken w → (further : Names) → are_simple w.fragment.run ≡ true → (x : List ℕ) → is_live w.fragment x ≡ true → is_among (accumulators w.fragment) x ≡ false → kept_set w.fragment further x ≡ true
live_kept w u further simple x l plain =
    let set : IsKeptSet w.fragment further (kept_set w.fragment further) = is_kept_set w.fragment further in
    set.holds x (or_from (is_among (accumulators w.fragment) x) (is_name (counter w.fragment.loop) x) plain (live_uncounted w u.loop x l)) (live_wanted w.fragment further x l)

-- The kept statements stand for the rest, where the fragment means its loop.
kept_stand : (c : Frame) (before : Types) (w : Setting) → Unbroken w → are_simple w.fragment.run ≡ true → MeansItsLoop c before w → (further : Names) → StandForTheRest c before w (runs.kept (kept_set w.fragment further) w.fragment.run)
kept_stand c before w u simple means further world is_world s t last typed passes goes =
    let r : Set = kept_set w.fragment further in
    let k : KeptPasses world r (runs.kept r w.fragment.run) s t = kept_passes world r w.fragment.run s t simple (kept_read w u further) passes in
    let e : GoesOnAsItsFragment w world t (GoesOn last) = means world is_world s t typed passes (GoesOn last) goes in
    let same : e.state ≡ last = sym (same_state last e.state e.is) in
    let turns : last.turns ≤ t.turns = subst (λ (z : State). z.turns ≤ t.turns) same e.ends.turns in
    record {
      state = k.state;
      passes = k.passes;
      same = λ x ty seen l plain. k.same.by x (live_kept w u further simple x l plain) ∙ sym (e.ends.others x ty seen plain (live_uncounted w u.loop x l)) ∙ ap (λ (z : State). at_name z.store x) same;
      lines = k.lines ∙ sym e.ends.lines ∙ ap (λ (z : State). z.lines) same;
      turns = subst (λ n. last.turns ≤ n) (sym k.turns) turns;
    }

-- ---- In a program

module _ (schema : Schema) (read : List ℕ → Option PlainQuery) (p : PlainProgram) (path : List ℕ) (f : Fragment) (g : Types) (well : IsWellTyped schema read p) (there : FragmentThere schema read p path f g) (rules : broken (setting_of schema read g f) ≡ None) where
  abbrev w : Setting
  w = setting_of schema read g f

  -- the loop of a lowered fragment means what the fragment says, where it stands
  abbrev pub meant_there : MeansItsLoopThere schema read p path (setting_of schema read g f)
  meant_there = means_there schema read p path f g well there rules (fragment_chains schema read p path f g well there rules)

  -- and the statements with the numbers of kept ones leave the rest
  meant_here : (further : Names) (first : ℕ) (kept : List ℕ) → AreKept f further first f.run kept → IsMeant schema read p path (setting_of schema read g f) (with_numbers kept first f.run)
  meant_here further first kept k =
      let simple : are_simple f.run ≡ true = there.place.placed.simple in
      let c : Frame = frame_of schema read there.place.method in
      let before : Types = types_before schema p path f there.place in
      let means : MeansItsLoop c before w = fragment_means schema read p path f g well there rules (fragment_chains schema read p path f g well there rules) in
      let same : with_numbers kept first f.run ≡ runs.kept (kept_set f further) f.run = numbers_keep f further (kept_set f further) (is_kept_set f further) first f.run kept k in
      record {
        there = meant_there;
        rest = subst (StandForTheRest c before w) (sym same) (kept_stand c before w (kernel_unbroken w rules) simple means further);
      }

-- In a well-typed program whose literals have 64 bits, the lowered fragment of a loop that breaks no rule of the kernel form
-- means the loop, and the kept statements leave the rest.
pub fragment_is_meant : (schema : Schema) (read : List ℕ → Option PlainQuery) (p : PlainProgram) (path : List ℕ) (w : Setting) → IsWellTyped schema read p → NumbersFit p → setting_at schema read path p ≡ Some w → broken w ≡ None → (first : ℕ) (kept : List ℕ) → AreKept w.fragment (names_read (lowering w).entries) first w.fragment.run kept → IsMeant schema read p path w (with_numbers kept first w.fragment.run)
fragment_is_meant schema read p path w well fits is rules first kept k =
    at_setting (λ (v : Setting). (first : ℕ) (kept : List ℕ) → AreKept v.fragment (names_read (lowering v).entries) first v.fragment.run kept → IsMeant schema read p path v (with_numbers kept first v.fragment.run)) schema read p path w well fits
    (λ f g there unbroken first' kept' k'. meant_here schema read p path f g well there unbroken (names_read (lowering (setting_of schema read g f)).entries) first' kept' k') is rules first kept k

-- ---- Of what is lowered

same_setting : (o : Option Setting) (v w : Setting) → o ≡ Some v → o ≡ Some w → v ≡ w
same_setting o v w e h = cc

-- A lowered fragment means its loop, and the statements with the numbers of the kept ones leave the rest.
pub lowered_is_meant : (schema : Schema) (read : List ℕ → Option PlainQuery) (p : PlainProgram) (path : List ℕ) (l : Lowering) (first : ℕ) (kept : List ℕ) → IsWellTyped schema read p → NumbersFit p → IsLowered schema read p path l first kept → (w : Setting) → setting_at schema read path p ≡ Some w → IsMeant schema read p path w (with_numbers kept first w.fragment.run)
lowered_is_meant schema read p path l first kept well fits k w is =
    let keeps : AreKept k.setting.fragment (names_read (lowering k.setting).entries) first k.setting.fragment.run kept = subst (λ (z : Lowering). AreKept k.setting.fragment (names_read z.entries) first k.setting.fragment.run kept) (sym k.lowered) k.keeps in
    subst (λ (v : Setting). IsMeant schema read p path v (with_numbers kept first v.fragment.run)) (same_setting (setting_at schema read path p) k.setting w k.there is)
    (fragment_is_meant schema read p path k.setting well fits k.there k.unbroken first kept keeps)
