-- The asks for a loop are one for each of its needed accumulators, whatever the candidate claims.
use Rattle.std.proofs.Common.{◌≡◌, ℕ, List, Option, None, sym, subst}
use Rattle.std.specs.List.{AllByRecursion}
use Rattle.qbs_base.specs.Values.{Schema}
use Rattle.qbs_base.proofs.Order.{all_more}
use Rattle.sql_ast.specs.Tree.{PlainQuery}
use Rattle.java_ast.specs.Tree.{PlainProgram}
use Rattle.java_mean.specs.Types.{Types}
use Rattle.java_mean.specs.WellTyped.{IsWellTyped}
use Rattle.loop_text.specs.Statements.Fragment.{Fragment, accumulators, needed_of}
use Rattle.java_loops.specs.Kernel.Kernel.{broken, lowering}
use Rattle.java_loops.specs.Kernel.Setting.{Setting, setting_of}
use Rattle.java_loops.specs.Lowering.Lowered.{needed_in_order}
use Rattle.java_loops.specs.Meant.Asking.{AskForNeeded}
use Rattle.java_loops.specs.Meant.Means.{AreMatched}
use Rattle.java_loops.proofs.Lowering.LowerChains.{at_setting}
use Rattle.java_loops.proofs.Meant.MeanChains.{IsNeeded, all_needed}
use Rattle.java_loops.proofs.Nested.NestNames.{among_filtered}
use Rattle.java_loops.proofs.Nested.NestRules.{Unbroken}
use Rattle.java_loops.proofs.Placing.PlaceLoop.{kernel_unbroken}
use Rattle.java_loops.proofs.Placing.PlaceTyped.{FragmentThere}
use Rattle.java_loops.proofs.Starts.Start.{IsStarted, accumulator_started}
use Rattle.rewrite_core.specs.Asked.{Place, asks_of}
use Rattle.rewrite_core.specs.Asking.{HasAsks}
use Rattle.rewrite_core.proofs.Asks.{follow_first, asks_are, starts_asked, asks_read}
use Rattle.rewrite_core.proofs.Outer.{AreOuter, accumulators_there}

module _ (schema : Schema) (read : List ℕ → Option PlainQuery) (p : PlainProgram) (path : List ℕ) (f : Fragment) (g : Types) (well : IsWellTyped schema read p) (there : FragmentThere schema read p path f g) (rules : broken (setting_of schema read g f) ≡ None) (candidate : List ℕ) where
  abbrev w : Setting
  w = setting_of schema read g f

  abbrev l : Place
  l = record { program = p; path = path; setting = setting_of schema read g f; candidate = candidate }

  unbroken : Unbroken w
  unbroken = kernel_unbroken w rules

  outer : AreOuter (needed_in_order w) (lowering w).fragment.accs
  outer = accumulators_there schema read p path f g well there rules

  started : (x : List ℕ) → IsNeeded (needed_of f) x → IsStarted w.sites x f.run
  started x h = accumulator_started w unbroken.starts x (among_filtered _ (accumulators f) x h).0

  pub asks_for_needed : AskForNeeded (setting_of schema read g f) (asks_of (record { program = p; path = path; setting = setting_of schema read g f; candidate = candidate }))
  asks_for_needed =
      let are = asks_are l 0 0 (needed_in_order w) (lowering w).fragment.accs (follow_first l) outer in
      record {
        starts = subst (AreMatched _ (needed_in_order w)) (sym are) (starts_asked l 0 (needed_in_order w) (lowering w).fragment.accs outer (all_more (IsNeeded (needed_of f)) (λ x. IsStarted w.sites x f.run) started (needed_in_order w) (all_needed (needed_of f) f.run)));
        reads = subst (AllByRecursion _) (sym are) (asks_read l 0 (needed_in_order w) (lowering w).fragment.accs);
      }

-- The asks of a loop that has asks are for its needed accumulators.
pub asks_are_for_needed : (schema : Schema) (read : List ℕ → Option PlainQuery) (l : Place) → HasAsks schema read l.program l.path l.setting l.candidate → AskForNeeded l.setting (asks_of l)
asks_are_for_needed schema read l has =
    at_setting (λ (z : Setting). AskForNeeded z (asks_of (record { program = l.program; path = l.path; setting = z; candidate = l.candidate }))) schema read l.program l.path l.setting has.loop.typed has.loop.numbers
    (λ f g there rules. asks_for_needed schema read l.program l.path f g has.loop.typed there rules l.candidate) has.loop.there has.loop.unbroken
