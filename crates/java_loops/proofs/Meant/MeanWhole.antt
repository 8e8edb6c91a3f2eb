-- A lowered fragment whose accumulators are chains means its loop.
use Rattle.std.proofs.Common.{◌≡◌, ℕ, true, false, ◌||◌, List, ◌∷◌, Option, Some, None, Ok, refl, sym, ap, ◌∙◌, subst}
use Rattle.qbs_base.specs.Named.{at_name}
use Rattle.qbs_base.specs.Values.{Schema}
use Rattle.sql_ast.specs.Tree.{PlainQuery}
use Rattle.java_ast.specs.Tree.{PlainProgram}
use Rattle.java_mean.specs.declared.types.JavaType.{JavaType}
use Rattle.java_mean.specs.Asks.{frame_of}
use Rattle.java_mean.specs.Numbers.{NumbersFit}
use Rattle.java_mean.specs.Statement.{State, Passed, meaning}
use Rattle.java_mean.specs.Types.{Types}
use Rattle.java_mean.specs.Typing.{Frame, IsWorld}
use Rattle.java_mean.specs.WellTyped.{IsWellTyped}
use Rattle.java_mean.specs.World.{World}
use Rattle.kernel_lang.specs.Fitting.{PartsFit}
use Rattle.kernel_lang.specs.Given.{world_given}
use Rattle.kernel_lang.specs.Plain as kernel
use Rattle.java_loops.specs.Walks.ChainStarts.{IsMade}
use Rattle.java_loops.specs.Walks.Left.{GoneOn}
use Rattle.java_loops.proofs.Walks.Becoming.{over_rows}
use Rattle.java_loops.proofs.Walks.ChainParts.{parts_fit}
use Rattle.loop_text.specs.Statements.Fragment.{Fragment, accumulators, counter, is_name, fragment_at}
use Rattle.java_loops.specs.Kernel.Kernel.{broken, lowering, setting_there, setting_at}
use Rattle.java_loops.specs.Kernel.Kernel as paths
use Rattle.java_loops.specs.Lowering.Lowered.{needed_in_order}
use Rattle.java_loops.specs.Meant.Means.{GoesOnAsItsFragment, MeansItsLoop, MeansItsLoopThere}
use Rattle.java_ast.specs.Names.{is_among}
use Rattle.java_loops.specs.Kernel.Setting.{Setting, setting_of}
use Rattle.loop_text.specs.Sites.Sites.{kernel_body, is_some}
use Rattle.java_loops.proofs.Listed.ListedRows.{IsSeenFragment, fragment_seen}
use Rattle.java_loops.proofs.Meant.Mean.{AllEnd, AreStarted, all_ended}
use Rattle.java_loops.proofs.Meant.MeanBegins.{BeginsThere, begins_there}
use Rattle.java_loops.proofs.Meant.MeanChains.{HasChains, all_started, accumulators_stand}
use Rattle.java_loops.proofs.Meant.MeanFlags.{flags_stand}
use Rattle.java_loops.proofs.Meant.MeanTables.{tables_known, keys_known}
use Rattle.java_loops.proofs.Meant.MeanTests.{fragment_atoms_stand}
use Rattle.java_loops.proofs.Meant.MeanWalks.{rows_at, loop_goes_on}
use Rattle.java_loops.proofs.Nested.Nest.{set_by_loop, left_by_loop, BodyIsNest, SeesFragment, accumulator_seen, left_from, body_is_nest}
use Rattle.java_loops.proofs.Nested.NestCounter.{loop_kind}
use Rattle.java_loops.proofs.Nested.NestRules.{Unbroken}
use Rattle.java_loops.proofs.Nested.NestThere.{loop_breaks}
use Rattle.java_loops.proofs.Numbers.Numberings.{numbering}
use Rattle.java_loops.proofs.Placing.PlaceLoop.{kernel_unbroken, IsEstablished, run_establishes}
use Rattle.java_loops.proofs.Placing.PlaceTyped.{types_before, FragmentThere, fragment_there}

module _ (schema : Schema) (read : List ℕ → Option PlainQuery) (p : PlainProgram) (path : List ℕ) (f : Fragment) (g : Types) (well : IsWellTyped schema read p) (there : FragmentThere schema read p path f g) (rules : broken (setting_of schema read g f) ≡ None) (chains : HasChains (setting_of schema read g f)) where
  abbrev w : Setting
  w = setting_of schema read g f

  abbrev c : Frame
  c = frame_of schema read there.place.method

  abbrev lowered : kernel.Fragment
  lowered = (lowering w).fragment

  unbroken : Unbroken w
  unbroken = kernel_unbroken w rules

  seen : IsSeenFragment schema read f g
  seen = fragment_seen schema read p path f g well there

  sees : SeesFragment f g
  sees = record { by = there.typed.named }

  nest : BodyIsNest w g f.loop
  nest = body_is_nest w refl unbroken c there.typed.loop g there.typed.after sees there.typed.body (loop_breaks schema read p path f well there.place)

  visible : (y : List ℕ) → is_among (accumulators f) y ≡ true → is_some (g y) ≡ true
  visible y h = accumulator_seen f g sees y h

  module _ (world : World) (is_world : IsWorld c world) (t : State) (holds : IsEstablished w world t) where
    begin : BeginsThere w world t
    begin = begins_there schema read f g seen there.place.method world is_world t holds

    starting : AreStarted lowered (numbering w) nest.row (kernel_body f.loop) (set_by_loop w) t.store (needed_in_order w) lowered.accs
    starting = all_started w nest.row t nest.is_row chains holds.store visible holds.starts refl (loop_kind w unbroken)

    made : IsMade lowered (numbering w) begin.entry
    made =
        record {
          tests = fragment_atoms_stand schema read f g seen unbroken c refl there.typed.loop there.typed.after there.typed.body;
          updates = accumulators_stand w nest.row t nest.is_row chains holds.store visible holds.starts (flags_stand w unbroken);
          keys = keys_known schema read f g seen unbroken;
          tables = tables_known schema read f g seen unbroken;
          known = begin.count;
          values = begin.typed;
        }

    fitting : PartsFit lowered world.db begin.entry
    fitting = parts_fit (numbering w) lowered world t.store begin.entry begin.begins made

    module _ (q : Passed) (runs : meaning f.loop world t ≡ Ok q) where
      gone : GoneOn (set_by_loop w) (left_by_loop w g) (over_rows (rows_at w world) nest.row (kernel_body f.loop) world) t q
      gone = loop_goes_on w refl unbroken c there.typed.loop there.typed.after there.typed.body nest world t holds q runs

      ending : AllEnd lowered (world_given lowered world.db begin.entry) gone.state.store (needed_in_order w) lowered.accs
      ending = all_ended lowered (numbering w) nest.row (kernel_body f.loop) (set_by_loop w) (left_by_loop w g) world begin.entry (rows_at w world) t gone.state begin.begins refl gone.left (needed_in_order w) lowered.accs starting

      left_there : (x : List ℕ) (k : JavaType) → g x ≡ Some k → is_among (accumulators f) x ≡ false → is_name (counter f.loop) x ≡ false → at_name gone.state.store x ≡ at_name t.store x
      left_there x k i plain other = sym (gone.left.fixed.by x (left_from w g x k i (ap (λ b. b || is_name (counter f.loop) x) plain ∙ other)))

      goes_on : GoesOnAsItsFragment w world t q
      goes_on =
          record {
            state = gone.state;
            is = gone.is;
            ends = record {
              entry = begin.entry;
              entries = begin.entries;
              typed = begin.typed;
              known = begin.known;
              answered = begin.answered;
              fits = fitting;
              values = ending.values;
              ends = ending.is;
              left = ending.left;
              others = left_there;
              lines = sym gone.left.lines;
              turns = gone.left.turns;
            };
          }

  -- The lowered fragment of a loop of a well-typed program that breaks no rule of the kernel form, and whose accumulators are
  -- chains, means the loop.
  pub fragment_means : MeansItsLoop (frame_of schema read there.place.method) (types_before schema p path f there.place) (setting_of schema read g f)
  fragment_means world is_world s t typed passes q runs =
      goes_on world is_world t (run_establishes schema read p path f g well there rules world is_world s t typed passes) q runs

-- ---- By the path to the loop

-- where it stands
abbrev pub means_there : (schema : Schema) (read : List ℕ → Option PlainQuery) (p : PlainProgram) (path : List ℕ) (f : Fragment) (g : Types) → IsWellTyped schema read p → FragmentThere schema read p path f g → broken (setting_of schema read g f) ≡ None → HasChains (setting_of schema read g f) → MeansItsLoopThere schema read p path (setting_of schema read g f)
means_there schema read p path f g well there rules chains =
    record {
      number = there.place.number;
      rest = there.place.first ∷ there.place.down;
      leads = there.place.is;
      method = there.place.method;
      found = there.place.found;
      hole = there.place.placed.hole;
      stands = there.place.placed.is;
      types = there.is;
      means = fragment_means schema read p path f g well there rules chains;
    }

setting_means : (schema : Schema) (read : List ℕ → Option PlainQuery) (p : PlainProgram) (path : List ℕ) (w : Setting) (types : Option Types) (fragment : Option Fragment) → IsWellTyped schema read p → NumbersFit p → paths.types_at schema path p ≡ types → fragment_at path p ≡ fragment → setting_there schema read types fragment ≡ Some w → broken w ≡ None → HasChains w → MeansItsLoopThere schema read p path w
setting_means schema read p path w (Some g) (Some f) well fits e h is rules chains =
    let same : setting_of schema read g f ≡ w = (let i : Some (setting_of schema read g f) ≡ Some w = is in cc) in
    subst (MeansItsLoopThere schema read p path) same
    (means_there schema read p path f g well (fragment_there schema read p path f g well fits h e) (subst (λ z. broken z ≡ None) (sym same) rules) (subst HasChains (sym same) chains))
setting_means schema read p path w (Some g) None well fits e h is rules chains = absurd cc
setting_means schema read p path w None (Some f) well fits e h is rules chains = absurd cc
setting_means schema read p path w None None well fits e h is rules chains = absurd cc

-- The setting to whose loop a path leads in a well-typed program whose literals have 64 bits: where no rule of the kernel form
-- is broken and the accumulators are chains, the lowered fragment means the loop there.
pub fragment_means_there : (schema : Schema) (read : List ℕ → Option PlainQuery) (p : PlainProgram) (path : List ℕ) (w : Setting) → IsWellTyped schema read p → NumbersFit p → setting_at schema read path p ≡ Some w → broken w ≡ None → HasChains w → MeansItsLoopThere schema read p path w
fragment_means_there schema read p path w well fits is rules chains = setting_means schema read p path w (paths.types_at schema path p) (fragment_at path p) well fits refl refl is rules chains
