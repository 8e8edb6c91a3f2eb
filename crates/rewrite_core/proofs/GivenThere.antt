-- The entry values and the whole answers of known queries that are there at a loop are given as emission asks for them.
use Rattle.std.proofs.Common.{◌≡◌, ℕ, List, Option, None, Ok, sym, ◌∙◌, subst}
use Rattle.std.specs.List.{AllByRecursion}
use Rattle.qbs_base.specs.Values.{Schema, AreOf}
use Rattle.kernel_lang.specs.declared.parts.Entry.{Entry}
use Rattle.sql_parts.specs.Given.{IsGiven}
use Rattle.java_ast.specs.Tree.{Nothing, Then, PlainProgram}
use Rattle.java_mean.specs.Asks.{frame_of}
use Rattle.java_mean.specs.Numbers.{NumbersFit}
use Rattle.java_mean.specs.Queries.{Reader}
use Rattle.java_mean.specs.Refines.{loop_at, IsTypedPlace}
use Rattle.java_mean.specs.Statement.{State, GoesOn, meanings}
use Rattle.java_mean.specs.Types.{Types, types_of_params, types_past, IsTyped}
use Rattle.java_mean.specs.Typing.{Frame, IsWorld, TypedStatements}
use Rattle.java_mean.specs.WellTyped.{IsWellTyped}
use Rattle.java_mean.specs.World.{World}
use Rattle.java_mean.proofs.TypedPlaces.{places_typed}
use Rattle.loop_text.specs.Statements.Fragment.{Fragment}
use Rattle.java_loops.specs.Kernel.Kernel.{broken, lowering}
use Rattle.java_loops.specs.Kernel.Setting.{Setting, setting_of}
use Rattle.java_loops.specs.Lowering.Numbering.{numbers_of, entries_of, known_of}
use Rattle.java_loops.specs.Meant.Means.{AreMatched, HasScalar, IsWholeAnswer, MeansItsLoopThere}
use Rattle.java_loops.specs.Walks.Replacing.{seen_at, run_and_loop}
use Rattle.java_loops.proofs.Known.KnownGiven.{IsGivenKnown, AreGiven, fragment_is_given}
use Rattle.java_loops.proofs.Listed.ListedRows.{IsSeenFragment, fragment_seen}
use Rattle.java_loops.proofs.Lowering.LowerChains.{at_setting}
use Rattle.java_loops.proofs.Meant.MeanGiven.{entries_matched}
use Rattle.java_loops.proofs.Nested.NestRules.{Unbroken}
use Rattle.java_loops.proofs.Placing.PlaceLoop.{kernel_unbroken}
use Rattle.java_loops.proofs.Placing.PlaceTyped.{FragmentThere}
use Rattle.java_loops.proofs.Walks.TypedPasses.{run_leaves_typed}
use Rattle.java_loops.proofs.Walks.Visibility.{TypedParts, typed_parts, typed_past}
use Rattle.lowering.specs.Asked.{queries_in, IsKernelLoop}
use Rattle.rewrite_core.specs.Asking.{IsGivenThere}
use Rattle.rewrite_core.proofs.Known.{one_matched, known_answers}

module _ (schema : Schema) (reader : Reader schema) (p : PlainProgram) (path : List ℕ) (f : Fragment) (g : Types) (well : IsWellTyped schema reader.read p) (numbers : NumbersFit p) (there : FragmentThere schema reader.read p path f g) (rules : broken (setting_of schema reader.read g f) ≡ None) where
  abbrev w : Setting
  w = setting_of schema reader.read g f

  unbroken : Unbroken w
  unbroken = kernel_unbroken w rules

  seen : IsSeenFragment schema reader.read f g
  seen = fragment_seen schema reader.read p path f g well there

  module _ (here : MeansItsLoopThere schema reader.read p path w) (world : World) (is_world : IsWorld (frame_of schema reader.read here.method) world) (s t : State) (from : IsTyped schema (seen_at schema here.method here.hole) s.store) (passes : meanings f.run world s ≡ Ok (GoesOn t)) where
    abbrev frame : Frame
    frame = frame_of schema reader.read here.method

    abbrev before : Types
    before = seen_at schema here.method here.hole

    abbrev around : Option Types
    around = loop_at schema None (types_of_params schema here.method.params) here.hole

    abbrev after : Types
    after = types_past schema before (run_and_loop f.run f.loop)

    place : IsTypedPlace frame None (types_of_params schema here.method.params) here.hole (run_and_loop f.run f.loop)
    place = places_typed schema reader.read p here.number here.method here.hole (run_and_loop f.run f.loop) well numbers here.found here.stands

    at_loop : IsTyped schema g t.store
    at_loop = subst (λ z. IsTyped schema z t.store) (sym here.types) (run_leaves_typed frame around before after f.run f.loop place.typed world is_world s t from passes)

    parts : TypedParts frame around before f.run (Then f.loop Nothing) after
    parts = typed_parts frame around before f.run (Then f.loop Nothing) after place.typed

    run : TypedStatements frame around before f.run g
    run = subst (λ z. TypedStatements frame around before f.run z) (typed_past frame around before parts.middle f.run parts.first ∙ sym here.types) parts.first

    given : AreGiven w world t
    given = fragment_is_given schema reader.read f g seen unbroken.conditions here.method around before run world is_world s t at_loop there.place.placed.simple passes

    module _ (entry : Entry) (matched : AreMatched (HasScalar world t.store) (lowering w).entries entry.values) (typed : AreOf (lowering w).fragment.entries entry.values) (whole : AreMatched (IsWholeAnswer world t.store f.run) (numbers_of w).known entry.known) where
      same_values : given.entries.values ≡ entry.values
      same_values = one_matched world t.store (entries_of w) given.entries.values entry.values (entries_matched w world t given) matched

      given_so : IsGiven schema (lowering w).fragment (queries_in (lowering w).known) (lowering w).arguments world.db entry
      given_so =
          record {
            database = is_world.tables;
            values = typed;
            answers = known_answers w world t is_world.asked entry.values (known_of w) entry.known (subst (λ zs. AllByRecursion (IsGivenKnown w world t zs) (known_of w)) same_values given.known) whole;
          }

  pub given_there : (here : MeansItsLoopThere schema reader.read p path w) → IsGivenThere (frame_of schema reader.read here.method) (seen_at schema here.method here.hole) w
  given_there here world is_world s t from passes entry matched typed whole = given_so here world is_world s t from passes entry matched typed whole

-- What is there at a loop of the kernel form is given as emission asks for it.
pub answers_are_given : (schema : Schema) (reader : Reader schema) (p : PlainProgram) (path : List ℕ) (w : Setting) → IsKernelLoop schema reader.read p path w → (here : MeansItsLoopThere schema reader.read p path w) → IsGivenThere (frame_of schema reader.read here.method) (seen_at schema here.method here.hole) w
answers_are_given schema reader p path w loop =
    at_setting (λ (z : Setting). (here : MeansItsLoopThere schema reader.read p path z) → IsGivenThere (frame_of schema reader.read here.method) (seen_at schema here.method here.hole) z) schema reader.read p path w loop.typed loop.numbers
    (λ f g there rules. given_there schema reader p path f g loop.typed loop.numbers there rules) loop.there loop.unbroken
