-- The asks for a loop ask for what the loop makes.
use Rattle.std.proofs.Common.{◌≡◌, ℕ, true, List, slice_get, Some, None, Ok, refl, sym, subst, arith}
use Rattle.std.specs.List.{AllByRecursion}
use Rattle.qbs_base.specs.declared.scalar.Value.{Value}
use Rattle.qbs_base.specs.Values.{Schema, AreOf}
use Rattle.qbs_base.proofs.Order.{all_more}
use Rattle.kernel_lang.specs.declared.parts.Entry.{Entry}
use Rattle.kernel_lang.specs.Pools.{Member, members}
use Rattle.kernel_lang.specs.Running.{fragment_end}
use Rattle.kernel_lang.specs.Sentences.{AccumulatorIsValid}
use Rattle.kernel_lang.specs.Typed.{is_typed}
use Rattle.kernel_lang.specs.Validity as validity
use Rattle.kernel_lang.specs.Validity.{takes_a_column}
use Rattle.kernel_lang.proofs.Sentences.{valid}
use Rattle.sql_parts.specs.Given.{AreKnownTo, IsGiven, SaysWhatIsClaimed}
use Rattle.sql_parts.proofs.Claims.{says}
use Rattle.sql_parts.proofs.Entries.{entries_are}
use Rattle.sql_parts.proofs.Flags.{column_taken}
use Rattle.java_ast.specs.Tree.{PlainProgram}
use Rattle.java_mean.specs.Asks.{frame_of}
use Rattle.java_mean.specs.Numbers.{NumbersFit}
use Rattle.java_mean.specs.Queries.{Reader}
use Rattle.java_mean.specs.Statement.{State, GoesOn, meanings}
use Rattle.java_mean.specs.Types.{Types, IsTyped}
use Rattle.java_mean.specs.Typing.{IsWorld}
use Rattle.java_mean.specs.WellTyped.{IsWellTyped}
use Rattle.java_mean.specs.World.{World}
use Rattle.loop_text.specs.Statements.Fragment.{Fragment}
use Rattle.java_loops.specs.Kernel.Kernel.{broken, lowering}
use Rattle.java_loops.specs.Kernel.Setting.{Setting, setting_of}
use Rattle.java_loops.specs.Lowering.Lowered.{needed_in_order}
use Rattle.java_loops.specs.Lowering.Numbering.{numbers_of}
use Rattle.java_loops.specs.Meant.Asking.{AskForLoop}
use Rattle.java_loops.specs.Meant.GivesWay.{AreAnswers, AnswersWithAnswers}
use Rattle.java_loops.specs.Meant.Means.{AreMatched, HasScalar, IsWholeAnswer, MeansItsLoopThere}
use Rattle.java_loops.specs.Walks.Replacing.{seen_at}
use Rattle.java_loops.proofs.Listed.ListedRows.{IsSeenFragment, fragment_seen}
use Rattle.java_loops.proofs.Lowering.LowerChains.{at_setting}
use Rattle.java_loops.proofs.Lowering.LowerValid.{fragment_valid}
use Rattle.java_loops.proofs.Meant.AnswersWhole.{answers_suffice}
use Rattle.java_loops.proofs.Nested.NestRules.{Unbroken}
use Rattle.java_loops.proofs.Placing.PlaceLoop.{kernel_unbroken}
use Rattle.java_loops.proofs.Placing.PlaceTyped.{FragmentThere}
use Rattle.java_loops.proofs.Typing.TypedFragment.{fragment_fits}
use Rattle.lowering.specs.Asked.{queries_in}
use Rattle.lowering.proofs.Known.KnownLoop.{known_to}
use Rattle.rewrite_core.specs.Asked.{Place, asks_of}
use Rattle.rewrite_core.specs.Asking.{MayBeAsked}
use Rattle.rewrite_core.proofs.AllAnswer.{all_answer}
use Rattle.rewrite_core.proofs.Asks.{emission_of, follow_first, asks_are}
use Rattle.rewrite_core.proofs.GivenThere.{given_there}
use Rattle.rewrite_core.proofs.Outer.{AreOuter, accumulators_there}
use Rattle.rewrite_core.proofs.StartedAsks.{asks_for_needed}

module _ (schema : Schema) (reader : Reader schema) (p : PlainProgram) (path : List ℕ) (f : Fragment) (g : Types) (well : IsWellTyped schema reader.read p) (numbers : NumbersFit p) (there : FragmentThere schema reader.read p path f g) (rules : broken (setting_of schema reader.read g f) ≡ None) (candidate : List ℕ) (may : MayBeAsked schema reader.read p path (setting_of schema reader.read g f) candidate) where
  abbrev w : Setting
  w = setting_of schema reader.read g f

  abbrev l : Place
  l = record { program = p; path = path; setting = setting_of schema reader.read g f; candidate = candidate }

  unbroken : Unbroken w
  unbroken = kernel_unbroken w rules

  seen : IsSeenFragment schema reader.read f g
  seen = fragment_seen schema reader.read p path f g well there

  outer : AreOuter (needed_in_order w) (lowering w).fragment.accs
  outer = accumulators_there schema reader.read p path f g well there rules

  -- ---- The fragment

  unbroken_fragment : validity.broken (lowering w).fragment ≡ None
  unbroken_fragment = fragment_valid schema reader.read p path f g well there rules

  fits : is_typed schema (lowering w).fragment ≡ true
  fits = fragment_fits schema reader.read p path w well numbers may.loop.there rules

  known : AreKnownTo schema (lowering w).fragment (queries_in (lowering w).known) (lowering w).arguments
  known = known_to schema reader.read p path w may.loop may.known

  columns : AllByRecursion (λ a. takes_a_column a.update ≡ true) (lowering w).fragment.accs
  columns =
      all_more (AccumulatorIsValid (lowering w).fragment) (λ a. takes_a_column a.update ≡ true) (λ a h. column_taken (lowering w).fragment a h) (lowering w).fragment.accs (valid (lowering w).fragment unbroken_fragment).accs

  -- ---- At the loop

  module _ (here : MeansItsLoopThere schema reader.read p path w) (world : World) (is_world : IsWorld (frame_of schema reader.read here.method) world) (s t : State) (from : IsTyped schema (seen_at schema here.method here.hole) s.store) (passes : meanings f.run world s ≡ Ok (GoesOn t)) where
    module _ (entry : Entry) (matched : AreMatched (HasScalar world t.store) (lowering w).entries entry.values) (typed : AreOf (lowering w).fragment.entries entry.values) (whole : AreMatched (IsWholeAnswer world t.store f.run) (numbers_of w).known entry.known) where
      given_so : IsGiven schema (lowering w).fragment (queries_in (lowering w).known) (lowering w).arguments world.db entry
      given_so = given_there schema reader p path f g well numbers there rules here world is_world s t from passes entry matched typed whole

      claimed : (k : ℕ) (m : Member) → slice_get (members (lowering w).fragment candidate) k ≡ Some m → m.0.base ≡ 0 → SaysWhatIsClaimed schema (lowering w).fragment candidate (queries_in (lowering w).known) (lowering w).arguments m (emission_of l m)
      claimed k m at base = says schema (lowering w).fragment candidate (queries_in (lowering w).known) (lowering w).arguments k m unbroken_fragment fits known at base

      answers : (values : List Value) → fragment_end (lowering w).fragment world.db entry ≡ Some values → AreAnswers world t.store (needed_in_order w) (asks_of l) values
      answers values ended =
          subst (λ ks. AreAnswers world t.store (needed_in_order w) ks values) (sym (asks_are l 0 0 (needed_in_order w) (lowering w).fragment.accs (follow_first l) outer))
          (all_answer l schema reader refl here.method world is_world t entry matched typed given_so claimed (entries_are schema (lowering w).fragment (queries_in (lowering w).known) (lowering w).arguments unbroken_fragment known) may.emitted
          0 0 (needed_in_order w) (lowering w).fragment.accs values (follow_first l) outer columns (omega arith) ended (may.ends world.db entry values ended))

  answer_whole : (here : MeansItsLoopThere schema reader.read p path w) → AnswersWithAnswers (frame_of schema reader.read here.method) (seen_at schema here.method here.hole) w (asks_of l)
  answer_whole here world is_world s t from passes entry matched typed whole fitting values ended = answers here world is_world s t from passes entry matched typed whole values ended

  pub asks_for_loop : AskForLoop schema reader.read p path w (asks_of l)
  asks_for_loop =
      record {
        needed = asks_for_needed schema reader.read p path f g well there rules candidate;
        answers = λ here. answers_suffice (frame_of schema reader.read here.method) (seen_at schema here.method here.hole) w (asks_of l) (answer_whole here);
      }

-- The asks for a loop whose candidate's postconditions say what its fragment ends with ask for what the loop makes.
pub asks_are_for_loops : (schema : Schema) (reader : Reader schema) (l : Place) → MayBeAsked schema reader.read l.program l.path l.setting l.candidate → AskForLoop schema reader.read l.program l.path l.setting (asks_of l)
asks_are_for_loops schema reader l may =
    at_setting (λ (z : Setting). MayBeAsked schema reader.read l.program l.path z l.candidate → AskForLoop schema reader.read l.program l.path z (asks_of (record { program = l.program; path = l.path; setting = z; candidate = l.candidate }))) schema reader.read l.program l.path l.setting may.loop.typed may.loop.numbers
    (λ f g there rules. asks_for_loop schema reader l.program l.path f g may.loop.typed may.loop.numbers there rules l.candidate) may.loop.there may.loop.unbroken may
