-- A program keeps what it does where a loop gives way to the asks that stand for its spread.
use Rattle.std.proofs.Common.{◌≡◌, ℕ, ◌≤◌, List, [], ◌∷◌, ◌++◌, length, Option, Some, None, refl, sym, ap, ◌∙◌, subst}
use Rattle.std.specs.Prelude.{slice_get}
use Rattle.std.specs.List.{AllByRecursion}
use Rattle.qbs_base.specs.Values.{Schema}
use Rattle.java_ast.specs.Names.{Names, names_read}
use Rattle.java_ast.specs.Path.{found_in, statement_in, statement_at, replaced_at, last_of, with_body, with_methods}
use Rattle.java_ast.specs.Tree.{Statement, Statements, Nothing, Then, PlainMethod, PlainProgram}
use Rattle.java_mean.specs.Asks.{frame_of}
use Rattle.java_mean.specs.declared.types.JavaType.{JavaType}
use Rattle.java_mean.specs.Keeps.{Keeps}
use Rattle.java_mean.specs.Numbers.{NumbersFit}
use Rattle.java_mean.specs.Queries.{Reader}
use Rattle.java_mean.specs.Refines.{Hole, fill, loop_at, IsTypedPlace}
use Rattle.java_mean.specs.Types.{Types, types_of_params, types_past}
use Rattle.java_mean.specs.Typing.{Frame, Extends, TypedStatement, TypedStatements}
use Rattle.java_mean.specs.WellTyped.{IsWellTyped}
use Rattle.java_mean.proofs.TypedPlaces.{places_typed}
use Rattle.java_mean.proofs.TypedRuns.{extends_statement}
use Rattle.loop_text.specs.Statements.Fragment.{Fragment, needed_of, fragment_at}
use Rattle.loop_text.specs.Statements.KeptStatements.{first_at}
use Rattle.java_loops.specs.Kernel.Kernel as kernel
use Rattle.java_loops.specs.Kernel.Kernel.{broken, lowering}
use Rattle.java_loops.specs.Kernel.Setting.{Setting, setting_of}
use Rattle.java_loops.specs.Lowering.Lowered.{needed_in_order}
use Rattle.java_loops.specs.Meant.Asking.{IsForStarted, AskForLoop, rewritten_at}
use Rattle.java_loops.specs.Meant.GivesWay.{MayStandForLoop}
use Rattle.java_loops.specs.Meant.KeptNumbers.{kept_set, kept_numbers}
use Rattle.java_loops.specs.Meant.Members.{AreMatched}
use Rattle.java_loops.specs.Walks.Places.{run_in}
use Rattle.java_loops.specs.Walks.Reads.{Set}
use Rattle.java_loops.specs.Walks.Replacing.{Ask, asked, replacement, run_and_loop, MayGiveWay, HaveSameTypes}
use Rattle.java_loops.specs.Walks.Runs.{kept}
use Rattle.java_loops.proofs.Kept.KeptAsks.{asks_stand}
use Rattle.java_loops.proofs.Kept.KeptMeant.{meant_there}
use Rattle.java_loops.proofs.Kept.KeptPath as kept_path
use Rattle.java_loops.proofs.Kept.KeptPath.{some_is, setting_fragment}
use Rattle.java_loops.proofs.Kept.KeptRuns.{kept_numbers_kept}
use Rattle.java_loops.proofs.Lowering.LowerChains.{fragment_chains, needed_seen, at_setting}
use Rattle.java_loops.proofs.Meant.MeanChains.{IsNeeded, all_needed}
use Rattle.java_loops.proofs.Meant.MeanReplaced.{fragment_gives_way}
use Rattle.java_loops.proofs.Placing.PlaceTyped.{types_before, FragmentThere, store_typed}
use Rattle.java_loops.proofs.Walks.PlacedPrograms.{MethodAt, method_at}
use Rattle.java_loops.proofs.Walks.Visibility.{past_followed, typed_past, TypedNext, next_of, TypedParts, typed_parts, kept_extends, asked_extends, programs_give_way}
use Rattle.spreads.specs.Covers.{Covers}
use Rattle.spreads.specs.Spread.{spread_of}
use Rattle.spreads.proofs.Spreading.{spread_covers}
use Rattle.spreads.proofs.Transfer.{transfer}
use Rattle.rewrite_core.specs.Asked.{Place, asks_of, number_of, replaced}
use Rattle.rewrite_core.specs.Asking.{MayBeAsked}
use Rattle.rewrite_core.proofs.Asked.{asks_for_loop}
use Rattle.rewrite_core.proofs.HasAsks.{has_asks}
use Rattle.rewrite_core.proofs.StaysTyped.{first_there, replaced_well, replaced_numbers_fit}
use Rattle.rewrite_core.proofs.UnnestReplaced.{run_found, run_at, unnested_is_replaced, run_stays, statement_put, itself_put}

method_here : (before after : List PlainMethod) (m : PlainMethod) → slice_get (before ++ m ∷ after) (length before) ≡ Some m
method_here [] after m = refl
method_here (n ∷ before) after m = method_here before after m

-- ---- The loop of a program, and the program with its spread

module _ (schema : Schema) (reader : Reader schema) (p q : PlainProgram) (path : List ℕ) (f : Fragment) (g : Types) (s z : Statement) (well : IsWellTyped schema reader.read p) (numbers : NumbersFit p) (leads : statement_at path p ≡ Some s) (spread : spread_of schema reader.read s ≡ Some z) (is : q ≡ replaced_at path (last_of path) (Then z Nothing) p) (well' : IsWellTyped schema reader.read q) (numbers' : NumbersFit q) (there : FragmentThere schema reader.read q path f g) (rules : broken (setting_of schema reader.read g f) ≡ None) (leads' : fragment_at path q ≡ Some f) (first : ℕ) (begins : first_at path q ≡ Some first) (candidate : List ℕ) (may : MayBeAsked schema reader.read q path (setting_of schema reader.read g f) candidate) where
  abbrev w : Setting
  w = setting_of schema reader.read g f

  abbrev l : Place
  l = record { program = q; path = path; setting = setting_of schema reader.read g f; candidate = candidate }

  abbrev ks : List Ask
  ks = asks_of l

  abbrev m : PlainMethod
  m = there.place.method

  abbrev c : Frame
  c = frame_of schema reader.read there.place.method

  abbrev hole : Hole
  hole = there.place.placed.hole

  abbrev before : Types
  before = types_before schema q path f there.place

  abbrev further : Names
  further = names_read (lowering w).entries

  abbrev r : Set
  r = kept_set f further

  abbrev numbers_kept : List ℕ
  numbers_kept = kept_numbers f further first f.run

  abbrev old : Statements
  old = run_and_loop f.run s

  abbrev new : Statements
  new = replacement r f.run ks

  -- ---- The run and the loop, by the path

  first_is : first ≡ there.place.placed.number
  first_is = kept_path.first_is schema reader q path f g well' numbers' there rules leads' first begins numbers_kept (kept_numbers_kept f further first f.run) ks

  bound : first ≤ last_of path
  bound = subst (λ x. first ≤ last_of x) (sym there.place.is) (subst (λ j. j ≤ last_of (there.place.first ∷ there.place.down)) (sym first_is) there.place.placed.before_loop)

  run_is : run_at path first p ≡ f.run
  run_is =
      sym (ap (run_at path first) is ∙ run_stays p path first z s leads)
      ∙ ap (λ x. run_at x first q) there.place.is
      ∙ ap (run_found there.place.down there.place.first first) there.place.found
      ∙ ap (λ j. run_in there.place.down there.place.first j m.body) first_is
      ∙ there.place.placed.run_there

  leads_to : statement_at path q ≡ Some f.loop
  leads_to =
      ap (λ x. statement_at x q) there.place.is
      ∙ ap (found_in (λ (x : PlainMethod). statement_in there.place.down there.place.first x.body)) there.place.found
      ∙ there.place.placed.loop_there

  loop_is : f.loop ≡ z
  loop_is = some_is f.loop z (sym leads_to ∙ ap (statement_at path) is ∙ statement_put p path z s leads)

  -- ---- Both programs, by the place

  method : MethodAt there.place.number q.methods m
  method = method_at there.place.number q.methods m there.place.found

  abbrev filled : Statements → PlainProgram
  filled x = with_methods q (method.before ++ with_body m (fill hole x) ∷ method.after)

  put_is : (x : Statements) → replaced_at path first x q ≡ filled x
  put_is x =
      kept_path.replaced_is schema reader q path f g well' numbers' there rules leads' first begins numbers_kept (kept_numbers_kept f further first f.run) ks x
      ∙ ap (with_methods q) (method.changed (λ y. with_body y (fill hole x)))

  old_is : p ≡ filled old
  old_is =
      sym (itself_put p path first s bound leads)
      ∙ ap (λ x. replaced_at path first (run_and_loop x s) p) run_is
      ∙ sym (ap (replaced_at path first old) is ∙ unnested_is_replaced p path first z old bound s leads)
      ∙ put_is old

  new_is : rewritten_at path first numbers_kept w ks q ≡ filled new
  new_is =
      ap (λ x. replaced_at path first x q) (kept_path.new_is schema reader q path f g well' numbers' there rules leads' first begins numbers_kept (kept_numbers_kept f further first f.run) ks)
      ∙ put_is new

  well_old : IsWellTyped schema reader.read (filled old)
  well_old = subst (IsWellTyped schema reader.read) old_is well

  numbers_old : NumbersFit (filled old)
  numbers_old = subst NumbersFit old_is numbers

  -- ---- The loop is typed

  place : IsTypedPlace c None (types_of_params schema m.params) hole old
  place = places_typed schema reader.read (filled old) (length method.before) (with_body m (fill hole old)) hole old well_old numbers_old (method_here method.before method.after (with_body m (fill hole old))) refl

  abbrev around : Option Types
  around = loop_at schema None (types_of_params schema m.params) hole

  parts : TypedParts c around before f.run (Then s Nothing) (types_past schema before old)
  parts = typed_parts c around before f.run (Then s Nothing) (types_past schema before old) place.typed

  alone : TypedNext c around parts.middle s Nothing (types_past schema before old)
  alone = next_of c around parts.middle s Nothing (types_past schema before old) parts.second

  middle_is : parts.middle ≡ g
  middle_is = typed_past c around before parts.middle f.run parts.first ∙ sym there.is

  run_typed : TypedStatements c around before f.run g
  run_typed = subst (λ x. TypedStatements c around before f.run x) middle_is parts.first

  loop_typed : TypedStatement c around g s alone.middle
  loop_typed = subst (λ x. TypedStatement c around x s alone.middle) middle_is alone.first

  -- ---- The spread gives way, and so does the loop

  asks : AskForLoop schema reader.read q path w ks
  asks = asks_for_loop schema reader q path f g well' numbers' there rules candidate may

  stands : MayStandForLoop c before w r ks
  stands = asks_stand schema reader.read q path f g well' there rules ks asks.needed (asks.answers (meant_there schema reader.read q path f g well' there rules))

  spread_gives : MayGiveWay c before (types_past schema before new) f.run f.loop r ks
  spread_gives = fragment_gives_way schema reader.read q path f g well' there rules (fragment_chains schema reader.read q path f g well' there rules) r ks stands

  covers : Covers c around g alone.middle (Then s Nothing) (Then z Nothing)
  covers = spread_covers schema reader m around g alone.middle s z loop_typed spread

  behind_loop : Extends alone.middle g
  behind_loop = extends_statement c around g alone.middle s loop_typed

  wider : Extends alone.middle (types_past schema before new)
  wider =
      subst (λ x. Extends alone.middle x) (sym (past_followed schema before (kept r f.run) (asked ks)))
      (λ x k e. behind_loop x k (asked_extends schema g (types_past schema before (kept r f.run)) ks stands.types (kept_extends c around before g before r f.run run_typed (λ y i h. h)) x k e))

  -- what is asked for is visible behind the loop
  asked_seen : (xs : Names) (us : List Ask) → AreMatched (IsForStarted w) xs us → AllByRecursion (IsNeeded (needed_of f)) xs → AllByRecursion (λ (k : Ask). (ty : JavaType) × (alone.middle k.name ≡ Some ty)) us
  asked_seen [] [] h n = tt
  asked_seen (x ∷ xs) (k ∷ us) h n =
      let t = needed_seen schema reader.read q path f g well' there rules x n.0 in
      ((t.type, behind_loop k.name t.type (ap g h.0.name ∙ t.is)), asked_seen xs us h.1 n.1)
  asked_seen [] (k ∷ us) h n = absurd h
  asked_seen (x ∷ xs) [] h n = absurd h

  loop_gives : MayGiveWay c before (types_past schema before new) f.run s r ks
  loop_gives =
      transfer c around before g alone.middle (types_past schema before new) f.run s z r ks (λ world i a b t e. store_typed c f before g there.typed world i a b t e) covers wider
      (asked_seen (needed_in_order w) ks asks.needed.starts (all_needed (needed_of f) f.run))
      (subst (λ x. MayGiveWay c before (types_past schema before new) f.run x r ks) loop_is spread_gives)

  -- The program keeps what it does, where the other stays well typed and its literals have 64 bits.
  keeps : IsWellTyped schema reader.read (rewritten_at path first numbers_kept w ks q) → NumbersFit (rewritten_at path first numbers_kept w ks q) → Keeps p (rewritten_at path first numbers_kept w ks q) schema
  keeps t n =
      subst (λ x. Keeps p x schema) (sym new_is)
      (subst (λ x. Keeps x (filled new) schema) (sym old_is)
      (programs_give_way schema reader q method.before method.after m hole f.run s r ks well_old numbers_old (subst (IsWellTyped schema reader.read) new_is t) (subst NumbersFit new_is n)
      (subst (λ x. HaveSameTypes schema x ks) there.is stands.types) loop_gives))

-- ---- By the path to the loop

-- the program with the statements from this number on replaced, for a setting
abbrev replaced_from : Place → Setting → ℕ → PlainProgram
replaced_from l v n =
    rewritten_at l.path n (kept_numbers v.fragment (names_read (lowering v).entries) n v.fragment.run) v (asks_of (record { program = l.program; path = l.path; setting = v; candidate = l.candidate })) l.program

-- A program keeps what it does where a loop gives way to the asks that stand for its spread, in the program with the spread.
pub unnested_loop_keeps : (schema : Schema) (reader : Reader schema) (l : Place) (p : PlainProgram) (s z : Statement) → IsWellTyped schema reader.read p → NumbersFit p → statement_at l.path p ≡ Some s → spread_of schema reader.read s ≡ Some z → l.program ≡ replaced_at l.path (last_of l.path) (Then z Nothing) p → MayBeAsked schema reader.read l.program l.path l.setting l.candidate → Keeps p (replaced l) schema
unnested_loop_keeps schema reader l p s z well numbers leads spread is may =
    let has = has_asks schema reader.read l.program l.path l.setting l.candidate may in
    let leads' : fragment_at l.path l.program ≡ Some l.setting.fragment = setting_fragment schema reader.read l.program l.path l.setting (kernel.types_at schema l.path l.program) (fragment_at l.path l.program) refl may.loop.there in
    let begins = first_there l.path l.program l.setting.fragment leads' in
    let begin : number_of (first_at l.path l.program) ≡ begins.0 = ap number_of begins.1 in
    subst (λ n. Keeps p (replaced_from l l.setting n) schema) (sym begin)
    (at_setting (λ (v : Setting). fragment_at l.path l.program ≡ Some v.fragment → MayBeAsked schema reader.read l.program l.path v l.candidate → IsWellTyped schema reader.read (replaced_from l v begins.0) → NumbersFit (replaced_from l v begins.0) → Keeps p (replaced_from l v begins.0) schema) schema reader.read l.program l.path l.setting may.loop.typed may.loop.numbers
    (λ f g there rules leads'' k t n. keeps schema reader p l.program l.path f g s z well numbers leads spread is may.loop.typed may.loop.numbers there rules leads'' begins.0 begins.1 l.candidate k t n) may.loop.there may.loop.unbroken leads' may
    (subst (λ n. IsWellTyped schema reader.read (replaced_from l l.setting n)) begin (replaced_well schema reader l has))
    (subst (λ n. NumbersFit (replaced_from l l.setting n)) begin (replaced_numbers_fit schema reader l has)))
