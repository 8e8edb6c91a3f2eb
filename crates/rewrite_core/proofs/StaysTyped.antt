-- The program in which asks stand for a loop is well typed: kept statements and asks fit in where the run and the loop stood.
use Rattle.std.proofs.Common.{◌≡◌, ℕ, Bool, true, false, ◌&&◌, ◌||◌, List, [], ◌∷◌, ◌++◌, Option, Some, None, refl, sym, ap, ◌∙◌, subst, cond}
use Rattle.std.specs.Prelude.{slice_get}
use Rattle.std.specs.List.{AllByRecursion}
use Rattle.std.proofs.lemmas.Bool.{or_right, or_parts}
use Rattle.std.proofs.Math.Bool.{or_comm}
use Rattle.qbs_base.specs.Values.{Schema}
use Rattle.qbs_base.proofs.Order.{all_more}
use Rattle.sql_ast.specs.Tree.{PlainQuery}
use Rattle.java_ast.specs.Path as paths
use Rattle.java_ast.specs.Path.{found_in, numbered, branch_of, with_body, with_methods}
use Rattle.java_ast.specs.Tree.{Statement, Statements, Nothing, Then, PlainMethod, PlainProgram}
use Rattle.java_mean.specs.Asks.{frame_of}
use Rattle.java_mean.specs.declared.types.JavaType.{JavaType}
use Rattle.java_mean.specs.Fits.{visible_past, visible_before, around_place, in_first, IsFineAt, IsLeftAlike, FitsIn}
use Rattle.java_mean.specs.Keeps.{Keeps}
use Rattle.java_mean.specs.Numbers.{NumbersFit}
use Rattle.java_mean.specs.Places.{Around, is_nothing, in_statement, in_body}
use Rattle.java_mean.specs.Queries.{Reader}
use Rattle.java_mean.specs.Refines.{Hole, Here, Past, InIf, InThen, InElse, InEach, InWhile, behind, fill, with_part}
use Rattle.java_mean.specs.Rules.{returns}
use Rattle.java_mean.specs.Types.{Types, types_of_params, types_past}
use Rattle.java_mean.specs.Visible.{Visible, is_visible, with_params}
use Rattle.java_mean.specs.WellTyped.{IsWellTyped, faults_in}
use Rattle.java_mean.proofs.Faultless.{Both, none_both, none_in, Sees, unseen}
use Rattle.java_mean.proofs.Fitting.{IsFinePlace, faults_joined, ends_too, sees_past, place_seen, fits_in}
use Rattle.java_mean.proofs.TypedRuns.{extends_statements}
use Rattle.loop_text.specs.Statements.Fragment.{Fragment, accumulators, needed_of, mentioned_behind, is_live, fragment_in, fragment_at, before_run}
use Rattle.loop_text.specs.Statements.KeptStatements.{how_many, first_in, first_at}
use Rattle.java_ast.specs.Names.{Names, is_among, with_names, mentioned_among, declared_among, walking, names_of_params, names_read}
use Rattle.java_loops.specs.Kernel.Kernel as kernel
use Rattle.java_loops.specs.Kernel.Kernel.{broken, lowering}
use Rattle.java_loops.specs.Kernel.Setting.{Setting, setting_of}
use Rattle.java_loops.specs.Lowering.Lowered.{needed_in_order}
use Rattle.java_loops.specs.Meant.Asking.{AskForNeeded, rewritten_at}
use Rattle.java_loops.specs.Meant.KeptNumbers.{kept_set, kept_numbers}
use Rattle.java_loops.specs.Walks.Reads.{Set}
use Rattle.java_loops.specs.Walks.Replacing.{Ask, asked, is_asked, replacement, run_and_loop}
use Rattle.java_loops.specs.Walks.Runs.{kept}
use Rattle.java_loops.proofs.Kept.KeptAsks.{run_read, asks_fit, asks_typed, needed_started, entries_kept, live_known, before_live}
use Rattle.java_loops.proofs.Kept.KeptPath.{rewritten_is, setting_fragment}
use Rattle.java_loops.proofs.Kept.KeptRuns.{kept_numbers_kept}
use Rattle.java_loops.proofs.Known.KnownNumbers.{IsGoodEntry, entries_good}
use Rattle.java_loops.proofs.Listed.ListedRows.{fragment_seen}
use Rattle.java_mean.proofs.Sets.{among_set}
use Rattle.java_loops.proofs.Lowering.LowerChains.{at_setting}
use Rattle.java_loops.proofs.Meant.MeanChains.{IsNeeded, all_needed}
use Rattle.java_loops.proofs.Meant.MeanReplaced.{with_statements}
use Rattle.java_loops.proofs.Nested.NestStarts.{Starts}
use Rattle.java_loops.proofs.Placing.Place.{rest_of}
use Rattle.java_loops.proofs.Placing.PlaceLoop.{kernel_unbroken}
use Rattle.java_loops.proofs.Placing.PlaceTyped.{types_before, FragmentThere}
use Rattle.java_loops.proofs.Walks.PlacedPrograms.{MethodAt, method_at}
use Rattle.rewrite_core.specs.Asked.{Place, asks_of, number_of, replaced}
use Rattle.rewrite_core.specs.Asking as asking
use Rattle.rewrite_core.specs.Asking.{HasAsks, MayBeAsked, AgreeOnEntries, AllMayStand}
use Rattle.rewrite_core.proofs.HasAsks.{has_asks}
use Rattle.rewrite_core.proofs.AskedFaultless.{asks_fine}
use Rattle.rewrite_core.proofs.EachName.{each_mentioned, each_declared}
use Rattle.rewrite_core.proofs.KeptFaultless.{kept_fine}
use Rattle.rewrite_core.proofs.Keeping.{replaced_keeps}
use Rattle.rewrite_core.proofs.NoReturns.{run_returns}
use Rattle.rewrite_core.proofs.NumbersStay.{replacement_fits, part_still_fits}
use Rattle.rewrite_core.proofs.NumbersStay as literals
use Rattle.rewrite_core.proofs.Standing.{past_both, kept_leave, asks_leave, left_alike}
use Rattle.rewrite_core.proofs.StartedAsks.{asks_for_needed}
use Rattle.rewrite_core.proofs.Starting.{kept_unset, all_stand}

-- ---- Places

-- both say the same of what stands behind a place
behind_rest : (hole : Hole) → behind hole ≡ rest_of hole
behind_rest (Here q) = refl
behind_rest (Past a h) = behind_rest h
behind_rest (InIf at e h q) = behind_rest h
behind_rest (InThen at e h b q) = behind_rest h
behind_rest (InElse at e a h q) = behind_rest h
behind_rest (InEach at ty x e h q) = behind_rest h
behind_rest (InWhile at e h q) = behind_rest h

-- a run and its loop are something
something : (run : Statements) (loop : Statement) → is_nothing (run_and_loop run loop) ≡ false
something Nothing loop = refl
something (Then a p) loop = refl

sees_so : (vs : Visible) (g : Types) → Sees vs g → asking.Sees vs g
sees_so vs g s = record { same = s.same; known = λ x h. (let k = s.known x h in (k.value, k.is)) }

-- a well-typed program whose literals have 64 bits
pub record Fits (schema : Schema) (read : List ℕ → Option PlainQuery) (p : PlainProgram) : Type 0 where
  pub typed : IsWellTyped schema read p
  pub numbers : NumbersFit p

-- ---- The loop of a program

module _ (schema : Schema) (reader : Reader schema) (p : PlainProgram) (path : List ℕ) (f : Fragment) (g : Types) (well : IsWellTyped schema reader.read p) (numbers : NumbersFit p) (there : FragmentThere schema reader.read p path f g) (rules : broken (setting_of schema reader.read g f) ≡ None) (candidate : List ℕ) (has : HasAsks schema reader.read p path (setting_of schema reader.read g f) candidate) where
  abbrev w : Setting
  w = setting_of schema reader.read g f

  abbrev l : Place
  l = record { program = p; path = path; setting = setting_of schema reader.read g f; candidate = candidate }

  abbrev ks : List Ask
  ks = asks_of l

  abbrev m : PlainMethod
  m = there.place.method

  abbrev hole : Hole
  hole = there.place.placed.hole

  abbrev before : Types
  before = types_before schema p path f there.place

  abbrev further : Names
  further = names_read (lowering w).entries

  abbrev r : Set
  r = kept_set f further

  abbrev run_kept : Statements
  run_kept = kept r f.run

  abbrev old : Statements
  old = run_and_loop f.run f.loop

  abbrev new : Statements
  new = replacement r f.run ks

  abbrev vs : Visible
  vs = visible_before schema (with_params schema [] m.params) hole

  abbrev round : Around
  round = around_place in_body hole

  abbrev ends : Bool
  ends = is_nothing (behind hole)

  asks : AskForNeeded w ks
  asks = asks_for_needed schema reader.read p path f g well there rules candidate

  -- ---- The program, by the place

  method : MethodAt there.place.number p.methods m
  method = method_at there.place.number p.methods m there.place.found

  old_is : p ≡ with_part p method.before method.after m hole old
  old_is = ap (with_methods p) method.is ∙ ap (λ body. with_methods p (method.before ++ with_body m body ∷ method.after)) there.place.placed.is

  new_is : with_statements p there.place.number hole new ≡ with_part p method.before method.after m hole new
  new_is = ap (with_methods p) (method.changed (λ z. with_body z (fill hole new)))

  well_old : IsWellTyped schema reader.read (with_part p method.before method.after m hole old)
  well_old = subst (IsWellTyped schema reader.read) old_is well

  place : IsFinePlace schema reader.read m.result (with_params schema [] m.params) (types_of_params schema m.params) in_body hole old
  place = place_seen schema reader.read p method.before method.after m hole old well_old

  sees : Sees vs before
  sees = place.sees

  -- ---- The old statements

  parts : Both (faults_in schema reader.read m.result (in_first schema vs round false f.run) ≡ []) (faults_in schema reader.read m.result (in_first schema (visible_past schema vs f.run) round ends (Then f.loop Nothing)) ≡ [])
  parts =
      none_both (faults_in schema reader.read m.result (in_first schema vs round false f.run)) (faults_in schema reader.read m.result (in_first schema (visible_past schema vs f.run) round ends (Then f.loop Nothing)))
      (sym (faults_joined schema reader.read m.result vs round ends f.run (Then f.loop Nothing)) ∙ place.part)

  -- ---- The kept statements

  kept_none : faults_in schema reader.read m.result (in_first schema vs round false run_kept) ≡ []
  kept_none = kept_fine schema reader.read m.result round r f.run vs vs before before sees sees (λ x h. refl) there.place.placed.simple (run_read schema reader.read p path f g well there rules ks asks) parts.left

  sees_kept : Sees (visible_past schema vs run_kept) (types_past schema before run_kept)
  sees_kept = sees_past schema reader.read m.result run_kept vs before round false sees kept_none

  agree : AgreeOnEntries w (types_past schema before run_kept)
  agree = λ x k i t.
      sym (kept_leave schema r f.run before before (λ y h. refl) x (entries_kept schema reader.read p path f g well there rules ks asks x i)) ∙ sym (ap (λ (z : Types). z x) there.is) ∙ t

  -- ---- The asks

  started : AllByRecursion (λ x. Starts x f.run) (needed_in_order w)
  started = all_more (IsNeeded (needed_of f)) (λ x. Starts x f.run) (λ x h. needed_started schema reader.read p path f g well there rules ks asks x h) (needed_in_order w) (all_needed (needed_of f) f.run)

  asks_may_stand : AllMayStand schema round g (types_past schema before run_kept) ks
  asks_may_stand =
      all_stand schema reader.read m.result round vs before g r w sees (extends_statements (frame_of schema reader.read m) there.typed.loop before g f.run there.typed.run) parts.left (needed_in_order w) ks asks.starts started (asks_fit schema reader.read p path f g well there rules ks asks) (asks_typed schema reader.read p path f g well there rules ks asks)

  asks_none : faults_in schema reader.read m.result (in_first schema (visible_past schema vs run_kept) round false (asked ks)) ≡ []
  asks_none = asks_fine schema reader l m.result round (visible_past schema vs run_kept) (types_past schema before run_kept) has (sees_so (visible_past schema vs run_kept) (types_past schema before run_kept) sees_kept) agree asks_may_stand

  -- ---- Both

  new_none : IsFineAt schema reader.read m hole new
  new_none =
      faults_joined schema reader.read m.result vs round ends run_kept (asked ks)
      ∙ ap (λ fs. fs ++ faults_in schema reader.read m.result (in_first schema (visible_past schema vs run_kept) round ends (asked ks))) (ends_too schema reader.read m.result run_kept vs round (is_nothing (asked ks) && ends) kept_none)
      ∙ ends_too schema reader.read m.result (asked ks) (visible_past schema vs run_kept) round ends asks_none

  -- ---- What is left alike

  either_alike : (x : List ℕ) → (r x || is_asked ks x) ≡ true → IsLeftAlike schema m hole old new x
  either_alike x h =
      left_alike schema round r f.run f.loop before ks there.place.placed.loops
      (subst (λ (z : Types). AllMayStand schema round z (types_past schema before run_kept) ks) there.is asks_may_stand) x (or_comm (is_asked ks x) (r x) ∙ h)

  live_alike : (x : List ℕ) → is_live f x ≡ true → IsLeftAlike schema m hole old new x
  live_alike x h = either_alike x (live_known schema reader.read p path f g well there rules ks asks x (is_among (accumulators f) x) refl h)

  mentioned_live : (x : List ℕ) → is_among (mentioned_among (behind hole)) x ≡ true → is_live f x ≡ true
  mentioned_live x h =
      or_right (is_among f.visible x) (is_among (mentioned_behind f) x)
      (among_set (mentioned_among f.behind) x ∙ ap (λ q. is_among (mentioned_among q) x) (sym there.place.placed.rest ∙ sym (behind_rest hole)) ∙ h)

  unseen_step : (x : List ℕ) (b : Bool) (o : Option JavaType) → (r x || is_asked ks x) ≡ b → before x ≡ o → types_past schema before old x ≡ None → IsLeftAlike schema m hole old new x
  unseen_step x true o known e none = either_alike x known
  unseen_step x false (Some k) known e none = live_alike x (before_live schema reader.read p path f g well there rules ks asks x k e)
  unseen_step x false None known e none =
      let two = or_parts (r x) (is_asked ks x) known in
      none
      ∙ sym (ap (λ (z : Types). z x) (past_both schema before run_kept (asked ks))
      ∙ asks_leave schema round g ks (types_past schema before run_kept) asks_may_stand x
      ∙ ap (λ b. cond b (g x) (types_past schema before run_kept x)) two.1
      ∙ kept_unset schema r f.run before x two.0
      ∙ e)

  unseen_alike : (x : List ℕ) → is_visible (visible_past schema vs old) x ≡ false → IsLeftAlike schema m hole old new x
  unseen_alike x h =
      unseen_step x (r x || is_asked ks x) (before x) refl refl (unseen (visible_past schema vs old) (types_past schema before old) x (sees_past schema reader.read m.result old vs before round ends sees place.part) h)

  -- ---- The new statements fit in

  old_returns : returns old ≡ false
  old_returns =
      run_returns schema reader.read m.result f.run f.loop (visible_past schema vs f.run) round ends there.place.placed.simple there.place.placed.loops
      (none_in schema reader.read m.result (in_statement schema (visible_past schema vs f.run) round ends f.loop) [] parts.right).left

  fits : FitsIn schema reader.read m hole old new
  fits =
      record {
        there = something f.run f.loop;
        returned = λ h. absurd (let n : returns old ≡ false = old_returns in cc);
        fine = new_none;
        mentioned = each_mentioned (IsLeftAlike schema m hole old new) (behind hole) (λ x h. live_alike x (mentioned_live x h));
        declared = each_declared schema reader.read m.result (IsLeftAlike schema m hole old new) (behind hole) (visible_past schema vs old) round unseen_alike place.behind;
      }

  new_well : IsWellTyped schema reader.read (with_statements p there.place.number hole new)
  new_well = subst (IsWellTyped schema reader.read) (sym new_is) (fits_in schema reader.read p method.before method.after m hole old new well_old fits)

  good : AllByRecursion (IsGoodEntry w) (lowering w).entries
  good = entries_good schema reader.read f g (fragment_seen schema reader.read p path f g well there) (kernel_unbroken w rules).conditions

  new_fits : NumbersFit (with_statements p there.place.number hole new)
  new_fits =
      subst NumbersFit (sym new_is)
      (part_still_fits p method.before method.after m hole old new (replacement_fits r f.run (Then f.loop Nothing) ks (literals.asks_fit l good 0 (needed_in_order w))) (subst NumbersFit old_is numbers))

  -- The program with the kept statements and the asks is well typed, and its literals have 64 bits.
  rewritten_fits : (first : ℕ) → fragment_at path p ≡ Some f → first_at path p ≡ Some first → Fits schema reader.read (rewritten_at path first (kept_numbers f further first f.run) w ks p)
  rewritten_fits first leads begins =
      subst (Fits schema reader.read) (sym (rewritten_is schema reader p path f g well numbers there rules leads first begins (kept_numbers f further first f.run) (kept_numbers_kept f further first f.run) ks))
      (record { typed = new_well; numbers = new_fits })

-- ---- The number of the first statement

module _ (b n : ℕ) (path : List ℕ) (f : Fragment) (ih : (names : Names) (block : Statements) → fragment_in names path n block ≡ Some f → (k : ℕ) × (first_in path n block ≡ Some k)) where
  first_branch : (names : Names) (o : Option Statements) → found_in (fragment_in names path n) o ≡ Some f → (k : ℕ) × (found_in (first_in path n) o ≡ Some k)
  first_branch names None h = absurd cc
  first_branch names (Some block) h = ih names block h

  first_deeper : (names : Statement → Names) (o : Option Statement) → found_in (λ s. found_in (fragment_in (names s) path n) (branch_of b s)) o ≡ Some f → (k : ℕ) × (found_in (λ s. found_in (first_in path n) (branch_of b s)) o ≡ Some k)
  first_deeper names None h = absurd cc
  first_deeper names (Some s) h = first_branch (names s) (branch_of b s) h

first_found : (path : List ℕ) (names : Names) (n : ℕ) (block : Statements) (f : Fragment) → fragment_in names path n block ≡ Some f → (k : ℕ) × (first_in path n block ≡ Some k)
first_found [] names n block f h = (how_many (before_run (paths.first_of n block)), refl)
first_found (b ∷ []) names n block f h = absurd cc
first_found (b ∷ i ∷ path) names n block f h =
    first_deeper b i path f (λ ns body k. first_found path ns i body f k) (λ s. with_names (with_names names (declared_among (paths.first_of n block))) (walking s)) (numbered n block) h

first_in_method : (path : List ℕ) (n : ℕ) (f : Fragment) (o : Option PlainMethod) → found_in (λ (m : PlainMethod). fragment_in (names_of_params m.params) path n m.body) o ≡ Some f → (k : ℕ) × (found_in (λ (m : PlainMethod). first_in path n m.body) o ≡ Some k)
first_in_method path n f None h = absurd cc
first_in_method path n f (Some m) h = first_found path (names_of_params m.params) n m.body f h

-- where a path leads to a loop, its run has a first statement or is empty
pub first_there : (path : List ℕ) (p : PlainProgram) (f : Fragment) → fragment_at path p ≡ Some f → (k : ℕ) × (first_at path p ≡ Some k)
first_there [] p f h = absurd cc
first_there (i ∷ []) p f h = absurd cc
first_there (i ∷ n ∷ path) p f h = first_in_method path n f (slice_get p.methods i) h

-- ---- By the path to the loop

-- the path of a loop that has asks leads to its fragment
leads_there : (schema : Schema) (reader : Reader schema) (l : Place) → HasAsks schema reader.read l.program l.path l.setting l.candidate → fragment_at l.path l.program ≡ Some l.setting.fragment
leads_there schema reader l has = setting_fragment schema reader.read l.program l.path l.setting (kernel.types_at schema l.path l.program) (fragment_at l.path l.program) refl has.loop.there

-- The program in which asks stand for a loop is well typed, and its literals have 64 bits, whatever the candidate claims.
replaced_fits : (schema : Schema) (reader : Reader schema) (l : Place) → HasAsks schema reader.read l.program l.path l.setting l.candidate → Fits schema reader.read (replaced l)
replaced_fits schema reader l has =
    let begins = first_there l.path l.program l.setting.fragment (leads_there schema reader l has) in
    subst (λ n. Fits schema reader.read (rewritten_at l.path n (kept_numbers l.setting.fragment (names_read (lowering l.setting).entries) n l.setting.fragment.run) l.setting (asks_of l) l.program)) (sym (ap number_of begins.1))
    (at_setting (λ (z : Setting). fragment_at l.path l.program ≡ Some z.fragment → HasAsks schema reader.read l.program l.path z l.candidate → Fits schema reader.read (rewritten_at l.path begins.0 (kept_numbers z.fragment (names_read (lowering z).entries) begins.0 z.fragment.run) z (asks_of (record { program = l.program; path = l.path; setting = z; candidate = l.candidate })) l.program)) schema reader.read l.program l.path l.setting has.loop.typed has.loop.numbers
    (λ f g there rules leads k. rewritten_fits schema reader l.program l.path f g has.loop.typed has.loop.numbers there rules l.candidate k begins.0 leads begins.1) has.loop.there has.loop.unbroken (leads_there schema reader l has) has)

pub replaced_well : (schema : Schema) (reader : Reader schema) (l : Place) → HasAsks schema reader.read l.program l.path l.setting l.candidate → IsWellTyped schema reader.read (replaced l)
replaced_well schema reader l has = (replaced_fits schema reader l has).typed

pub replaced_numbers_fit : (schema : Schema) (reader : Reader schema) (l : Place) → HasAsks schema reader.read l.program l.path l.setting l.candidate → NumbersFit (replaced l)
replaced_numbers_fit schema reader l has = (replaced_fits schema reader l has).numbers

-- The program with asks in place of a loop keeps what the program does.
pub loops_give_way : (schema : Schema) (reader : Reader schema) (l : Place) → MayBeAsked schema reader.read l.program l.path l.setting l.candidate → Keeps l.program (replaced l) schema
loops_give_way schema reader l may =
    let has = has_asks schema reader.read l.program l.path l.setting l.candidate may in
    let begins = first_there l.path l.program l.setting.fragment (leads_there schema reader l has) in
    let fits = replaced_fits schema reader l has in
    replaced_keeps schema reader l begins.0 may begins.1 fits.typed fits.numbers
