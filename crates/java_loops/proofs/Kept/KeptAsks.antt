-- Asks for the needed accumulators of a loop fit its run, and with the kept statements they may stand for the loop.
use Rattle.std.proofs.Common.{◌≡◌, ℕ, Bool, true, false, ◌||◌, List, [], ◌∷◌, Option, Some, None, refl, sym, ap, ap₂, ◌∙◌, subst, cond, bytes_eq, ◌⊎◌, inl, inr, ⊎_elim}
use Rattle.std.specs.List.{AllByRecursion}
use Rattle.std.proofs.lemmas.Bool.{or_parts, or_from, or_left, or_right, false_from_ne_true}
use Rattle.qbs_base.specs.Values.{Schema}
use Rattle.qbs_base.proofs.Order.{all_more}
use Rattle.sql_ast.specs.Tree.{PlainQuery}
use Rattle.java_ast.specs.Tree as tree
use Rattle.java_ast.specs.Tree.{Expression, Statement, Statements, Nothing, Then, PlainProgram}
use Rattle.java_mean.specs.Asks.{frame_of}
use Rattle.java_mean.specs.declared.types.JavaType.{JavaType}
use Rattle.java_mean.specs.Types.{Types}
use Rattle.java_mean.specs.Typing.{Frame, Extends, TypedStatement, declare, assign, add, sort, when, choose, for_each, for_each_new, while_true, print, return_none, return_value, leave, TypedStatements}
use Rattle.java_mean.specs.WellTyped.{IsWellTyped}
use Rattle.java_mean.proofs.Puts.{names_equal, name_same}
use Rattle.java_mean.proofs.TypedRuns.{extends_statements}
use Rattle.java_loops.specs.Walks.Reads.{Set, Reads}
use Rattle.java_loops.specs.Walks.Replacing.{Ask, is_asked, IsThere, AllFit, HasSameType, HaveSameTypes}
use Rattle.java_loops.specs.Walks.Runs.{Gives, declares, assigns, KeptRead}
use Rattle.java_loops.proofs.Walks.Names.{reads_wider}
use Rattle.java_loops.proofs.Walks.Visibility.{TypedNext, next_of}
use Rattle.java_loops.specs.Meant.Asking.{spelled_by, IsForStarted, AskForNeeded}
use Rattle.loop_text.specs.Statements.Fragment.{Fragment, are_simple, accumulators, needed_of, mentioned_behind, is_live, counter, is_name, set_by, drops}
use Rattle.java_loops.specs.Meant.GivesWay.{AnswersItsFragment, MayStandForLoop}
use Rattle.java_loops.specs.Kernel.Kernel.{broken, lowering}
use Rattle.java_loops.specs.Lowering.Lowered.{set_in_order, needed_in_order}
use Rattle.java_ast.specs.Names.{names_read, Names, is_among, names_in, mentioned_in, updated_in}
use Rattle.java_loops.specs.Meant.Members.{AreMatched}
use Rattle.java_loops.specs.Lowering.Numbering.{entries_of}
use Rattle.java_loops.specs.Kernel.Setting.{Setting, setting_of}
use Rattle.loop_text.specs.Statements.Setting.{touches, first_touching, is_found}
use Rattle.loop_text.specs.Sites.Sites.{is_some}
use Rattle.java_loops.proofs.Typing.BoundTyping.{TypedDeclare, typed_declare, TypedAssign, typed_assign}
use Rattle.java_loops.proofs.Kept.KeptAlone.{given_sets, untouched_parts, dropped_started, kept_read, live_uncounted}
use Rattle.java_loops.specs.Meant.KeptNumbers.{kept_set}
use Rattle.java_loops.proofs.Kept.Least.{live_wanted, read_wanted}
use Rattle.java_loops.proofs.Kept.KeptRuns.{IsKeptSet, is_kept_set}
use Rattle.java_loops.proofs.Known.KnownNumbers.{IsGoodEntry, entries_good}
use Rattle.java_loops.proofs.Listed.ListedRows.{fragment_seen}
use Rattle.java_loops.proofs.Meant.MeanChains.{IsNeeded, all_needed}
use Rattle.java_loops.proofs.Nested.NestCounter.{steady_outside}
use Rattle.java_loops.proofs.Nested.NestNames.{among_filter, among_filtered, among_either}
use Rattle.java_loops.proofs.Nested.NestRules.{Unbroken}
use Rattle.java_loops.proofs.Nested.NestStarts.{Starts, here, later}
use Rattle.java_loops.proofs.Numbers.NumberEntries.{IsEntryFrom, from_variable, from_field, entry_from}
use Rattle.java_loops.proofs.Placing.PlaceLoop.{kernel_unbroken}
use Rattle.java_loops.proofs.Placing.PlaceRuns.{gives}
use Rattle.java_loops.proofs.Placing.PlaceTyped.{types_before, FragmentThere}
use Rattle.java_loops.proofs.Valid.ValidOrder.{AreApart}
use Rattle.java_loops.proofs.Typing.Visible.{names_back}

-- ---- What starts a variable in a typed run

-- An ask for the variable fits where its first statement stood: what that assigns is there before the run, and what it
-- declares has the type with which it is visible behind the run.
pub record FitsStart (schema : Schema) (before after : Types) (x : List ℕ) (s : Statement) : Type 0 where
  pub there : IsThere before (spelled_by s) x
  pub same : HasSameType schema after (spelled_by s) x

start_fits_here : (c : Frame) (l : Option Types) (g h z : Types) (s : Statement) (x : List ℕ) (e : Expression) → Gives s x e → TypedStatement c l g s h → Extends z h → FitsStart c.schema g z x s
start_fits_here c l g h z _ _ _ (declares at ty x e) t i =
    let d : TypedDeclare c g h ty x e = typed_declare c l g at ty x e h t in
    let visible : h x ≡ Some d.type = ap (λ (k : Types). k x) d.after ∙ ap (λ b. cond b (Some d.type) (g x)) (name_same x) in
    record { there = tt; same = i x d.type visible ∙ sym d.spelled }
start_fits_here c l g h z _ _ _ (assigns at x e) t i =
    let a : TypedAssign c g h x e = typed_assign c l g h at x e t in
    record { there = (a.type, a.seen); same = tt }

-- a statement gives no type to a variable that it doesn't set
type_before : (c : Frame) (l : Option Types) (g h : Types) (s : Statement) (x : List ℕ) → TypedStatement c l g s h → bytes_eq (set_by s) x ≡ false → h x ≡ g x
type_before c _ _ _ _ x (declare l g at ty y e k n q t) other = ap (λ b. cond b (Some k) (g x)) other
type_before c _ _ _ _ x (assign l g at y e k n t) other = refl
type_before c _ _ _ _ x (add l g at y e k b n has t) other = refl
type_before c _ _ _ _ x (sort l g at y keys down b n) other = refl
type_before c _ _ _ _ x (when l g h at e p t q) other = refl
type_before c _ _ _ _ x (choose l g h h' at e p q t u v) other = refl
type_before c _ _ _ _ x (for_each l g h at ty y e p k b n t has q) other = refl
type_before c _ _ _ _ x (for_each_new l g h at ty y e p k n q new t) other = refl
type_before c _ _ _ _ x (while_true l g h at e p t q) other = refl
type_before c _ _ _ _ x (print l g at e ty t) other = refl
type_before c _ _ _ _ x (return_none l g at n) other = refl
type_before c _ _ _ _ x (return_value l g at e k n t) other = refl
type_before c _ _ _ _ x (leave b g at ex) other = refl

there_before : (g h : Types) (ty : Option tree.Spelled) (x : List ℕ) → h x ≡ g x → IsThere h ty x → IsThere g ty x
there_before g h (Some ty) x same i = tt
there_before g h None x same i = (i.0, sym same ∙ i.1)

some_statement : (a s : Statement) → Some a ≡ Some s → a ≡ s
some_statement a s e = cc

touches_given : (x : List ℕ) (s : Statement) → bytes_eq (set_by s) x ≡ true → touches x s ≡ true
touches_given x s h = or_left (bytes_eq (set_by s) x) (is_among (mentioned_in s) x) h

pub start_fits : (c : Frame) (l : Option Types) (x : List ℕ) (g z : Types) (run : Statements) → Starts x run → TypedStatements c l g run z → (s : Statement) → first_touching x run ≡ Some s → FitsStart c.schema g z x s
start_fits c l x g z _ (here a p e given plain none) t s found =
    let n : TypedNext c l g a p z = next_of c l g a p z t in
    let touched : touches x a ≡ true = touches_given x a (given_sets x a e given) in
    let same : a ≡ s = some_statement a s (sym (ap (λ b. cond b (Some a) (first_touching x p)) touched) ∙ found) in
    subst (FitsStart c.schema g z x) same (start_fits_here c l g n.middle z a x e (gives x a e given) n.first (extends_statements c l n.middle z p n.rest))
start_fits c l x g z _ (later a p other k) t s found =
    let n : TypedNext c l g a p z = next_of c l g a p z t in
    let unset : bytes_eq (set_by a) x ≡ false = (or_parts (bytes_eq (set_by a) x) (is_among (mentioned_in a) x) other).0 in
    let rest : FitsStart c.schema n.middle z x s = start_fits c l x n.middle z p k n.rest s (sym (ap (λ b. cond b (Some a) (first_touching x p)) other) ∙ found) in
    record { there = there_before g n.middle (spelled_by s) x (type_before c l g n.middle a x n.first unset) rest.there; same = rest.same }

-- ---- Names in the order of the run

order_wider : (y x : List ℕ) (ys : Names) (b : Bool) → is_among ys x ≡ true → is_among (cond b (y ∷ ys) ys) x ≡ true
order_wider y x ys true h = or_right (bytes_eq x y) (is_among ys x) h
order_wider y x ys false h = h

-- each name that the run starts is in the order of the run
pub started_in_order : (xs : Names) (x : List ℕ) (run : Statements) → is_among xs x ≡ true → Starts x run → is_among (set_in_order xs run) x ≡ true
started_in_order xs x _ h (here s ss e given plain none) =
    let sets : bytes_eq (set_by s) x ≡ true = given_sets x s e given in
    ap (λ b. is_among (cond b (set_by s ∷ set_in_order xs ss) (set_in_order xs ss)) x) (ap (is_among xs) (names_equal (set_by s) x sets) ∙ h)
    ∙ or_left (bytes_eq x (set_by s)) (is_among (set_in_order xs ss) x) (names_back x (set_by s) ∙ sets)
started_in_order xs x _ h (later s ss other k) = order_wider (set_by s) x (set_in_order xs ss) (is_among xs (set_by s)) (started_in_order xs x ss h k)

order_without : (y x : List ℕ) (ys : Names) (b : Bool) → bytes_eq y x ≡ false → is_among ys x ≡ false → is_among (cond b (y ∷ ys) ys) x ≡ false
order_without y x ys true e h = or_from (bytes_eq x y) (is_among ys x) (names_back x y ∙ e) h
order_without y x ys false e h = h

not_in_order : (xs : Names) (x : List ℕ) (p : Statements) → is_found (first_touching x p) ≡ false → is_among (set_in_order xs p) x ≡ false
not_in_order xs x Nothing h = refl
not_in_order xs x (Then s ss) h =
    let two = untouched_parts x s ss h in
    order_without (set_by s) x (set_in_order xs ss) (is_among xs (set_by s)) (or_parts (bytes_eq (set_by s) x) (is_among (mentioned_in s) x) two.0).0 (not_in_order xs x ss two.1)

-- one of these statements starts the variable and no other mentions it, or none mentions it
abbrev pub AtMostOnce : List ℕ → Statements → Type 0
AtMostOnce x p = Starts x p ⊎ (is_found (first_touching x p) ≡ false)

started_rest : (x : List ℕ) (s : Statement) (ss : Statements) → Starts x (Then s ss) → AtMostOnce x ss
started_rest x _ _ (here s ss e given plain none) = inr none
started_rest x _ _ (later s ss other k) = inl k

rest_once : (x : List ℕ) (s : Statement) (ss : Statements) → AtMostOnce x (Then s ss) → AtMostOnce x ss
rest_once x s ss (inl k) = started_rest x s ss k
rest_once x s ss (inr h) = inr (untouched_parts x s ss h).1

touches_not : (x : List ℕ) (s : Statement) (ss : Statements) → bytes_eq (set_by s) x ≡ true → touches x s ≡ false → is_found (first_touching x ss) ≡ false
touches_not x s ss h other = let t : touches x s ≡ true = touches_given x s h in absurd cc

started_once : (x : List ℕ) (s : Statement) (ss : Statements) → bytes_eq (set_by s) x ≡ true → Starts x (Then s ss) → is_found (first_touching x ss) ≡ false
started_once x _ _ h (here s ss e given plain none) = none
started_once x _ _ h (later s ss other k) = touches_not x s ss h other

-- behind a statement that sets the variable nothing mentions it
set_once : (x : List ℕ) (s : Statement) (ss : Statements) → bytes_eq (set_by s) x ≡ true → AtMostOnce x (Then s ss) → is_found (first_touching x ss) ≡ false
set_once x s ss h (inl k) = started_once x s ss h k
set_once x s ss h (inr none) = touches_not x s ss h (untouched_parts x s ss none).0

apart_step : (xs : Names) (y : List ℕ) (ys : Names) (b : Bool) → is_among xs y ≡ b → (is_among xs y ≡ true → is_among ys y ≡ false) → AreApart ys → AreApart (cond b (y ∷ ys) ys)
apart_step xs y ys true e h a = (h e, a)
apart_step xs y ys false e h a = a

-- each name stands once in the order of the run
pub order_apart : (xs : Names) (p : Statements) → ((x : List ℕ) → is_among xs x ≡ true → AtMostOnce x p) → AreApart (set_in_order xs p)
order_apart xs Nothing h = tt
order_apart xs (Then s ss) h =
    apart_step xs (set_by s) (set_in_order xs ss) (is_among xs (set_by s)) refl
    (λ m. not_in_order xs (set_by s) ss (set_once (set_by s) s ss (name_same (set_by s)) (h (set_by s) m)))
    (order_apart xs ss (λ x m. rest_once x s ss (h x m)))

-- ---- Asks by their names

module _ (w : Setting) where
  -- what is asked for are these names
  pub asked_are : (xs : Names) (ks : List Ask) → AreMatched (IsForStarted w) xs ks → (x : List ℕ) → is_asked ks x ≡ is_among xs x
  asked_are [] [] m x = refl
  asked_are (y ∷ ys) (k ∷ ks) m x = ap₂ (λ a b. a || b) (ap (λ z. bytes_eq z x) m.0.name ∙ names_back y x) (asked_are ys ks m.1 x)
  asked_are [] (k ∷ ks) m x = absurd m
  asked_are (y ∷ ys) [] m x = absurd m

  module _ (schema : Schema) (before : Types) (r : Set) where
    -- the set hasn't the name, and an ask for it fits where its first statement stood
    pub record IsReady (x : List ℕ) : Type 0 where
      pub outside : r x ≡ false
      pub fits : (s : Statement) → first_touching x w.fragment.run ≡ Some s → FitsStart schema before w.types x s

    abbrev ReadsSet : Ask → Type 0
    ReadsSet k = Reads r k.value

    pub ask_there : (x : List ℕ) (k : Ask) (m : IsForStarted w x k) → IsReady x → IsThere before k.ty k.name
    ask_there x k m h = subst (λ ty. IsThere before ty k.name) (sym m.ty) (subst (IsThere before (spelled_by m.start)) (sym m.name) (h.fits m.start m.found).there)

    pub ask_same : (x : List ℕ) (k : Ask) (m : IsForStarted w x k) → IsReady x → HasSameType schema w.types k.ty k.name
    ask_same x k m h = subst (λ ty. HasSameType schema w.types ty k.name) (sym m.ty) (subst (HasSameType schema w.types (spelled_by m.start)) (sym m.name) (h.fits m.start m.found).same)

    all_fit : (xs : Names) (ks : List Ask) → AreMatched (IsForStarted w) xs ks → AreApart xs → AllByRecursion IsReady xs → AllByRecursion ReadsSet ks → AllFit r before ks
    all_fit [] [] m a h reads = tt
    all_fit (x ∷ xs) (k ∷ ks) m a h reads = (
      record {
        apart = ap r m.0.name ∙ h.0.outside;
        once = asked_are xs ks m.1 k.name ∙ ap (is_among xs) m.0.name ∙ a.0;
        reads = reads.0;
        there = ask_there x k m.0 h.0;
      },
      all_fit xs ks m.1 a.1 h.1 reads.1,
    )
    all_fit [] (k ∷ ks) m a h reads = absurd m
    all_fit (x ∷ xs) [] m a h reads = absurd m

    all_same : (xs : Names) (ks : List Ask) → AreMatched (IsForStarted w) xs ks → AllByRecursion IsReady xs → HaveSameTypes schema w.types ks
    all_same [] [] m h = tt
    all_same (x ∷ xs) (k ∷ ks) m h = (ask_same x k m.0 h.0, all_same xs ks m.1 h.1)
    all_same [] (k ∷ ks) m h = absurd m
    all_same (x ∷ xs) [] m h = absurd m

-- ---- Entry values are steady

or_only : (b : Bool) → (b || false) ≡ true → b ≡ true
or_only true h = refl
or_only false h = h

one_steady : (w : Setting) (x y : List ℕ) → (bytes_eq x y || false) ≡ true → is_among (updated_in w.fragment.loop) y ≡ false → is_among (updated_in w.fragment.loop) x ≡ false
one_steady w x y h steady = ap (is_among (updated_in w.fragment.loop)) (names_equal x y (or_only (bytes_eq x y) h)) ∙ steady

entry_steady : (w : Setting) (e : Expression) → IsEntryFrom w e → (x : List ℕ) → is_among (names_in e) x ≡ true → is_among (updated_in w.fragment.loop) x ≡ false
entry_steady w _ (from_variable at y ty i steady) x h = one_steady w x y h steady
entry_steady w _ (from_field at at' y name table i steady) x h = one_steady w x y h steady

-- the loop updates none of the variables that entry values read
entries_steady : (w : Setting) (es : List Expression) → AllByRecursion (IsEntryFrom w) es → (x : List ℕ) → is_among (names_read es) x ≡ true → is_among (updated_in w.fragment.loop) x ≡ false
entries_steady w [] all x h = absurd cc
entries_steady w (e ∷ es) all x h =
    ⊎_elim (λ i. entry_steady w e all.0 x i) (λ i. entries_steady w es all.1 x i) (among_either (names_in e) (names_read es) x h)

-- ---- The asks for what a loop is needed for

module _ (schema : Schema) (read : List ℕ → Option PlainQuery) (p : PlainProgram) (path : List ℕ) (f : Fragment) (g : Types) (well : IsWellTyped schema read p) (there : FragmentThere schema read p path f g) (rules : broken (setting_of schema read g f) ≡ None) (ks : List Ask) (asks : AskForNeeded (setting_of schema read g f) ks) where
  abbrev w : Setting
  w = setting_of schema read g f

  abbrev c : Frame
  c = frame_of schema read there.place.method

  abbrev before : Types
  before = types_before schema p path f there.place

  abbrev further : Names
  further = names_read (lowering w).entries

  abbrev r : Set
  r = kept_set f further

  simple : are_simple f.run ≡ true
  simple = there.place.placed.simple

  unbroken : Unbroken w
  unbroken = kernel_unbroken w rules

  set : IsKeptSet f further r
  set = is_kept_set f further

  pub not_kept : (x : List ℕ) → drops f x ≡ true → r x ≡ false
  not_kept x d = false_from_ne_true (r x) (λ h. let e : drops f x ≡ false = set.not_dropped x h in absurd cc)

  pub needed_dropped : (x : List ℕ) → is_among (needed_of f) x ≡ true → drops f x ≡ true
  needed_dropped x h = or_left (is_among (accumulators f) x) (is_name (counter f.loop) x) (among_filtered _ (accumulators f) x h).0

  pub needed_started : (x : List ℕ) → is_among (needed_of f) x ≡ true → Starts x f.run
  needed_started x h = dropped_started w unbroken x (needed_dropped x h)

  pub needed_ready : (x : List ℕ) → is_among (needed_of f) x ≡ true → IsReady w schema before r x
  needed_ready x h = record { outside = not_kept x (needed_dropped x h); fits = λ s found. start_fits c there.typed.loop x before g f.run (needed_started x h) there.typed.run s found }

  pub all_ready : AllByRecursion (IsReady w schema before r) (needed_in_order w)
  all_ready = all_more (IsNeeded (needed_of f)) (IsReady w schema before r) (λ x h. needed_ready x h) (needed_in_order w) (all_needed (needed_of f) f.run)

  -- entry values read kept variables alone
  pub entries_kept : (x : List ℕ) → is_among further x ≡ true → r x ≡ true
  entries_kept x h =
      let entries : AllByRecursion (IsEntryFrom w) (entries_of w) = all_more (IsGoodEntry w) (IsEntryFrom w) (λ e i. entry_from w i.number e i.entry) (entries_of w) (entries_good schema read f g (fragment_seen schema read p path f g well there) unbroken.conditions) in
      set.holds x (steady_outside w unbroken x (entries_steady w (entries_of w) entries x h)) (read_wanted f further x h)

  pub asks_read : AllByRecursion (λ (k : Ask). Reads r k.value) ks
  asks_read = all_more (λ (k : Ask). Reads (is_among further) k.value) (λ (k : Ask). Reads r k.value) (λ k h. reads_wider k.value (is_among further) r entries_kept h) ks asks.reads

  pub before_live : (x : List ℕ) (k : JavaType) → before x ≡ Some k → is_live f x ≡ true
  before_live x k seen = or_left (is_among f.visible x) (is_among (mentioned_behind f) x) (sym (there.typed.visible x) ∙ ap is_some seen)

  -- a live variable is kept or asked for
  pub live_known : (x : List ℕ) (b : Bool) → is_among (accumulators f) x ≡ b → is_live f x ≡ true → (r x || is_asked ks x) ≡ true
  live_known x true a l =
      or_right (r x) (is_asked ks x)
      (let needed : is_among (needed_of f) x ≡ true = among_filter _ (accumulators f) x a l in asked_are w (needed_in_order w) ks asks.starts x ∙ started_in_order (needed_of f) x f.run needed (needed_started x needed))
  live_known x false a l =
      or_left (r x) (is_asked ks x)
      (set.holds x (or_from (is_among (accumulators f) x) (is_name (counter f.loop) x) a (live_uncounted w unbroken.loop x l)) (live_wanted f further x l))

  -- kept statements read kept variables alone
  pub run_read : KeptRead (kept_set f (names_read (lowering (setting_of schema read g f)).entries)) f.run
  run_read = kept_read w unbroken further

  -- each ask is for a variable of its own, which is there to be assigned where no ask declares it
  pub asks_fit : AllFit (kept_set f (names_read (lowering (setting_of schema read g f)).entries)) (types_before schema p path f there.place) ks
  asks_fit = all_fit w schema before r (needed_in_order w) ks asks.starts (order_apart (needed_of f) f.run (λ x h. inl (needed_started x h))) all_ready asks_read

  -- each ask declares its variable with the type that it has at the loop
  pub asks_typed : HaveSameTypes schema g ks
  asks_typed = all_same w schema before r (needed_in_order w) ks asks.starts all_ready

  -- The kept statements and the asks may stand for the loop, where the asks answer what the fragment ends with.
  pub asks_stand : AnswersItsFragment (frame_of schema read there.place.method) (types_before schema p path f there.place) (setting_of schema read g f) ks → MayStandForLoop (frame_of schema read there.place.method) (types_before schema p path f there.place) (setting_of schema read g f) (kept_set f (names_read (lowering (setting_of schema read g f)).entries)) ks
  asks_stand answers =
      record {
        reads = run_read;
        fits = asks_fit;
        types = asks_typed;
        known = λ x k seen. live_known x (is_among (accumulators f) x) refl (before_live x k seen);
        no_accumulator = λ x h. (or_parts (is_among (accumulators f) x) (is_name (counter f.loop) x) (set.not_dropped x h)).0;
        no_counter = λ x h. (or_parts (is_among (accumulators f) x) (is_name (counter f.loop) x) (set.not_dropped x h)).1;
        answers = answers;
      }
