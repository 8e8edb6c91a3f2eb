-- The accumulators of a lowered fragment by the variables that they are for: the needed ones come first, in their order, outside
-- of all loops, and each collects what its variable may hold; flags are behind them, in loops.
use Rattle.std.proofs.Common.{◌≡◌, ℕ, zero, suc, ◌+◌, ◌<◌, ◌≤◌, List, [], ◌∷◌, ◌++◌, length, Option, Some, None, refl, sym, ap, ◌∙◌, subst, slice_get, arith, true, length-append}
use Rattle.std.specs.List.{AllByRecursion}
use Rattle.qbs_base.specs.Values.{Schema}
use Rattle.sql_ast.specs.Tree.{PlainQuery}
use Rattle.sql_ast.proofs.Combinations.{all_append}
use Rattle.sql_ast.proofs.Tools.{all_at}
use Rattle.java_ast.specs.Tree.{Expression, PlainProgram}
use Rattle.java_mean.specs.Asks.{frame_of}
use Rattle.java_mean.specs.Numbers.{NumbersFit}
use Rattle.java_mean.specs.Types.{Types}
use Rattle.java_mean.specs.Typing.{Frame}
use Rattle.java_mean.specs.WellTyped.{IsWellTyped}
use Rattle.kernel_lang.specs.Plain.{Accumulator}
use Rattle.loop_text.specs.Kernel.KernelStarts.{Numbered, update_of, update_of_flag, form_found, may_start}
use Rattle.loop_text.specs.Statements.Fragment.{Fragment, needed_of}
use Rattle.java_ast.specs.Names.{Names, is_among}
use Rattle.loop_text.specs.Sites.Sites.{Site, declared_name}
use Rattle.java_loops.specs.Kernel.Kernel.{broken, setting_at}
use Rattle.java_loops.specs.Kernel.Setting.{Setting, setting_of}
use Rattle.java_loops.specs.Lowering.Collected.{AreForNeeded}
use Rattle.java_loops.specs.Lowering.Lowered.{needed_in_order, conditions_of, accumulator_of, flag_here, flags_from, found_name, names_of_flags}
use Rattle.java_loops.specs.Lowering.Numbering.{numbers_of}
use Rattle.java_loops.proofs.Chained.ChainTurned.{Updated}
use Rattle.java_loops.proofs.Lowering.LowerChains.{checked, updated, at_setting}
use Rattle.java_loops.proofs.Placing.PlaceTyped.{FragmentThere}
use Rattle.java_loops.proofs.Typing.TypedFragment.{rows_are_walked}
use Rattle.java_loops.proofs.Typing.TypedUpdates.{NeededUpdated, needed_collects}
use Rattle.java_loops.proofs.Valid.ValidAccumulators.{made, order_among}
use Rattle.java_loops.proofs.Valid.ValidCounts.{outer_of, flags_of, needed_started}
use Rattle.java_loops.proofs.Valid.ValidLoop.{Checked}
use Rattle.java_loops.proofs.Valid.ValidPositions.{flag_updated, declared_inside}
use Rattle.java_loops.proofs.Valid.ValidStarts.{Started}
use Rattle.java_loops.proofs.Valid.ValidTyped.{RowsWalked}

-- ---- Places in lists

in_front : {A : Type 0} (xs ys : List A) (k : ℕ) (a : A) → slice_get xs k ≡ Some a → slice_get (xs ++ ys) k ≡ Some a
in_front [] ys k a h = absurd cc
in_front (x ∷ xs) ys zero a h = h
in_front (x ∷ xs) ys (suc k) a h = in_front xs ys k a h

past_front : {A : Type 0} (P : A → Type 0) (xs ys : List A) (k : ℕ) (a : A) → AllByRecursion P ys → length xs ≤ k → slice_get (xs ++ ys) k ≡ Some a → P a
past_front P [] ys k a all low h = all_at P ys k a all h
past_front P (x ∷ xs) ys zero a all low h = absurd (omega (arith, low))
past_front P (x ∷ xs) ys (suc k) a all low h = past_front P xs ys k a all (omega (arith, low)) h

-- ---- Needed variables

update_found : (w : Setting) (start : Expression) (o : Option Numbered) → may_start (form_found w.sites o) start ≡ true → (u : Numbered) × (o ≡ Some u)
update_found w start (Some u) h = (u, refl)
update_found w start None h = absurd cc

module _ (w : Setting) (c : Frame) (is : Checked w c) where
  abbrev IsNeeded : List ℕ → Type 0
  IsNeeded x = is_among (needed_of w.fragment) x ≡ true

  has_update : (x : List ℕ) → IsNeeded x → (u : Numbered) × (update_of w.sites x ≡ Some u)
  has_update x h = let s : Started w.sites x w.fragment.run = needed_started w c is x h in update_found w s.value (update_of w.sites x) s.may

  outer_one : (x : List ℕ) (xs : Names) (u : Numbered) → update_of w.sites x ≡ Some u → outer_of w (x ∷ xs) ≡ made w x 0 u ∷ outer_of w xs
  outer_one x xs u e = ap (λ o. accumulator_of w (numbers_of w) (conditions_of w (numbers_of w)) x 0 o ++ outer_of w xs) e

  some_name : (x y : List ℕ) → Some x ≡ Some y → x ≡ y
  some_name x y e = cc

  -- each has its accumulator at its number
  outer_at : (xs : Names) → AllByRecursion IsNeeded xs → (k : ℕ) (x : List ℕ) (u : Numbered) → slice_get xs k ≡ Some x → update_of w.sites x ≡ Some u → slice_get (outer_of w xs) k ≡ Some (made w x 0 u)
  outer_at [] a k x u h e = absurd cc
  outer_at (y ∷ ys) a zero x u h e =
      let same : y ≡ x = some_name y x h in
      subst (λ z. slice_get (outer_of w (z ∷ ys)) zero ≡ Some (made w x 0 u)) (sym same) (ap (λ zs. slice_get zs zero) (outer_one x ys u e))
  outer_at (y ∷ ys) a (suc k) x u h e =
      let v = has_update y a.0 in
      ap (λ zs. slice_get zs (suc k)) (outer_one y ys v.0 v.1) ∙ outer_at ys a.1 k x u h e

  outer_many : (xs : Names) → AllByRecursion IsNeeded xs → length (outer_of w xs) ≡ length xs
  outer_many [] a = refl
  outer_many (y ∷ ys) a = let v = has_update y a.0 in ap length (outer_one y ys v.0 v.1) ∙ ap suc (outer_many ys a.1)

  all_needed : AllByRecursion IsNeeded (needed_in_order w)
  all_needed = order_among (needed_of w.fragment) w.fragment.run

  -- ---- Flags

  abbrev From : ℕ → List Site → Type 0
  From d ss = (i m : ℕ) (s : Site) → d + i ≡ m → slice_get ss i ≡ Some s → slice_get w.sites m ≡ Some s

  abbrev InLoops : Accumulator → Type 0
  InLoops a = 0 < a.base

  flag_one : (d : ℕ) (s : Site) (x : List ℕ) (u : Numbered) → update_of_flag w.sites d ≡ Some u → flag_here w (numbers_of w) (conditions_of w (numbers_of w)) d s.round (Some x) ≡ made w x (length s.round.loops) u ∷ []
  flag_one d s x u e = ap (accumulator_of w (numbers_of w) (conditions_of w (numbers_of w)) x (length s.round.loops)) e

  -- a declaration has one accumulator, which stands in a loop
  flag_stands : (d : ℕ) (s : Site) (o : Option (List ℕ)) → slice_get w.sites d ≡ Some s → declared_name s.statement ≡ o → AllByRecursion InLoops (flag_here w (numbers_of w) (conditions_of w (numbers_of w)) d s.round o) × (length (found_name o) ≡ length (flag_here w (numbers_of w) (conditions_of w (numbers_of w)) d s.round o))
  flag_stands d s None there name = (tt, refl)
  flag_stands d s (Some x) there name =
      let u = flag_updated w c is d s x there name in
      let one = flag_one d s x u.0 u.1 in
      (subst (AllByRecursion InLoops) (sym one) (declared_inside w c is d s x there name, tt), sym (ap length one))

  flags_stand : (d : ℕ) (ss : List Site) → From d ss → AllByRecursion InLoops (flags_from w (numbers_of w) (conditions_of w (numbers_of w)) d ss) × (length (names_of_flags ss) ≡ length (flags_from w (numbers_of w) (conditions_of w (numbers_of w)) d ss))
  flags_stand d [] h = (tt, refl)
  flags_stand d (s ∷ ss) h =
      let one = flag_stands d s (declared_name s.statement) (h 0 d s (omega arith) refl) refl in
      let more = flags_stand (suc d) ss (λ i m t e there. h (suc i) m t (omega (arith, e)) there) in
      let here : List Accumulator = flag_here w (numbers_of w) (conditions_of w (numbers_of w)) d s.round (declared_name s.statement) in
      let rest : List Accumulator = flags_from w (numbers_of w) (conditions_of w (numbers_of w)) (suc d) ss in
      (all_append InLoops here rest one.0 more.0, length-append (found_name (declared_name s.statement)) (names_of_flags ss) ∙ ap (λ n. n + length (names_of_flags ss)) one.1 ∙ ap (λ n. length here + n) more.1 ∙ sym (length-append here rest))

  all_flags : AllByRecursion InLoops (flags_of w) × (length (names_of_flags w.sites) ≡ length (flags_of w))
  all_flags = flags_stand 0 w.sites (λ i m s e there. let same : i ≡ m = omega (arith, e) in subst (λ k. slice_get w.sites k ≡ Some s) same there)

  -- ---- The whole

  names_many : length (needed_in_order w ++ names_of_flags w.sites) ≡ length (outer_of w (needed_in_order w) ++ flags_of w)
  names_many =
      length-append (needed_in_order w) (names_of_flags w.sites)
      ∙ ap (λ n. n + length (names_of_flags w.sites)) (sym (outer_many (needed_in_order w) all_needed))
      ∙ ap (λ n. length (outer_of w (needed_in_order w)) + n) all_flags.1
      ∙ sym (length-append (outer_of w (needed_in_order w)) (flags_of w))

  pub accumulators_stand : RowsWalked w c → NeededUpdated w → AreForNeeded w
  accumulators_stand walked updates =
      record {
        needed = λ k x h.
            (let needed : IsNeeded x = all_at IsNeeded (needed_in_order w) k x all_needed h in
            let u = has_update x needed in
            let d : Updated w x u.0 = updates x u.0 needed u.1 in
            record {
              accumulator = made w x 0 u.0;
              there = in_front (outer_of w (needed_in_order w)) (flags_of w) k (made w x 0 u.0) (outer_at (needed_in_order w) all_needed k x u.0 h u.1);
              outer = refl;
              type = d.type;
              visible = d.visible;
              collects = needed_collects w c is walked x u.0 needed d;
            });
        further = λ k a low h. past_front InLoops (outer_of w (needed_in_order w)) (flags_of w) k a all_flags.0 (subst (λ n. n ≤ k) (sym (outer_many (needed_in_order w) all_needed)) low) h;
        many = names_many;
      }

-- ---- In a program

fragment_accumulators : (schema : Schema) (read : List ℕ → Option PlainQuery) (p : PlainProgram) (path : List ℕ) (f : Fragment) (g : Types) → IsWellTyped schema read p → FragmentThere schema read p path f g → broken (setting_of schema read g f) ≡ None → AreForNeeded (setting_of schema read g f)
fragment_accumulators schema read p path f g well there rules =
    let w : Setting = setting_of schema read g f in
    let c : Frame = frame_of schema read there.place.method in
    accumulators_stand w c (checked schema read p path f g well there rules) (rows_are_walked schema read p path f g well there rules) (updated schema read p path f g well there rules)

-- The accumulators of a loop that breaks no rule of the kernel form, in a well-typed program whose literals have 64 bits, are those
-- of its needed variables and behind them those of its flags.
pub accumulators_there : (schema : Schema) (read : List ℕ → Option PlainQuery) (p : PlainProgram) (path : List ℕ) (w : Setting) → IsWellTyped schema read p → NumbersFit p → setting_at schema read path p ≡ Some w → broken w ≡ None → AreForNeeded w
accumulators_there schema read p path w well fits is rules = at_setting AreForNeeded schema read p path w well fits (λ f g. fragment_accumulators schema read p path f g well) is rules
