-- The accumulators of a lowered fragment: first those of the needed variables, which stand outside all loops and start with
-- numbers of 64 bits, and then flags, which stand in loops.
use Rattle.std.proofs.Common.{◌≡◌, ℕ, zero, suc, ◌+◌, ◌<◌, List, [], ◌∷◌, ◌++◌, length, slice_get, Option, Some, None, refl, sym, ap, ◌∙◌, subst, arith, append_assoc}
use Rattle.std.specs.List.{AllByRecursion}
use Rattle.qbs_base.specs.declared.scalar.Scalar.{Scalar}
use Rattle.qbs_base.specs.declared.scalar.Scalar.TheVariants as scalars
use Rattle.qbs_base.specs.declared.scalar.Ty.{Ty}
use Rattle.qbs_base.specs.declared.scalar.Ty.TheVariants as tys
use Rattle.qbs_base.specs.declared.scalar.Value.{Value}
use Rattle.qbs_base.specs.Values.{Schema, HasTy}
use Rattle.kernel_lang.specs.declared.parts.Update.{Update}
use Rattle.kernel_lang.specs.declared.parts.Update.TheVariants as updates
use Rattle.kernel_lang.specs.Ends.{ScalarFits, StartFits}
use Rattle.kernel_lang.specs.Plain.{Accumulator}
use Rattle.sql_ast.specs.Tree.{PlainQuery}
use Rattle.sql_ast.proofs.Combinations.{all_append}
use Rattle.java_ast.specs.Tree.{Expression, PlainProgram}
use Rattle.java_mean.specs.Asks.{frame_of}
use Rattle.java_mean.specs.declared.types.JavaType.{JavaType}
use Rattle.java_mean.specs.WellTyped.{IsWellTyped}
use Rattle.java_mean.specs.Types.{Types}
use Rattle.java_mean.specs.Typing as typing
use Rattle.java_mean.specs.Typing.{Frame, HasType, TypedStatements}
use Rattle.loop_text.specs.Kernel.KernelStarts.{Numbered, update_of, update_of_flag, form_found}
use Rattle.loop_text.specs.Sites.Sites.{Round, Site, declared_name}
use Rattle.loop_text.specs.Statements.Fragment.{Fragment, accumulators, needed_of}
use Rattle.java_ast.specs.Names.{Names}
use Rattle.loop_text.specs.Statements.Setting.{first_touching}
use Rattle.java_loops.specs.Kernel.Kernel.{broken, lowering}
use Rattle.java_loops.specs.Kernel.Setting.{Setting, setting_of}
use Rattle.java_loops.specs.Lowering.Lowered.{start_with, literal_given, literal_by, update_with, accumulator_of, outer_accumulators, flag_here, flags_from, needed_in_order}
use Rattle.java_loops.specs.Lowering.Numbering.{numbers_of}
use Rattle.java_loops.proofs.Known.KnownAnswers.{GivenTyped, given_typed}
use Rattle.java_loops.proofs.Lowering.LowerChains.{checked}
use Rattle.java_loops.proofs.Meant.MeanChains.{conditions_at, flags_at, IsNeeded, all_needed}
use Rattle.java_loops.proofs.Nested.NestNames.{among_filtered}
use Rattle.java_loops.proofs.Nested.NestRules.{Unbroken}
use Rattle.java_loops.proofs.Placing.PlaceLoop.{kernel_unbroken}
use Rattle.java_loops.proofs.Placing.PlaceRuns.{gives}
use Rattle.java_loops.proofs.Placing.PlaceTyped.{types_before, FragmentThere}
use Rattle.java_loops.proofs.Starts.Start.{StartsAs, IsStarted, IsStart, accumulator_started, start_of}
use Rattle.java_loops.proofs.Valid.ValidLoop.{Checked}
use Rattle.java_loops.proofs.Valid.ValidPositions.{declared_inside}

-- ---- Starts

typed_fits : (ty : Ty) (x : Scalar) → HasTy ty x → ScalarFits x
typed_fits tys.Long (scalars.Long n) h = h
typed_fits ty (scalars.Bool b) h = tt
typed_fits ty (scalars.Text t) h = tt
typed_fits tys.Bool (scalars.Long n) h = absurd h
typed_fits tys.Text (scalars.Long n) h = absurd h

-- a literal of a type has 64 bits
literal_fits : (c : Frame) (g : Types) (e : Expression) (k : JavaType) → HasType c g e k → StartFits (literal_given (Some e))
literal_fits c g _ _ (typing.lit at x ty h) = typed_fits ty x h
literal_fits c g _ _ (typing.var at x k h) = tt
literal_fits c g _ _ (typing.field at e f n j column t h q) = tt
literal_fits c g _ _ (typing.binary at op a b from to takes t u) = tt
literal_fits c g _ _ (typing.negated at e t) = tt
literal_fits c g _ _ (typing.equals at a b t u) = tt
literal_fits c g _ _ (typing.size at x k a h has) = tt
literal_fits c g _ _ (typing.get at x e a h t) = tt
literal_fits c g _ _ (typing.contains at x e k ty h has t) = tt
literal_fits c g _ _ (typing.fetch at t n h) = tt
literal_fits c g _ _ (typing.query at ty text es q h t) = tt
literal_fits c g _ _ (typing.query_long at text es q h t) = tt
literal_fits c g _ _ (typing.query_boolean at text es q h t) = tt
literal_fits c g _ _ (typing.new_list at a) = tt
literal_fits c g _ _ (typing.new_set at a) = tt
literal_fits c g _ _ (typing.new_set_of at e a t) = tt

start_fits_by : (w : Setting) (x : List ℕ) (u : Update) → StartFits (literal_by x (first_touching x w.fragment.run)) → StartFits (start_with w x u)
start_fits_by w x (updates.Push e) h = tt
start_fits_by w x (updates.PushNew e) h = tt
start_fits_by w x updates.Mark h = tt
start_fits_by w x updates.Tick h = h
start_fits_by w x (updates.Plus e) h = h
start_fits_by w x (updates.Best way e) h = h

-- ---- In their order

abbrev pub IsInLoop : Accumulator → Type 0
IsInLoop a = (n : ℕ) × (a.base ≡ suc n)

-- the first accumulators are those of the names, one for each, and the others stand in loops
abbrev pub AreOuter : Names → List Accumulator → Type 0
AreOuter [] accs = AllByRecursion IsInLoop accs
AreOuter (x ∷ xs) [] = ⊥
AreOuter (x ∷ xs) (a ∷ accs) = (a.base ≡ 0) × StartFits a.start × AreOuter xs accs

positive_next : (n : ℕ) → 0 < n → (k : ℕ) × (n ≡ suc k)
positive_next zero h = absurd (omega (arith, h))
positive_next (suc n) h = (n, refl)

module _ (w : Setting) (c : Frame) (is : Checked w c) (unbroken : Unbroken w) where
  flag_inner : (y : List ℕ) (r : Round) (o : Option Numbered) → (n : ℕ) × (length r.loops ≡ suc n) → AllByRecursion IsInLoop (accumulator_of w (numbers_of w) (conditions_at w) y (length r.loops) o)
  flag_inner y r None deep = tt
  flag_inner y r (Some u) deep = (deep, tt)

  here_inner : (d : ℕ) (s : Site) (o : Option (List ℕ)) → slice_get w.sites d ≡ Some s → declared_name s.statement ≡ o → AllByRecursion IsInLoop (flag_here w (numbers_of w) (conditions_at w) d s.round o)
  here_inner d s None there name = tt
  here_inner d s (Some x) there name = flag_inner x s.round (update_of_flag w.sites d) (positive_next (length s.round.loops) (declared_inside w c is d s x there name))

  flags_inner : (d : ℕ) (ss : List Site) → ((i m : ℕ) (s : Site) → d + i ≡ m → slice_get ss i ≡ Some s → slice_get w.sites m ≡ Some s) → AllByRecursion IsInLoop (flags_from w (numbers_of w) (conditions_at w) d ss)
  flags_inner d [] h = tt
  flags_inner d (s ∷ ss) h =
      all_append IsInLoop (flag_here w (numbers_of w) (conditions_at w) d s.round (declared_name s.statement)) (flags_from w (numbers_of w) (conditions_at w) (suc d) ss)
      (here_inner d s (declared_name s.statement) (h 0 d s (omega arith) refl) refl)
      (flags_inner (suc d) ss (λ i m t e there. h (suc i) m t (omega arith) there))

  -- ---- Needed variables

  -- the variable has an update, and what it starts with has 64 bits
  record IsUpdated (x : List ℕ) : Type 0 where
    update : Numbered
    found : update_of w.sites x ≡ Some update
    fits : StartFits (literal_by x (first_touching x w.fragment.run))

  some_update : (o : Option Numbered) (v : Value) → StartsAs (form_found w.sites o) v → (u : Numbered) × (o ≡ Some u)
  some_update None v h = absurd h
  some_update (Some u) v h = (u, refl)

  module _ (l : Option Types) (before : Types) (run : TypedStatements c l before w.fragment.run w.types) where
    is_updated : (x : List ℕ) → IsNeeded (needed_of w.fragment) x → IsUpdated x
    is_updated x h =
        let k : IsStarted w.sites x w.fragment.run = accumulator_started w unbroken.starts x (among_filtered _ (accumulators w.fragment) x h).0 in
        let s : IsStart (form_found w.sites (update_of w.sites x)) k.value = start_of (form_found w.sites (update_of w.sites x)) k.value k.may in
        let u = some_update (update_of w.sites x) s.value s.starts in
        let t : GivenTyped c w.types x k.value = given_typed c l before w.types k.before k.statement k.after x k.value (gives x k.statement k.value k.given) (subst (λ p. TypedStatements c l before p w.types) k.is run) in
        let is : literal_by x (first_touching x w.fragment.run) ≡ literal_given (Some k.value) = ap (literal_by x) k.first ∙ ap literal_given k.given in
        record { update = u.0; found = u.1; fits = subst StartFits (sym is) (literal_fits c t.before k.value t.type t.value) }

    one_outer : (x : List ℕ) (xs : Names) (accs : List Accumulator) → IsUpdated x → AreOuter xs accs → AreOuter (x ∷ xs) (accumulator_of w (numbers_of w) (conditions_at w) x 0 (update_of w.sites x) ++ accs)
    one_outer x xs accs u h =
        subst (λ o. AreOuter (x ∷ xs) (accumulator_of w (numbers_of w) (conditions_at w) x 0 o ++ accs)) (sym u.found)
        (refl, start_fits_by w x (update_with w x u.update.site.round (form_found w.sites (Some u.update))) u.fits, h)

    all_outer : (xs : Names) → AllByRecursion (IsNeeded (needed_of w.fragment)) xs → AreOuter [] (flags_at w) → AreOuter xs (outer_accumulators w (numbers_of w) (conditions_at w) xs ++ flags_at w)
    all_outer [] n h = h
    all_outer (x ∷ xs) n h =
        subst (AreOuter (x ∷ xs)) (sym (append_assoc (accumulator_of w (numbers_of w) (conditions_at w) x 0 (update_of w.sites x)) (outer_accumulators w (numbers_of w) (conditions_at w) xs) (flags_at w)))
        (one_outer x xs (outer_accumulators w (numbers_of w) (conditions_at w) xs ++ flags_at w) (is_updated x n.0) (all_outer xs n.1 h))

    same_number : (i m : ℕ) (s : Site) → 0 + i ≡ m → slice_get w.sites i ≡ Some s → slice_get w.sites m ≡ Some s
    same_number i m s e there = let same : i ≡ m = omega arith in subst (λ k. slice_get w.sites k ≡ Some s) same there

    accumulators_outer : AreOuter (needed_in_order w) (lowering w).fragment.accs
    accumulators_outer = all_outer (needed_in_order w) (all_needed (needed_of w.fragment) w.fragment.run) (flags_inner 0 w.sites (λ i m s e there. same_number i m s e there))

-- The accumulators of a lowered fragment are those of its needed variables, and behind them flags.
pub accumulators_there : (schema : Schema) (read : List ℕ → Option PlainQuery) (p : PlainProgram) (path : List ℕ) (f : Fragment) (g : Types) → IsWellTyped schema read p → FragmentThere schema read p path f g → broken (setting_of schema read g f) ≡ None → AreOuter (needed_in_order (setting_of schema read g f)) (lowering (setting_of schema read g f)).fragment.accs
accumulators_there schema read p path f g well there rules =
    accumulators_outer (setting_of schema read g f) (frame_of schema read there.place.method) (checked schema read p path f g well there rules) (kernel_unbroken (setting_of schema read g f) rules) there.typed.loop (types_before schema p path f there.place) there.typed.run
