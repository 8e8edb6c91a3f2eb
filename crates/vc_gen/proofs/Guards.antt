-- Where the conditions of an accumulator and of the flags that its guards read are valid, it ends with what
-- its postcondition says.
use Rattle.std.proofs.Common.{◌≡◌, ℕ, Bool, true, false, List, [], ◌∷◌, ◌++◌, map, ◌⊎◌, inl, inr, slice_get, refl, sym, ap, ◌∙◌, subst}
use Rattle.std.specs.declared.option.Option.{Option}
use Rattle.std.specs.declared.option.Option.TheVariants.{Some, None}
use Rattle.qbs_base.specs.declared.scalar.Row.{Row}
use Rattle.tor_terms.specs.declared.term.Atom.{Atom}
use Rattle.tor_terms.specs.declared.term.Atom.TheVariants.{Less, Same, Truth, Member as Listed, Flag}
use Rattle.tor_terms.specs.Plain.{Form, Is, Both, Either}
use Rattle.tor_terms.specs.Truth.{World, holds}
use Rattle.tor_terms.specs.Value.{value}
use Rattle.kernel_lang.specs.Plain.{Fragment}
use Rattle.kernel_lang.specs.Pools.{Member}
use Rattle.kernel_lang.specs.Postcondition.{loops_of, postcondition, flag_by_choice, with_choices}
use Rattle.kernel_lang.specs.Running.{Layer, layers_of, outside, inside, placed, passes, started, run, flag_by_run, accumulated}
use Rattle.kernel_lang.specs.Validity.{guard_all, reads_no_flag, on_spine}
use Rattle.vc_gen.proofs.Alike.{at, AtomAgrees, FlagsAgree, form_same, quiet_same}
use Rattle.vc_gen.proofs.Scope.{Chain}
use Rattle.vc_gen.proofs.Whole.{EndsWith, whole_run, run_agrees}
use Rattle.vc_gen.proofs.Uses.{AllCurrent}
use Rattle.vc_gen.proofs.Levels.{AllPass}
use Rattle.vc_gen.proofs.Flags.{GuardsAgree, same_run, spine_false, pass_append}
use Rattle.vc_gen.proofs.Tables.{Quiet, EndsAt, IsFlag, tables_agree}

-- a guard that stands down the left parts of a formula
abbrev pub spine_of : Option Form → Form → Bool
spine_of None q = true
spine_of (Some p) q = on_spine p q

last_quiet : (atoms : List Atom) (before : List Layer) (own : Layer) → Quiet atoms (before ++ own ∷ []) → guard_all (reads_no_flag atoms) own.guard ≡ true
last_quiet atoms [] own h = h.0
last_quiet atoms (z ∷ zs) own h = last_quiet atoms zs own h.1

module _ (f : Fragment) (w : World) (ms : List Member) where
  abbrev pub by_run : ℕ → List Row → Bool
  by_run k rows = flag_by_run w f.atoms (slice_get f.accs k) rows

  abbrev pub by_choice : ℕ → List Row → Bool
  by_choice k rows = flag_by_choice f w (slice_get ms k) rows

  abbrev running : World
  running = record w { flags = by_run }

  abbrev choosing : World
  choosing = record w { flags = by_choice }

  -- the flag k may be read at these loops in the guard q of the layer y, which stands inside the layers before
  pub record MayRead (before : List Layer) (y : Layer) (q : Form) (k : ℕ) (loops : List ℕ) : Type 0 where
    pub member : Member
    pub own : Layer
    pub acc : slice_get f.accs k ≡ Some member.0
    pub chosen : slice_get ms k ≡ Some member
    pub flag : IsFlag w f.atoms member
    pub split : outside member.0 ≡ before ++ own ∷ []
    pub over : loops_of (outside member.0) ≡ loops_of (before ++ y ∷ [])
    pub places : loops ≡ loops_of (outside member.0)
    pub spine : spine_of own.guard q ≡ true

  abbrev pub AtomMayRead : List Layer → Layer → Form → Option Atom → Type 0
  AtomMayRead before y q None = Unit {0}
  AtomMayRead before y q (Some (Less a b)) = Unit {0}
  AtomMayRead before y q (Some (Same a b)) = Unit {0}
  AtomMayRead before y q (Some (Truth a)) = Unit {0}
  AtomMayRead before y q (Some (Listed a n)) = Unit {0}
  AtomMayRead before y q (Some (Flag k loops)) = MayRead before y q k loops

  abbrev pub FormMayRead : List Layer → Layer → Form → Form → Type 0
  FormMayRead before y q (Is k s) = AtomMayRead before y q (slice_get f.atoms k)
  FormMayRead before y q (Both a b) = FormMayRead before y q a × FormMayRead before y q b
  FormMayRead before y q (Either a b) = FormMayRead before y q a × FormMayRead before y q b

  abbrev pub GuardMayRead : List Layer → Layer → Option Form → Type 0
  GuardMayRead before y None = Unit {0}
  GuardMayRead before y (Some q) = FormMayRead before y q q

  abbrev pub LayersMayRead : List Layer → List Layer → Type 0
  LayersMayRead before [] = Unit {0}
  LayersMayRead before (y ∷ ys) = GuardMayRead before y y.guard × LayersMayRead (before ++ y ∷ []) ys

  -- both tables make the formula false
  record BothFalse (rows : ℕ → Row) (q : Form) : Type 0 where
    left : holds running f.atoms rows q ≡ false
    right : holds choosing f.atoms rows q ≡ false

  either_part : {A B C : Type 0} → A ⊎ C → B ⊎ C → (A × B) ⊎ C
  either_part s t = elim s [ inl a ↦ elim t [ inl b ↦ inl (a, b) | inr c ↦ inr c ] | inr c ↦ inr c ]

  module _ (turns : ℕ → ℕ) (rows : ℕ → Row) (before : List Layer) (y : Layer) (now : AllCurrent (at running turns rows w.held) (loops_of (before ++ y ∷ []))) (pass : AllPass running f.atoms rows before) (q : Form) where
    flag_case : (k : ℕ) (loops : List ℕ) → MayRead before y q k loops → (by_run k (map rows loops) ≡ by_choice k (map rows loops)) ⊎ BothFalse rows q
    flag_case k loops m = go m.own.guard refl (passes running f.atoms rows m.own.guard) refl m.spine
      where
        quiet : guard_all (reads_no_flag f.atoms) m.own.guard ≡ true
        quiet = last_quiet f.atoms before m.own (subst (Quiet f.atoms) m.split m.flag.quiet)

        yes : passes running f.atoms rows m.own.guard ≡ true → by_run k (map rows loops) ≡ by_choice k (map rows loops)
        yes h =
            ap (λ o. flag_by_run w f.atoms o (map rows loops)) m.acc
            ∙ subst (λ ls. flag_by_run w f.atoms (Some m.member.0) (map rows ls) ≡ flag_by_choice f w (Some m.member) (map rows ls)) (sym m.places)
            (tables_agree f w m.member m.flag by_run turns rows (subst (AllCurrent (at running turns rows w.held)) (sym m.over) now) (subst (AllPass running f.atoms rows) (sym m.split) (pass_append running f.atoms before m.own rows pass h)))
            ∙ ap (λ o. flag_by_choice f w o (map rows loops)) (sym m.chosen)

        no : (p : Form) → reads_no_flag f.atoms p ≡ true → holds running f.atoms rows p ≡ false → on_spine p q ≡ true → BothFalse rows q
        no p i h o = record {
          left = spine_false running f.atoms rows p q o h;
          right = spine_false choosing f.atoms rows p q o (quiet_same choosing running refl refl f.atoms rows p i ∙ h);
        }

        go : (o : Option Form) → m.own.guard ≡ o → (b : Bool) → passes running f.atoms rows m.own.guard ≡ b → spine_of m.own.guard q ≡ true → (by_run k (map rows loops) ≡ by_choice k (map rows loops)) ⊎ BothFalse rows q
        go o d true h s = inl (yes h)
        go None d false h s = let x : true ≡ false = sym (ap (passes running f.atoms rows) d) ∙ h in absurd cc
        go (Some p) d false h s =
            inr (no p (subst (λ o. guard_all (reads_no_flag f.atoms) o ≡ true) d quiet) (sym (ap (passes running f.atoms rows) d) ∙ h) (subst (λ o. spine_of o q ≡ true) d s))

    atom_case : (o : Option Atom) → AtomMayRead before y q o → AtomAgrees running choosing refl refl f.atoms rows o ⊎ BothFalse rows q
    atom_case None h = inl tt
    atom_case (Some (Less a b)) h = inl tt
    atom_case (Some (Same a b)) h = inl tt
    atom_case (Some (Truth a)) h = inl tt
    atom_case (Some (Listed a n)) h = inl tt
    atom_case (Some (Flag k loops)) h = flag_case k loops h

    form_case : (d : Form) → FormMayRead before y q d → FlagsAgree running choosing refl refl f.atoms rows d ⊎ BothFalse rows q
    form_case (Is k s) h = atom_case (slice_get f.atoms k) h
    form_case (Both a b) h = either_part (form_case a h.0) (form_case b h.1)
    form_case (Either a b) h = either_part (form_case a h.0) (form_case b h.1)

    guard_case : FormMayRead before y q q → holds running f.atoms rows q ≡ holds choosing f.atoms rows q
    guard_case h = elim (form_case q h) [ inl s ↦ form_same running choosing refl refl f.atoms rows q s | inr n ↦ n.left ∙ sym n.right ]

  guards_agree : (ys before : List Layer) → LayersMayRead before ys → GuardsAgree w f.atoms by_run by_choice before ys
  guards_agree [] before h = tt
  guards_agree (y ∷ ys) before h = (λ turns rows now pass. at_guard turns rows now pass y.guard h.0, guards_agree ys (before ++ y ∷ []) h.1)
    where
      at_guard : (turns : ℕ → ℕ) (rows : ℕ → Row) → AllCurrent (at running turns rows w.held) (loops_of (before ++ y ∷ [])) → AllPass running f.atoms rows before
          → (o : Option Form) → GuardMayRead before y o → passes running f.atoms rows o ≡ passes choosing f.atoms rows o
      at_guard turns rows now pass None m = refl
      at_guard turns rows now pass (Some q) m = guard_case turns rows before y now pass q m

  -- an accumulator that stands outside all loops
  pub member-ends : (m : Member) → EndsAt choosing f.atoms m → Chain f.atoms [] (layers_of m.0) → outside m.0 ≡ [] → inside m.0 ≡ layers_of m.0 → LayersMayRead [] (layers_of m.0) → ◌≡◌ {A = ℕ → Row} (placed [] []) w.current
      → EndsWith (accumulated f w m.0) (value (with_choices f ms w) f.atoms (postcondition m))
  member-ends m ends chain none all reads begin =
      subst (EndsWith (run running f.atoms m.0.update (layers_of m.0) w.current (started m.0.start)))
      (same_run w f.atoms by_run by_choice m.0.update (layers_of m.0) [] chain (guards_agree (layers_of m.0) [] reads) w.turns w.current tt tt (started m.0.start)
      ∙ ap (λ ys. whole_run choosing f.atoms m.0.update ys w.current (started m.0.start)) (sym all)
      ∙ subst (λ c. whole_run choosing f.atoms m.0.update (inside m.0) c (started m.0.start) ≡ value (at choosing w.turns c w.held) f.atoms (postcondition m)) begin
      (ends w.turns [] [] (subst (λ zs. AllCurrent (at choosing w.turns (placed [] []) w.held) (loops_of zs)) (sym none) tt) (subst (AllPass choosing f.atoms (placed [] [])) (sym none) tt)))
      (run_agrees running f.atoms m.0.update (layers_of m.0) w.current (started m.0.start))
