-- Two tables of flags give one run, where they agree at each guard that the run comes to.
use Rattle.std.proofs.Common.{◌≡◌, ℕ, zero, suc, ◌<◌, Bool, true, false, cond, ◌&&◌, ◌||◌, List, [], ◌∷◌, ◌++◌, length, nat_eq, slice_get, refl, sym, ap, ◌∙◌, subst, arith, append_assoc, eq-eqb, eqb-true}
use Rattle.std.proofs.lemmas.List.{map-append}
use Rattle.std.specs.declared.option.Option.TheVariants.{Some}
use Rattle.qbs_base.specs.declared.scalar.Row.{Row}
use Rattle.tor_terms.specs.declared.term.Atom.{Atom}
use Rattle.tor_terms.specs.Plain.{Form, Is, Both, Either}
use Rattle.tor_terms.specs.Same.{same_flag, same_numbers, same_form}
use Rattle.tor_terms.specs.Truth.{Datum, World, holds}
use Rattle.tor_terms.specs.Valid.{IsCurrent}
use Rattle.tor_terms.proofs.Identical.{both}
use Rattle.kernel_lang.specs.declared.parts.Update.{Update}
use Rattle.kernel_lang.specs.Postcondition.{loops_of}
use Rattle.kernel_lang.specs.Running.{Layer, with_row, passes}
use Rattle.kernel_lang.specs.Validity.{on_spine}
use Rattle.vc_gen.proofs.Alike.{at}
use Rattle.vc_gen.proofs.Scope.{Chain}
use Rattle.vc_gen.proofs.Whole.{every_row, whole_run}
use Rattle.vc_gen.proofs.Uses.{AllCurrent}
use Rattle.vc_gen.proofs.Levels.{AllPass, current_kept, current_append, pass_kept, all_unread, chain_inside}

pub below : {X : Type 0} (xs : List X) (t : ℕ) (x : X) → slice_get xs t ≡ Some x → t < length xs
below [] t x h = absurd cc
below (y ∷ ys) zero x h = omega arith
below (y ∷ ys) (suc t) x h = let k : t < length ys = below ys t x h in omega (arith, k)

every_same : (rs : List Row) (f g : Row → List Datum → List Datum) → ((t : ℕ) (r : Row) → slice_get rs t ≡ Some r → (x : List Datum) → f r x ≡ g r x) → (v : List Datum) → every_row rs f v ≡ every_row rs g v
every_same [] f g h v = refl
every_same (r ∷ rs) f g h v = ap (every_row rs f) (h zero r refl v) ∙ every_same rs f g (λ t s e x. h (suc t) s e x) (g r v)

pub loops_append : (before : List Layer) (y : Layer) → loops_of (before ++ y ∷ []) ≡ loops_of before ++ y.over ∷ []
loops_append before y = map-append (λ z. z.over) before (y ∷ [])

pub pass_append : (w : World) (atoms : List Atom) (before : List Layer) (y : Layer) (rows : ℕ → Row) → AllPass w atoms rows before → passes w atoms rows y.guard ≡ true → AllPass w atoms rows (before ++ y ∷ [])
pass_append w atoms [] y rows h e = (e, tt)
pass_append w atoms (z ∷ zs) y rows h e = (h.0, pass_append w atoms zs y rows h.1 e)

-- the world w with two tables of flags
module _ (w : World) (atoms : List Atom) (f g : ℕ → List Row → Bool) where
  abbrev pub one : World
  one = record w { flags = f }

  abbrev pub other : World
  other = record w { flags = g }

  -- at each place that a run under the first comes to, inside these layers, the guard has one truth
  abbrev pub GuardsAgree : List Layer → List Layer → Type 0
  GuardsAgree before [] = Unit {0}
  GuardsAgree before (y ∷ ys) =
      ((turns : ℕ → ℕ) (rows : ℕ → Row) → AllCurrent (at one turns rows w.held) (loops_of (before ++ y ∷ [])) → AllPass one atoms rows before → passes one atoms rows y.guard ≡ passes other atoms rows y.guard)
      × GuardsAgree (before ++ y ∷ []) ys

  pub same_run : (u : Update) (ys before : List Layer) → Chain atoms [] (before ++ ys) → GuardsAgree before ys → (turns : ℕ → ℕ) (rows : ℕ → Row) → AllCurrent (at one turns rows w.held) (loops_of before) → AllPass one atoms rows before → (v : List Datum)
      → whole_run one atoms u ys rows v ≡ whole_run other atoms u ys rows v
  same_run u [] before chain agree turns rows now pass v = refl
  same_run u (y ∷ ys) before chain agree turns rows now pass v =
      every_same (w.lists y.over) _ _ (λ t r e x.
      turn t r e x (λ now pass v. same_run u ys (before ++ y ∷ []) (subst (Chain atoms []) (sym (append_assoc before (y ∷ []) ys)) chain) agree.1 (λ j. cond (nat_eq y.over j) t (turns j)) (with_row rows y.over r) now pass v)) v
    where
      turn : (t : ℕ) (r : Row) → slice_get (w.lists y.over) t ≡ Some r → (x : List Datum)
          → (AllCurrent (at one (λ j. cond (nat_eq y.over j) t (turns j)) (with_row rows y.over r) w.held) (loops_of (before ++ y ∷ [])) → AllPass one atoms (with_row rows y.over r) (before ++ y ∷ []) → (v : List Datum)
          → whole_run one atoms u ys (with_row rows y.over r) v ≡ whole_run other atoms u ys (with_row rows y.over r) v)
          → cond (passes one atoms (with_row rows y.over r) y.guard) (whole_run one atoms u ys (with_row rows y.over r) x) x ≡ cond (passes other atoms (with_row rows y.over r) y.guard) (whole_run other atoms u ys (with_row rows y.over r) x) x
      turn t r e x ih = go (passes one atoms (with_row rows y.over r) y.guard) (passes other atoms (with_row rows y.over r) y.guard) refl (agree.0 (λ j. cond (nat_eq y.over j) t (turns j)) (with_row rows y.over r) there passed)
        where
          own : nat_eq y.over y.over ≡ true
          own = eq-eqb y.over y.over refl

          passed : AllPass one atoms (with_row rows y.over r) before
          passed = pass_kept one atoms before y ys (all_unread one atoms [] before (y ∷ ys) chain) rows r pass

          here : IsCurrent (at one (λ j. cond (nat_eq y.over j) t (turns j)) (with_row rows y.over r) w.held) y.over
          here = record {
            below = subst (λ s. s < length (w.lists y.over)) (sym (ap (λ c. cond c t (turns y.over)) own)) (below (w.lists y.over) t r e);
            row = ap (slice_get (w.lists y.over)) (ap (λ c. cond c t (turns y.over)) own) ∙ e ∙ ap Some (sym (ap (λ c. cond c r (rows y.over)) own));
          }

          there : AllCurrent (at one (λ j. cond (nat_eq y.over j) t (turns j)) (with_row rows y.over r) w.held) (loops_of (before ++ y ∷ []))
          there = subst (AllCurrent (at one (λ j. cond (nat_eq y.over j) t (turns j)) (with_row rows y.over r) w.held)) (sym (loops_append before y))
              (current_append (at one (λ j. cond (nat_eq y.over j) t (turns j)) (with_row rows y.over r) w.held) (loops_of before) (y.over ∷ [])
              (current_kept one atoms turns rows w.held y.over t r (loops_of before) (chain_inside one atoms [] before (y ∷ ys) chain).0 now) (here, tt))

          go : (c d : Bool) → passes one atoms (with_row rows y.over r) y.guard ≡ c → c ≡ d
              → cond c (whole_run one atoms u ys (with_row rows y.over r) x) x ≡ cond d (whole_run other atoms u ys (with_row rows y.over r) x) x
          go true true e h = ih there (pass_append one atoms before y (with_row rows y.over r) passed e) x
          go false false e h = refl
          go true false e h = absurd cc
          go false true e h = absurd cc

-- ---- formulas that are found identical

same_flag-true : (s t : Bool) → same_flag s t ≡ true → s ≡ t
same_flag-true true true h = refl
same_flag-true false false h = refl
same_flag-true true false h = absurd cc
same_flag-true false true h = absurd cc

pub same_form-true : (f g : Form) → same_form f g ≡ true → f ≡ g
same_form-true (Is j s) (Is k t) h = both Is (nat_eq j k) (same_flag s t) h (eqb-true j k) (same_flag-true s t)
same_form-true (Both f g) (Both d e) h = both Both (same_form f d) (same_form g e) h (same_form-true f d) (same_form-true g e)
same_form-true (Either f g) (Either d e) h = both Either (same_form f d) (same_form g e) h (same_form-true f d) (same_form-true g e)
same_form-true _ _ h = absurd cc

pub same_numbers-true : (a b : List ℕ) → same_numbers a b ≡ true → a ≡ b
same_numbers-true [] [] h = refl
same_numbers-true (j ∷ a) (k ∷ b) h = both (λ x y. x ∷ y) (nat_eq j k) (same_numbers a b) h (eqb-true j k) (same_numbers-true a b)
same_numbers-true _ _ h = absurd cc

-- a formula fails where one down its left parts does
pub spine_false : (w : World) (atoms : List Atom) (rows : ℕ → Row) (p q : Form) → on_spine p q ≡ true → holds w atoms rows p ≡ false → holds w atoms rows q ≡ false
spine_false w atoms rows p (Is k s) o h = ap (holds w atoms rows) (sym (same_form-true p (Is k s) o)) ∙ h
spine_false w atoms rows p (Either a b) o h = ap (holds w atoms rows) (sym (same_form-true p (Either a b) o)) ∙ h
spine_false w atoms rows p (Both a b) o h = go (same_form p (Both a b)) refl o (λ s. spine_false w atoms rows p a s h)
  where
    go : (x : Bool) → same_form p (Both a b) ≡ x → (x || on_spine p a) ≡ true → (on_spine p a ≡ true → holds w atoms rows a ≡ false) → (holds w atoms rows a && holds w atoms rows b) ≡ false
    go true e s ih = ap (holds w atoms rows) (sym (same_form-true p (Both a b) e)) ∙ h
    go false e s ih = ap (λ x. x && holds w atoms rows b) (ih s)
