-- Tuples that begin with current rows: formulas on the loops of these have the truth that they have at
-- the current rows.
use Rattle.std.proofs.Common.{◌≡◌, ℕ, Bool, true, false, cond, ◌&&◌, ◌||◌, List, [], ◌∷◌, ◌++◌, map, slice_get, nat_eq, refl, sym, ap, ap₂, ◌∙◌, subst, eqb-true, append-nil}
use Rattle.std.specs.List.{filter}
use Rattle.std.specs.declared.option.Option.{Option}
use Rattle.std.specs.declared.option.Option.TheVariants.{Some, None}
use mathlib.Core.Path.{fun_ext}
use Rattle.qbs_base.specs.declared.scalar.Row.{Row}
use Rattle.qbs_base.specs.Scalar.{compared, scalar_same}
use Rattle.tor_terms.specs.declared.term.Atom.{Atom}
use Rattle.tor_terms.specs.declared.term.Atom.TheVariants.{Less, Same, Truth, Member, Flag}
use Rattle.tor_terms.specs.declared.term.Operand.{Operand}
use Rattle.tor_terms.specs.declared.term.Operand.TheVariants as operands
use Rattle.tor_terms.specs.Plain.{Form, Is, Both, Either}
use Rattle.tor_terms.specs.Truth.{World, Tuple, Datum, Tup, Element, row_at, rows_at, operand_at, same_operand, less, is_true, is_member, atom_holds, known_atom_holds, same_bool, holds, all_hold, has_loop, has_loops, operand_within, atom_within, known_within, form_within}
use Rattle.tor_terms.specs.Value.{here, paired, joined}
use Rattle.tor_axioms.specs.declared.facts.Literal.{Literal}
use Rattle.tor_axioms.specs.Decide.{decide_form, is_no, is_yes, Satisfied}
use Rattle.tor_axioms.specs.Rules.{no_within, yes_within, some_no_within, kept_form, without_yes}
use Rattle.tor_axioms.proofs.Decided.{and_left, and_right, form_agrees, is_no-false, is_yes-true}

module _ (w : World) where
  -- the current rows stand for themselves
  here_row : (a : List ℕ) (j : ℕ) → row_at w.current (here w a) j ≡ w.current j
  here_row [] j = refl
  here_row (k ∷ a) j = go (nat_eq k j) refl (here_row a j)
    where
      go : (b : Bool) → nat_eq k j ≡ b → row_at w.current (here w a) j ≡ w.current j → cond b (w.current k) (row_at w.current (here w a) j) ≡ w.current j
      go true e h = ap w.current (eqb-true k j e)
      go false e h = h

  pub here_rows : (a : List ℕ) → rows_at w.current (Tup (here w a)) ≡ w.current
  here_rows a = fun_ext (here_row a)

  -- rows that are current for these loops
  abbrev pub AreCurrent : List ℕ → (ℕ → Row) → Type 0
  AreCurrent a rows = (j : ℕ) → has_loop a j ≡ true → rows j ≡ w.current j

  begun_row : (a : List ℕ) (u : Tuple) → AreCurrent a (row_at w.current (here w a ++ u))
  begun_row [] u j h = cc
  begun_row (k ∷ a) u j h = go (nat_eq k j) refl h (begun_row a u j)
    where
      go : (b : Bool) → nat_eq k j ≡ b → (b || has_loop a j) ≡ true → (has_loop a j ≡ true → row_at w.current (here w a ++ u) j ≡ w.current j) → cond b (w.current k) (row_at w.current (here w a ++ u) j) ≡ w.current j
      go true e h r = ap w.current (eqb-true k j e)
      go false e h r = r h

  paired_current : (a : List ℕ) (x : Datum) → AreCurrent a (rows_at w.current (paired (Tup (here w a)) x))
  paired_current a (Tup u) = begun_row a u
  paired_current a (Element r) = λ j h. here_row a j

  -- under rows that are current for the loops that are read, the same truth
  module _ (a : List ℕ) (rows : ℕ → Row) (current : AreCurrent a rows) where
    same_operand_at : (o : Operand) → operand_within a o ≡ true → operand_at w rows o ≡ operand_at w w.current o
    same_operand_at (operands.Field j c) h = ap (λ r. slice_get r.cells c) (current j h)
    same_operand_at (operands.Entry k) h = refl
    same_operand_at (operands.Lit x) h = refl

    same_rows : (own : List ℕ) → has_loops a own ≡ true → map rows own ≡ map w.current own
    same_rows [] h = refl
    same_rows (j ∷ own) h =
        ap₂ (λ r rs. r ∷ rs) (current j (and_left (has_loop a j) (has_loops a own) h)) (same_rows own (and_right (has_loop a j) (has_loops a own) h))

    same_atom : (o : Atom) → atom_within a o ≡ true → atom_holds w rows o ≡ atom_holds w w.current o
    same_atom (Less l r) h =
        ap₂ (compared less) (same_operand_at l (and_left (operand_within a l) (operand_within a r) h)) (same_operand_at r (and_right (operand_within a l) (operand_within a r) h))
    same_atom (Same l r) h =
        ap₂ (λ x y. same_operand l r || compared scalar_same x y) (same_operand_at l (and_left (operand_within a l) (operand_within a r) h)) (same_operand_at r (and_right (operand_within a l) (operand_within a r) h))
    same_atom (Truth l) h = ap is_true (same_operand_at l h)
    same_atom (Member l k) h = ap (λ x. is_member x (w.known k)) (same_operand_at l h)
    same_atom (Flag k own) h = ap (w.flags k) (same_rows own h)

    same_known : (o : Option Atom) → known_within a o ≡ true → known_atom_holds w rows o ≡ known_atom_holds w w.current o
    same_known None h = refl
    same_known (Some o) h = same_atom o h

    pub same_holds : (atoms : List Atom) (f : Form) → form_within atoms a f ≡ true → holds w atoms rows f ≡ holds w atoms w.current f
    same_holds atoms (Is k s) h = ap (λ b. same_bool b s) (same_known (slice_get atoms k) h)
    same_holds atoms (Both f g) h =
        ap₂ (λ x y. x && y) (same_holds atoms f (and_left (form_within atoms a f) (form_within atoms a g) h)) (same_holds atoms g (and_right (form_within atoms a f) (form_within atoms a g) h))
    same_holds atoms (Either f g) h =
        ap₂ (λ x y. x || y) (same_holds atoms f (and_left (form_within atoms a f) (form_within atoms a g) h)) (same_holds atoms g (and_right (form_within atoms a f) (form_within atoms a g) h))

    module _ (atoms : List Atom) (facts : List Literal) (satisfied : Satisfied w atoms facts) where
      no_within-false : (f : Form) → no_within atoms facts a f ≡ true → holds w atoms rows f ≡ false
      no_within-false f h =
          same_holds atoms f (and_left (form_within atoms a f) (is_no (decide_form atoms facts f)) h)
          ∙ is_no-false w (decide_form atoms facts f) (holds w atoms w.current f) (and_right (form_within atoms a f) (is_no (decide_form atoms facts f)) h) (form_agrees w atoms facts f satisfied)

      yes_within-true : (f : Form) → yes_within atoms facts a f ≡ true → holds w atoms rows f ≡ true
      yes_within-true f h =
          same_holds atoms f (and_left (form_within atoms a f) (is_yes (decide_form atoms facts f)) h)
          ∙ is_yes-true w (decide_form atoms facts f) (holds w atoms w.current f) (and_right (form_within atoms a f) (is_yes (decide_form atoms facts f)) h) (form_agrees w atoms facts f satisfied)

      pub some_no_within-false : (fs : List Form) → some_no_within atoms facts a fs ≡ true → all_hold w atoms rows fs ≡ false
      some_no_within-false [] h = cc
      some_no_within-false (f ∷ fs) h = go (no_within atoms facts a f) refl h (some_no_within-false fs)
        where
          and_false : (a b : Bool) → b ≡ false → (a && b) ≡ false
          and_false true b h = h
          and_false false b h = refl

          go : (b : Bool) → no_within atoms facts a f ≡ b → cond b true (some_no_within atoms facts a fs) ≡ true → (some_no_within atoms facts a fs ≡ true → all_hold w atoms rows fs ≡ false) → (holds w atoms rows f && all_hold w atoms rows fs) ≡ false
          go true e h r = ap (λ x. x && all_hold w atoms rows fs) (no_within-false f e)
          go false e h r = and_false (holds w atoms rows f) (all_hold w atoms rows fs) (r h)

      -- leaving out a formula that is true makes no difference
      abbrev pub SameTruth : List Form → Option (List Form) → Type 0
      SameTruth fs None = Unit {0}
      SameTruth fs (Some gs) = all_hold w atoms rows gs ≡ all_hold w atoms rows fs

      pub without_yes-same : (fs : List Form) → SameTruth fs (without_yes atoms facts a fs)
      without_yes-same [] = tt
      without_yes-same (f ∷ fs) = go (yes_within atoms facts a f) refl (without_yes atoms facts a fs) (without_yes-same fs)
        where
          go : (b : Bool) → yes_within atoms facts a f ≡ b → (o : Option (List Form)) → SameTruth fs o → SameTruth (f ∷ fs) (cond b (Some fs) (kept_form f o))
          go true e o h = sym (ap (λ x. x && all_hold w atoms rows fs) (yes_within-true f e))
          go false e None h = tt
          go false e (Some gs) h = ap (λ x. holds w atoms rows f && x) h

  joined_one : (x : Datum) (ys : List Datum) → joined (x ∷ []) ys ≡ map (paired x) ys
  joined_one x ys = append-nil (map (paired x) ys)

  -- tests of the tuples that begin with current rows
  filter_none : (test : Datum → Bool) (a : List ℕ) → ((x : Datum) → test (paired (Tup (here w a)) x) ≡ false) → (ys : List Datum) → filter test (map (paired (Tup (here w a))) ys) ≡ []
  filter_none test a h [] = refl
  filter_none test a h (y ∷ ys) =
      ap (λ b. cond b (paired (Tup (here w a)) y ∷ filter test (map (paired (Tup (here w a))) ys)) (filter test (map (paired (Tup (here w a))) ys))) (h y) ∙ filter_none test a h ys

  filter_same : (test other : Datum → Bool) (a : List ℕ) → ((x : Datum) → test (paired (Tup (here w a)) x) ≡ other (paired (Tup (here w a)) x)) → (ys : List Datum) → filter test (map (paired (Tup (here w a))) ys) ≡ filter other (map (paired (Tup (here w a))) ys)
  filter_same test other a h [] = refl
  filter_same test other a h (y ∷ ys) =
      ap₂ (λ b zs. cond b (paired (Tup (here w a)) y ∷ zs) zs) (h y) (filter_same test other a h ys)

  module _ (atoms : List Atom) (facts : List Literal) (satisfied : Satisfied w atoms facts) (a : List ℕ) (ys : List Datum) where
    pub none_pass : (fs : List Form) → some_no_within atoms facts a fs ≡ true
        → filter (λ x. all_hold w atoms (rows_at w.current x) fs) (joined (Tup (here w a) ∷ []) ys) ≡ []
    none_pass fs h =
        ap (filter (λ x. all_hold w atoms (rows_at w.current x) fs)) (joined_one (Tup (here w a)) ys)
        ∙ filter_none (λ x. all_hold w atoms (rows_at w.current x) fs) a (λ x. some_no_within-false a (rows_at w.current (paired (Tup (here w a)) x)) (paired_current a x) atoms facts satisfied fs h) ys

    pub same_pass : (fs gs : List Form) → without_yes atoms facts a fs ≡ Some gs
        → filter (λ x. all_hold w atoms (rows_at w.current x) gs) (joined (Tup (here w a) ∷ []) ys) ≡ filter (λ x. all_hold w atoms (rows_at w.current x) fs) (joined (Tup (here w a) ∷ []) ys)
    same_pass fs gs e =
        ap (filter (λ x. all_hold w atoms (rows_at w.current x) gs)) (joined_one (Tup (here w a)) ys)
        ∙ filter_same (λ x. all_hold w atoms (rows_at w.current x) gs) (λ x. all_hold w atoms (rows_at w.current x) fs) a
        (λ x. given (rows_at w.current (paired (Tup (here w a)) x)) (paired_current a x)) ys
        ∙ sym (ap (filter (λ x. all_hold w atoms (rows_at w.current x) fs)) (joined_one (Tup (here w a)) ys))
      where
        given : (rows : ℕ → Row) → AreCurrent a rows → all_hold w atoms rows gs ≡ all_hold w atoms rows fs
        given rows current = subst (SameTruth a rows current atoms facts satisfied fs) e (without_yes-same a rows current atoms facts satisfied fs)
