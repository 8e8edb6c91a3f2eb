-- Worlds that have the same entry values, known lists and flags give formulas one truth.
use Rattle.std.proofs.Common.{◌≡◌, ℕ, true, ◌&&◌, ◌||◌, List, [], ◌∷◌, map, slice_get, refl, ap, ap₂}
use Rattle.std.specs.declared.option.Option.{Option}
use Rattle.std.specs.declared.option.Option.TheVariants.{Some, None}
use Rattle.qbs_base.specs.declared.scalar.Row.{Row}
use Rattle.qbs_base.specs.Scalar.{compared, scalar_same}
use Rattle.tor_terms.specs.declared.term.Atom.{Atom}
use Rattle.tor_terms.specs.declared.term.Atom.TheVariants.{Less, Same, Truth, Member, Flag}
use Rattle.tor_terms.specs.declared.term.Operand.{Operand}
use Rattle.tor_terms.specs.declared.term.Operand.TheVariants.{Field, Entry, Lit}
use Rattle.tor_terms.specs.Plain.{Form, Is, Both, Either}
use Rattle.tor_terms.specs.Truth.{Datum, World, operand_at, same_operand, less, is_true, is_member, known_atom_holds, truth, same_bool, holds, all_hold}
use Rattle.tor_axioms.proofs.Decided.{and_left, and_right}
use Rattle.kernel_lang.specs.Validity.{is_no_flag, reads_no_flag}

-- the world b at other turns, current rows and held values
abbrev pub at : World → (ℕ → ℕ) → (ℕ → Row) → (ℕ → List Datum) → World
at b turns current held = record b { turns = turns; current = current; held = held }

module _ (w v : World) (entries : w.entries ≡ v.entries) (known : w.known ≡ v.known) (atoms : List Atom) (rows : ℕ → Row) where
  operand_same : (o : Operand) → operand_at w rows o ≡ operand_at v rows o
  operand_same (Field j c) = refl
  operand_same (Entry k) = ap (λ f. f k) entries
  operand_same (Lit x) = refl

  -- the flags of a formula have one truth in both
  abbrev pub AtomAgrees : Option Atom → Type 0
  AtomAgrees None = Unit {0}
  AtomAgrees (Some (Less a b)) = Unit {0}
  AtomAgrees (Some (Same a b)) = Unit {0}
  AtomAgrees (Some (Truth a)) = Unit {0}
  AtomAgrees (Some (Member a q)) = Unit {0}
  AtomAgrees (Some (Flag k loops)) = w.flags k (map rows loops) ≡ v.flags k (map rows loops)

  abbrev pub FlagsAgree : Form → Type 0
  FlagsAgree (Is k s) = AtomAgrees (slice_get atoms k)
  FlagsAgree (Both f g) = FlagsAgree f × FlagsAgree g
  FlagsAgree (Either f g) = FlagsAgree f × FlagsAgree g

  atom_same : (o : Option Atom) → AtomAgrees o → known_atom_holds w rows o ≡ known_atom_holds v rows o
  atom_same None h = refl
  atom_same (Some (Less a b)) h = ap₂ (compared less) (operand_same a) (operand_same b)
  atom_same (Some (Same a b)) h = ap₂ (λ x y. same_operand a b || compared scalar_same x y) (operand_same a) (operand_same b)
  atom_same (Some (Truth a)) h = ap is_true (operand_same a)
  atom_same (Some (Member a q)) h = ap₂ (λ x xs. is_member x xs) (operand_same a) (ap (λ f. f q) known)
  atom_same (Some (Flag k loops)) h = h

  pub form_same : (f : Form) → FlagsAgree f → holds w atoms rows f ≡ holds v atoms rows f
  form_same (Is k s) h = ap (λ b. same_bool b s) (atom_same (slice_get atoms k) h)
  form_same (Both f g) h = ap₂ (λ x y. x && y) (form_same f h.0) (form_same g h.1)
  form_same (Either f g) h = ap₂ (λ x y. x || y) (form_same f h.0) (form_same g h.1)

  -- where the tables are one
  atom_agrees : w.flags ≡ v.flags → (o : Option Atom) → AtomAgrees o
  atom_agrees e None = tt
  atom_agrees e (Some (Less a b)) = tt
  atom_agrees e (Some (Same a b)) = tt
  atom_agrees e (Some (Truth a)) = tt
  atom_agrees e (Some (Member a q)) = tt
  atom_agrees e (Some (Flag k loops)) = ap (λ f. f k (map rows loops)) e

  flags_agree : w.flags ≡ v.flags → (f : Form) → FlagsAgree f
  flags_agree e (Is k s) = atom_agrees e (slice_get atoms k)
  flags_agree e (Both f g) = (flags_agree e f, flags_agree e g)
  flags_agree e (Either f g) = (flags_agree e f, flags_agree e g)

  pub truth_same : w.flags ≡ v.flags → (k : ℕ) → truth w atoms rows k ≡ truth v atoms rows k
  truth_same e k = atom_same (slice_get atoms k) (atom_agrees e (slice_get atoms k))

  pub all_same : w.flags ≡ v.flags → (fs : List Form) → all_hold w atoms rows fs ≡ all_hold v atoms rows fs
  all_same e [] = refl
  all_same e (f ∷ fs) = ap₂ (λ x y. x && y) (form_same f (flags_agree e f)) (all_same e fs)

  -- where no flag is read
  atom_quiet : (o : Option Atom) → is_no_flag o ≡ true → AtomAgrees o
  atom_quiet None h = tt
  atom_quiet (Some (Less a b)) h = tt
  atom_quiet (Some (Same a b)) h = tt
  atom_quiet (Some (Truth a)) h = tt
  atom_quiet (Some (Member a q)) h = tt
  atom_quiet (Some (Flag k loops)) h = absurd cc

  flags_quiet : (f : Form) → reads_no_flag atoms f ≡ true → FlagsAgree f
  flags_quiet (Is k s) h = atom_quiet (slice_get atoms k) h
  flags_quiet (Both f g) h = (flags_quiet f (and_left (reads_no_flag atoms f) (reads_no_flag atoms g) h), flags_quiet g (and_right (reads_no_flag atoms f) (reads_no_flag atoms g) h))
  flags_quiet (Either f g) h = (flags_quiet f (and_left (reads_no_flag atoms f) (reads_no_flag atoms g) h), flags_quiet g (and_right (reads_no_flag atoms f) (reads_no_flag atoms g) h))

  pub quiet_same : (f : Form) → reads_no_flag atoms f ≡ true → holds w atoms rows f ≡ holds v atoms rows f
  quiet_same f h = form_same f (flags_quiet f h)
