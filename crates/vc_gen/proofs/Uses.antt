-- What a proof over levels takes from conditions, whatever their validity asks of the worlds in which they are used.
use Rattle.std.proofs.Common.{◌≡◌, ℕ, cond, List, ◌∷◌, ◌++◌, nat_eq}
use Rattle.std.specs.List.{AllByRecursion}
use Rattle.std.specs.declared.option.Option.{Option}
use Rattle.qbs_base.specs.declared.scalar.Row.{Row}
use Rattle.qbs_base.specs.declared.scalar.Scalar.{Scalar}
use Rattle.tor_terms.specs.declared.term.Atom.{Atom}
use Rattle.tor_terms.specs.declared.term.Index.{Index}
use Rattle.tor_terms.specs.declared.term.Index.TheVariants.{Zero, At, Next, Len}
use Rattle.tor_terms.specs.Plain.{Form, Tree, Walk, Top, Hold}
use Rattle.tor_terms.specs.Truth.{Datum, World}
use Rattle.tor_terms.specs.Valid.{IsCurrent, IsValidFor}
use Rattle.tor_terms.specs.Value.{value}
use Rattle.tor_axioms.specs.Accepts.{Claim}
use Rattle.tor_axioms.specs.Decide.{Satisfied}
use Rattle.kernel_lang.specs.declared.parts.Update.{Update}
use Rattle.kernel_lang.specs.Paths.{Path}
use Rattle.kernel_lang.specs.Postcondition.{body, val, effect, start_term}
use Rattle.kernel_lang.specs.Running.{with_row}
use Rattle.vc_gen.specs.Conditions.{claim, facts_of}
use Rattle.tor_axioms.specs.Validity.{IsValidAnywhere}
use Rattle.vc_gen.proofs.Alike.{at}

abbrev pub AllCurrent : World → List ℕ → Type 0
AllCurrent w ls = AllByRecursion (IsCurrent w) ls

-- an index by the turns of this loop
abbrev pub IndexOf : ℕ → Index → Type 0
IndexOf j Zero = Unit {0}
IndexOf j (At k) = k ≡ j
IndexOf j (Next k) = k ≡ j
IndexOf j (Len k) = k ≡ j

abbrev pub turns_with : (ℕ → ℕ) → ℕ → ℕ → ℕ → ℕ
turns_with t j m k = cond (nat_eq j k) m (t k)

abbrev pub held_with : (ℕ → List Datum) → ℕ → List Datum → ℕ → List Datum
held_with h n x k = cond (nat_eq n k) x (h k)

-- for an accumulator with this update, choice and chain, over the lists, entry values, known lists and flags of b
pub record Use (b : World) (atoms : List Atom) (u : Update) (fs : List Form) (chain : List ℕ) : Type 1 where
  -- which conditions are valid
  pub Valid : Claim → Type 0
  -- the turns, current rows and held values at which they can be used
  pub State : (ℕ → ℕ) → (ℕ → Row) → (ℕ → List Datum) → Type 0
  -- the terms that may stand in them there
  pub Fits : (t : ℕ → ℕ) (c : ℕ → Row) (h : ℕ → List Datum) → State t c h → Tree → Type 0
  pub use_it : (t : ℕ → ℕ) (c : ℕ → Row) (h : ℕ → List Datum) (s : State t c h) (F : Path) (l r : Tree) → Valid (claim atoms F l r) → IsValidFor (at b t c h) l → IsValidFor (at b t c h) r → Fits t c h s l → Fits t c h s r
      → Satisfied (at b t c h) atoms (facts_of F) → value (at b t c h) atoms l ≡ value (at b t c h) atoms r
  -- another turn of a loop
  pub turned : (t : ℕ → ℕ) (c : ℕ → Row) (h : ℕ → List Datum) → State t c h → (j m : ℕ) (r : Row) → State (turns_with t j m) (with_row c j r) h
  pub turned_start : (t : ℕ → ℕ) (c : ℕ → Row) (h : ℕ → List Datum) (s : State t c h) (j m : ℕ) (r : Row) (o : Option Scalar) → Fits t c h s (start_term o) → Fits (turns_with t j m) (with_row c j r) h (turned t c h s j m r) (start_term o)
  pub turned_hold : (t : ℕ → ℕ) (c : ℕ → Row) (h : ℕ → List Datum) (s : State t c h) (j m : ℕ) (r : Row) (n : ℕ) → Fits t c h s (Hold n) → Fits (turns_with t j m) (with_row c j r) h (turned t c h s j m r) (Hold n)
  -- the value of a term is held
  pub held : (t : ℕ → ℕ) (c : ℕ → Row) (h : ℕ → List Datum) (s : State t c h) (n : ℕ) (x : List Datum) (a : Tree) → Fits t c h s a → value (at b t c h) atoms a ≡ x → State t c (held_with h n x)
  pub held_fits : (t : ℕ → ℕ) (c : ℕ → Row) (h : ℕ → List Datum) (s : State t c h) (n : ℕ) (x : List Datum) (a : Tree) (f : Fits t c h s a) (e : value (at b t c h) atoms a ≡ x) → Fits t c (held_with h n x) (held t c h s n x a f e) (Hold n)
  -- the terms of a level, and of an update
  pub part_fits : (t : ℕ → ℕ) (c : ℕ → Row) (h : ℕ → List Datum) (s : State t c h) (outer : List ℕ) (j : ℕ) (inner : List ℕ) → outer ++ j ∷ inner ≡ chain → AllCurrent (at b t c h) outer → (a : Tree) → Fits t c h s a → (index : Index) → IndexOf j index
      → Fits t c h s (val u a (body fs outer (Top index (Walk j)) inner))
  pub whole_fits : (t : ℕ → ℕ) (c : ℕ → Row) (h : ℕ → List Datum) (s : State t c h) (outer : List ℕ) (j : ℕ) (inner : List ℕ) → outer ++ j ∷ inner ≡ chain → AllCurrent (at b t c h) outer → (a : Tree) → Fits t c h s a
      → Fits t c h s (val u a (body fs outer (Walk j) inner))
  pub effect_fits : (t : ℕ → ℕ) (c : ℕ → Row) (h : ℕ → List Datum) (s : State t c h) (outer : List ℕ) → outer ≡ chain → AllCurrent (at b t c h) outer → (a : Tree) → Fits t c h s a → Fits t c h s (effect u a)

-- where validity asks for no fitting
abbrev pub anywhere : (b : World) (atoms : List Atom) (u : Update) (fs : List Form) (chain : List ℕ) → Use b atoms u fs chain
anywhere b atoms u fs chain =
    record {
      Valid = IsValidAnywhere;
      State = λ t c h. Unit {0};
      Fits = λ t c h s a. Unit {0};
      use_it = λ t c h s F l r v x y f g k. v (at b t c h) x y k;
      turned = λ t c h s j m r. tt;
      turned_start = λ t c h s j m r o f. tt;
      turned_hold = λ t c h s j m r n f. tt;
      held = λ t c h s n x a f e. tt;
      held_fits = λ t c h s n x a f e. tt;
      part_fits = λ t c h s outer j inner e now a f index i. tt;
      whole_fits = λ t c h s outer j inner e now a f. tt;
      effect_fits = λ t c h s outer e now a f. tt;
    }
