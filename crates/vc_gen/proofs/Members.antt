-- The postconditions of a whole fragment.
use Rattle.std.proofs.Common.{◌≡◌, ℕ, zero, suc, ◌+◌, List, [], ◌∷◌, take, drop, length, slice_get, refl, sym, ap, ap₂, ◌∙◌, subst}
use Rattle.std.specs.List.{AllByRecursion}
use Rattle.std.specs.declared.option.Option.{Option}
use Rattle.std.specs.declared.option.Option.TheVariants.{Some, None}
use Rattle.std.specs.Option.{option_map}
use Rattle.qbs_base.specs.declared.scalar.Row.{Row}
use Rattle.qbs_base.specs.declared.scalar.Value.{Value}
use Rattle.tor_terms.specs.Plain.{Form}
use Rattle.tor_terms.specs.Truth.{Datum, World}
use Rattle.tor_terms.specs.Value.{value}
use Rattle.kernel_lang.specs.Plain.{Accumulator, Fragment}
use Rattle.kernel_lang.specs.Pools.{Member, chosen, members_from}
use Rattle.kernel_lang.specs.Postcondition.{postcondition, with_choices, claimed, claims, all_claimed}
use Rattle.kernel_lang.specs.Running.{layers_of, placed, source_value, accumulated, ends_as, and_then, ends, all_end}
use Rattle.kernel_lang.specs.Sentences.{AccumulatorIsValid, IsValid}
use Rattle.kernel_lang.proofs.Listing.{some_eq}
use Rattle.vc_gen.proofs.Whole.{EndsWith}
use Rattle.vc_gen.proofs.Tables.{EndsAt, IsShown}
use Rattle.vc_gen.proofs.Fit.{layers_chain, cut_chain}
use Rattle.vc_gen.proofs.Guards.{member-ends}
use Rattle.vc_gen.proofs.Reading.{MembersAreShown, all_may_read}

-- what is so of each accumulator with what a candidate chooses for it, the first of whose formulas has the number n
abbrev pub AllChosen : (Accumulator → List Form → Type 0) → List ℕ → ℕ → List Accumulator → Type 0
AllChosen P c n [] = Unit {0}
AllChosen P c n (a ∷ rest) = P a (chosen c n a.pool) × AllChosen P c (n + length a.pool) rest

module _ (f : Fragment) (w : World) where
  -- each accumulator has its member
  pub members_shown : (c : List ℕ) (accs : List Accumulator) (n : ℕ) → AllByRecursion (AccumulatorIsValid f) accs → AllChosen (λ a fs. EndsAt w f.atoms (a, fs)) c n accs
      → (k : ℕ) (a : Accumulator) → slice_get accs k ≡ Some a → (fs : List Form) × (slice_get (members_from c n accs) k ≡ Some (a, fs)) × IsShown w f.atoms (a, fs)
  members_shown c [] n own all k a e = absurd cc
  members_shown c (x ∷ xs) n own all zero a e =
      subst (λ z. (fs : List Form) × (◌≡◌ {A = Option Member} (Some (x, chosen c n x.pool)) (Some (z, fs))) × IsShown w f.atoms (z, fs)) (some_eq x a e)
      (chosen c n x.pool, refl, record { chain = cut_chain f x own.0; ends = all.0 })
  members_shown c (x ∷ xs) n own all (suc k) a e = members_shown c xs (n + length x.pool) own.1 all.1 k a e

module _ (f : Fragment) (v : IsValid f) (w : World) (ms : List Member) (seen : MembersAreShown f w ms) (begin : ◌≡◌ {A = ℕ → Row} (placed [] []) w.current) where
  -- one that stands outside all loops
  ends_outside : (m : Member) → AccumulatorIsValid f m.0 → EndsAt (with_choices f ms w) f.atoms m → m.0.base ≡ zero → EndsWith (accumulated f w m.0) (value (with_choices f ms w) f.atoms (postcondition m))
  ends_outside m own s e =
      member-ends f w ms m s (layers_chain f m.0 own) (ap (λ n. take n (layers_of m.0)) e) (ap (λ n. drop n (layers_of m.0)) e) (all_may_read f v w ms seen m.0 own) begin

  value_ends : (m : Member) (o : Option (List Datum)) (d : List Datum) (x : Value) → EndsWith o d → option_map (source_value m.0.update m.0.opposite) o ≡ Some x → x ≡ source_value m.0.update m.0.opposite d
  value_ends m None d x h e = absurd cc
  value_ends m (Some y) d x h e = sym (some_eq (source_value m.0.update m.0.opposite y) x e) ∙ ap (source_value m.0.update m.0.opposite) h

  joined_ends : (o : Option Value) (rest : Option (List Value)) (vs : List Value) (x : Value) (xs : List Value) → ((y : Value) → o ≡ Some y → y ≡ x) → ((ys : List Value) → rest ≡ Some ys → ys ≡ xs) → and_then o rest ≡ Some vs → vs ≡ x ∷ xs
  joined_ends None rest vs x xs h t e = absurd cc
  joined_ends (Some y) None vs x xs h t e = absurd cc
  joined_ends (Some y) (Some ys) vs x xs h t e = sym (some_eq (y ∷ ys) vs e) ∙ ap₂ (λ p ps. p ∷ ps) (h y refl) (t ys refl)

  ends_from : (c : List ℕ) (accs : List Accumulator) (n : ℕ) → AllByRecursion (AccumulatorIsValid f) accs → AllChosen (λ a fs. a.base ≡ zero → EndsAt (with_choices f ms w) f.atoms (a, fs)) c n accs
      → (vs : List Value) → all_end f w accs ≡ Some vs → vs ≡ all_claimed f ms w (members_from c n accs)
  ends_from c [] n own all vs e = sym (some_eq [] vs e)
  ends_from c (a ∷ rest) n own all vs e = go a.base refl e (λ vs e. ends_from c rest (n + length a.pool) own.1 all.1 vs e)
    where
      go : (b : ℕ) → a.base ≡ b → ends f w b a (all_end f w rest) ≡ Some vs → ((vs : List Value) → all_end f w rest ≡ Some vs → vs ≡ all_claimed f ms w (members_from c (n + length a.pool) rest))
          → vs ≡ claims f ms w b (a, chosen c n a.pool) (all_claimed f ms w (members_from c (n + length a.pool) rest))
      go zero z e ih =
          joined_ends (ends_as f w a) (all_end f w rest) vs (claimed f ms w (a, chosen c n a.pool)) (all_claimed f ms w (members_from c (n + length a.pool) rest))
          (λ y h. value_ends (a, chosen c n a.pool) (accumulated f w a) (value (with_choices f ms w) f.atoms (postcondition (a, chosen c n a.pool))) y (ends_outside (a, chosen c n a.pool) own.0 (all.0 z) z) h) ih e
      go (suc b) z e ih = ih vs e

-- where each accumulator ends so in the world itself, and those outside all loops with the flags by their choices
pub members-end : (f : Fragment) (c : List ℕ) (w : World) → IsValid f → ◌≡◌ {A = ℕ → Row} (placed [] []) w.current → AllChosen (λ a fs. EndsAt w f.atoms (a, fs)) c 0 f.accs
    → AllChosen (λ a fs. a.base ≡ zero → EndsAt (with_choices f (members_from c 0 f.accs) w) f.atoms (a, fs)) c 0 f.accs
    → (vs : List Value) → all_end f w f.accs ≡ Some vs → vs ≡ all_claimed f (members_from c 0 f.accs) w (members_from c 0 f.accs)
members-end f c w v begin own outer = ends_from f v w (members_from c 0 f.accs) (members_shown f w c f.accs 0 v.accs own) begin c f.accs 0 v.accs outer
