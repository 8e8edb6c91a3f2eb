-- A selection of one tuple on which no rule is decided meets an open atom.
use Rattle.std.proofs.Common.{◌≡◌, ℕ, Bool, true, false, cond, ◌&&◌, ◌||◌, List, [], ◌∷◌, refl}
use Rattle.std.specs.declared.option.Option.{Option}
use Rattle.std.specs.declared.option.Option.TheVariants.{Some, None}
use Rattle.tor_terms.specs.declared.term.Atom.{Atom}
use Rattle.tor_terms.specs.Plain.{Form, Is, Both, Either, One, Sel}
use Rattle.deriv_parts.specs.declared.known.Known.{Known}
use Rattle.deriv_parts.specs.declared.known.Known.TheVariants.{Yes, No, Open}
use Rattle.tor_axioms.specs.declared.facts.Literal.{Literal}
use Rattle.tor_axioms.specs.Decide.{decide, decide_form, if_so, known_both, known_either, is_no, is_yes}
use Rattle.tor_axioms.specs.Rules.{some_no, all_yes}
use Rattle.tor_prover.specs.Normal.{first_some, if_open, open_atom, where_open, first_open, met}

single : (k : ℕ) (s : Bool) (x : Known) → if_so s x ≡ Open → if_open x k ≡ None → ⊥
single k s Open e h = cc
single k true Yes e h = cc
single k false Yes e h = cc
single k true No e h = cc
single k false No e h = cc

both : (x y : Known) (o p : Option ℕ) → known_both x y ≡ Open → first_some o p ≡ None → (x ≡ Open → o ≡ None → ⊥) → (y ≡ Open → p ≡ None → ⊥) → ⊥
both x y (Some k) p e h l r = cc
both No y None p e h l r = cc
both Yes y None p e h l r = r e h
both Open y None p e h l r = l refl refl

either : (x y : Known) (o p : Option ℕ) → known_either x y ≡ Open → first_some o p ≡ None → (x ≡ Open → o ≡ None → ⊥) → (y ≡ Open → p ≡ None → ⊥) → ⊥
either x y (Some k) p e h l r = cc
either Yes y None p e h l r = cc
either No y None p e h l r = r e h
either Open y None p e h l r = l refl refl

module _ (atoms : List Atom) (facts : List Literal) where
  -- an open formula has an open atom
  atom-found : (f : Form) → decide_form atoms facts f ≡ Open → open_atom atoms facts f ≡ None → ⊥
  atom-found (Is k s) e h = single k s (decide atoms facts k) e h
  atom-found (Both f g) e h = both (decide_form atoms facts f) (decide_form atoms facts g) (open_atom atoms facts f) (open_atom atoms facts g) e h (atom-found f) (atom-found g)
  atom-found (Either f g) e h = either (decide_form atoms facts f) (decide_form atoms facts g) (open_atom atoms facts f) (open_atom atoms facts g) e h (atom-found f) (atom-found g)

  none-open : (fs : List Form) → first_open atoms facts fs ≡ None → (some_no atoms facts fs || all_yes atoms facts fs) ≡ true
  none-open [] h = refl
  none-open (f ∷ fs) h = go (decide_form atoms facts f) (atom-found f) h (none-open fs)
    where
      go : (x : Known) → (x ≡ Open → open_atom atoms facts f ≡ None → ⊥) → where_open x (open_atom atoms facts f) (first_open atoms facts fs) ≡ None
          → (first_open atoms facts fs ≡ None → (some_no atoms facts fs || all_yes atoms facts fs) ≡ true)
          → (cond (is_no x) true (some_no atoms facts fs) || (is_yes x && all_yes atoms facts fs)) ≡ true
      go Open a e rest = absurd (a refl e)
      go No a e rest = refl
      go Yes a e rest = rest e

  pub met-unless_decided : (fs : List Form) (a : List ℕ) → met atoms facts (Sel fs (One a)) ≡ None → (some_no atoms facts fs || all_yes atoms facts fs) ≡ true
  met-unless_decided fs a h = go (some_no atoms facts fs || all_yes atoms facts fs) refl h
    where
      go : (b : Bool) → (some_no atoms facts fs || all_yes atoms facts fs) ≡ b → cond b None (first_open atoms facts fs) ≡ None → (some_no atoms facts fs || all_yes atoms facts fs) ≡ true
      go true e h = e
      go false e h = none-open fs h
