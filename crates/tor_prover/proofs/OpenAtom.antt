-- An atom that is met is there.
use Rattle.std.proofs.Common.{◌≡◌, ℕ, ◌<◌, Bool, true, false, cond, ◌||◌, List, [], ◌∷◌, length, slice_get, refl}
use Rattle.std.specs.declared.option.Option.{Option}
use Rattle.std.specs.declared.option.Option.TheVariants.{Some, None}
use Rattle.std.proofs.lemmas.Option.{slice_get_within}
use Rattle.tor_terms.specs.declared.term.Atom.{Atom}
use Rattle.tor_terms.specs.Plain.{Form, Is, Both, Either, Tree, One, Sel}
use Rattle.deriv_parts.specs.declared.known.Known.{Known}
use Rattle.deriv_parts.specs.declared.known.Known.TheVariants.{Yes, No, Open}
use Rattle.tor_axioms.specs.declared.facts.Literal.{Literal}
use Rattle.tor_axioms.specs.Decide.{or_else, by_shape, recorded, by_order, decide, decide_form}
use Rattle.tor_axioms.specs.Rules.{some_no, all_yes}
use Rattle.tor_prover.specs.Normal.{first_some, if_open, open_atom, where_open, first_open, met}

abbrev pub IsBelow : ℕ → Option ℕ → Type 0
IsBelow n None = Unit {0}
IsBelow n (Some k) = k < n

first_some-below : (n : ℕ) (o p : Option ℕ) → IsBelow n o → IsBelow n p → IsBelow n (first_some o p)
first_some-below n None p h g = g
first_some-below n (Some k) p h g = h

where_open-below : (n : ℕ) (k : Known) (o p : Option ℕ) → IsBelow n o → IsBelow n p → IsBelow n (where_open k o p)
where_open-below n Open o p h g = h
where_open-below n Yes o p h g = g
where_open-below n No o p h g = g

module _ (atoms : List Atom) (facts : List Literal) where
  if_open-below : (k : ℕ) → IsBelow (length atoms) (if_open (decide atoms facts k) k)
  if_open-below k = go (slice_get atoms k) refl
    where
      known : (x : Known) → k < length atoms → IsBelow (length atoms) (if_open x k)
      known Open h = h
      known Yes h = tt
      known No h = tt

      go : (o : Option Atom) → slice_get atoms k ≡ o → IsBelow (length atoms) (if_open (or_else (by_shape o) (or_else (recorded facts k) (by_order atoms facts o))) k)
      go None e = tt
      go (Some a) e = known (or_else (by_shape (Some a)) (or_else (recorded facts k) (by_order atoms facts (Some a)))) (slice_get_within atoms k a e)

  open_atom-below : (f : Form) → IsBelow (length atoms) (open_atom atoms facts f)
  open_atom-below (Is k s) = if_open-below k
  open_atom-below (Both f g) = first_some-below (length atoms) (open_atom atoms facts f) _ (open_atom-below f) (open_atom-below g)
  open_atom-below (Either f g) = first_some-below (length atoms) (open_atom atoms facts f) _ (open_atom-below f) (open_atom-below g)

  first_open-below : (fs : List Form) → IsBelow (length atoms) (first_open atoms facts fs)
  first_open-below [] = tt
  first_open-below (f ∷ fs) = where_open-below (length atoms) (decide_form atoms facts f) _ _ (open_atom-below f) (first_open-below fs)

  pub met-below : (t : Tree) → IsBelow (length atoms) (met atoms facts t)
  met-below (Sel fs (One a)) = go (some_no atoms facts fs || all_yes atoms facts fs)
    where
      go : (b : Bool) → IsBelow (length atoms) (cond b None (first_open atoms facts fs))
      go true = tt
      go false = first_open-below fs
  met-below _ = tt
