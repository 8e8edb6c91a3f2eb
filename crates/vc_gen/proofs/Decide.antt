-- A formula has a truth only where the atoms of one of its paths to that truth have theirs.
use Rattle.std.proofs.Common.{◌≡◌, ℕ, Bool, true, false, not, ◌&&◌, ◌||◌, List, [], ◌∷◌, ◌++◌, map, ◌⊎◌, inl, inr, refl, ap, ◌∙◌}
use Rattle.std.specs.declared.option.Option.{Option}
use Rattle.std.specs.declared.option.Option.TheVariants.{Some, None}
use Rattle.qbs_base.specs.declared.scalar.Row.{Row}
use Rattle.tor_terms.specs.declared.term.Atom.{Atom}
use Rattle.tor_terms.specs.Plain.{Form, Is, Both, Either}
use Rattle.tor_terms.specs.Truth.{Datum, World, truth, same_bool, holds}
use Rattle.tor_axioms.specs.Decide.{Satisfied}
use Rattle.tor_axioms.proofs.Decided.{and_left, and_right}
use Rattle.kernel_lang.specs.Paths.{Path, each_with, paths, guard_paths}
use Rattle.kernel_lang.specs.Running.{passes}
use Rattle.vc_gen.specs.Conditions.{facts_of}
use Rattle.vc_gen.proofs.Alike.{at, truth_same}

-- the truth that an atom has where a literal on it has the one wanted
was : (t s want : Bool) → same_bool t s ≡ want → t ≡ same_bool s want
was true true want h = h
was true false want h = ap not h
was false true want h = h
was false false want h = ap not h

module _ (b : World) (atoms : List Atom) (rows : ℕ → Row) where
  -- the atoms of a path have its truths
  abbrev pub Follows : Path → Type 0
  Follows [] = Unit {0}
  Follows (x ∷ p) = (truth b atoms rows x.0 ≡ x.1) × Follows p

  -- those of one of the paths
  abbrev pub Reached : List Path → Type 0
  Reached [] = ⊥
  Reached (p ∷ ps) = Follows p ⊎ Reached ps

  pub follows_both : (p q : Path) → Follows p → Follows q → Follows (p ++ q)
  follows_both [] q h g = g
  follows_both (x ∷ p) q h g = (h.0, follows_both p q h.1 g)

  reached_left : (ps qs : List Path) → Reached ps → Reached (ps ++ qs)
  reached_left [] qs h = absurd h
  reached_left (p ∷ ps) qs h = elim h [ inl s ↦ inl s | inr r ↦ inr (reached_left ps qs r) ]

  reached_right : (ps qs : List Path) → Reached qs → Reached (ps ++ qs)
  reached_right [] qs h = h
  reached_right (p ∷ ps) qs h = inr (reached_right ps qs h)

  reached_map : (p : Path) (qs : List Path) → Follows p → Reached qs → Reached (map (λ q. p ++ q) qs)
  reached_map p [] s h = h
  reached_map p (q ∷ qs) s h = elim h [ inl g ↦ inl (follows_both p q s g) | inr r ↦ inr (reached_map p qs s r) ]

  pub reached_with : (ps qs : List Path) → Reached ps → Reached qs → Reached (each_with ps qs)
  reached_with [] qs h g = absurd h
  reached_with (p ∷ ps) qs h g =
      elim h [ inl s ↦ reached_left (map (λ q. p ++ q) qs) (each_with ps qs) (reached_map p qs s g) | inr r ↦ reached_right (map (λ q. p ++ q) qs) (each_with ps qs) (reached_with ps qs r g) ]

  reached : (f : Form) (want : Bool) → holds b atoms rows f ≡ want → Reached (paths f want)
  reached (Is k s) want h = inl (was (truth b atoms rows k) s want h, tt)
  reached (Both f g) true h =
      reached_with (paths f true) (paths g true) (reached f true (and_left (holds b atoms rows f) (holds b atoms rows g) h)) (reached g true (and_right (holds b atoms rows f) (holds b atoms rows g) h))
  reached (Both f g) false h = go (holds b atoms rows f) refl h (reached f) (reached g)
    where
      go : (x : Bool) → holds b atoms rows f ≡ x → (x && holds b atoms rows g) ≡ false
          → ((want : Bool) → holds b atoms rows f ≡ want → Reached (paths f want)) → ((want : Bool) → holds b atoms rows g ≡ want → Reached (paths g want))
          → Reached (paths f false ++ each_with (paths f true) (paths g false))
      go false e h p q = reached_left (paths f false) (each_with (paths f true) (paths g false)) (p false e)
      go true e h p q = reached_right (paths f false) (each_with (paths f true) (paths g false)) (reached_with (paths f true) (paths g false) (p true e) (q false h))
  reached (Either f g) true h = go (holds b atoms rows f) refl h (reached f) (reached g)
    where
      go : (x : Bool) → holds b atoms rows f ≡ x → (x || holds b atoms rows g) ≡ true
          → ((want : Bool) → holds b atoms rows f ≡ want → Reached (paths f want)) → ((want : Bool) → holds b atoms rows g ≡ want → Reached (paths g want))
          → Reached (paths f true ++ each_with (paths f false) (paths g true))
      go true e h p q = reached_left (paths f true) (each_with (paths f false) (paths g true)) (p true e)
      go false e h p q = reached_right (paths f true) (each_with (paths f false) (paths g true)) (reached_with (paths f false) (paths g true) (p false e) (q true h))
  reached (Either f g) false h = go (holds b atoms rows f) refl h (reached f) (reached g)
    where
      go : (x : Bool) → holds b atoms rows f ≡ x → (x || holds b atoms rows g) ≡ false
          → ((want : Bool) → holds b atoms rows f ≡ want → Reached (paths f want)) → ((want : Bool) → holds b atoms rows g ≡ want → Reached (paths g want))
          → Reached (each_with (paths f false) (paths g false))
      go false e h p q = reached_with (paths f false) (paths g false) (p false e) (q false h)
      go true e h p q = absurd cc

  pub guard_reached : (g : Option Form) (want : Bool) → passes b atoms rows g ≡ want → Reached (guard_paths g want)
  guard_reached None true h = inl tt
  guard_reached None false h = absurd cc
  guard_reached (Some f) want h = reached f want h

  -- a path that is followed is satisfied in each world at these rows
  pub satisfied : (turns : ℕ → ℕ) (held : ℕ → List Datum) (p : Path) → Follows p → Satisfied (at b turns rows held) atoms (facts_of p)
  satisfied turns held [] h = tt
  satisfied turns held (x ∷ p) h = (truth_same (at b turns rows held) b refl refl atoms rows refl x.0 ∙ h.0, satisfied turns held p h.1)
