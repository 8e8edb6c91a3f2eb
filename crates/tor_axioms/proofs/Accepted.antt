-- What is accepted has one value on both sides.
use Rattle.std.proofs.Common.{◌≡◌, Bool, true, false, List, [], ◌∷◌, length, nat_lt, refl, sym, ap, ◌∙◌}
use Rattle.std.specs.declared.option.Option.{Option}
use Rattle.std.specs.declared.option.Option.TheVariants.{Some, None}
use Rattle.tor_terms.specs.declared.term.Atom.{Atom}
use Rattle.tor_terms.specs.Plain.{Tree}
use Rattle.tor_terms.specs.Truth.{World, truth}
use Rattle.tor_terms.specs.Value.{value}
use Rattle.tor_terms.specs.Worlds.{world_of}
use Rattle.tor_terms.proofs.Identical.{same_tree-true}
use Rattle.tor_axioms.specs.declared.derivation.Step.{Step}
use Rattle.tor_axioms.specs.declared.facts.Literal.{Literal}
use Rattle.tor_axioms.specs.Accepts.{Proof, Steps, Split, Absurd, same_ends, accepted, Claim, accepts, IsSound}
use Rattle.tor_axioms.specs.Decide.{Satisfied, literal, with_fact, with_facts}
use Rattle.tor_axioms.specs.Keeps.{IsReady, Keeps}
use Rattle.tor_axioms.specs.Paths.{applied, on_tree, run}
use Rattle.tor_axioms.specs.Validity.{IsValid, IsValidAnywhere}
use Rattle.tor_axioms.proofs.Decided.{and_left, and_right, Hold, with_fact-holds, with_facts-hold}
use Rattle.tor_axioms.proofs.Kept.{applied-keeps}
use Rattle.tor_axioms.proofs.Ready.{valid-ready}

module _ (w : World) (atoms : List Atom) where
  -- the end of steps has the value of their start
  abbrev Ends : Tree → Option Tree → Type 0
  Ends t None = Unit {0}
  Ends t (Some u) = value w atoms u ≡ value w atoms t

  run-ends : (facts : List Literal) → Satisfied w atoms facts → (steps : List Step) (t : Tree) → IsReady w t → Ends t (run atoms facts steps t)
  run-ends facts h [] t ready = refl
  run-ends facts h (s ∷ steps) t ready = go (applied atoms facts s.rule s.path t) (applied-keeps w atoms facts h s.rule s.path t) (λ u r. run-ends facts h steps u r)
    where
      again : (u : Tree) → value w atoms u ≡ value w atoms t → (o : Option Tree) → Ends u o → Ends t o
      again u e None h = tt
      again u e (Some x) h = h ∙ e

      go : (o : Option Tree) → Keeps w atoms t o → ((u : Tree) → IsReady w u → Ends u (run atoms facts steps u)) → Ends t (on_tree o (run atoms facts steps))
      go None k rest = tt
      go (Some u) k rest = let kept = k ready in again u kept.same (run atoms facts steps u) (rest u kept.ready)

  ends_meet : (l r : Tree) (o p : Option Tree) → Ends l o → Ends r p → same_ends o p ≡ true → value w atoms l ≡ value w atoms r
  ends_meet l r None p h g e = cc
  ends_meet l r (Some t) None h g e = cc
  ends_meet l r (Some t) (Some u) h g e = sym h ∙ ap (value w atoms) (same_tree-true t u e) ∙ g

  -- one of the branches of a split has facts that hold
  accepted-same : (o : Option (List Literal)) (d : Proof) (l r : Tree) → Hold w atoms o → IsReady w l → IsReady w r → accepted atoms o d l r ≡ true → value w atoms l ≡ value w atoms r
  accepted-same None d l r h a b e = absurd h
  accepted-same (Some facts) (Steps p q) l r h a b e = ends_meet l r _ _ (run-ends facts h p l a) (run-ends facts h q r b) e
  accepted-same (Some facts) (Split k y n) l r h a b e =
      let f = and_right (nat_lt k (length atoms)) _ e in
      go (truth w atoms w.current k) refl (and_left (accepted atoms (with_fact atoms facts (literal k true)) y l r) _ f) (and_right (accepted atoms (with_fact atoms facts (literal k true)) y l r) _ f) (λ g. accepted-same (with_fact atoms facts (literal k true)) y l r g a b) (λ g. accepted-same (with_fact atoms facts (literal k false)) n l r g a b)
    where
      go : (t : Bool) → truth w atoms w.current k ≡ t
          → accepted atoms (with_fact atoms facts (literal k true)) y l r ≡ true
          → accepted atoms (with_fact atoms facts (literal k false)) n l r ≡ true
          → (Hold w atoms (with_fact atoms facts (literal k true)) → accepted atoms (with_fact atoms facts (literal k true)) y l r ≡ true → value w atoms l ≡ value w atoms r)
          → (Hold w atoms (with_fact atoms facts (literal k false)) → accepted atoms (with_fact atoms facts (literal k false)) n l r ≡ true → value w atoms l ≡ value w atoms r)
          → value w atoms l ≡ value w atoms r
      go true q s t f g = f (with_fact-holds w atoms facts (literal k true) h q) s
      go false q s t f g = g (with_fact-holds w atoms facts (literal k false) h q) t
  accepted-same (Some facts) Absurd l r h a b e = cc

pub accepts-sound : (c : Claim) (d : Proof) → accepts c d ≡ true → IsSound c
accepts-sound c d e = λ w h a b. accepted-same w c.atoms (with_facts c.atoms [] c.facts) d c.left c.right (with_facts-hold w c.atoms c.facts [] tt h) a b e

pub sound-anywhere : (c : Claim) → IsSound c → IsValidAnywhere c
sound-anywhere c sound = λ w left right facts. sound w facts (valid-ready w c.left left) (valid-ready w c.right right)

-- what holds in every world holds in those of environments that the terms fit
pub anywhere-valid : (c : Claim) → IsValidAnywhere c → IsValid c
anywhere-valid c h = λ env left right fits_left fits_right facts. h (world_of env) left right facts

pub accepts-anywhere : (c : Claim) (d : Proof) → accepts c d ≡ true → IsValidAnywhere c
accepts-anywhere c d e = sound-anywhere c (accepts-sound c d e)

pub accepts-valid : (c : Claim) (d : Proof) → accepts c d ≡ true → IsValid c
accepts-valid c d e = anywhere-valid c (accepts-anywhere c d e)
