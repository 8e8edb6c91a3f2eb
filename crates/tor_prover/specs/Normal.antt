-- The normal form of a term under facts, with the steps that lead to it.
use Rattle.std.specs.Prelude.{ℕ, zero, suc, ◌+◌, cond, ◌||◌, List, [], ◌∷◌, ◌++◌, map}
use Rattle.std.specs.declared.option.Option.{Option}
use Rattle.std.specs.declared.option.Option.TheVariants.{Some, None}
use Rattle.tor_terms.specs.declared.term.Atom.{Atom}
use Rattle.tor_terms.specs.Plain.{Form, Is, Both, Either, Tree, Top, One, Cat, Join, Sel, Proj, Uniq, Insert, Count, Sum, Any, Best, Pick, Add, Or}
use Rattle.tor_axioms.specs.declared.derivation.Step.{Step}
use Rattle.deriv_parts.specs.declared.known.Known.{Known}
use Rattle.deriv_parts.specs.declared.known.Known.TheVariants.{Open}
use Rattle.tor_axioms.specs.declared.facts.Literal.{Literal}
use Rattle.tor_axioms.specs.Decide.{decide, decide_form}
use Rattle.tor_axioms.specs.Rules.{Rule, rules, some_no, all_yes}
use Rattle.tor_axioms.specs.Weight.{weight}

-- a normal form with the steps that lead to it, in the order applied, or the open atom that is met
pub data Outcome : Type 0 where
  Normal : Tree → List Step → Outcome
  Meets : ℕ → Outcome

-- a term taken apart: its children, and the term that others in their place would make
pub data Parts : Type 0 where
  NoChild : Tree → Parts
  OneChild : (Tree → Tree) → Tree → Parts
  TwoChildren : (Tree → Tree → Tree) → Tree → Tree → Parts

abbrev pub parts : Tree → Parts
parts (Top index r) = OneChild (Top index) r
parts (Sel fs r) = OneChild (Sel fs) r
parts (Proj e r) = OneChild (Proj e) r
parts (Uniq r) = OneChild Uniq r
parts (Insert r e) = OneChild (λ x. Insert x e) r
parts (Count r) = OneChild Count r
parts (Sum r) = OneChild Sum r
parts (Any r) = OneChild Any r
parts (Cat r s) = TwoChildren Cat r s
parts (Join r s) = TwoChildren Join r s
parts (Best way v r) = TwoChildren (Best way) v r
parts (Pick way v n) = TwoChildren (Pick way) v n
parts (Add a b) = TwoChildren Add a b
parts (Or a b) = TwoChildren Or a b
parts t = NoChild t

-- steps in the child of a number, as steps in the whole term
abbrev pub in_place : ℕ → Step → Step
in_place k step = record { rule = step.rule; path = k ∷ step.path }

abbrev pub below : ℕ → List Step → List Step
below k steps = map (in_place k) steps

abbrev pub after_steps : List Step → Outcome → Outcome
after_steps steps (Normal t more) = Normal t (steps ++ more)
after_steps steps (Meets k) = Meets k

-- a term whose one child has this outcome
abbrev pub with_child : (Tree → Tree) → Outcome → Outcome
with_child around (Normal u steps) = Normal (around u) (below 0 steps)
with_child around (Meets k) = Meets k

-- a term whose children have these outcomes, the left one first
abbrev pub with_children : (Tree → Tree → Tree) → Outcome → Outcome → Outcome
with_children around (Normal u steps) (Normal v more) = Normal (around u v) (below 0 steps ++ below 1 more)
with_children around (Normal u steps) (Meets k) = Meets k
with_children around (Meets k) right = Meets k

-- the term with its children in normal form
abbrev pub normal_parts : (Tree → Outcome) → Parts → Outcome
normal_parts normal (NoChild t) = Normal t []
normal_parts normal (OneChild around r) = with_child around (normal r)
normal_parts normal (TwoChildren around r s) = with_children around (normal r) (normal s)

-- the first rule by number that matches at the head, and what it gives
abbrev pub first_from : ℕ → List Rule → Tree → Option (ℕ × Tree)
first_from k [] t = None
first_from k (f ∷ fs) t = elim (f t) [ Some u ↦ Some (k, u) | None ↦ first_from (k + 1) fs t ]

abbrev pub first_rule : List Atom → List Literal → Tree → Option (ℕ × Tree)
first_rule atoms facts t = first_from 1 (rules atoms facts) t

abbrev pub first_some : Option ℕ → Option ℕ → Option ℕ
first_some (Some k) o = Some k
first_some None o = o

abbrev pub if_open : Known → ℕ → Option ℕ
if_open Open k = Some k
if_open _ k = None

-- the first open atom of a formula, from left to right
abbrev pub open_atom : List Atom → List Literal → Form → Option ℕ
open_atom atoms facts (Is k s) = if_open (decide atoms facts k) k
open_atom atoms facts (Both f g) = first_some (open_atom atoms facts f) (open_atom atoms facts g)
open_atom atoms facts (Either f g) = first_some (open_atom atoms facts f) (open_atom atoms facts g)

abbrev pub where_open : Known → Option ℕ → Option ℕ → Option ℕ
where_open Open o later = o
where_open _ o later = later

-- the first open atom of the first open formula
abbrev pub first_open : List Atom → List Literal → List Form → Option ℕ
first_open atoms facts [] = None
first_open atoms facts (f ∷ fs) = where_open (decide_form atoms facts f) (open_atom atoms facts f) (first_open atoms facts fs)

-- the open atom that a term meets at its head: where neither rule on the selection of one tuple applies
abbrev pub met : List Atom → List Literal → Tree → Option ℕ
met atoms facts (Sel fs (One a)) = cond (some_no atoms facts fs || all_yes atoms facts fs) None (first_open atoms facts fs)
met atoms facts _ = None

abbrev pub unless_met : Option ℕ → Outcome → Outcome
unless_met (Some k) outcome = Meets k
unless_met None outcome = outcome

abbrev pub step_at_head : ℕ → List Step
step_at_head rule = record { rule = rule; path = [] } ∷ []

-- what the rule gives is brought to normal form in turn; without a rule the term is normal
abbrev pub rewritten : (Tree → Outcome) → Tree → Option (ℕ × Tree) → Outcome
rewritten normal t None = Normal t []
rewritten normal t (Some found) = after_steps (step_at_head found.0) (normal found.1)

-- a term whose children are normal
abbrev pub at_head : List Atom → List Literal → (Tree → Outcome) → Tree → Outcome
at_head atoms facts normal t = unless_met (met atoms facts t) (rewritten normal t (first_rule atoms facts t))

abbrev pub then_head : List Atom → List Literal → (Tree → Outcome) → Outcome → Outcome
then_head atoms facts normal (Normal u steps) = after_steps steps (at_head atoms facts normal u)
then_head atoms facts normal (Meets k) = Meets k

-- The children from left to right, and then the head: a term's normal form, made of the normal forms of
-- lighter terms.
abbrev pub made : List Atom → List Literal → (Tree → Outcome) → Tree → Outcome
made atoms facts normal t = then_head atoms facts normal (normal_parts normal (parts t))

-- Each rule lowers the weight and each child is lighter, so that this bound is never come to: the normal form
-- of t is `made atoms facts (normal_form atoms facts) t`.
abbrev pub normal_within : List Atom → List Literal → ℕ → Tree → Outcome
normal_within atoms facts zero t = Normal t []
normal_within atoms facts (suc n) t = made atoms facts (normal_within atoms facts n) t

unfoldable pub normal_form : List Atom → List Literal → Tree → Outcome
normal_form atoms facts t = normal_within atoms facts (weight t) t
