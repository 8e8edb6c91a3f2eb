-- Rules at places in a term, and steps one after the other.
use Rattle.std.specs.Prelude.{ℕ, zero, suc, List, [], ◌∷◌}
use Rattle.std.specs.declared.option.Option.{Option}
use Rattle.std.specs.declared.option.Option.TheVariants.{Some, None}
use Rattle.tor_terms.specs.declared.term.Atom.{Atom}
use Rattle.tor_terms.specs.Plain.{Tree, Top, Cat, Join, Sel, Proj, Uniq, Insert, Count, Sum, Any, Best, Pick, Add, Or}
use Rattle.tor_axioms.specs.declared.derivation.Step.{Step}
use Rattle.tor_axioms.specs.declared.facts.Literal.{Literal}
use Rattle.tor_axioms.specs.Rules.{Rule, at_head}

abbrev pub within : (Tree → Tree) → Option Tree → Option Tree
within f None = None
within f (Some t) = Some (f t)

abbrev pub only_child : ℕ → Option Tree → Option Tree
only_child zero o = o
only_child (suc k) o = None

abbrev pub left_or_right : ℕ → Option Tree → Option Tree → Option Tree
left_or_right zero l r = l
left_or_right (suc zero) l r = r
left_or_right (suc (suc k)) l r = None

-- a rule at a path, whose numbers count the children from 0
abbrev pub at_path : Rule → List ℕ → Tree → Option Tree
at_path f [] t = f t
at_path f (k ∷ p) (Top index r) = only_child k (within (Top index) (at_path f p r))
at_path f (k ∷ p) (Cat r s) = left_or_right k (within (λ x. Cat x s) (at_path f p r)) (within (Cat r) (at_path f p s))
at_path f (k ∷ p) (Join r s) = left_or_right k (within (λ x. Join x s) (at_path f p r)) (within (Join r) (at_path f p s))
at_path f (k ∷ p) (Sel fs r) = only_child k (within (Sel fs) (at_path f p r))
at_path f (k ∷ p) (Proj e r) = only_child k (within (Proj e) (at_path f p r))
at_path f (k ∷ p) (Uniq r) = only_child k (within Uniq (at_path f p r))
at_path f (k ∷ p) (Insert r e) = only_child k (within (λ x. Insert x e) (at_path f p r))
at_path f (k ∷ p) (Count r) = only_child k (within Count (at_path f p r))
at_path f (k ∷ p) (Sum r) = only_child k (within Sum (at_path f p r))
at_path f (k ∷ p) (Any r) = only_child k (within Any (at_path f p r))
at_path f (k ∷ p) (Best way v r) = left_or_right k (within (λ x. Best way x r) (at_path f p v)) (within (Best way v) (at_path f p r))
at_path f (k ∷ p) (Pick way v n) = left_or_right k (within (λ x. Pick way x n) (at_path f p v)) (within (Pick way v) (at_path f p n))
at_path f (k ∷ p) (Add a b) = left_or_right k (within (λ x. Add x b) (at_path f p a)) (within (Add a) (at_path f p b))
at_path f (k ∷ p) (Or a b) = left_or_right k (within (λ x. Or x b) (at_path f p a)) (within (Or a) (at_path f p b))
at_path f (k ∷ p) _ = None

-- the rule of a number at a path
abbrev pub applied : List Atom → List Literal → ℕ → List ℕ → Tree → Option Tree
applied atoms facts n p t = at_path (at_head atoms facts n) p t

abbrev pub on_tree : Option Tree → (Tree → Option Tree) → Option Tree
on_tree None f = None
on_tree (Some t) f = f t

-- the term at the end of steps
abbrev pub run : List Atom → List Literal → List Step → Tree → Option Tree
run atoms facts [] t = Some t
run atoms facts (step ∷ steps) t = on_tree (applied atoms facts step.rule step.path t) (run atoms facts steps)
