-- The children of a term by their numbers, which are counted from 0.
use Rattle.std.specs.Prelude.{ℕ, zero, suc}
use Rattle.std.specs.declared.option.Option.{Option}
use Rattle.std.specs.declared.option.Option.TheVariants.{Some, None}
use Rattle.tor_terms.specs.Plain.{Tree, Top, Cat, Join, Sel, Proj, Uniq, Insert, Count, Sum, Any, Best, Pick, Add, Or}
use Rattle.tor_axioms.specs.Paths.{only_child, left_or_right}

-- the child of a number
abbrev pub child_at : ℕ → Tree → Option Tree
child_at k (Top index r) = only_child k (Some r)
child_at k (Cat r s) = left_or_right k (Some r) (Some s)
child_at k (Join r s) = left_or_right k (Some r) (Some s)
child_at k (Sel fs r) = only_child k (Some r)
child_at k (Proj e r) = only_child k (Some r)
child_at k (Uniq r) = only_child k (Some r)
child_at k (Insert r e) = only_child k (Some r)
child_at k (Count r) = only_child k (Some r)
child_at k (Sum r) = only_child k (Some r)
child_at k (Any r) = only_child k (Some r)
child_at k (Best way v r) = left_or_right k (Some v) (Some r)
child_at k (Pick way v n) = left_or_right k (Some v) (Some n)
child_at k (Add a b) = left_or_right k (Some a) (Some b)
child_at k (Or a b) = left_or_right k (Some a) (Some b)
child_at k _ = None

abbrev pub first_or_second : ℕ → Tree → Tree → Tree
first_or_second zero t u = t
first_or_second (suc k) t u = u

-- a term with another child in the place of the one with a number, which is to be there
abbrev pub with_child_at : ℕ → Tree → Tree → Tree
with_child_at k (Top index r) x = Top index x
with_child_at k (Cat r s) x = Cat (first_or_second k x r) (first_or_second k s x)
with_child_at k (Join r s) x = Join (first_or_second k x r) (first_or_second k s x)
with_child_at k (Sel fs r) x = Sel fs x
with_child_at k (Proj e r) x = Proj e x
with_child_at k (Uniq r) x = Uniq x
with_child_at k (Insert r e) x = Insert x e
with_child_at k (Count r) x = Count x
with_child_at k (Sum r) x = Sum x
with_child_at k (Any r) x = Any x
with_child_at k (Best way v r) x = Best way (first_or_second k x v) (first_or_second k r x)
with_child_at k (Pick way v n) x = Pick way (first_or_second k x v) (first_or_second k n x)
with_child_at k (Add a b) x = Add (first_or_second k x a) (first_or_second k b x)
with_child_at k (Or a b) x = Or (first_or_second k x a) (first_or_second k b x)
with_child_at k _ x = x
