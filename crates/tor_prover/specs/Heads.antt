-- The rules that may match a term, by its head: the number of the first, and one more than the last's.
use Rattle.std.specs.Prelude.{ℕ}
use Rattle.tor_terms.specs.Plain.{Tree, Top, Cat, Join, Sel, Proj, Uniq, Count, Sum, Any, Best, Add, Or}

abbrev pub head_rules : Tree → ℕ × ℕ
head_rules (Top index r) = (1, 4)
head_rules (Cat r s) = (4, 7)
head_rules (Join r s) = (7, 13)
head_rules (Sel fs r) = (13, 20)
head_rules (Proj e r) = (20, 23)
head_rules (Uniq r) = (23, 25)
head_rules (Count r) = (25, 28)
head_rules (Sum r) = (28, 31)
head_rules (Best way v r) = (31, 34)
head_rules (Any r) = (34, 37)
head_rules (Add a b) = (37, 40)
head_rules (Or a b) = (40, 45)
head_rules _ = (1, 1)
