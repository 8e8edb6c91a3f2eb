-- A number that each rule lowers.
use Rattle.std.specs.Prelude.{ℕ, ◌+◌, ◌*◌, ◌<◌, length}
use Rattle.std.specs.declared.option.Option.{Option}
use Rattle.std.specs.declared.option.Option.TheVariants.{Some, None}
use Rattle.tor_terms.specs.declared.term.Index.{Index}
use Rattle.tor_terms.specs.declared.term.Index.TheVariants as indexes
use Rattle.tor_terms.specs.Plain.{Tree, Top, Cat, Join, Sel, Proj, Uniq, Insert, Count, Sum, Any, Best, Pick, Add, Or}

abbrev pub index_weight : Index → ℕ
index_weight (indexes.Next j) = 18
index_weight _ = 1

abbrev pub weight : Tree → ℕ
weight (Top index r) = weight r + index_weight index
weight (Cat r s) = 2 * weight r + weight s + 1
weight (Join r s) = weight r * weight s
weight (Sel fs r) = (length fs + 2) * weight r
weight (Proj e r) = 2 * weight r
weight (Uniq r) = 2 * weight r
weight (Insert r e) = weight r + 1
weight (Count r) = 2 * weight r
weight (Sum r) = 2 * weight r
weight (Any r) = 2 * weight r
weight (Best way v r) = weight v + 3 * weight r
weight (Pick way v n) = weight v + weight n + 1
weight (Add a b) = 2 * weight a + weight b + 1
weight (Or a b) = 2 * weight a + weight b + 1
weight _ = 2

-- what a rule gives has less weight
abbrev pub Lowers : Tree → Option Tree → Type 0
Lowers t None = Unit {0}
Lowers t (Some u) = weight u < weight t
