-- Counts of an answer, by other causes.
use Rattle.std.proofs.Common.{ℕ, Result, Ok, Err, IfOk}
use Rattle.query_search.specs.declared.found.Found.{Found}
use Rattle.query_search.specs.Counted.{AreCounted}
use Rattle.query_search.specs.Seen.{dropped_in}
use Rattle.query_search.proofs.Counts.{counts-map}

pub counted-by : (D K E L : ℕ → Type 0) {X : Type 0} (end : ℕ) (r : Result Found X) → IfOk r (λ r. AreCounted D K 0 end (dropped_in r)) → ((k : ℕ) → D k → E k) → ((k : ℕ) → K k → L k)
    → IfOk r (λ r. AreCounted E L 0 end (dropped_in r))
counted-by D K E L end (Ok r) h f g = counts-map f g 0 end (dropped_in r) h
counted-by D K E L end (Err x) h f g = tt
