-- What is decided of conditions.
use Rattle.std.specs.Prelude.{◌≡◌, List}
use Rattle.std.specs.declared.option.Option.TheVariants.{Some, None}
use Rattle.tor_axioms.specs.Accepts.{Claim}
use Rattle.query_search.specs.declared.deciding.Decision.{Decision}
use Rattle.query_search.specs.declared.deciding.Decision.TheVariants.{Derived, Failing, Nothing}
use Rattle.query_search.specs.Seen.{proofs_in}
use Rattle.query_search.specs.Verdicts.{all_derived}

-- these derivations are those of all, or not all have one
abbrev pub IsDecisionOn : List Claim → Decision → Type 0
IsDecisionOn cs (Derived proofs) = all_derived cs ≡ Some (proofs_in proofs)
IsDecisionOn cs (Failing n) = all_derived cs ≡ None
IsDecisionOn cs Nothing = Unit {0}
