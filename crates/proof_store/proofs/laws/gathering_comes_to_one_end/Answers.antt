use Rattle.std.specs.Prelude.{take}
use Rattle.templates.specs.Numbered.{candidates_of}
use Rattle.query_search.specs.Verdicts.{before}
use Rattle.proof_store.proofs.Outcomes.{gathers_one}
use Rattle.proof_store.proofs.laws.gathering_comes_to_one_end.Goals as goal

pub returns : goal.returns
returns c = λ schema size f v items a b p q. gathers_one schema f (take (before v) (candidates_of f size)) items a b p q
