use Rattle.java_calls.proofs.WithoutCalls.{same_meaning, same_outcome}
use Rattle.java_calls.proofs.laws.statements_without_calls_mean_the_same.Goals as goal

pub returns : goal.returns
returns c = record { meaning = same_meaning; outcome = same_outcome }
