use Rattle.std.proofs.Common.{subst}
use Rattle.java_mean.specs.Expression.{value_of}
use Rattle.java_calls.specs.Renaming.{renamed}
use Rattle.java_calls.proofs.Under.{Under, under_value}
use Rattle.java_calls.proofs.laws.renamed_expressions_have_their_values.Goals as goal

pub returns : goal.returns
returns c f t s includes w e v h = subst (λ o. Under o (value_of (renamed f e) w s)) h (under_value f t s includes w e)
