use Rattle.call_reader.proofs.Without.{stay}
use Rattle.call_reader.proofs.once.tokens_without_calls_stay.Goals as goal

pub returns : goal.returns
returns c = stay
