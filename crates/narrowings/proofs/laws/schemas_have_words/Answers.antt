use Rattle.narrowings.proofs.Named.{have_words}
use Rattle.narrowings.proofs.laws.schemas_have_words.Goals as goal

pub returns : goal.returns
returns c = have_words
