-- The reader of texts.
use Rattle.java_mean.proofs.TextReader.{text_reader}
use Rattle.java_mean.proofs.laws.texts_have_a_reader.Goals as goal

pub returns : goal.returns
returns c = text_reader
