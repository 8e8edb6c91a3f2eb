-- The run and the loop give way to what asks for the fragment's values.
use Rattle.java_loops.proofs.Meant.MeanGives.{loop_gives_way}
use Rattle.java_loops.proofs.meaning.text_stands_for_loops.Goals as goal

pub returns : goal.returns
returns c = loop_gives_way
