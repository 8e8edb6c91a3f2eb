use Rattle.java_types.proofs.Found.{found_exactly}
use Rattle.java_types.proofs.laws.query_texts_are_read_exactly.Goals as goal

pub returns : goal.returns
returns c = found_exactly
