-- The lowered fragment of a loop of the kernel form fits the schema.
use Rattle.java_loops.proofs.Typing.TypedFragment.{fragment_fits}
use Rattle.java_loops.proofs.meaning.lowered_fragments_fit_the_schema.Goals as goal

pub returns : goal.returns
returns c = fragment_fits
