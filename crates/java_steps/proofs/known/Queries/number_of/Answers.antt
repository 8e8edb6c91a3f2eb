use Rattle.std.proofs.Common.{ap}
use Rattle.java_steps.specs.IsRead.{Queries}
use Rattle.java_steps.proofs.Readings.{known_text}
use Rattle.java_steps.proofs.known.Queries.number_of.Goals as goal

pub returns : goal.returns
returns c =
    known_text c.self.inside.schema.now c.args.self.now.schema c.as_slice.result.now c.args.text.now c.self.inside.known.entries c.get_index_of.result c.self.invariant (ap (λ (q : Queries). q.schema) c.self.view_is) c.as_slice.ensures c.get_index_of.ensures.found
