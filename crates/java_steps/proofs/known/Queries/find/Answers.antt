use Rattle.std.proofs.Common.{ap, IfSome}
use Rattle.sql_ast.specs.Reading.{query}
use Rattle.java_steps.specs.IsRead.{IsRead, Queries}
use Rattle.java_steps.proofs.Readings.{found_here}
use Rattle.java_steps.proofs.known.Queries.find.Goals as goal

pub returns-in-Some : goal.returns-in-Some
returns-in-Some c =
    let found : IfSome c.at_place.result (λ q. IsRead c.args.self.now.schema c.args.text.now (query q.now.value)) = found_here c.self.inside.schema.now c.args.self.now.schema c.as_slice.result.now c.args.text.now c.self.inside.known.entries c.at_place.result c.self.invariant (ap (λ (q : Queries). q.schema) c.self.view_is) c.as_slice.ensures c.at_place.ensures in
    let here : IsRead c.args.self.now.schema c.args.text.now (query c.in-Some.q.now.value) = rw c.in-Some.is at found in
    rw c.deref.ensures here
