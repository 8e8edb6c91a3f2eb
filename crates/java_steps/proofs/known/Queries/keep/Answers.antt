use Rattle.std.proofs.Common.{◌≡◌, ap}
use Rattle.sql_ast.specs.Reading.{query}
use Rattle.java_steps.specs.IsRead.{IsRead, Queries}
use Rattle.java_steps.proofs.Readings.{kept_result}
use Rattle.java_steps.proofs.known.Queries.keep.Goals as goal

pub invariant_of-self : goal.invariant_of-self
invariant_of-self c =
    let same : c.self.inside.schema.now ≡ c.args.self.now.schema = ap (λ (q : Queries). q.schema) c.self.view_is in
    let i : IsRead c.self.inside.schema.now c.as_slice.result.now (query c.args.q.value) = rw (same, c.as_slice.ensures) c.requires in
    kept_result c.insert_full.result c.self.inside.schema.now c.as_slice.result c.args.q c.self.inside.known.entries c.insert_full.new.self.entries c.insert_full.ensures.entries c.insert_full.ensures.err i c.self.invariant
