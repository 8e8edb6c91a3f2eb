use Rattle.std.proofs.Common.{◌≡◌, ap}
use Rattle.java_steps.specs.declared.held.Variable.{Variable}
use Rattle.java_steps.proofs.Stored.{put_over}
use Rattle.java_steps.proofs.store.put_held.Goals as goal

pub returns-clause-set : goal.returns-clause-set
returns-clause-set c h =
    let was : c.in-Some.variable.now ≡ c.put_there.result = c.put_there.ensures.was c.in-Some.variable.now c.in-Some.ensures.found in
    put_over c.args.variables.now.entries c.args.name c.put_there.result (record { held = c.args.held; is_set = c.in-Some.variable.now.is_set }) c.put_there.new.map.entries c.put_there.ensures.old c.put_there.ensures.entries (ap (λ (v : Variable). v.is_set) was)
