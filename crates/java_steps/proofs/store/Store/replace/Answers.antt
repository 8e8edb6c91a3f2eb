use Rattle.std.proofs.Common.{◌≡◌, ◌∙◌, ap}
use Rattle.std.specs.Map.{lookup}
use Rattle.std.specs.Option.{option_map}
use Rattle.indexmap.specs.IndexMap.{insert_entry}
use Rattle.java_steps.specs.Held.{seen, variable_in}
use Rattle.java_steps.specs.Placed.{test, same}
use Rattle.java_steps.proofs.Stored.{get_lem, put_lem}
use Rattle.java_steps.proofs.store.Store.replace.Goals as goal

pub returns-clause-old : goal.returns-clause-old
returns-clause-old c =
    let e : c.in_ok-put.put.1 ≡ lookup (test c.as_slice-name.result.now) c.self.inside.variables.entries = c.in_ok-put.ensures.old in
    ap (option_map variable_in) e ∙ get_lem c.as_slice-name.result.now c.self.inside.variables.entries ∙ rw (c.as_slice-name.ensures, c.self.view_is)

pub returns-clause-stored : goal.returns-clause-stored
returns-clause-stored c =
    let e : c.put_at_place.new.map.entries ≡ insert_entry same c.self.inside.variables.entries c.as_slice-name.result c.args.variable = c.in_ok-put.ensures.entries in
    ap seen e ∙ put_lem c.as_slice-name.result c.args.variable c.self.inside.variables.entries ∙ rw (c.as_slice-name.ensures, c.self.view_is)
