use Rattle.std.proofs.Common.{◌≡◌, ◌∙◌, ap}
use Rattle.std.specs.Map.{lookup}
use Rattle.std.specs.Option.{option_copied, option_map}
use Rattle.java_steps.specs.Held.{variable_in}
use Rattle.java_steps.specs.Placed.{test}
use Rattle.java_steps.proofs.Stored.{get_lem}
use Rattle.java_steps.proofs.store.Store.get.Goals as goal

pub returns : goal.returns
returns c =
    let e : option_copied c.at_place.result ≡ lookup (test c.as_slice-2.result.now) c.self.inside.variables.entries = c.at_place.ensures in
    ap (option_map variable_in) e ∙ get_lem c.as_slice-2.result.now c.self.inside.variables.entries ∙ rw (c.as_slice-2.ensures, c.self.view_is)
