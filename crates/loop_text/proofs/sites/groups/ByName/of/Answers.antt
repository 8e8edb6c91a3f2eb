use Rattle.std.proofs.Common.{◌∙◌, ap, ◌≡◌, Some, None}
use Rattle.std.specs.Map.{lookup}
use Rattle.loop_text.specs.Sites.Groups.{or_none}
use Rattle.loop_text.proofs.Indexed.GroupedNames.{name_found, test}
use Rattle.loop_text.proofs.sites.groups.ByName.of.Goals as goal

pub returns-in-Some : goal.returns-in-Some
returns-in-Some g c =
    let e : Some c.in-Some.list.now ≡ lookup (test c.as_slice.result.now) c.self.inside.lists.entries = c.in-Some.ensures.value in
    c.as_slice-in-Some.ensures ∙ ap or_none e ∙ name_found c.as_slice.result.now c.self.inside.lists.entries ∙ rw (c.as_slice.ensures, c.self.view_is)

pub returns-in-None : goal.returns-in-None
returns-in-None g c =
    let e : None ≡ lookup (test c.as_slice.result.now) c.self.inside.lists.entries = c.in-None.ensures.value in
    ap or_none e ∙ name_found c.as_slice.result.now c.self.inside.lists.entries ∙ rw (c.as_slice.ensures, c.self.view_is)
