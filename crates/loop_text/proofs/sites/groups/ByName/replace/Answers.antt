use Rattle.std.proofs.Common.{◌≡◌, ◌∙◌, ap}
use Rattle.std.specs.Map.{lookup}
use Rattle.indexmap.specs.IndexMap.{insert_entry}
use Rattle.loop_text.specs.Sites.Groups.{or_none}
use Rattle.loop_text.proofs.Indexed.GroupedNames.{name_found, list_put, seen, test, same}
use Rattle.loop_text.proofs.sites.groups.ByName.replace.Goals as goal

pub returns-in-Ok-clause-old : goal.returns-in-Ok-clause-old
returns-in-Ok-clause-old g c =
    let e : c.in-Ok.old ≡ lookup (test c.as_slice.result.now) c.self.inside.lists.entries = c.in-Ok.ensures.old in
    ap or_none e ∙ name_found c.as_slice.result.now c.self.inside.lists.entries ∙ rw (c.as_slice.ensures, c.self.view_is)

pub returns-in-Ok-clause-new : goal.returns-in-Ok-clause-new
returns-in-Ok-clause-new g c =
    let e : c.insert.new.self.entries ≡ insert_entry same c.self.inside.lists.entries c.as_slice.result c.args.list = c.in-Ok.ensures.entries in
    ap seen e ∙ list_put c.as_slice.result c.args.list c.self.inside.lists.entries ∙ rw (c.as_slice.ensures, c.self.view_is)
