use Rattle.std.proofs.Common.{◌≡◌, ◌∙◌, ap, nat_eq}
use Rattle.std.specs.Map.{lookup}
use Rattle.indexmap.specs.IndexMap.{insert_entry}
use Rattle.loop_text.specs.Sites.Groups.{or_none}
use Rattle.loop_text.proofs.Indexed.GroupedNumbers.{number_found, numbers_put}
use Rattle.loop_text.proofs.sites.groups.ByNumber.replace.Goals as goal

pub returns-in-Ok-clause-old : goal.returns-in-Ok-clause-old
returns-in-Ok-clause-old c =
    let e : c.in-Ok.old ≡ lookup (nat_eq c.args.key) c.self.inside.lists.entries = c.in-Ok.ensures.old in
    ap or_none e ∙ number_found c.args.key c.self.inside.lists.entries ∙ rw c.self.view_is

pub returns-in-Ok-clause-new : goal.returns-in-Ok-clause-new
returns-in-Ok-clause-new c =
    let e : c.insert.new.self.entries ≡ insert_entry nat_eq c.self.inside.lists.entries c.args.key c.args.list = c.in-Ok.ensures.entries in
    e ∙ numbers_put c.args.key c.args.list c.self.inside.lists.entries ∙ rw c.self.view_is
