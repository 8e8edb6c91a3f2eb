use Rattle.std.proofs.Common.{◌∙◌, nat_eq, ap, ◌≡◌, Some, None}
use Rattle.std.specs.Map.{lookup}
use Rattle.loop_text.specs.Sites.Groups.{or_none}
use Rattle.loop_text.proofs.Indexed.GroupedNumbers.{number_found}
use Rattle.loop_text.proofs.sites.groups.ByNumber.of.Goals as goal

pub returns-in-Some : goal.returns-in-Some
returns-in-Some c =
    let e : Some c.in-Some.list.now ≡ lookup (nat_eq c.args.key) c.self.inside.lists.entries = c.in-Some.ensures.value in
    c.as_slice.ensures ∙ ap or_none e ∙ number_found c.args.key c.self.inside.lists.entries ∙ rw c.self.view_is

pub returns-in-None : goal.returns-in-None
returns-in-None c =
    let e : None ≡ lookup (nat_eq c.args.key) c.self.inside.lists.entries = c.in-None.ensures.value in
    ap or_none e ∙ number_found c.args.key c.self.inside.lists.entries ∙ rw c.self.view_is
