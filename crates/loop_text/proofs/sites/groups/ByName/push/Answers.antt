use Rattle.std.proofs.Common.{◌∙◌}
use Rattle.loop_text.proofs.Indexed.GroupedNames.{put_back}
use Rattle.loop_text.proofs.sites.groups.ByName.push.Goals as goal

pub returns : goal.returns
returns g c =
    put_back c.args.self.now c.replace.new.self c.replace-2.new.self c.args.name.now c.args.item c.or_none-list.result c.push.new.self
    (c.or_none-list.ensures ∙ c.in_ok-replace.ensures.old)
    (rw c.new.ensures at c.in_ok-replace.ensures.new)
    c.in_ok-push.ensures.ok
    c.in_ok-replace-2.ensures.new
