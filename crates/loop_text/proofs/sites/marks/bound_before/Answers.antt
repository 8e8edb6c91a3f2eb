use Rattle.std.specs.Option.{option_copied}
use Rattle.std.proofs.Common.{◌∙◌, ap, sym}
use Rattle.loop_text.specs.Sites.Sites.{Outer}
use Rattle.loop_text.specs.Sites.Bound.{last_below}
use Rattle.loop_text.specs.Sites.Groups.{under_name}
use Rattle.loop_text.specs.Kernel.KernelStatements.{target_bound}
use Rattle.loop_text.proofs.Indexed.BoundFound.{bound_found}
use Rattle.loop_text.proofs.sites.marks.bound_before.Goals as goal

pub returns-in-Some : goal.returns-in-Some
returns-in-Some c all bound =
    bound_found c.in-Some.x.now c.args.n all (under_name c.args.binders.now c.in-Some.x.now) c.last_below.result (bound c.in-Some.x.now)
    (c.last_below.ensures ∙ ap (last_below c.args.n Outer) c.of.ensures)
    ∙ sym (ap (λ o. target_bound all c.args.n (option_copied o)) c.in-Some.is)
