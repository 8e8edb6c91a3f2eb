use Rattle.std.proofs.Common.{rules, ◌≡◌, sym, ◌∙◌}
use Rattle.java_stretches.proofs.PatchesMade.{sibling_is}
use Rattle.java_stretches.proofs.patching.sibling.Goals as goal

pub returns-in_ok-push-in-Some : goal.returns-in_ok-push-in-Some
returns-in_ok-push-in-Some c =
    let copy : c.in_ok-steps.steps.items ≡ c.args.path.now = search rules in
    sibling_is c.args.path.now c.pop.new.self.items c.from_vec.result c.in-Some.field-0 c.args.number (sym copy ∙ c.in-Some.ensures.items) (c.from_vec.ensures ∙ c.in_ok-push-in-Some.ensures.items)
