use Rattle.std.proofs.Common.{◌∙◌, ◌≡◌, Some, None}
use Rattle.std.specs.Map.{lookup}
use Rattle.call_rules.proofs.Numbers.{at_lem, test}
use Rattle.call_rules.proofs.helpers.Numbered.of.Goals as goal

pub returns-in-Some : goal.returns-in-Some
returns-in-Some c =
    let e : Some c.in-Some.number.now ≡ lookup (test c.as_slice.result.now) c.self.inside.numbers.entries = c.in-Some.ensures.value in
    e ∙ at_lem c.as_slice.result.now c.self.inside.numbers.entries ∙ rw (c.as_slice.ensures, c.self.view_is)

pub returns-in-None : goal.returns-in-None
returns-in-None c =
    let e : None ≡ lookup (test c.as_slice.result.now) c.self.inside.numbers.entries = c.in-None.ensures.value in
    e ∙ at_lem c.as_slice.result.now c.self.inside.numbers.entries ∙ rw (c.as_slice.ensures, c.self.view_is)
