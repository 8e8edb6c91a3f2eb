use Rattle.std.proofs.Common.{◌∙◌, sym}
use Rattle.java_steps.proofs.placed.is_there.Goals as goal

pub returns-in-Some : goal.returns-in-Some
returns-in-Some g c h = record { key = c.in-Some.found.now; value = c.in-Some.field-0-1.now; at = sym c.in-Some.ensures.entry; is = sym c.eq.ensures ∙ h }
