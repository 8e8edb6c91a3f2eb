use Rattle.std.proofs.Common.{◌+◌, ap₂, ◌∙◌}
use Rattle.vc_gen.proofs.outline.stage_of.Goals as goal

pub returns-clause-of : goal.returns-clause-of
returns-clause-of c = record { passes = c.in_ok-passes.ensures; fails = c.in_ok-fails.ensures; each = c.in_ok-each.ensures ∙ ap₂ (λ a b. a + (b + 2)) c.len.ensures c.len-2.ensures }
