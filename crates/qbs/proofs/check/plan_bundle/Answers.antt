use Rattle.std.specs.Prelude.{string_bytes}
use Rattle.java_ast.specs.Reading.{program as plain_program}
use Rattle.deriv_check.specs.Bundles.{entries_of}
use Rattle.qbs.proofs.Checked.{all_due, one_due}
use Rattle.qbs.proofs.check.plan_bundle.Goals.{in-All+in_ok-line-in-All, in-Refused+in_ok-line-in-Refused}
use Rattle.qbs.proofs.check.plan_bundle.Goals as goal

pub returns : goal.returns
returns c =
    elim c.match-branch-2.branch [
      | in-All+in_ok-line-in-All w ↦
          all_due _ c.in_ok-n.field-0 c.args.schema.now (entries_of c.args.bundle.now) (plain_program c.args.typed.now.program) w.in-All.n w.in-All.program w.told.result (string_bytes w.in_ok-line-in-All.line)
          w.result-is w.in-All.is c.in_ok-n.ensures.exact c.in_ok-n.ensures.typed c.in_ok-n.ensures.keeps w.told.ensures w.in_ok-line-in-All.ensures
      | in-Refused+in_ok-line-in-Refused w ↦
          one_due _ c.in_ok-n.field-0 c.args.schema.now (entries_of c.args.bundle.now) (plain_program c.args.typed.now.program) w.in-Refused.ordinal w.told-in-Refused.result (string_bytes w.in_ok-line-in-Refused.line)
          w.result-is w.in-Refused.is c.in_ok-n.ensures.exact w.told-in-Refused.ensures w.in_ok-line-in-Refused.ensures
    ]
