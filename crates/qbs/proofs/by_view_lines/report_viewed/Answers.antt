use Rattle.std.proofs.Common.{◌∙◌, sym, subst}
use Rattle.view_slices.specs.Reading.{all_sliced}
use Rattle.view_slices.specs.Slices.{file_of}
use Rattle.qbs.specs.Fates.{AreInOrder}
use Rattle.qbs.specs.SeenAgain.{slices_in}
use Rattle.qbs.proofs.Told.{in_order, report_told}
use Rattle.qbs.proofs.by_view_lines.report_viewed.Goals as goal

pub report_of-requires-clause-order : goal.report_of-requires-clause-order
report_of-requires-clause-order c =
    subst (AreInOrder 0) (sym (c.as_slice-2.ensures ∙ c.in_ok-fates.ensures)) (in_order c.args.file.now.items.now 0 0 (slices_in (all_sliced c.args.methods.now)) c.args.spelled.now)

pub returns : goal.returns
returns c =
    report_told c.args.source.now c.args.cells.now (file_of c.args.file.now) (slices_in (all_sliced c.args.methods.now)) c.args.spelled.now c.args.verdicts.now c.args.dropped c.in_ok-fates.fates c.as_slice-2.result.now c.report_of.result
    c.as_slice-2.ensures c.in_ok-fates.ensures c.report_of.ensures
