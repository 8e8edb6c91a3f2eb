use Rattle.std.proofs.Common.{◌∙◌}
use Rattle.view_slices.specs.Slices.{file_of}
use Rattle.qbs.specs.Seen.{view_by}
use Rattle.qbs.proofs.Seeing.{all_placed}
use Rattle.qbs.proofs.prove_by_view.placed_report.Goals as goal

pub returns : goal.returns
returns c =
    all_placed c.args.source.now c.args.map.now c.args.schema.now (view_by (file_of c.args.file.now) c.args.viewed.now) c.as_slice-cells.result.now c.args.verdicts.now c.args.dropped c.tried_report.result
    (rw (c.as_slice-methods.ensures.value, c.deref.ensures) at (c.as_slice-cells.ensures ∙ c.in_ok-class.ensures))
    (rw (c.as_slice-methods.ensures.value, c.deref.ensures) at c.tried_report.ensures)
