use Rattle.std.proofs.Common.{sym, ◌∙◌}
use Rattle.std.proofs.lemmas.Result.{err_from_is_err_and}
use Rattle.view_slices.specs.Reading.{all_sliced}
use Rattle.view_slices.specs.Slices.{file_of}
use Rattle.qbs.proofs.Viewed.{view_stops}
use Rattle.qbs.proofs.seen.view_once.Goals as goal

pub returns-in_err-typed : goal.returns-in_err-typed
returns-in_err-typed c =
    let p = err_from_is_err_and c.from_residual-in_err-typed.result c.from_residual-in_err-typed.ensures.1 in
    rw (p.1, p.2)
    (view_stops _ _ c.args.map.now c.args.schema.now c.tables-tables.result.now c.args.source.now (file_of c.args.file.now) (all_sliced c.as_slice-methods.result.now) c.in_ok-text.text c.as_slice-2.result.now c.in_err-typed.field-0.0
    c.tables-tables.ensures.value c.requires (sym (sym c.if-not-branch.false ∙ c.in_ok-is_view.ensures)) c.in_ok-text.ensures c.as_slice-2.ensures c.in_err-typed.ensures.typed)
