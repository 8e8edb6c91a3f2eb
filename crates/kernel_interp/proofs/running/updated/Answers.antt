use Rattle.std.proofs.Common.{◌≡◌, ap, ◌∙◌, refl, sym, Some, List, map}
use Rattle.qbs_base.specs.declared.scalar.Row.{Row}
use Rattle.tor_terms.specs.Truth.{Datum, Element}
use Rattle.tor_terms.specs.Value.{elem_at, inserted}
use Rattle.kernel_interp.specs.Reading.{rows_in}
use Rattle.kernel_interp.proofs.Lists.{inserted_row}
use Rattle.kernel_interp.proofs.running.updated.Goals as goal

pub returns-in_ok-with_row-in-PushNew : goal.returns-in_ok-with_row-in-PushNew
returns-in_ok-with_row-in-PushNew c =
    let e : inserted (map Element c.in-PushNew.rows) (Element (elem_at (rows_in c.args.place.now) c.in-PushNew.e)) ≡ map Element c.in_ok-with_row-in-PushNew.field-0 =
    ap (λ (r : Row). inserted (map Element c.in-PushNew.rows) (Element r)) (sym c.in_ok-row-in-PushNew.ensures)
    ∙ inserted_row c.in-PushNew.rows c.in_ok-row-in-PushNew.row
    ∙ ap (map Element) (sym c.in_ok-with_row-in-PushNew.ensures) in
    rw c.in-PushNew.is (ap (λ (v : List Datum). Some v) e, refl)
