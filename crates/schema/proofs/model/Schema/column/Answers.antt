use Rattle.std.proofs.Common.{◌≡◌, Some, sym, ◌∙◌}
use Rattle.schema.specs.Numbers.{column_number_at}
use Rattle.schema.proofs.Placed.{number-within, number-outside}
use Rattle.schema.proofs.model.Schema.column.Goals as goal

pub returns-in_err-place : goal.returns-in_err-place
returns-in_err-place c =
    let h = c.in_ok-table.ensures.lookup in
    let found = number-within c.as_slice.result.now c.args.table c.args.name.now c.in_ok-table.table.now c.as_slice-2.result.now h.3.0 h.1 c.as_slice-2.ensures in
    let k : c.from_residual-in_err-place.result ≡ column_number_at c.as_slice.result.now c.args.table c.args.name.now = c.from_residual-in_err-place.ensures ∙ c.in_err-place.ensures.value ∙ sym found in
    rw (c.as_slice.ensures ∙ c.self.view_is) at k

pub returns : goal.returns
returns c =
    let h = c.in_ok-table.ensures.lookup in
    let found = number-within c.as_slice.result.now c.args.table c.args.name.now c.in_ok-table.table.now c.as_slice-2.result.now h.3.0 h.1 c.as_slice-2.ensures in
    let k : Some c.in_ok-place.place ≡ column_number_at c.as_slice.result.now c.args.table c.args.name.now = c.in_ok-place.ensures.value ∙ sym found in
    rw (c.as_slice.ensures ∙ c.self.view_is) at k

pub returns-in_err-table : goal.returns-in_err-table
returns-in_err-table c =
    let outside = number-outside c.as_slice.result.now c.args.table c.args.name.now c.in_err-table.ensures.lookup.3 in
    let k : c.from_residual.result ≡ column_number_at c.as_slice.result.now c.args.table c.args.name.now = c.from_residual.ensures ∙ outside in
    rw (c.as_slice.ensures ∙ c.self.view_is) at k
