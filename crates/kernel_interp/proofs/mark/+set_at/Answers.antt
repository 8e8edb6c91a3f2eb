use Rattle.std.proofs.Common.{sym, ap, ◌∙◌, ℕ, List}
use Rattle.qbs_base.specs.declared.scalar.Row.{Row}
use Rattle.kernel_lang.specs.Plain.{accumulator}
use Rattle.kernel_lang.specs.Running.{inside, with_row}
use Rattle.kernel_interp.specs.Marking.{any_mark, bound}
use Rattle.kernel_interp.specs.Reading.{rows_in, world_of, plain_of}
use Rattle.kernel_interp.proofs.Flagged.{bound_last}
use Rattle.kernel_interp.proofs.mark.+set_at.Goals as goal

pub returns-in-Some : goal.returns-in-Some
returns-in-Some t c =
    c.set_at.ensures
    ∙ ap (any_mark (world_of c.args.setting) (plain_of c.args.setting).atoms (inside (accumulator c.args.acc.now)))
    (ap (λ (r : Row). bound c.in-Some.outer.now (rows_in c.args.place.now) (with_row (rows_in c.args.own.now) c.in-Some.j.now r)) c.row_at-row.ensures
    ∙ sym (bound_last c.in-Some.outer.now c.in-Some.j.now (rows_in c.args.place.now) (rows_in c.args.own.now))
    ∙ ap (λ (js : List ℕ). bound js (rows_in c.args.place.now) (rows_in c.args.own.now)) (sym c.in-Some.ensures.cases.0))
