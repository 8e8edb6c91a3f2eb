use Rattle.std.proofs.Common.{sym, ap, ◌∙◌, ℕ, List}
use Rattle.qbs_base.specs.declared.scalar.Row.{Row}
use Rattle.kernel_lang.specs.Running.{with_row}
use Rattle.kernel_interp.specs.Claiming.{any_visit}
use Rattle.kernel_interp.specs.Marking.{bound}
use Rattle.kernel_interp.specs.Members.{forms_lent}
use Rattle.kernel_interp.specs.Reading.{rows_in, world_of, plain_of}
use Rattle.kernel_interp.proofs.Flagged.{bound_last}
use Rattle.kernel_interp.proofs.visit.+visits_at.Goals as goal

pub returns-in-Some : goal.returns-in-Some
returns-in-Some t c =
    c.visits_at.ensures
    ∙ ap (any_visit (world_of c.args.setting) (plain_of c.args.setting).atoms (forms_lent c.args.fs.now) c.args.inner.now)
    (ap (λ (r : Row). bound c.in-Some.outer.now (rows_in c.args.place.now) (with_row (rows_in c.args.own.now) c.in-Some.j.now r)) c.row_at-row.ensures
    ∙ sym (bound_last c.in-Some.outer.now c.in-Some.j.now (rows_in c.args.place.now) (rows_in c.args.own.now))
    ∙ ap (λ (js : List ℕ). bound js (rows_in c.args.place.now) (rows_in c.args.own.now)) (sym c.in-Some.ensures.cases.0))
