use Rattle.std.proofs.Common.{ℕ, ap}
use Rattle.qbs_base.specs.declared.scalar.Row.{Row}
use Rattle.kernel_lang.specs.Plain.{accumulator}
use Rattle.kernel_lang.proofs.Sentences.{valid}
use Rattle.kernel_interp.specs.Reading.{rows_in, world_of, plain_of}
use Rattle.kernel_interp.proofs.Flagged.{flag_found}
use Rattle.kernel_interp.proofs.truth.flag_holds.Goals as goal

pub returns-in-Some : goal.returns-in-Some
returns-in-Some c =
    flag_found (world_of c.args.setting) (plain_of c.args.setting) c.args.k (accumulator c.in-Some.acc.now) c.args.loops.now (rows_in c.args.place.now) (λ j. c.args.setting.no_row.now) c.set_at.result
    c.in-Some.ensures c.requires (valid (plain_of c.args.setting) c.args.setting.frag.now.valid) (ap {B = ℕ → Row} (λ (r : Row) (j : ℕ). r) c.args.setting.no_cell) c.set_at.ensures
