use Rattle.std.proofs.Common.{◌≡◌, ◌∙◌, sym, ap, slice_get}
use Rattle.java_ast.specs.Reading.{method as plain_method, program}
use Rattle.java_mean.specs.Outcome.{outcome, world_with}
use Rattle.java_types.specs.Texts.{read_by}
use Rattle.java_interp.specs.Reached.{reached, outcome_in}
use Rattle.java_interp.proofs.Called.{never_at, exact_at}
use Rattle.java_interp.proofs.run.run_method.Goals as goal

pub unreachable-requires : goal.unreachable-requires
unreachable-requires c =
    let e : reached c.in_ok-outcome.field-0 ≡ outcome (world_with c.args.schema.now (read_by c.args.schema.now) c.args.db.now) (plain_method c.method_at-m.result.now) c.args.args.now c.args.turns = c.in_ok-outcome.ensures in
    never_at c.args.schema.now c.args.typed.now c.args.method (plain_method c.method_at-m.result.now) c.args.db.now c.args.args.now c.args.turns c.requires.typed c.requires.tables c.method_at-m.ensures c.requires.arguments (ap reached (sym c.in-Stuck.is) ∙ e)

pub returns : goal.returns
returns c =
    let e : reached c.in_ok-outcome.field-0 ≡ outcome (world_with c.args.schema.now (read_by c.args.schema.now) c.args.db.now) (plain_method c.method_at-m.result.now) c.args.args.now c.args.turns = c.in_ok-outcome.ensures in
    record {
      exact = exact_at (slice_get (program c.args.typed.now.program).methods c.args.method) (plain_method c.method_at-m.result.now) (world_with c.args.schema.now (read_by c.args.schema.now) c.args.db.now) c.args.args.now c.args.turns (outcome_in c.in-Comes.outcome) c.method_at-m.ensures (ap reached (sym c.in-Comes.is) ∙ e);
    }
