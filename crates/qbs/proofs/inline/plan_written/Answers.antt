use Rattle.std.proofs.Common.{ℕ, List, ap}
use Rattle.qbs_base.specs.declared.status.Status.{Status}
use Rattle.java_ast.specs.Reading.{program as plain_program}
use Rattle.deliveries.specs.declared.plan.Plan.{Plan}
use Rattle.qbs.proofs.Readable.{is_read_again}
use Rattle.qbs.proofs.Inlining.{whole_fits, inlines}
use Rattle.qbs.proofs.inline.plan_written.Goals as goal

abbrev plan_with : List ℕ → List ℕ → Plan
plan_with out rep = record { status = Status.Ok; out = out; rep = rep }

pub text_for-requires-clause-grammar : goal.text_for-requires-clause-grammar
text_for-requires-clause-grammar c =
    (whole_fits c.args.schema.now c.args.source.now (plain_program c.args.read.now) (plain_program c.args.whole.now) c.requires.read c.requires.whole c.requires.typed).0

pub text_for-requires-clause-written : goal.text_for-requires-clause-written
text_for-requires-clause-written c =
    (whole_fits c.args.schema.now c.args.source.now (plain_program c.args.read.now) (plain_program c.args.whole.now) c.requires.read c.requires.whole c.requires.typed).1

pub returns : goal.returns
returns c =
    inlines c.args.schema.now c.args.source.now (plain_program c.args.read.now) (plain_program c.args.whole.now) c.in_ok-text.text c.in_ok-out.out _
    c.requires.read c.requires.whole c.requires.typed c.in_ok-text.ensures c.in_ok-out.ensures
    (is_read_again c.args.schema.now c.in_ok-out.out c.as_slice.result.now (plain_program c.args.whole.now) c.in_ok-out.ensures.back c.as_slice.ensures c.in_ok-read_again.ensures) (ap (λ (lines : List ℕ). plan_with c.in_ok-out.out lines) c.new.ensures)
