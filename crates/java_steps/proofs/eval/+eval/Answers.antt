use Rattle.std.proofs.Common.{refl}
use Rattle.qbs_base.specs.declared.scalar.Value.TheVariants.{One}
use Rattle.java_ast.specs.Reading.{expression}
use Rattle.java_mean.specs.Expression.{value_of}
use Rattle.java_steps.specs.Gives.{GivesBy}
use Rattle.java_steps.specs.Running.{world}
use Rattle.java_steps.proofs.Occurring.{query_asked}
use Rattle.java_steps.proofs.Operands.{scalar_gives, held_gives, literal_given, field_given, binary_given, not_given, equals_given, size_given, contains_given}
use Rattle.java_steps.proofs.eval.+eval.Goals as goal
use Rattle.java_steps.proofs.eval.+eval.Goals.{eval-in-Lit, eval-in-Field, eval-in-Binary+in_ok-x-in-Binary+in-Text-1, eval-in-Binary+in_ok-x-in-Binary+in-Long-1, eval-in-Not, eval-in-Equals+in_ok-x-in-Equals+in-Text-1, eval-in-Equals+in_ok-x-in-Equals+in-Long-1, eval-in-Size, eval-in-Contains}

pub scalar-returns-in_ok-x-in-Binary : goal.scalar-returns-in_ok-x-in-Binary
scalar-returns-in_ok-x-in-Binary t c =
    scalar_gives c.operated.result (value_of (expression c.args.e.now) (world c.args.source.now) c.args.store.now)
    (binary_given c.args.e.now c.in-Binary.op c.in-Binary.a c.in-Binary.b c.deref-in-Binary.result.now c.deref-in-Binary-2.result.now c.in_ok-x-in-Binary.x (world c.args.source.now) c.args.store.now c.operated.result
    c.in-Binary.is c.deref-in-Binary.ensures c.deref-in-Binary-2.ensures c.in_ok-x-in-Binary.ensures c.operated.ensures)

pub eval-returns : goal.eval-returns
eval-returns t c =
    let g : GivesBy One c.match-e.x (value_of (expression c.args.e.now) (world c.args.source.now) c.args.store.now) =
    elim c.match-e.branch [
      | eval-in-Lit w ↦ rw w.x-is (literal_given c.args.e.now w.in-Lit.x (world c.args.source.now) c.args.store.now w.literal-x.result w.in-Lit.is w.literal-x.ensures)
      | eval-in-Field w ↦ rw w.x-is (field_given c.args.e.now w.in-Field.row w.deref.result.now w.in-Field.name (world c.args.source.now) c.args.store.now w.field-x.result w.in-Field.is w.deref.ensures w.field-x.ensures)
      | eval-in-Binary+in_ok-x-in-Binary+in-Text-1 w ↦ rw w.x-is (binary_given c.args.e.now w.in-Binary.op w.in-Binary.a w.in-Binary.b w.deref-in-Binary.result.now w.deref-in-Binary-2.result.now w.in_ok-x-in-Binary.x (world c.args.source.now) c.args.store.now w.operated-x.result w.in-Binary.is w.deref-in-Binary.ensures w.deref-in-Binary-2.ensures w.in_ok-x-in-Binary.ensures w.operated-x.ensures)
      | eval-in-Binary+in_ok-x-in-Binary+in-Long-1 w ↦ rw w.x-is (binary_given c.args.e.now w.in-Binary.op w.in-Binary.a w.in-Binary.b w.deref-in-Binary.result.now w.deref-in-Binary-2.result.now w.in_ok-x-in-Binary.x (world c.args.source.now) c.args.store.now w.operated-x.result w.in-Binary.is w.deref-in-Binary.ensures w.deref-in-Binary-2.ensures w.in_ok-x-in-Binary.ensures w.operated-x.ensures)
      | eval-in-Not w ↦ rw w.x-is (not_given c.args.e.now w.in-Not.a w.deref-in-Not.result.now (world c.args.source.now) c.args.store.now w.opposite-x.result w.in-Not.is w.deref-in-Not.ensures w.opposite-x.ensures)
      | eval-in-Equals+in_ok-x-in-Equals+in-Text-1 w ↦ rw w.x-is (equals_given c.args.e.now w.in-Equals.a w.in-Equals.b w.deref-in-Equals.result.now w.deref-in-Equals-2.result.now w.in_ok-x-in-Equals.x (world c.args.source.now) c.args.store.now w.gives_text-x.result w.in-Equals.is w.deref-in-Equals.ensures w.deref-in-Equals-2.ensures w.in_ok-x-in-Equals.ensures w.gives_text-x.ensures)
      | eval-in-Equals+in_ok-x-in-Equals+in-Long-1 w ↦ rw w.x-is (equals_given c.args.e.now w.in-Equals.a w.in-Equals.b w.deref-in-Equals.result.now w.deref-in-Equals-2.result.now w.in_ok-x-in-Equals.x (world c.args.source.now) c.args.store.now w.gives_text-x.result w.in-Equals.is w.deref-in-Equals.ensures w.deref-in-Equals-2.ensures w.in_ok-x-in-Equals.ensures w.gives_text-x.ensures)
      | eval-in-Size w ↦ rw w.x-is (size_given c.args.e.now w.in-Size.x (world c.args.source.now) c.args.store.now w.size-x.result w.in-Size.is w.size-x.ensures)
      | eval-in-Contains w ↦ rw w.x-is (contains_given c.args.e.now w.in-Contains.x w.in-Contains.a w.deref-in-Contains.result.now (world c.args.source.now) c.args.store.now w.contained-x.result w.in-Contains.is w.deref-in-Contains.ensures w.contained-x.ensures)
    ]
    in
    held_gives c.match-e.x c.one.result (value_of (expression c.args.e.now) (world c.args.source.now) c.args.store.now) c.one.ensures g

pub eval-returns-in-Query : goal.eval-returns-in-Query
eval-returns-in-Query t c =
    query_asked c.args.e.now c.in-Query.field-0 c.in-Query.text c.in-Query.args c.deref-in-Query.result.now (world c.args.source.now) c.args.store.now c.args.e.now.span c.asked.result c.in-Query.is refl c.deref-in-Query.ensures.value c.asked.ensures
